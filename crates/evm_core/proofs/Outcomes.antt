-- What holds of all states and events.
use Rattle.std.proofs.Common.{◌≡◌, ℕ, zero, suc, ◌<◌, ◌≤◌, ◌⊎◌, inl, inr, List, [], ◌∷◌, length, Bool, true, false, Option, Some, None, Err, refl, sym, ap, ◌∙◌, arith}
use Rattle.std.specs.Prelude.{slice_get, is_none, if◌then◌else◌}
use Rattle.std.proofs.lemmas.Bool.Decides.{nat_tests}
use Rattle.evm_model.specs.Profiles.{line_count}
use Rattle.evm_model.specs.Event.{Event}
use Rattle.evm_model.specs.Refusals.{is_full, no_such_cpu, no_such_line, board_refusal, refusal}
use Rattle.evm_model.specs.Replay.{apply, apply_unless, left_by, replay}
use Rattle.evm_model.specs.State.{State}
use Rattle.evm_model.specs.declared.boot.Boot.{Boot}
use Rattle.evm_model.specs.declared.event.Event.TheVariants.{Step, Bell, Tick}
use Rattle.evm_model.specs.declared.processor.Processor.{Processor}
use Rattle.evm_model.specs.declared.refusal.Refusal.{Refusal}
use Rattle.evm_model.specs.declared.refusal.Refusal.TheVariants.{Full, NoSuchCpu, NoSuchLine}
use Rattle.evm_board.proofs.law_rules.States.{GoodState-replay}
use Rattle.evm_core.specs.Laws.{IsFull, IsAbsent, StepRefusals, BellRefusals, TickRefusals, KeepsBoot, KeepsProcessors, BootedProcessors}

-- ---- refusals
full : (s : State) → is_full s ≡ true → s.boot.capacity ≤ length s.journal
full s e = grind (arith, nat_tests)

past_end : (ps : List Processor) (c : ℕ) → is_none (slice_get ps c) ≡ true → length ps ≤ c
past_end [] c h = omega arith
past_end (p ∷ ps) zero h = cc
past_end (p ∷ ps) (suc c) h = omega (arith, past_end ps c h)

-- why an event is refused
reason : (o : Option Refusal) (event : Event) (s : State) (why : Refusal) → apply_unless o event s ≡ Err why → o ≡ Some why
reason (Some refusal) event s why e = cc
reason None event s why e = cc

is_refused : (event : Event) (s : State) (why : Refusal) → apply s event ≡ Err why → refusal event s ≡ Some why
unfolding apply
is_refused event s why e = reason (refusal event s) event s why e

one_reason : (is absent : Bool) (s : State) (c : ℕ) (why : Refusal) → is_full s ≡ is → no_such_cpu c s.board ≡ absent
    → (if is then Some Full else (if absent then Some NoSuchCpu else None)) ≡ Some why → IsFull s why ⊎ IsAbsent c s why
one_reason true absent s c why f a e = inl (cc, full s f)
one_reason false true s c why f a e = inr (cc, past_end s.board.parts.processors c a)
one_reason false false s c why f a e = cc

pub step_refusals : StepRefusals
unfolding board_refusal
step_refusals s c why e = one_reason (is_full s) (no_such_cpu c s.board) s c why refl refl (is_refused (Step c) s why e)

bell_reason : (is absent none : Bool) (s : State) (c line : ℕ) (why : Refusal) → is_full s ≡ is → no_such_cpu c s.board ≡ absent → no_such_line line s.board ≡ none
    → c < length s.board.parts.processors → line < line_count s.board.parts.profile
    → (if is then Some Full else (if absent then Some NoSuchCpu else (if none then Some NoSuchLine else None))) ≡ Some why → IsFull s why
bell_reason true absent none s c line why f a n there low e = (cc, full s f)
bell_reason false true none s c line why f a n there low e = absurd (omega (arith, past_end s.board.parts.processors c a))
bell_reason false false true s c line why f a n there low e = absurd (grind (arith, nat_tests))
bell_reason false false false s c line why f a n there low e = cc

pub bell_refusals : BellRefusals
unfolding board_refusal
bell_refusals s c line why e there low = bell_reason (is_full s) (no_such_cpu c s.board) (no_such_line line s.board) s c line why refl refl refl there low (is_refused (Bell c line) s why e)

tick_reason : (is : Bool) (s : State) (why : Refusal) → is_full s ≡ is → (if is then Some Full else None) ≡ Some why → IsFull s why
tick_reason true s why f e = (cc, full s f)
tick_reason false s why f e = cc

pub tick_refusals : TickRefusals
unfolding board_refusal
tick_refusals s why e = tick_reason (is_full s) s why refl (is_refused Tick s why e)

-- ---- replays
unless-boot : (o : Option Refusal) (event : Event) (s : State) → (left_by (apply_unless o event s) s).boot ≡ s.boot
unless-boot (Some refusal) event s = refl
unless-boot None event s = refl

pub same_boot : KeepsBoot
unfolding replay apply
same_boot s [] = refl
same_boot s (event ∷ events) = same_boot (left_by (apply s event) s) events ∙ unless-boot (refusal event s) event s

pub booted_processors : BootedProcessors
booted_processors s g = g.processors

pub same_processors : KeepsProcessors
same_processors s events g = (GoodState-replay s events g).processors ∙ ap (λ (boot : Boot). boot.cpus) (same_boot s events) ∙ sym g.processors
