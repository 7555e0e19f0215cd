-- What a sink took of what a run has printed.
use Rattle.std.proofs.Common.{inl, inr, ◌≡◌, ℕ, ◌≤◌, List, [], ◌++◌, Option, Some, None, Ok, Err, true, refl, sym, ap, subst, ◌∙◌, append_assoc, append-nil, arith, length}
use Rattle.std.proofs.lemmas.Bool.Decides.{nat_tests}
use Rattle.std.specs.Prelude.{◌⊎◌}
use Rattle.evm_core.specs.Load.{load, load_refusal, load_unless}
use Rattle.evm_ram.specs.Images.{Contents}
use Rattle.evm_model.specs.Event.{Event}
use Rattle.evm_model.specs.Refusals.{is_full, refusal}
use Rattle.evm_model.specs.Replay.{apply, start, IsReplayOf}
use Rattle.evm_model.specs.State.{State}
use Rattle.evm_model.specs.declared.boot.Boot.{Boot}
use Rattle.evm_model.specs.declared.event.Answer.{Answer}
use Rattle.evm_model.specs.declared.event.Event.TheVariants.{Tick}
use Rattle.evm_model.specs.declared.refusal.Refusal.{Refusal}
use Rattle.evm_model.specs.declared.refusal.Refusal.TheVariants.{Full}
use Rattle.evm_devs.specs.Devices.{program_devices}
use Rattle.hunt_schedules.specs.Beginning.{Begins}
use Rattle.evm_streams.proofs.Calls.{took_append, took_none}
use Rattle.evm_streams.specs.declared.sink.Writing.{Writing}
use Rattle.evm_streams.specs.Writes.{Took}
use Rattle.run_schedule.proofs.Prints.{printed-more}
use Rattle.run_schedule.specs.Advances.{HasAdvanced, IsLeft, IsEventMade}
use Rattle.run_schedule.specs.Console.{HasPrinted, Printed, console_text, event_printed, nothing_printed, printed_by}
use Rattle.run_schedule.specs.Runs.{HasToldSome}
use Rattle.run_schedule.specs.declared.ending.RunEnd.{RunEnd}

-- what is printed behind what a sink took
abbrev behind : List ℕ → Printed → Printed
behind sunk kept = record kept { text = sunk ++ kept.text }

behind-event : (sunk : List ℕ) (event : Event) (s : State) (after : State × Answer) (kept : Printed) → event_printed event s after (behind sunk kept) ≡ behind sunk (event_printed event s after kept)
behind-event sunk event s after kept = simp append_assoc

module _ {W : Type 0} (takes : W → Writing → List ℕ → W → Type 0) where
  -- an event more
  pub telling-made : (start sink : W) (first old new : State) (event : Event) (before so : Printed) → IsEventMade event old new before so → IsReplayOf first new
      → HasToldSome takes start first old sink before → HasToldSome takes start first new sink so
  telling-made start sink first old new event before so made replayed telling =
      let more = printed-more first old new event made.answer (behind telling.sunk before) telling.printed made.applied replayed made.journaled in
      let P : Printed → Type 0 = λ p. HasPrinted first new p in
      let same : event_printed event old (new, made.answer) (behind telling.sunk before) ≡ behind telling.sunk so =
      behind-event telling.sunk event old (new, made.answer) before ∙ ap (behind telling.sunk) (sym made.printed) in
      record { sunk = telling.sunk; took = telling.took; printed = subst P same more }

  pub telling-left : (start sink : W) (first old new : State) (before so : Printed) → IsLeft old new before so
      → HasToldSome takes start first old sink before → HasToldSome takes start first new sink so
  telling-left start sink first old new before so left telling =
      let P : Printed → Type 0 = λ p. HasToldSome takes start first new sink p in
      let Q : State → Type 0 = λ s. HasToldSome takes start first s sink before in
      subst P (sym left.printed) (subst Q (sym left.machine) telling)

  advanced-either : (start sink : W) (first old new : State) (event : Event) (before so : Printed) → IsEventMade event old new before so ⊎ IsLeft old new before so → IsReplayOf first new
      → HasToldSome takes start first old sink before → HasToldSome takes start first new sink so
  advanced-either start sink first old new event before so h replayed telling =
      elim h [ inl made ↦ telling-made start sink first old new event before so made replayed telling | inr left ↦ telling-left start sink first old new before so left telling ]

  pub telling-on : (start sink : W) (first old new : State) (ended : Option RunEnd) (event : Event) (before so : Printed) → HasAdvanced ended event old new before so
      → (IsReplayOf first old → IsReplayOf first new) → HasToldSome takes start first old sink before → HasToldSome takes start first new sink so
  telling-on start sink first old new None event before so made replays telling =
      telling-made start sink first old new event before so made (replays telling.printed.replayed) telling
  telling-on start sink first old new (Some ending) event before so h replays telling =
      advanced-either start sink first old new event before so h (replays telling.printed.replayed) telling

  -- what was kept is told
  pub telling-told : (start sink later : W) (first s : State) (old new : Printed) → Took takes sink old.text later → new ≡ record old { text = [] }
      → HasToldSome takes start first s sink old → HasToldSome takes start first s later new
  telling-told start sink later first s old new took told telling =
      let sunk : List ℕ = telling.sunk ++ old.text in
      let P : Printed → Type 0 = λ p. HasPrinted first s p in
      let same : behind telling.sunk old ≡ behind sunk new =
      ap (λ (x : List ℕ). record old { text = x }) (sym (append-nil sunk)) ∙ ap (behind sunk) (sym told) in
      record { sunk = sunk; took = took_append takes start sink later telling.sunk old.text telling.took took; printed = subst P same telling.printed }

  -- all is told
  pub all-told : (start sink : W) (first s : State) (kept : Printed) → kept.text ≡ [] → HasToldSome takes start first s sink kept → Took takes start (console_text first s) sink
  all-told start sink first s kept none telling =
      let P : List ℕ → Type 0 = λ x. Took takes start x sink in
      let text : (printed_by s.journal first nothing_printed).text ≡ telling.sunk ++ kept.text = ap (λ (p : Printed). p.text) telling.printed.printed in
      let same : telling.sunk ≡ (printed_by s.journal first nothing_printed).text =
      sym (text ∙ (ap (λ (x : List ℕ). telling.sunk ++ x) none ∙ append-nil telling.sunk)) in
      subst P same telling.took

  none-printed : (first : State) → first.journal ≡ [] → printed_by first.journal first nothing_printed ≡ nothing_printed
  unfolding printed_by
  none-printed first empty = ap (λ events. printed_by events first nothing_printed) empty

  -- nothing is printed at the boot
  pub telling-none : (start : W) (first : State) → first.journal ≡ [] → IsReplayOf first first → HasToldSome takes start first first start nothing_printed
  telling-none start first empty fresh = record {
    sunk = [];
    took = took_none takes start;
    printed = record { replayed = fresh; printed = none-printed first empty };
  }

-- a machine that begins has an empty journal
fresh-unless : (why : Option Refusal) (image : Contents) (s t : State) → load_unless why image s ≡ Ok t → t.journal ≡ s.journal
fresh-unless None image s t e = cc
fresh-unless (Some refusal) image s t e = cc

pub begins-fresh : (image : Contents) (boot : Boot) (first : State) → Begins image boot first → first.journal ≡ []
unfolding load
begins-fresh image boot first begins = fresh-unless (load_refusal image (start program_devices boot)) image (start program_devices boot) first begins

-- a full journal takes no tick
pub full-refuses : (s : State) → s.boot.capacity ≤ length s.journal → (event : Event) × (apply s event ≡ Err Full)
unfolding apply
full-refuses s full =
    let is : is_full s ≡ true = grind (arith, nat_tests) in
    (Tick, rw is refl)
