-- Steps for which the journal has room are not refused.
use Rattle.std.proofs.Common.{◌≡◌, ℕ, zero, suc, ◌+◌, ◌<◌, ◌≤◌, length, true, false, List, [], ◌∷◌, ◌++◌, Option, Some, None, Result, Ok, Err, refl, sym, ap, ◌∙◌, arith}
use Rattle.std.specs.Prelude.{slice_get, is_none}
use Rattle.std.proofs.lemmas.Bool.{lt-leb}
use Rattle.std.proofs.lemmas.List.{length-append}
use Rattle.evm_model.proofs.Lists.{slice_get-within}
use Rattle.evm_model.specs.Good.{GoodState}
use Rattle.evm_model.specs.Refusals.{is_full, no_such_cpu, board_refusal}
use Rattle.evm_model.specs.Replay.{apply, accept}
use Rattle.evm_model.specs.Rows.{row}
use Rattle.evm_model.specs.State.{State, Board}
use Rattle.evm_model.specs.Event.{Event}
use Rattle.evm_model.specs.declared.event.Event.TheVariants.{Step}
use Rattle.evm_model.specs.declared.processor.Processor.{Processor}
use Rattle.evm_diagnostics.proofs.law_rules.States.{good_accepted}
use Rattle.evm_diagnostics.specs.evm_core.Steps.{steps}

there : (xs : List Processor) (c : ℕ) → c < length xs → is_none (slice_get xs c) ≡ false
there xs c h = let x = slice_get-within xs c h in rw x.1 refl

unrefused : (c : ℕ) (b : Board) → no_such_cpu c b ≡ false → board_refusal (Step c) b ≡ None
unfolding board_refusal
unrefused c b e = rw e refl

accepts : (c : ℕ) (s : State) → is_full s ≡ false → board_refusal (Step c) s.board ≡ None → apply s (Step c) ≡ Ok (accept (Step c) (row (Step c) s.board) s)
unfolding apply
accepts c s f e = rw (f, e) refl

-- the state after one Step
next : ℕ → State → State
next c s = (accept (Step c) (row (Step c) s.board) s).0

next_room : (c : ℕ) (s : State) → length (next c s).journal ≡ length s.journal + 1
unfolding next
next_room c s = length-append s.journal (Step c ∷ [])

next_boot : (c : ℕ) (s : State) → (next c s).boot ≡ s.boot
unfolding next
next_boot c s = refl

next_good : (c : ℕ) (s : State) → is_full s ≡ false → board_refusal (Step c) s.board ≡ None → GoodState s → GoodState (next c s)
unfolding next
next_good c s f e g = good_accepted s (Step c) (row (Step c) s.board) refl f e g

steps_next : (n c : ℕ) (s : State) → is_full s ≡ false → board_refusal (Step c) s.board ≡ None → steps c (suc n) s ≡ steps c n (next c s)
unfolding steps next
steps_next n c s f e = rw (accepts c s f e) refl

steps_none : (c : ℕ) (s : State) → (steps c 0 s).1 ≡ None
unfolding steps
steps_none c s = refl

pub fits : (n c : ℕ) (s : State) → GoodState s → c < length s.board.parts.processors → length s.journal + n ≤ s.boot.capacity → (steps c n s).1 ≡ None
fits zero c s g h room = steps_none c s
fits (suc n) c s g h room =
    let full : is_full s ≡ false = lt-leb _ _ (omega (arith, room)) in
    let free : board_refusal (Step c) s.board ≡ None = unrefused c s.board (there s.board.parts.processors c h) in
    let good : GoodState (next c s) = next_good c s full free g in
    let longer = next_room c s in
    let same = ap (λ b. b.capacity) (next_boot c s) in
    let cpus = ap (λ b. b.cpus) (next_boot c s) in
    ap (λ x. x.1) (steps_next n c s full free) ∙ fits n c (next c s) good (omega (arith, good.processors, g.processors, cpus)) (omega (arith, longer, same))
