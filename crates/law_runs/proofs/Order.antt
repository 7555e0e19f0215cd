-- A Step receives the least line of its wire.
use Rattle.std.proofs.Common.{◌≡◌, ℕ, suc, ◌+◌, ◌<◌, ◌≤◌, List, [], ◌∷◌, Bool, true, false, not, ◌||◌, ◌&&◌, nat_eq, Option, Some, None, ◌⊎◌, inl, inr, refl, ap, subst, arith}
use Rattle.std.specs.Prelude.{slice_get, slice_index, if◌then◌else◌}
use Rattle.std.specs.List.Sorted.{IsStrictlyIncreasing}
use Rattle.std.proofs.lemmas.Bool.Decides.{nat_tests}
use Rattle.evm_lines.specs.Laws.{line_set_increases}
use Rattle.evm_lines.specs.Lines.{has_line, least_line}
use Rattle.evm_exec.specs.declared.hart.Hart.{Hart}
use Rattle.evm_model.specs.Commands.{is_set}
use Rattle.evm_model.specs.Instructions.{stop}
use Rattle.evm_model.specs.Pipes.{Pipe}
use Rattle.evm_model.specs.Rows.{run, step_hart, step_current, step_wire, step_pipe, step_processor, step, row}
use Rattle.evm_model.specs.State.{State, Board, on_parts}
use Rattle.evm_model.specs.declared.event.Answer.{Answer}
use Rattle.evm_model.specs.declared.event.Answer.TheVariants.{Stopped, Received, Hit}
use Rattle.evm_model.specs.declared.event.Event.TheVariants.{Step}
use Rattle.evm_model.specs.declared.processor.Processor.{Processor}
use Rattle.law_rules.proofs.Replays.{accepted}
use Rattle.law_runs.specs.Order.{IsLeast, StepsReceiveLeast}

-- ---- the least of a set
first_or_rest : (a b : Bool) → (a || b) ≡ true → (a ≡ true) ⊎ (b ≡ true)
first_or_rest true b h = inl refl
first_or_rest false b h = inr h

is_first : (x m : ℕ) → nat_eq x m ≡ true → x ≤ m
is_first x m e = grind (arith, nat_tests)

itself : (x : ℕ) → nat_eq x x ≡ true
itself x = grind (arith, nat_tests)

next_is : (x : ℕ) (xs : List ℕ) (k : ℕ) → slice_index (x ∷ xs) (suc k + 1) ≡ slice_index xs (k + 1)
next_is x xs k = let at : suc k + 1 ≡ suc (k + 1) = omega arith in ap (slice_index (x ∷ xs)) at

least_first : (x : ℕ) (xs : List ℕ) → IsStrictlyIncreasing (x ∷ xs) → (m : ℕ) → has_line (x ∷ xs) m ≡ true → x ≤ m
least_first x [] up m e = elim (first_or_rest (nat_eq x m) false e) [
  | inl same ↦ is_first x m same
  | inr none ↦ cc
]
least_first x (y ∷ ys) up m e = elim (first_or_rest (nat_eq x m) (has_line (y ∷ ys) m) e) [
  | inl same ↦ is_first x m same
  | inr rest ↦
      let less : x < y = up 0 (omega arith) in
      let later : y ≤ m = least_first y ys (λ k h. subst (λ n. slice_index (y ∷ ys) k < n) (next_is x (y ∷ ys) k) (up (suc k) (omega (arith, h)))) m rest in
      omega (arith, less, later)
]

least_is : (set : List ℕ) (l : ℕ) → IsStrictlyIncreasing set → least_line set ≡ Some l → IsLeast l set
least_is [] l up e = cc
least_is (x ∷ xs) l up e =
    let same : x ≡ l = cc in
    rw (← same) (record { there = rw (itself x) refl; least = least_first x xs up })

-- ---- a step that answers so has received it
module _ (c l : ℕ) (b : Board) where
  hit_heard : (hit : Bool) (hart : Hart) (t : ℕ) → Received l ≡ (if hit then (on_parts (stop c) b, Hit) else run hart c t b).1 → ⊥
  hit_heard true hart t e = cc
  hit_heard false hart t e = cc

  hart_heard : (o : Option Hart) (p : Processor) (t : ℕ) → Received l ≡ (step_hart o p c t b).1 → ⊥
  hart_heard None p t e = cc
  hart_heard (Some hart) p t e = hit_heard (is_set b.breakpoints hart.pc && not p.skip) hart t e

  current_heard : (o : Option ℕ) (p : Processor) → Received l ≡ (step_current o p c b).1 → ⊥
  current_heard None p e = cc
  current_heard (Some t) p e = hart_heard (slice_get b.parts.harts t) p t e

  wire_heard : (o : Option ℕ) (p : Processor) → Received l ≡ (step_wire o p c b).1 → o ≡ Some l
  wire_heard None p e = absurd (current_heard p.current p e)
  wire_heard (Some m) p e = let same : m ≡ l = cc in ap Some same

  pipe_heard : (pipe : Pipe) (o : Option Pipe) (p : Processor) → o ≡ Some pipe → Received l ≡ (step_pipe o p c b).1 → least_line pipe.wire ≡ Some l
  pipe_heard pipe None p there e = cc
  pipe_heard pipe (Some q) p there e = let same : q ≡ pipe = cc in rw (← same) (wire_heard (least_line q.wire) p e)

  stopped_heard : (stopped : Bool) (pipe : Pipe) (p : Processor) → slice_get b.parts.pipes c ≡ Some pipe → Received l ≡ (if stopped then (b, Stopped) else step_pipe (slice_get b.parts.pipes c) p c b).1 → least_line pipe.wire ≡ Some l
  stopped_heard true pipe p there e = cc
  stopped_heard false pipe p there e = pipe_heard pipe (slice_get b.parts.pipes c) p there e

  processor_heard : (o : Option Processor) (pipe : Pipe) → slice_get b.parts.pipes c ≡ Some pipe → Received l ≡ (step_processor o c b).1 → least_line pipe.wire ≡ Some l
  processor_heard None pipe there e = cc
  processor_heard (Some p) pipe there e = stopped_heard p.stopped pipe p there e

  heard : (pipe : Pipe) → slice_get b.parts.pipes c ≡ Some pipe → Received l ≡ (step c b).1 → least_line pipe.wire ≡ Some l
  unfolding step
  heard pipe there e = processor_heard (slice_get b.parts.processors c) pipe there e

pub steps_receive_least : StepsReceiveLeast
unfolding row
steps_receive_least s new c l pipe good e there =
    let it = accepted s new (Step c) (Received l) e in
    let answers : Received l ≡ (step c s.board).1 = ap (λ (x : State × Answer). x.1) it.1 in
    least_is pipe.wire l (line_set_increases pipe.wire (good.good.pipes c pipe there).wire) (heard c l s.board pipe there answers)
