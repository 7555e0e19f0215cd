-- How far an event reaches.
use Rattle.std.proofs.Common.{◌≡◌, ◌≢◌, inl, inr, ℕ, ◌+◌, ◌<◌, ◌≤◌, List, [], ◌∷◌, length, Bool, true, false, Option, Some, None, Ok, Err, refl, sym, ap, subst, ◌∙◌, arith}
use Rattle.std.specs.Prelude.{option_map, slice_get, if◌then◌else◌}
use Rattle.std.proofs.lemmas.Bool.{cases_eq}
use Rattle.evm_lines.specs.Lines.{has_line, with_line}
use Rattle.evm_lines.specs.Laws.{has_line-with_other, has_line-with_same}
use Rattle.evm_lines.specs.declared.TheConstants.{LINES}
use Rattle.evm_model.proofs.Lists.{change-here, change-elsewhere, slice_get-below}
use Rattle.evm_model.specs.Devices.{line_if, raise_line}
use Rattle.evm_model.specs.Event.{Event}
use Rattle.evm_model.specs.Good.{GoodState}
use Rattle.evm_model.specs.Pipes.{Pipe, raise}
use Rattle.evm_model.specs.Replay.{accept, apply, apply_unless, left_by, replay}
use Rattle.evm_model.specs.Refusals.{refusal}
use Rattle.evm_model.specs.Rows.{row, step}
use Rattle.evm_model.specs.State.{Board, Parts, State}
use Rattle.evm_model.specs.declared.counts.Counts.{Counts}
use Rattle.evm_model.specs.declared.event.Answer.{Answer}
use Rattle.evm_model.specs.declared.event.Event.TheVariants.{Step, Tick, Raise, Bell, Stop, Go, StepI, SetReg, SetPc, Poke, Break, Unbreak}
use Rattle.law_runs.proofs.Commands.{events_change_only, raises_one_line}
use Rattle.law_runs.proofs.Kept.{sizes_stay}
use Rattle.evm_model.specs.declared.limits.TheConstants.{DEVICE_LIMIT, DEVICE_LINE}
use Rattle.evm_model.specs.declared.refusal.Refusal.{Refusal}
use Rattle.law_rules.proofs.Walk.{ArePipes}
use Rattle.law_runs.specs.Changes.{LineRaised, MemoryChanges, StepChanges}
use Rattle.law_runs.specs.Touching.{stands as memory_stands, written, touches}
use Rattle.run_walk.proofs.Own.{own_stands}
use Rattle.run_walk.specs.Observers.{AreWaitingFor}
use Rattle.run_walk.specs.Items.{outline}
use Rattle.run_marks.specs.Tallies.{reach_of, waits_in, IsWithinReach, LeavesCounts, OnlyRaises, StandsUnlessOnWire, StandsUnlessRaised, StepLeaves}

-- ---- a line that is raised
elsewhere : (l k : ℕ) (p : Pipe) → (k ≡ l → ⊥) → slice_get (raise l p).counts k ≡ slice_get p.counts k
elsewhere l k p other = (raises_one_line l p).counts.others k other

-- what is not on the wire afterwards was not before, and is another
off_wire : (l k : ℕ) (p : Pipe) → l < LINES → k < LINES → has_line (raise l p).wire k ≡ false → (k ≢ l) × (has_line p.wire k ≡ false)
unfolding raise
off_wire l k p h g none = elim (cases_eq k l) [
  | inl same ↦ let no : false ≡ true = sym none ∙ ap (has_line (with_line p.wire l)) same ∙ has_line-with_same p.wire l h in absurd cc
  | inr other ↦ (other, sym (has_line-with_other p.wire l k other g) ∙ none)
]

-- ---- a step
-- the pipe of processor d, where a device may raise a line
data Heard (p : Pipe) : Option Pipe → Type 0 where
  nothing : Heard p (Some p)
  a_line : (l : ℕ) → l < LINES → Heard p (Some (raise l p))

heard : (line : Option ℕ) (k : Parts) (d : ℕ) (p : Pipe) → ((l : ℕ) → line ≡ Some l → l < LINES) → slice_get k.pipes d ≡ Some p → Heard p (slice_get (raise_line line k).pipes d)
heard None k d p small at = subst (λ o. Heard p o) (sym at) nothing
heard (Some l) k d p small at = elim (cases_eq d 0) [
  | inl same ↦
      let e : slice_get (raise_line (Some l) k).pipes d ≡ Some (raise l p) =
      ap (slice_get (raise_line (Some l) k).pipes) same ∙ change-here (raise l) k.pipes 0 ∙ ap (option_map (raise l)) (ap (slice_get k.pipes) (sym same) ∙ at) in
      subst (λ o. Heard p o) (sym e) (a_line l (small l refl))
  | inr other ↦ subst (λ o. Heard p o) (sym (change-elsewhere (raise l) k.pipes 0 d other ∙ at)) nothing
]

-- line k, which is not on the wire afterwards
as_heard : (k : ℕ) (p q : Pipe) (o : Option Pipe) → k < LINES → Heard p o → Some q ≡ o → has_line q.wire k ≡ false → slice_get q.counts k ≡ slice_get p.counts k
as_heard k p q o g nothing e none = let same : q ≡ p = cc in ap (λ (x : Pipe). slice_get x.counts k) same
as_heard k p q o g (a_line l h) e none =
    let same : q ≡ raise l p = cc in
    let off = off_wire l k p h g (subst (λ (x : Pipe). has_line x.wire k ≡ false) same none) in
    ap (λ (x : Pipe). slice_get x.counts k) same ∙ elsewhere l k p off.0

and_told : (k : ℕ) (p q : Pipe) (o : Option Pipe) → k < LINES → Heard p o → Some q ≡ option_map (raise 1) o → has_line q.wire k ≡ false → slice_get q.counts k ≡ slice_get p.counts k
and_told k p q o g nothing e none = as_heard k p q (Some (raise 1 p)) g (a_line 1 (omega arith)) e none
and_told k p q o g (a_line l h) e none =
    let same : q ≡ raise 1 (raise l p) = cc in
    let off = off_wire 1 k (raise l p) (omega arith) g (subst (λ (x : Pipe). has_line x.wire k ≡ false) same none) in
    ap (λ (x : Pipe). slice_get x.counts k) same ∙ elsewhere 1 k (raise l p) off.0 ∙ as_heard k p (raise l p) (Some (raise l p)) g (a_line l h) refl off.1

-- a device's line is one of eight
line_small : (raise : Bool) (i l : ℕ) → i < DEVICE_LIMIT → Some l ≡ line_if raise i → l < LINES
line_small true i l h e = let same : l ≡ DEVICE_LINE + i = cc in omega (arith, same, h)
line_small false i l h e = absurd cc

small : (c : ℕ) (answer : Answer) (old new : Board) (line : Option ℕ) → MemoryChanges c answer old new line → length old.memory.devices ≤ DEVICE_LIMIT → (l : ℕ) → line ≡ Some l → l < LINES
small c answer old new _ (memory_stands e) few l is = absurd cc
small c answer old new _ (written e) few l is = absurd cc
small c answer old new _ (touches line t) few l is =
    let there = slice_get-below old.memory.devices t.device t.attached t.there in
    line_small t.after.touch.raise t.device l (omega (arith, there, few)) (sym is ∙ t.raises)

module _ (c : ℕ) (old new : Board) (s : StepChanges c old new) (few : length old.memory.devices ≤ DEVICE_LIMIT) where
  its : (d : ℕ) (p : Pipe) → slice_get old.parts.pipes d ≡ Some p → Heard p (slice_get (raise_line s.line old.parts).pipes d)
  its d p before = heard s.line old.parts d p (small c (step c old).1 old new s.line s.memory few) before

  wire_leaves : (d l : ℕ) → d ≢ c → l < LINES → StandsUnlessOnWire d l old.parts new.parts
  wire_leaves d l other g p q before after none = elim (s.pipes d other) [
    | inl e ↦ as_heard l p q (slice_get (raise_line s.line old.parts).pipes d) g (its d p before) (sym after ∙ e) none
    | inr e ↦ and_told l p q (slice_get (raise_line s.line old.parts).pipes d) g (its d p before) (sym after ∙ e) none
  ]

-- ---- what an accepted event does is its row
row_made : (o : Option Refusal) (event : Event) (answer : Answer) (old new : State) → apply_unless o event old ≡ Ok (new, answer) → new.board ≡ (row event old.board).0
row_made (Some why) event answer old new e = cc
row_made None event answer old new e =
    let same : accept event (row event old.board) old ≡ (new, answer) = cc in ap (λ (x : State × Answer). x.0.board) (sym same)

stepped : (c : ℕ) (answer : Answer) (old new : State) → apply old (Step c) ≡ Ok (new, answer) → new.board ≡ (step c old.board).0
unfolding apply row
stepped c answer old new e = row_made (refusal (Step c) old) (Step c) answer old new e

own_leaves : (c : ℕ) (waiting : List ℕ) (answer : Answer) (old new : State) → GoodState old → AreWaitingFor (Step c) waiting old.board.parts → apply old (Step c) ≡ Ok (new, answer) → (l : ℕ) → l < LINES → has_line waiting l ≡ false
    → StandsUnlessRaised c l old.board.parts new.board.parts
own_leaves c waiting answer old new good are e l h lacks p q there after same =
    let waited : waits_in l (Some p) ≡ true → true ≡ false = λ waits. sym (are l h (ap (waits_in l) there ∙ waits)) ∙ lacks in
    let now : slice_get (step c old.board).0.parts.pipes c ≡ Some q = ap (λ (x : Board). slice_get x.parts.pipes c) (sym (stepped c answer old new e)) ∙ after in
    own_stands c old.board p q l (record { each = good.good.pipes }) good.devices.few h there (not_so (waits_in l (Some p)) waited) now same
  where
    not_so : (b : Bool) → (b ≡ true → true ≡ false) → b ≡ false
    not_so true f = f refl
    not_so false f = refl

-- ---- a line that is raised by an event
raise_leaves : (c l : ℕ) (old new : Board) → LineRaised c l old new → OnlyRaises c l old.parts new.parts
raise_leaves c l old new r = record { rest = ap (λ (x : Board). x.parts) r.rest; here = r.pipes.here; others = r.pipes.others }

-- ---- every event
leaves : (event : Event) (waiting : List ℕ) (answer : Answer) (old new : State) → GoodState old → AreWaitingFor (outline event) waiting old.board.parts → apply old event ≡ Ok (new, answer) → LeavesCounts (reach_of (outline event) waiting) old.board.parts new.board.parts
leaves (Step c) waiting answer old new good before e =
    let s = (events_change_only old new (Step c) answer e).board good.good good.devices.few in
    record { own = own_leaves c waiting answer old new good before e; others = wire_leaves c old.board new.board s good.devices.few }
leaves (Raise c l) waiting answer old new good before e = raise_leaves c l old.board new.board (events_change_only old new (Raise c l) answer e).board
leaves (Bell c l) waiting answer old new good before e = raise_leaves c l old.board new.board (events_change_only old new (Bell c l) answer e).board
leaves Tick waiting answer old new good before e = tt
leaves (Stop c) waiting answer old new good before e = tt
leaves (Go c) waiting answer old new good before e = tt
leaves (StepI c) waiting answer old new good before e = tt
leaves (SetReg c r value) waiting answer old new good before e = tt
leaves (SetPc c pc) waiting answer old new good before e = tt
leaves (Poke address bytes) waiting answer old new good before e = tt
leaves (Break address) waiting answer old new good before e = tt
leaves (Unbreak address) waiting answer old new good before e = tt

replayed : (old new : State) (event : Event) (answer : Answer) → apply old event ≡ Ok (new, answer) → replay old (event ∷ []) ≡ new
unfolding replay
replayed old new event answer e = ap (λ r. left_by r old) e

pub within : (told : Event) (waiting : List ℕ) (old new : State) (answer : Answer) → GoodState old → AreWaitingFor (outline told) waiting old.board.parts → apply old told ≡ Ok (new, answer)
    → IsWithinReach (reach_of (outline told) waiting) old.board.parts new.board.parts
within event waiting old new answer good before e = record {
  pipes = ap (λ (s : State). length s.board.parts.pipes) (sym (replayed old new event answer e)) ∙ (sizes_stay old (event ∷ [])).sizes.pipes;
  leaves = leaves event waiting answer old new good before e;
}
