-- How often line 1 is raised on a processor.
use Rattle.std.proofs.Common.{◌≡◌, ℕ, ◌+◌, ◌<◌, List, [], ◌∷◌, ◌++◌, Bool, true, false, cond, not, ◌&&◌, Option, Some, None, Result, Ok, Err, length, inl, inr, refl, ap, sym, ◌∙◌, subst, arith}
use Rattle.std.specs.Prelude.{slice_get, option_map, count_by, replicate, ◌==◌, if◌then◌else◌}
use Rattle.std.proofs.lemmas.Bool.{cases_eq}
use Rattle.std.proofs.lemmas.Bool.Decides.{nat_tests}
use Rattle.std.proofs.lemmas.List.Sums.{sum_by-append}
use Rattle.evm_lines.specs.Laws.{has_line-with_other}
use Rattle.evm_lines.specs.Lines.{has_line}
use Rattle.evm_lines.specs.declared.TheConstants.{LINES}
use Rattle.evm_model.proofs.Lists.{change-here, change-elsewhere, slice_get-each, slice_get-below, slice_get-within, slice_get-replicate}
use Rattle.evm_model.specs.Commands.{set_bits}
use Rattle.evm_model.specs.Boosts.{is_number}
use Rattle.evm_model.specs.Devices.{Attached, raise_line}
use Rattle.evm_model.specs.Event.{Event}
use Rattle.evm_model.specs.declared.limits.TheConstants.{DEVICE_LINE}
use Rattle.evm_model.specs.Good.{Good, GoodState}
use Rattle.evm_model.specs.Load.{load_board, start_loaded}
use Rattle.evm_model.specs.Pipes.{Pipe, idle_pipe, no_counts, raise, more_if}
use Rattle.evm_model.specs.Ranks.{best}
use Rattle.evm_model.specs.Refusals.{board_refusal, is_full, refusal}
use Rattle.evm_model.specs.Replay.{accept, apply, left_by, replay, start}
use Rattle.evm_model.specs.Rows.{step, single_step, row}
use Rattle.evm_model.specs.Settle.{current, current_of, differs, nudge, nudge_pipe, wants_nudge}
use Rattle.evm_model.specs.State.{State, Board, Parts, booted, booted_parts, on_parts, on_processor}
use Rattle.evm_model.specs.declared.boot.Boot.{Boot}
use Rattle.evm_model.specs.declared.counts.Counts.{Counts}
use Rattle.evm_model.specs.declared.event.Answer.{Answer}
use Rattle.evm_model.specs.declared.event.Event.TheVariants.{Step, StepI}
use Rattle.evm_model.specs.declared.processor.Processor.{Processor}
use Rattle.evm_model.specs.declared.refusal.Refusal.{Refusal}
use Rattle.evm_model.specs.declared.refusal.Refusal.TheVariants.{Full}
use Rattle.law_rules.proofs.Walk.{ArePipes}
use Rattle.law_rules.proofs.Keeps.{bits-good, step-good}
use Rattle.law_rules.proofs.Private.{wants-not}
use Rattle.law_rules.proofs.Replays.{accepted}
use Rattle.law_rules.proofs.States.{GoodState-apply, GoodState-loaded, GoodState-start}
use Rattle.law_runs.specs.Balance.{is_raise, one_if, line_of_step, device_raises}
use Rattle.law_runs.specs.Nudged.{is_step_elsewhere, finds_better, found, found_count, TellsFrom, AlwaysTells, AlwaysTellsLoaded}
use Rattle.law_runs.proofs.Counts.{settled_others}
use Rattle.law_runs.proofs.Executing.{StepParts, step_parts}
use Rattle.law_runs.proofs.Instructions.{step_writes}
use Rattle.law_runs.proofs.Raised.{RaisedIs, raise-raised, is_step, other-raised, before_told, and_none}
use Rattle.law_runs.proofs.Runs.{more_is}

plus_none : (d r : ℕ) (k : Parts) → RaisedIs d 1 r k → RaisedIs d 1 (r + 0) k
plus_none d r k s = record { times = λ p n e g. omega (arith, s.times p n e g) }

-- ---- a processor is told
told_by : (own wants : Bool) (p : Pipe) (n : Counts) (r : ℕ) → ((m : Counts) → slice_get p.counts 1 ≡ Some m → m.raised ≡ r)
    → slice_get (if own then p else (if wants then raise 1 p else p)).counts 1 ≡ Some n → n.raised ≡ r + one_if (not own && wants)
told_by true wants p n r h g = omega (arith, h n g)
told_by false true p n r h g = (raise-raised 1 r p (record { times = h })).times n g
told_by false false p n r h g = omega (arith, h n g)

told_of : (c d r : ℕ) (k : Parts) (o : Option Pipe) (q : Pipe) (n : Counts) → slice_get k.pipes d ≡ o → RaisedIs d 1 r k → option_map (nudge_pipe c k d) o ≡ Some q → slice_get q.counts 1 ≡ Some n
    → n.raised ≡ r + one_if (not (d == c) && finds_better d o k)
told_of c d r k None q n e s f g = cc
told_of c d r k (Some p) q n e s f g =
    let same : nudge_pipe c k d p ≡ q = cc in told_by (d == c) (wants_nudge d p k) p n r (λ m h. s.times p m e h) (rw (← same) at g)

told : (c d r : ℕ) (k : Parts) → RaisedIs d 1 r k → RaisedIs d 1 (r + one_if (not (d == c) && finds_better d (slice_get k.pipes d) k)) (nudge c k)
unfolding nudge
told c d r k s = record { times = λ q n f g. told_of c d r k (slice_get k.pipes d) q n refl s (sym (slice_get-each (nudge_pipe c k) k.pipes d) ∙ f) g }

same_after : (c d : ℕ) (o : Option Pipe) (k : Parts) → finds_better d o (nudge c k) ≡ finds_better d o k
unfolding nudge
same_after c d None k = refl
same_after c d (Some p) k = refl

-- where nothing was settled there is no better task
not_found : (d : ℕ) (o : Option Pipe) (k : Parts) → Good k → slice_get k.pipes d ≡ o → finds_better d o k ≡ false
not_found d None k good e = refl
not_found d (Some pipe) k good e =
    let p = slice_get-within k.processors d (omega (arith, good.pipes_count, slice_get-below k.pipes d pipe e)) in
    wants-not d k pipe p.0 p.1 (good.settled d pipe p.0 e p.1)

-- ---- a step of processor c
is_same : (d c : ℕ) → d ≡ c → (d == c) ≡ true
is_same d c e = grind (arith, nat_tests)

-- a device's line is another than line 1
not_one : (o : Option ℕ) (count : ℕ) → ((m : ℕ) → o ≡ Some m → (i : ℕ) × ((i < count) × (m ≡ DEVICE_LINE + i))) → is_number o 1 ≡ false
not_one None count is = refl
not_one (Some m) count is = let w = is m refl in let other : m ≡ 1 → ⊥ = λ same. omega (arith, w.1.1, same) in grind (arith, nat_tests)

still_better : (d m : ℕ) (o : Option Pipe) (k : Parts) → (1 ≡ m → ⊥) → finds_better d (option_map (raise m) o) k ≡ finds_better d o k
unfolding raise
still_better d m None k other = refl
still_better d m (Some p) k other = ap (λ (on : Bool). not p.oob.stalled && (not on && differs (best d k.mutexes k.tasks) (current d k))) (has_line-with_other p.wire m 1 other (omega arith))

-- it is nothing that asks a processor to reschedule
line_better : (o : Option ℕ) (d : ℕ) (old k : Parts) → is_number o 1 ≡ false → finds_better d (slice_get (raise_line o old).pipes d) k ≡ finds_better d (slice_get old.pipes d) k
line_better None d old k none = refl
line_better (Some m) d old k none = elim (cases_eq d 0) [
  | inl same ↦
      let other : 1 ≡ m → ⊥ = λ one. (let yes : (m == 1) ≡ true = grind (arith, nat_tests) in cc) in
      rw same (ap (λ (o : Option Pipe). finds_better 0 o k) (change-here (raise m) old.pipes 0) ∙ still_better 0 m (slice_get old.pipes 0) k other)
  | inr other ↦ ap (λ (o : Option Pipe). finds_better d o k) (change-elsewhere (raise m) old.pipes 0 d other)
]

module _ (c d r : ℕ) (b : Board) (are : ArePipes b.parts) (s : RaisedIs d 1 r b.parts) where
  abbrev stepped : StepParts c b (step c b)
  stepped = step_parts c b

  abbrev line : Option ℕ
  line = line_of_step (step c b).1 b

  none : is_number line 1 ≡ false
  none = not_one line (length b.memory.devices) (λ m e. (step_writes c b).line m e)

  before : RaisedIs d 1 r stepped.settled
  before =
      let hit : (0 == d && is_number line 1) ≡ false = ap (λ (x : Bool). 0 == d && x) none ∙ and_none (0 == d) in
      let same : r + one_if (0 == d && is_number line 1) ≡ r = ap (λ (x : Bool). r + one_if x) hit ∙ plus_zero r in
      subst (λ (n : ℕ). RaisedIs d 1 n stepped.settled) same (before_told d 1 r c b stepped are s)
    where
      plus_zero : (n : ℕ) → n + 0 ≡ n
      plus_zero n = omega arith

  own_step : (better : Bool) → d ≡ c → RaisedIs d 1 (r + one_if (not (d == c) && better)) (step c b).0.parts
  own_step better same =
      let it : (d == c) ≡ true = is_same d c same in
      elim stepped.told [
        | inl still ↦ rw (it, still) (plus_none d r stepped.settled before)
        | inr nudges ↦ let after = told c d r stepped.settled before in rw (it, nudges) (rw it at after)
      ]

  other_step : (d ≡ c → ⊥) → Good (step c b).0.parts → RaisedIs d 1 (r + one_if (not (d == c) && finds_better d (slice_get b.parts.pipes d) (step c b).0.parts)) (step c b).0.parts
  other_step other good =
      let new : Parts = (step c b).0.parts in
      let pipe : slice_get stepped.settled.pipes d ≡ slice_get (raise_line line b.parts).pipes d = settled_others c b d other in
      let first : (k : Parts) → finds_better d (slice_get stepped.settled.pipes d) k ≡ finds_better d (slice_get b.parts.pipes d) k = λ k. ap (λ (o : Option Pipe). finds_better d o k) pipe ∙ line_better line d b.parts k none in
      elim stepped.told [
        | inl still ↦
            let off : finds_better d (slice_get b.parts.pipes d) new ≡ false = sym (first new) ∙ not_found d (slice_get stepped.settled.pipes d) new good (ap (λ (k : Parts). slice_get k.pipes d) still) in
            let now : RaisedIs d 1 (r + 0) new = rw still (plus_none d r stepped.settled before) in
            subst (λ (x : Bool). RaisedIs d 1 (r + one_if x) new) (sym (none_of (not (d == c)) (finds_better d (slice_get b.parts.pipes d) new) off)) now
        | inr nudges ↦
            let after : RaisedIs d 1 (r + one_if (not (d == c) && finds_better d (slice_get stepped.settled.pipes d) stepped.settled)) (nudge c stepped.settled) = told c d r stepped.settled before in
            let better : finds_better d (slice_get b.parts.pipes d) new ≡ finds_better d (slice_get stepped.settled.pipes d) stepped.settled =
            ap (finds_better d (slice_get b.parts.pipes d)) nudges ∙ same_after c d (slice_get b.parts.pipes d) stepped.settled ∙ sym (first stepped.settled) in
            let there : RaisedIs d 1 (r + one_if (not (d == c) && finds_better d (slice_get stepped.settled.pipes d) stepped.settled)) new = rw nudges after in
            subst (λ (x : Bool). RaisedIs d 1 (r + one_if (not (d == c) && x)) new) (sym better) there
      ]
    where
      none_of : (x y : Bool) → y ≡ false → (x && y) ≡ false
      none_of true y e = e
      none_of false y e = refl

  pub step_tells : Good (step c b).0.parts → RaisedIs d 1 (r + one_if (not (d == c) && finds_better d (slice_get b.parts.pipes d) (step c b).0.parts)) (step c b).0.parts
  step_tells good = elim (cases_eq d c) [
    | inl same ↦ own_step (finds_better d (slice_get b.parts.pipes d) (step c b).0.parts) same
    | inr other ↦ other_step other good
  ]

-- ---- an event
cleared : (c d r : ℕ) (k : Parts) → RaisedIs d 1 r k → RaisedIs d 1 r (set_bits false true c k)
unfolding set_bits
cleared c d r k s = record { times = s.times }

stopped : (c d r : ℕ) (k : Parts) → RaisedIs d 1 r k → RaisedIs d 1 r (set_bits true false c k)
unfolding set_bits
stopped c d r k s = record { times = s.times }

are_cleared : (c : ℕ) (k : Parts) → ArePipes k → ArePipes (set_bits false true c k)
unfolding set_bits
are_cleared c k are = record { each = are.each }

same_pipe : (c d : ℕ) (k : Parts) → slice_get (set_bits false true c k).pipes d ≡ slice_get k.pipes d
unfolding set_bits
same_pipe c d k = refl

bits_current : (c d : ℕ) (k : Parts) → current d (set_bits true false c k) ≡ current d k
unfolding set_bits
bits_current c d k = elim (cases_eq d c) [
  | inl same ↦ rw same (ap current_of (change-here (λ (p : Processor). record p { stopped = true; skip = false }) k.processors c) ∙ same_bits (slice_get k.processors c))
  | inr other ↦ ap current_of (change-elsewhere (λ (p : Processor). record p { stopped = true; skip = false }) k.processors c d other)
]
  where
    same_bits : (o : Option Processor) → current_of (option_map (λ (p : Processor). record p { stopped = true; skip = false }) o) ≡ current_of o
    same_bits None = refl
    same_bits (Some p) = refl

bits_of : (c d : ℕ) (k : Parts) → current d (on_processor c (λ p. record p { stopped = true; skip = false }) k) ≡ current d k
unfolding set_bits
bits_of c d k = bits_current c d k

better_stopped : (c d : ℕ) (o : Option Pipe) (k : Parts) → finds_better d o (set_bits true false c k) ≡ finds_better d o k
unfolding set_bits
better_stopped c d None k = refl
better_stopped c d (Some pipe) k = ap (λ (now : Option ℕ). not pipe.oob.stalled && (not (has_line pipe.wire 1) && differs (best d k.mutexes k.tasks) now)) (bits_of c d k)

module _ (s : State) (d r : ℕ) (good : GoodState s) (h : RaisedIs d 1 r s.board.parts) where
  are : ArePipes s.board.parts
  are = record { each = good.good.pipes }

  -- an event that is no step
  other_row : (event : Event) → is_step event ≡ false → is_step_elsewhere d event ≡ false → device_raises 1 event s.board ≡ false
      → RaisedIs d 1 (more_if (is_raise d 1 event) r + one_if (is_step_elsewhere d event && finds_better d (slice_get s.board.parts.pipes d) (row event s.board).0.parts)) (row event s.board).0.parts
  other_row event none still quiet =
      let hit : (0 == d && device_raises 1 event s.board) ≡ false = ap (λ (x : Bool). 0 == d && x) quiet ∙ and_none (0 == d) in
      let elsewhere : (is_step_elsewhere d event && finds_better d (slice_get s.board.parts.pipes d) (row event s.board).0.parts) ≡ false = ap (λ (x : Bool). x && finds_better d (slice_get s.board.parts.pipes d) (row event s.board).0.parts) still in
      let one = ap one_if hit in
      let two = ap one_if elsewhere in
      subst (λ (n : ℕ). RaisedIs d 1 n (row event s.board).0.parts) (omega (arith, more_is (is_raise d 1 event) r, one, two)) (other-raised s.board d 1 r h event none)

  abbrev after : Event → Parts
  after event = (row event s.board).0.parts

  single : (c : ℕ) → Good (step c (on_parts (set_bits false true c) s.board)).0.parts → RaisedIs d 1 (r + one_if (not (d == c) && finds_better d (slice_get s.board.parts.pipes d) (single_step c s.board).parts)) (single_step c s.board).parts
  unfolding single_step
  single c its =
      let freed : Board = on_parts (set_bits false true c) s.board in
      let done : Parts = (step c freed).0.parts in
      let stepped : RaisedIs d 1 (r + one_if (not (d == c) && finds_better d (slice_get freed.parts.pipes d) done)) done = step_tells c d r freed (are_cleared c s.board.parts are) (cleared c d r s.board.parts h) its in
      let here : RaisedIs d 1 (r + one_if (not (d == c) && finds_better d (slice_get s.board.parts.pipes d) done)) done = subst (λ (o : Option Pipe). RaisedIs d 1 (r + one_if (not (d == c) && finds_better d o done)) done) (same_pipe c d s.board.parts) stepped in
      subst (λ (x : Bool). RaisedIs d 1 (r + one_if (not (d == c) && x)) (set_bits true false c done)) (sym (better_stopped c d (slice_get s.board.parts.pipes d) done)) (stopped c d _ done here)

  pub row_tells : (event : Event) → board_refusal event s.board ≡ None → Good (row event s.board).0.parts
      → RaisedIs d 1 (more_if (is_raise d 1 event) r + one_if (is_step_elsewhere d event && finds_better d (slice_get s.board.parts.pipes d) (row event s.board).0.parts)) (row event s.board).0.parts
  unfolding row
  row_tells (Step c) e its = step_tells c d r s.board are h its
  row_tells (StepI c) e its = single c (step-good c (on_parts (set_bits false true c) s.board) (bits-good false true c s.board.parts good.good))
  row_tells event e its = other_row event refl refl refl

-- ---- the journal
one_more : (b : Bool) → 0 + cond b 1 0 ≡ one_if b
one_more true = refl
one_more false = refl

counted : (d : ℕ) (events : List Event) (event : Event) → count_by (is_raise d 1) (events ++ event ∷ []) ≡ count_by (is_raise d 1) events + one_if (is_raise d 1 event)
counted d events event =
    let split : count_by (is_raise d 1) (events ++ event ∷ []) ≡ count_by (is_raise d 1) events + (0 + cond (is_raise d 1 event) 1 0) = sum_by-append (λ (e : Event). cond (is_raise d 1 e) 1 0) events (event ∷ []) in
    split ∙ ap (λ n. count_by (is_raise d 1) events + n) (one_more (is_raise d 1 event))

allowed : (s : State) (event : Event) (full : Bool) → (if full then Some Full else board_refusal event s.board) ≡ None → board_refusal event s.board ≡ None
allowed s event true e = cc
allowed s event false e = e

-- line 1 of d was raised as often as the journal says, and so many times more
TellsSo : ℕ → ℕ → State → Type 0
TellsSo d times s = RaisedIs d 1 (count_by (is_raise d 1) s.journal + times) s.board.parts

apply_tells : (s new : State) (event : Event) (answer : Answer) (d times : ℕ) → GoodState s → apply s event ≡ Ok (new, answer) → TellsSo d times s
    → TellsSo d (times + one_if (is_step_elsewhere d event && finds_better d (slice_get s.board.parts.pipes d) new.board.parts)) new
unfolding TellsSo
apply_tells s new event answer d times good e h =
    let it = accepted s new event answer e in
    let may : board_refusal event s.board ≡ None = allowed s event (is_full s) it.0 in
    let is : new ≡ (accept event (row event s.board) s).0 = ap (λ (x : State × Answer). x.0) it.1 in
    let fine : GoodState (accept event (row event s.board) s).0 = rw (← is) (GoodState-apply s new event answer good e) in
    let r : ℕ = count_by (is_raise d 1) s.journal + times in
    let better : ℕ = one_if (is_step_elsewhere d event && finds_better d (slice_get s.board.parts.pipes d) (row event s.board).0.parts) in
    let after = row_tells s d r good h event may fine.good in
    let sum : more_if (is_raise d 1 event) r + better ≡ count_by (is_raise d 1) (s.journal ++ event ∷ []) + (times + better) =
    (let split = counted d s.journal event in let more = more_is (is_raise d 1 event) r in omega (arith, split, more)) in
    rw is (rw sum at after)

tells_left : (s : State) (event : Event) (r : Result (State × Answer) Refusal) (d times : ℕ) → apply s event ≡ r → GoodState s → TellsSo d times s → TellsSo d (times + one_if (found d s event r)) (left_by r s)
unfolding TellsSo
tells_left s event (Ok (new, answer)) d times e good h = apply_tells s new event answer d times good e h
tells_left s event (Err refusal) d times e good h = record { times = λ p n f g. omega (arith, h.times p n f g) }

good_left : (s : State) (event : Event) (r : Result (State × Answer) Refusal) → apply s event ≡ r → GoodState s → GoodState (left_by r s)
good_left s event (Ok (new, answer)) e good = GoodState-apply s new event answer good e
good_left s event (Err refusal) e good = good

tells : (s : State) (events : List Event) (d times : ℕ) → GoodState s → TellsSo d times s → TellsSo d (times + found_count d s events) (replay s events)
unfolding TellsSo replay found_count
tells s [] d times good h = record { times = λ p n f g. omega (arith, h.times p n f g) }
tells s (event ∷ events) d times good h =
    let left : State = left_by (apply s event) s in
    let first : TellsSo d (times + one_if (found d s event (apply s event))) left = tells_left s event (apply s event) d times refl good h in
    let rest : TellsSo d (times + one_if (found d s event (apply s event)) + found_count d left events) (replay left events) =
    tells left events d (times + one_if (found d s event (apply s event))) (good_left s event (apply s event) refl good) first in
    record { times = λ p n f g. omega (arith, rest.times p n f g) }

from_none : (s : State) → GoodState s → s.journal ≡ [] → ((d : ℕ) → RaisedIs d 1 0 s.board.parts) → TellsFrom s
unfolding TellsSo
from_none s good none idle events d p n f g =
    let first : TellsSo d 0 s = record { times = λ q m a b. rw none ((idle d).times q m a b) } in
    let all : TellsSo d (0 + found_count d s events) (replay s events) = tells s events d 0 good first in
    omega (arith, all.times p n f g)

-- ---- at boot
idle_counts : (pipes : List Pipe) (cpus d : ℕ) (p : Pipe) (n : Counts) → pipes ≡ replicate cpus idle_pipe → slice_get pipes d ≡ Some p → slice_get p.counts 1 ≡ Some n → n.raised ≡ 0
idle_counts pipes cpus d p n all f g =
    let idle : p ≡ idle_pipe = slice_get-replicate cpus idle_pipe d p (rw (← all) f) in
    let none : slice_get idle_pipe.counts 1 ≡ Some n = rw idle at g in
    let zeros : n ≡ no_counts = slice_get-replicate LINES no_counts 1 n none in ap (λ (m : Counts). m.raised) zeros

booted_idle : (devices : List Attached) (boot : Boot) (d : ℕ) → RaisedIs d 1 0 (start devices boot).board.parts
unfolding booted booted_parts
booted_idle devices boot d = record { times = λ p n f g. idle_counts _ boot.cpus d p n refl f g }

loaded_idle : (devices : List Attached) (byte : ℕ → ℕ) (entry : ℕ) (boot : Boot) (d : ℕ) → RaisedIs d 1 0 (start_loaded devices byte entry boot).board.parts
unfolding load_board booted booted_parts
loaded_idle devices byte entry boot d = record { times = λ p n f g. idle_counts _ boot.cpus d p n refl f g }

pub always_tells : AlwaysTells
always_tells devices boot are fits = from_none (start devices boot) (GoodState-start devices boot are fits) refl (booted_idle devices boot)

pub always_tells_loaded : AlwaysTellsLoaded
always_tells_loaded devices byte entry boot are fits multiple = from_none (start_loaded devices byte entry boot) (GoodState-loaded devices byte entry boot are fits multiple) refl (loaded_idle devices byte entry boot)
