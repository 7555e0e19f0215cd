-- Of its own processor a Step counts only the lines that waited, and those that a device raises.
use Rattle.std.proofs.Common.{◌≡◌, ◌≢◌, inl, inr, ℕ, zero, suc, ◌+◌, ◌<◌, ◌≤◌, ◌⊎◌, List, [], ◌∷◌, length, Bool, true, false, Option, Some, None, refl, sym, ap, subst, ◌∙◌, arith}
use Rattle.std.specs.Prelude.{◌&&◌, ◌||◌, ◌==◌, nat_le, nat_lt, option_map, slice_get, if◌then◌else◌}
use Rattle.std.proofs.lemmas.Bool.{cases_eq}
use Rattle.std.proofs.lemmas.Bool.Decides.{nat_tests}
use Rattle.evm_lines.specs.Lines.{has_line}
use Rattle.evm_lines.specs.Laws.{has_line-with_other, has_line-without_other}
use Rattle.evm_lines.specs.declared.TheConstants.{LINES}
use Rattle.evm_model.proofs.Lists.{change-here, change-elsewhere, slice_get-each}
use Rattle.evm_model.specs.Boosts.{is_number}
use Rattle.evm_model.specs.Devices.{raise_line}
use Rattle.evm_model.specs.Lists.{each}
use Rattle.evm_model.specs.Pipes.{Pipe, raise, arrive, leave_wire, receive, play, set_stall}
use Rattle.evm_model.specs.Rows.{step}
use Rattle.evm_model.specs.Settle.{nudge, nudge_pipe, wants_nudge}
use Rattle.evm_model.specs.State.{Board, Parts}
use Rattle.evm_model.specs.declared.counts.Counts.{Counts}
use Rattle.evm_model.specs.declared.limits.TheConstants.{DEVICE_LIMIT, DEVICE_LINE}
use Rattle.evm_model.specs.declared.stage.Stage.{Stage}
use Rattle.evm_model.specs.declared.stage.Stage.TheVariants.{OutOfBand, InBand}
use Rattle.law_rules.proofs.Counted.{Counted, raise-counted, leave-counted, arrive-counted, play-counted}
use Rattle.law_rules.proofs.Lift.{Lifts, lift}
use Rattle.law_rules.proofs.RowWalks.{SETTLING_STAMPS}
use Rattle.law_rules.proofs.Sets.{walk_pipes}
use Rattle.law_rules.proofs.Walk.{Actor, PipeMove, raises, receives, plays_timer, plays_oob, plays_in_band, stalls, ArePipes, Walk}
use Rattle.law_runs.proofs.Executing.{SETTLING_MOVES, StepParts, doer, settler, step_parts}
use Rattle.law_runs.proofs.Instructions.{step_writes}
use Rattle.law_runs.proofs.Raised.{RaisedIs, line_pipes, line_raised, walk-raised}
use Rattle.law_runs.specs.Balance.{line_of_step, one_if}
use Rattle.run_marks.specs.Tallies.{SameRaised, belongs_to_devices, waits_in}

-- ---- a line that waits nowhere
-- it is on no wire and in no log of a pipe, and has these counts
record Absent (l : ℕ) (o : Option Counts) (p : Pipe) : Type 0 where
  wire : has_line p.wire l ≡ false
  oob : has_line p.oob.lines l ≡ false
  in_band : has_line p.in_band.lines l ≡ false
  counts : slice_get p.counts l ≡ o

other_counts : (l m : ℕ) (f : Counts → Counts) (p q : Pipe) (o : Option Counts) → l ≢ m → Counted m f p q → slice_get p.counts l ≡ o → slice_get q.counts l ≡ o
other_counts l m f p q o other c e = ap (λ (x : List Counts). slice_get x l) c.counts ∙ change-elsewhere f p.counts m l other ∙ e

absent_raise : (l m : ℕ) (o : Option Counts) (p : Pipe) → l < LINES → l ≢ m → Absent l o p → Absent l o (raise m p)
unfolding raise
absent_raise l m o p h other s = record { wire = has_line-with_other p.wire m l other h ∙ s.wire; oob = s.oob; in_band = s.in_band; counts = other_counts l m _ p _ o other (raise-counted m p) s.counts }

absent_leave : (l m : ℕ) (o : Option Counts) (p : Pipe) → l < LINES → l ≢ m → Absent l o p → Absent l o (leave_wire m p)
unfolding leave_wire
absent_leave l m o p h other s = record { wire = has_line-without_other p.wire m l other h ∙ s.wire; oob = s.oob; in_band = s.in_band; counts = other_counts l m _ p _ o other (leave-counted m p) s.counts }

absent_arrive : (stage : Stage) (l m : ℕ) (o : Option Counts) (p : Pipe) → l < LINES → l ≢ m → Absent l o p → Absent l o (arrive stage m p)
unfolding arrive
absent_arrive OutOfBand l m o p h other s =
    record { wire = s.wire; oob = has_line-with_other p.oob.lines m l other h ∙ s.oob; in_band = s.in_band; counts = other_counts l m _ p _ o other (arrive-counted OutOfBand m p) s.counts }
absent_arrive InBand l m o p h other s =
    record { wire = s.wire; oob = s.oob; in_band = has_line-with_other p.in_band.lines m l other h ∙ s.in_band; counts = other_counts l m _ p _ o other (arrive-counted InBand m p) s.counts }

absent_play : (stage : Stage) (l m : ℕ) (o : Option Counts) (p : Pipe) → l < LINES → l ≢ m → Absent l o p → Absent l o (play stage m p)
unfolding play
absent_play OutOfBand l m o p h other s =
    record { wire = s.wire; oob = has_line-without_other p.oob.lines m l other h ∙ s.oob; in_band = s.in_band; counts = other_counts l m _ p _ o other (play-counted OutOfBand m p) s.counts }
absent_play InBand l m o p h other s =
    record { wire = s.wire; oob = s.oob; in_band = has_line-without_other p.in_band.lines m l other h ∙ s.in_band; counts = other_counts l m _ p _ o other (play-counted InBand m p) s.counts }

absent_stall : (stage : Stage) (b : Bool) (l : ℕ) (o : Option Counts) (p : Pipe) → Absent l o p → Absent l o (set_stall stage b p)
unfolding set_stall
absent_stall OutOfBand b l o p s = record { wire = s.wire; oob = s.oob; in_band = s.in_band; counts = s.counts }
absent_stall InBand b l o p s = record { wire = s.wire; oob = s.oob; in_band = s.in_band; counts = s.counts }

absent_receive : (stage : Stage) (l m : ℕ) (o : Option Counts) (p : Pipe) → l < LINES → l ≢ m → Absent l o p → Absent l o (receive stage m p)
unfolding receive
absent_receive stage l m o p h other s = absent_arrive stage l m o (leave_wire m p) h other (absent_leave l m o p h other s)

-- it isn't the line that is there
differs : (set : List ℕ) (l m : ℕ) → has_line set l ≡ false → has_line set m ≡ true → l ≢ m
differs set l m lacks has_it same = let e : true ≡ false = sym has_it ∙ ap (has_line set) (sym same) ∙ lacks in absurd cc

absent_moved : (l : ℕ) (o : Option Counts) (may : ℕ → Bool) (n : ℕ) (p q : Pipe) → l < LINES → may l ≡ false → PipeMove may n p q → Absent l o p → Absent l o q
absent_moved l o may _ _ _ h none (raises m p small on) s = absent_raise l m o p h (λ same. let e : true ≡ false = sym on ∙ ap may (sym same) ∙ none in absurd cc) s
absent_moved l o may _ _ _ h none (receives stage m p fixed on) s = absent_receive stage l m o p h (differs p.wire l m s.wire on) s
absent_moved l o may _ _ _ h none (plays_timer p on) s =
    let other : l ≢ 0 = differs p.oob.lines l 0 s.oob on in absent_arrive InBand l 0 o (play OutOfBand 0 p) h other (absent_play OutOfBand l 0 o p h other s)
absent_moved l o may _ _ _ h none (plays_oob m p other on) s = absent_play OutOfBand l m o p h (differs p.oob.lines l m s.oob on) s
absent_moved l o may _ _ _ h none (plays_in_band m p on) s = absent_play InBand l m o p h (differs p.in_band.lines l m s.in_band on) s
absent_moved l o may _ _ _ h none (stalls stage b p) s = absent_stall stage b l o p s

-- .. of processor c's
abbrev AbsentAt : ℕ → ℕ → Option Counts → Parts → Type 0
AbsentAt c l o k = (p : Pipe) → slice_get k.pipes c ≡ Some p → Absent l o p

absent_walked : (c l : ℕ) (o : Option Counts) (a : Actor) (old : Parts) (n s : ℕ) (k : Parts) → l < LINES → a.may c l ≡ false → ArePipes old → Walk a old n s k → AbsentAt c l o old → AbsentAt c l o k
absent_walked c l o a old n s k h none are w at =
    let P : ℕ → Pipe → Type 0 = λ b p. Absent l o p in
    let lifts : Lifts (a.may c) P = record { more = λ b m p g q. q; moved = λ b m p q. absent_moved l o (a.may c) m p q h none } in
    (lift a old P c lifts are n s 0 k w (record { holds = at })).holds

-- ---- a Step
neither : (a b : Bool) → (a || b) ≡ false → (a ≡ false) × (b ≡ false)
neither true b e = absurd cc
neither false b e = (refl, e)

absent_unless : (l : ℕ) (p : Pipe) → waits_in l (Some p) ≡ false → Absent l (slice_get p.counts l) p
absent_unless l p none =
    let one = neither _ _ none in let two = neither _ _ one.1 in record { wire = one.0; oob = two.0; in_band = two.1; counts = refl }

-- a device's line is one of eight
device_line : (l i : ℕ) → i < DEVICE_LIMIT → l ≡ DEVICE_LINE + i → belongs_to_devices l ≡ true
device_line l i few is =
    let low : nat_le DEVICE_LINE l ≡ true = (let h : DEVICE_LINE ≤ l = omega (arith, is) in grind (arith, nat_tests)) in
    let high : nat_lt l (DEVICE_LINE + DEVICE_LIMIT) ≡ true = (let h : l < DEVICE_LINE + DEVICE_LIMIT = omega (arith, is, few) in grind (arith, nat_tests)) in
    rw (low, high) refl

module _ (c : ℕ) (b : Board) (are : ArePipes b.parts) (few : length b.memory.devices ≤ DEVICE_LIMIT) where
  abbrev d : StepParts c b (step c b)
  d = step_parts c b

  abbrev line : Option ℕ
  line = line_of_step (step c b).1 b

  are_before : ArePipes d.before
  are_before = walk_pipes (doer c d.task) b.parts 1 65 d.before d.acts are

  are_raised : ArePipes (raise_line line d.before)
  are_raised = line_pipes line d.before are_before

  pub are_settled : ArePipes d.settled
  are_settled = walk_pipes (settler c) (raise_line line d.before) SETTLING_MOVES SETTLING_STAMPS d.settled d.settles are_raised

  -- the processor itself isn't told
  own_pipe : (pipe : Pipe) (k : Parts) → nudge_pipe c k c pipe ≡ pipe
  own_pipe pipe k = let same : (c == c) ≡ true = grind (arith, nat_tests) in rw same refl

  own_option : (o : Option Pipe) (k : Parts) → option_map (nudge_pipe c k c) o ≡ o
  own_option None k = refl
  own_option (Some pipe) k = ap Some (own_pipe pipe k)

  untold : (k : Parts) → (k ≡ d.settled) ⊎ (k ≡ nudge c d.settled) → slice_get k.pipes c ≡ slice_get d.settled.pipes c
  unfolding nudge
  untold k (inl same) = ap (λ (x : Parts). slice_get x.pipes c) same
  untold k (inr told) = ap (λ (x : Parts). slice_get x.pipes c) told ∙ slice_get-each (nudge_pipe c d.settled) d.settled.pipes c ∙ own_option (slice_get d.settled.pipes c) d.settled

  module _ (p q : Pipe) (l : ℕ) (h : l < LINES) (before : slice_get b.parts.pipes c ≡ Some p) (none : waits_in l (Some p) ≡ false) (after : slice_get (step c b).0.parts.pipes c ≡ Some q) where
    abbrev o : Option Counts
    o = slice_get p.counts l

    at_first : AbsentAt c l o b.parts
    at_first x e = let same : x ≡ p = (let two : Some x ≡ Some p = sym e ∙ before in cc) in subst (λ (y : Pipe). Absent l o y) (sym same) (absent_unless l p none)

    acted : AbsentAt c l o d.before
    acted = absent_walked c l o (doer c d.task) b.parts 1 65 d.before h refl are d.acts at_first

    now_settled : slice_get d.settled.pipes c ≡ Some q
    now_settled = sym (untold (step c b).0.parts d.told) ∙ after

    -- where no device raised the line
    stands_if : AbsentAt c l o (raise_line line d.before) → slice_get q.counts l ≡ o
    stands_if raised = (absent_walked c l o (settler c) (raise_line line d.before) SETTLING_MOVES SETTLING_STAMPS d.settled h refl are_raised d.settles raised q now_settled).counts

    elsewhere : (x : Option ℕ) → ((m : ℕ) → x ≡ Some m → (c ≡ 0) → l ≢ m) → AbsentAt c l o (raise_line x d.before)
    elsewhere None other pipe e = acted pipe e
    elsewhere (Some m) other pipe e = elim (cases_eq c 0) [
      | inl first ↦ raised_first (slice_get d.before.pipes 0) refl
          (sym (change-here (raise m) d.before.pipes 0) ∙ ap (slice_get (raise_line (Some m) d.before).pipes) (sym first) ∙ e) first
      | inr far ↦ acted pipe (sym (change-elsewhere (raise m) d.before.pipes 0 c far) ∙ e)
    ]
      where
        raised_first : (y : Option Pipe) → slice_get d.before.pipes 0 ≡ y → option_map (raise m) y ≡ Some pipe → c ≡ 0 → Absent l o pipe
        raised_first None f g first = absurd cc
        raised_first (Some x) f g first =
            let same : pipe ≡ raise m x = cc in
            subst (λ (z : Pipe). Absent l o z) (sym same) (absent_raise l m o x h (other m refl first) (acted x (ap (slice_get d.before.pipes) first ∙ f)))

    -- where one did, it was raised more often
    module _ (n : Counts) (had : slice_get p.counts l ≡ Some n) (first : c ≡ 0) (is : line ≡ Some l) where
      old_raised : RaisedIs c l n.raised b.parts
      old_raised = record {
        times = λ x m e f.
            let same : x ≡ p = (let two : Some x ≡ Some p = sym e ∙ before in cc) in
            let alike : m ≡ n = (let two : Some m ≡ Some n = sym f ∙ ap (λ (y : Pipe). slice_get y.counts l) same ∙ had in cc) in ap (λ (y : Counts). y.raised) alike;
      }

      more_raised : RaisedIs c l (n.raised + 1) (raise_line line d.before)
      more_raised =
          let w = line_raised line c l n.raised d.before (walk-raised c l n.raised (doer c d.task) b.parts 1 65 d.before refl are d.acts old_raised) in
          let zero_is : (0 == c) ≡ true = grind (arith, nat_tests) in
          let itself : (l == l) ≡ true = grind (arith, nat_tests) in
          let one : one_if ((0 == c) && (l == l)) ≡ 1 = rw (zero_is, itself) refl in
          let e : one_if (0 == c && is_number line l) ≡ 1 = ap (λ o. one_if (0 == c && is_number o l)) is ∙ one in
          subst (λ k. RaisedIs c l (n.raised + k) (raise_line line d.before)) e w

      pub once_more : (m : Counts) → slice_get q.counts l ≡ Some m → m.raised ≡ n.raised + 1
      once_more m e = (walk-raised c l (n.raised + 1) (settler c) (raise_line line d.before) SETTLING_MOVES SETTLING_STAMPS d.settled refl are_raised d.settles more_raised).times q m now_settled e

    has : {X : Type 0} (xs : List X) (i : ℕ) → i < length xs → (x : X) × (slice_get xs i ≡ Some x)
    has [] i g = absurd (omega (arith, g))
    has (x ∷ xs) zero g = (x, refl)
    has (x ∷ xs) (suc i) g = has xs i (omega (arith, g))

    pub line_stands : (c ≡ 0 → belongs_to_devices l ≡ true → SameRaised l p.counts q.counts) → slice_get q.counts l ≡ slice_get p.counts l
    line_stands same = stands_if (elsewhere line (λ m is first e. raised_not m is first e))
      where
        raised_not : (m : ℕ) → line ≡ Some m → c ≡ 0 → l ≡ m → ⊥
        raised_not m is first e =
            let full = (are.each c p before).counts in
            let full_now = (are_settled.each c q now_settled).counts in
            let n = has p.counts l (omega (arith, h, full)) in
            let k = has q.counts l (omega (arith, h, full_now)) in
            let more = once_more n.0 n.1 first (is ∙ ap Some (sym e)) k.0 k.1 in
            let its = (step_writes c b).line l (is ∙ ap Some (sym e)) in
            let small = its.1.0 in
            let device = device_line l its.0 (omega (arith, small, few)) its.1.1 in
            let alike = same first device n.0 k.0 n.1 k.1 in
            absurd (omega (arith, more, alike))

pub own_stands : (c : ℕ) (b : Board) (p q : Pipe) (l : ℕ) → ArePipes b.parts → length b.memory.devices ≤ DEVICE_LIMIT → l < LINES → slice_get b.parts.pipes c ≡ Some p → waits_in l (Some p) ≡ false
    → slice_get (step c b).0.parts.pipes c ≡ Some q → (c ≡ 0 → belongs_to_devices l ≡ true → SameRaised l p.counts q.counts) → slice_get q.counts l ≡ slice_get p.counts l
own_stands c b p q l are few h before none after same = line_stands c b are few p q l h before none after same
