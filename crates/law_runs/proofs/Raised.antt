-- A line but line 1 is raised by the events that say so, and by devices.
use Rattle.std.proofs.Common.{◌≡◌, ℕ, suc, ◌+◌, ◌<◌, ◌≤◌, List, [], ◌∷◌, Bool, true, false, Option, Some, None, inl, inr, refl, ap, sym, ◌∙◌, subst, arith}
use Rattle.std.specs.Prelude.{◌-◌, slice_get, option_map, nat_le, ◌==◌, ◌&&◌}
use Rattle.std.proofs.lemmas.Bool.{cases_eq}
use Rattle.std.proofs.lemmas.Bool.Decides.{nat_tests}
use Rattle.std.proofs.lemmas.Option.{slice_get-map}
use Rattle.evm_lines.specs.Lines.{has_line}
use Rattle.evm_dev.specs.Rows.{ticked as tick_row}
use Rattle.evm_exec.specs.declared.hart.Hart.{Hart}
use Rattle.evm_model.specs.Boosts.{is_number}
use Rattle.evm_model.specs.Commands.{tick, set_bits, on_number, set_breakpoint, unset_breakpoint}
use Rattle.evm_model.specs.Devices.{Attached, line_if, raise_line, raise_by_ticks, tick_devices}
use Rattle.evm_model.specs.Harts.{set_register, set_pc}
use Rattle.evm_model.specs.Instructions.{stop}
use Rattle.evm_model.specs.Lists.{change}
use Rattle.evm_model.specs.Memory.{poke}
use Rattle.evm_model.specs.Pipes.{Pipe, raise, count_raise, set_stall, on_passage, count_receipt}
use Rattle.evm_model.specs.Rows.{row, step, single_step}
use Rattle.evm_model.specs.Settle.{current, nudge}
use Rattle.evm_model.specs.State.{Board, Parts, on_pipe, on_parts}
use Rattle.evm_model.specs.declared.counts.Counts.{Counts}
use Rattle.evm_model.specs.declared.counts.Passage.{Passage}
use Rattle.evm_model.specs.Event.{Event}
use Rattle.evm_model.specs.declared.event.Event.TheVariants.{Step, Tick, Raise, Bell, Stop, Go, StepI, SetReg, SetPc, Poke, Break, Unbreak}
use Rattle.evm_model.specs.declared.limits.TheConstants.{DEVICE_LINE}
use Rattle.evm_model.specs.declared.stage.Stage.{Stage}
use Rattle.evm_model.specs.declared.stage.Stage.TheVariants.{OutOfBand, InBand}
use Rattle.evm_model.proofs.Lists.{change-cases}
use Rattle.law_rules.proofs.Counted.{Counted, raise-counted, receive-counted, timer-counted, play-counted}
use Rattle.law_rules.proofs.Lift.{Lifts, At, lift}
use Rattle.law_rules.proofs.RowWalks.{SETTLING_STAMPS, nudges}
use Rattle.law_rules.proofs.Sets.{IsPipe-raise, walk_pipes}
use Rattle.law_rules.proofs.Walk.{Actor, PipeMove, raises, receives, plays_timer, plays_oob, plays_in_band, stalls, ArePipes, Walk, start}
use Rattle.law_rules.specs.Raising.{raises_by_tick}
use Rattle.law_runs.specs.Balance.{is_raise, one_if, line_of_step, device_raises}
use Rattle.law_runs.proofs.Executing.{SETTLING_MOVES, doer, settler, StepParts, step_parts}

-- line l of a pipe was raised r times
pub record LineRaised (l r : ℕ) (p : Pipe) : Type 0 where
  pub times : (n : Counts) → slice_get p.counts l ≡ Some n → n.raised ≡ r

-- .. of processor c's
pub record RaisedIs (c l r : ℕ) (k : Parts) : Type 0 where
  pub times : (p : Pipe) (n : Counts) → slice_get k.pipes c ≡ Some p → slice_get p.counts l ≡ Some n → n.raised ≡ r

counted-raised : (l m r : ℕ) (f : Counts → Counts) (p q : Pipe) → Counted m f p q → ((n : Counts) → l ≡ m → (f n).raised ≡ n.raised) → LineRaised l r p → LineRaised l r q
counted-raised l m r f p q c same s = record {
  times = λ n e. let there : slice_get (change f p.counts m) l ≡ Some n = rw c.counts at e in
      elim (change-cases f p.counts m l n there) [
        | inl g ↦ rw g.3 (same g.1 g.0 ∙ s.times g.1 (rw g.0 g.2))
        | inr g ↦ s.times n g.1
      ];
}

passage-raised : (stage : Stage) (f : Passage → Passage) (n : Counts) → (on_passage stage f n).raised ≡ n.raised
passage-raised OutOfBand f n = refl
passage-raised InBand f n = refl

stall-raised : (l r : ℕ) (stage : Stage) (b : Bool) (p : Pipe) → LineRaised l r p → LineRaised l r (set_stall stage b p)
unfolding set_stall
stall-raised l r OutOfBand b p s = record { times = s.times }
stall-raised l r InBand b p s = record { times = s.times }

move-raised : (l r : ℕ) (may : ℕ → Bool) (n : ℕ) (p q : Pipe) → may l ≡ false → PipeMove may n p q → LineRaised l r p → LineRaised l r q
move-raised l r may _ _ _ o (raises m p h on) s = counted-raised l m r _ p _ (raise-counted m p) (λ n same. let no : true ≡ false = sym on ∙ ap may (sym same) ∙ o in cc) s
move-raised l r may _ _ _ o (receives stage m p fixed h) s = counted-raised l m r _ p _ (receive-counted stage m p) (λ n same. passage-raised stage _ (count_receipt n)) s
move-raised l r may _ _ _ o (plays_timer p h) s = counted-raised l 0 r _ p _ (timer-counted p) (λ n same. refl) s
move-raised l r may _ _ _ o (plays_oob m p other h) s = counted-raised l m r _ p _ (play-counted OutOfBand m p) (λ n same. refl) s
move-raised l r may _ _ _ o (plays_in_band m p h) s = counted-raised l m r _ p _ (play-counted InBand m p) (λ n same. refl) s
move-raised l r may _ _ _ o (stalls stage b p) s = stall-raised l r stage b p s

-- a walk that may not raise it there
pub walk-raised : (c l r : ℕ) (a : Actor) (old : Parts) (n s : ℕ) (k : Parts) → a.may c l ≡ false → ArePipes old → Walk a old n s k → RaisedIs c l r old → RaisedIs c l r k
walk-raised c l r a old n s k o are w h =
    let P : ℕ → Pipe → Type 0 = λ b p. LineRaised l r p in
    let lifts : Lifts (a.may c) P = record { more = λ b m p g q. q; moved = λ b m p q. move-raised l r (a.may c) m p q o } in
    let after : At P c (0 + n) k = lift a old P c lifts are n s 0 k w (record { holds = λ p e. record { times = λ m g. h.times p m e g } }) in
    record { times = λ p m e g. (after.holds p e).times m g }

-- ---- a line is raised
pub raise-raised : (l r : ℕ) (p : Pipe) → LineRaised l r p → LineRaised l (r + 1) (raise l p)
raise-raised l r p s = record {
  times = λ n e. let c = raise-counted l p in
      let there : slice_get (change (count_raise (has_line p.wire l)) p.counts l) l ≡ Some n = rw c.counts at e in
      elim (change-cases (count_raise (has_line p.wire l)) p.counts l l n there) [
        | inl g ↦ rw g.3 (ap (λ x. x + 1) (s.times g.1 g.2))
        | inr g ↦ absurd (g.0 refl)
      ];
}

-- .. another
raise-other : (l m r : ℕ) (p : Pipe) → (l ≡ m → ⊥) → LineRaised l r p → LineRaised l r (raise m p)
raise-other l m r p other s = counted-raised l m r _ p _ (raise-counted m p) (λ n same. absurd (other same)) s

raised_if : (hit : Bool) (l m r : ℕ) (p : Pipe) → (m == l) ≡ hit → LineRaised l r p → LineRaised l (r + one_if hit) (raise m p)
raised_if true l m r p e s = let same : m ≡ l = grind (arith, nat_tests) in rw same (raise-raised l r p s)
raised_if false l m r p e s = record { times = λ n f. omega (arith, (raise-other l m r p (λ same. let yes : (m == l) ≡ true = grind (arith, nat_tests) in cc) s).times n f) }

none_more : (c l r : ℕ) (k : Parts) → RaisedIs c l r k → RaisedIs c l (r + 0) k
none_more c l r k s = record { times = λ p n e f. omega (arith, s.times p n e f) }

-- .. on processor d
raised_on : (here : Bool) (c d l m r : ℕ) (k : Parts) → (d == c) ≡ here → RaisedIs c l r k → RaisedIs c l (r + one_if (here && m == l)) (on_pipe d (raise m) k)
raised_on true c d l m r k h s = let same : d ≡ c = grind (arith, nat_tests) in record {
  times = λ p n e f. elim (change-cases (raise m) k.pipes d c p e) [
    | inl g ↦ let now : slice_get (raise m g.1).counts l ≡ Some n = rw (← g.3) f in (raised_if (m == l) l m r g.1 refl (record { times = λ i j. s.times g.1 i (rw (← same) g.2) j })).times n now
    | inr g ↦ absurd (g.0 (sym same))
  ];
}
raised_on false c d l m r k h s = record {
  times = λ p n e f. elim (change-cases (raise m) k.pipes d c p e) [
    | inl g ↦ let same : d ≡ c = sym g.0 in let yes : (d == c) ≡ true = grind (arith, nat_tests) in cc
    | inr g ↦ omega (arith, s.times p n g.1 f)
  ];
}

pub pipe_raised : (c d l m r : ℕ) (k : Parts) → RaisedIs c l r k → RaisedIs c l (r + one_if (d == c && m == l)) (on_pipe d (raise m) k)
pipe_raised c d l m r k s = raised_on (d == c) c d l m r k refl s

pub and_none : (b : Bool) → (b && false) ≡ false
and_none true = refl
and_none false = refl

-- .. a device's, if one is
pub line_raised : (o : Option ℕ) (c l r : ℕ) (k : Parts) → RaisedIs c l r k → RaisedIs c l (r + one_if (0 == c && is_number o l)) (raise_line o k)
line_raised None c l r k s = rw (and_none (0 == c)) (none_more c l r k s)
line_raised (Some m) c l r k s = pipe_raised c 0 l m r k s

-- ---- a tick
raised_everywhere : (c l r : ℕ) (k : Parts) → RaisedIs c l r k → RaisedIs c l (r + one_if (l == 0)) (tick k)
unfolding tick
raised_everywhere c l r k s = record { times = λ p n e g. ticked (slice_get k.pipes c) p n refl (sym (slice_get-map (raise 0) k.pipes c) ∙ e) g }
  where
    turned : (l == 0) ≡ (0 == l)
    turned = elim (cases_eq l 0) [
      | inl same ↦ rw same refl
      | inr other ↦ let one : (l == 0) ≡ false = grind (arith, nat_tests) in let two : (0 == l) ≡ false = grind (arith, nat_tests) in one ∙ sym two
    ]

    ticked : (o : Option Pipe) (p : Pipe) (n : Counts) → slice_get k.pipes c ≡ o → option_map (raise 0) o ≡ Some p → slice_get p.counts l ≡ Some n → n.raised ≡ r + one_if (l == 0)
    ticked None p n e f g = cc
    ticked (Some old) p n e f g =
        let now : slice_get (raise 0 old).counts l ≡ Some n = let same : raise 0 old ≡ p = cc in rw same g in
        rw turned ((raised_if (0 == l) l 0 r old refl (record { times = λ m h. s.times old m e h })).times n now)

-- whether one of the devices, of which the first is device i, raises this line by its tick
abbrev ticks_line : ℕ → ℕ → List Attached → Bool
ticks_line l i devices = nat_le (DEVICE_LINE + i) l && raises_by_tick (slice_get devices (l - (DEVICE_LINE + i)))

sums_here : (raise here later rest first its : Bool) → here ≡ true → later ≡ false → first ≡ true → its ≡ raise → one_if (raise && here) + one_if (later && rest) ≡ one_if (first && its)
sums_here true here later rest first its a b c d = rw (a, b, c, d) refl
sums_here false here later rest first its a b c d = rw (b, c, d) refl

sums_above : (raise here later rest first its : Bool) → here ≡ false → later ≡ first → rest ≡ its → one_if (raise && here) + one_if (later && rest) ≡ one_if (first && its)
sums_above true here later rest first its a b c = rw (a, b, c) (omega arith)
sums_above false here later rest first its a b c = rw (b, c) (omega arith)

ticks_split : (l i : ℕ) (device : Attached) (devices : List Attached)
    → one_if ((tick_row device.kind device.words).raise && DEVICE_LINE + i == l) + one_if (ticks_line l (suc i) devices) ≡ one_if (ticks_line l i (device ∷ devices))
ticks_split l i device devices = elim (cases_eq (DEVICE_LINE + i) l) [
  | inl same ↦
      let none : l - (DEVICE_LINE + i) ≡ 0 = omega arith in
      sums_here (tick_row device.kind device.words).raise (DEVICE_LINE + i == l) (nat_le (DEVICE_LINE + suc i) l) (raises_by_tick (slice_get devices (l - (DEVICE_LINE + suc i)))) (nat_le (DEVICE_LINE + i) l)
      (raises_by_tick (slice_get (device ∷ devices) (l - (DEVICE_LINE + i)))) (grind (arith, nat_tests)) (grind (arith, nat_tests)) (grind (arith, nat_tests)) (ap (λ (n : ℕ). raises_by_tick (slice_get (device ∷ devices) n)) none)
  | inr other ↦ by (nat_le (DEVICE_LINE + i) l) refl other
]
  where
    by : (b : Bool) → nat_le (DEVICE_LINE + i) l ≡ b → (DEVICE_LINE + i ≡ l → ⊥)
        → one_if ((tick_row device.kind device.words).raise && DEVICE_LINE + i == l) + one_if (ticks_line l (suc i) devices) ≡ one_if (ticks_line l i (device ∷ devices))
    by true e other =
        let least : DEVICE_LINE + i ≤ l = grind (arith, nat_tests) in
        let one : l - (DEVICE_LINE + i) ≡ suc (l - (DEVICE_LINE + suc i)) = omega (arith, other) in
        let more : DEVICE_LINE + suc i ≤ l = omega (arith, other) in
        let later : nat_le (DEVICE_LINE + suc i) l ≡ true = grind (arith, nat_tests) in
        sums_above (tick_row device.kind device.words).raise (DEVICE_LINE + i == l) (nat_le (DEVICE_LINE + suc i) l) (raises_by_tick (slice_get devices (l - (DEVICE_LINE + suc i)))) (nat_le (DEVICE_LINE + i) l)
        (raises_by_tick (slice_get (device ∷ devices) (l - (DEVICE_LINE + i)))) (grind (arith, nat_tests)) (later ∙ sym e) (ap (λ (n : ℕ). raises_by_tick (slice_get (device ∷ devices) n)) (sym one))
    by false e other =
        let less : l < DEVICE_LINE + i = grind (arith, nat_tests) in
        let later : nat_le (DEVICE_LINE + suc i) l ≡ false = grind (arith, nat_tests) in
        rw (e, later) (none_of (tick_row device.kind device.words).raise (DEVICE_LINE + i == l) (grind (arith, nat_tests)))
      where
        none_of : (raise here : Bool) → here ≡ false → one_if (raise && here) + 0 ≡ 0
        none_of true here h = rw h refl
        none_of false here h = refl

own_line : (b : Bool) (i l : ℕ) → is_number (line_if b i) l ≡ (b && DEVICE_LINE + i == l)
own_line true i l = refl
own_line false i l = refl

more_and : (x a b : Bool) (t : Bool) → one_if a + one_if b ≡ one_if t → one_if (x && a) + one_if (x && b) ≡ one_if (x && t)
more_and true a b t e = e
more_and false a b t e = refl

recount : (c l r s : ℕ) (k : Parts) → r ≡ s → RaisedIs c l r k → RaisedIs c l s k
recount c l r s k e h = rw (← e) h

ticks_raised : (c l r i : ℕ) (devices : List Attached) (k : Parts) → RaisedIs c l r k → RaisedIs c l (r + one_if (0 == c && ticks_line l i devices)) (raise_by_ticks i devices k)
unfolding raise_by_ticks
ticks_raised c l r i [] k s = rw (and_none (nat_le (DEVICE_LINE + i) l), and_none (0 == c)) (none_more c l r k s)
ticks_raised c l r i (device ∷ devices) k s =
    let raise : Bool = (tick_row device.kind device.words).raise in
    let here : Bool = raise && DEVICE_LINE + i == l in
    let first : RaisedIs c l (r + one_if (0 == c && here)) (raise_line (line_if raise i) k) = rw (← own_line raise i l) (line_raised (line_if raise i) c l r k s) in
    let sum = more_and (0 == c) here (ticks_line l (suc i) devices) (ticks_line l i (device ∷ devices)) (ticks_split l i device devices) in
    recount c l _ _ _ (omega (arith, sum)) (ticks_raised c l (r + one_if (0 == c && here)) (suc i) devices (raise_line (line_if raise i) k) first)

-- ---- a step
pub line_pipes : (o : Option ℕ) (k : Parts) → ArePipes k → ArePipes (raise_line o k)
line_pipes None k are = are
line_pipes (Some m) k are = record {
  each = λ c p e. elim (change-cases (raise m) k.pipes 0 c p e) [
    | inl g ↦ rw g.3 (IsPipe-raise m g.1 (are.each 0 g.1 g.2))
    | inr g ↦ are.each c p g.1
  ];
}

-- others are told by line 1
abbrev pub teller : ℕ → Actor
teller c = record { cpu = c; task = None; may = λ d l. l == 1; chooses = false; calls = false; faults = false }

pub nudge_walk : (c : ℕ) (k : Parts) → Walk (teller c) k 1 0 (nudge c k)
nudge_walk c k = nudges (teller c) k 0 0 k (λ d. refl) start

-- up to where others are told
pub before_told : (c l r d : ℕ) (b : Board) (p : StepParts d b (step d b)) → ArePipes b.parts → RaisedIs c l r b.parts → RaisedIs c l (r + one_if (0 == c && is_number (line_of_step (step d b).1 b) l)) p.settled
before_told c l r d b p are s =
    let line : Option ℕ = line_of_step (step d b).1 b in
    let were : ArePipes p.before = walk_pipes (doer d p.task) b.parts 1 65 p.before p.acts are in
    let before : RaisedIs c l r p.before = walk-raised c l r (doer d p.task) b.parts 1 65 p.before refl are p.acts s in
    walk-raised c l _ (settler d) (raise_line line p.before) SETTLING_MOVES SETTLING_STAMPS p.settled refl (line_pipes line p.before were) p.settles (line_raised line c l r p.before before)

pub settled_pipes : (d : ℕ) (b : Board) (p : StepParts d b (step d b)) → ArePipes b.parts → ArePipes p.settled
settled_pipes d b p are =
    let line : Option ℕ = line_of_step (step d b).1 b in
    walk_pipes (settler d) (raise_line line p.before) SETTLING_MOVES SETTLING_STAMPS p.settled p.settles (line_pipes line p.before (walk_pipes (doer d p.task) b.parts 1 65 p.before p.acts are))

step_raised : (c l r d : ℕ) (b : Board) → ArePipes b.parts → (l ≡ 1 → ⊥) → RaisedIs c l r b.parts → RaisedIs c l (r + one_if (0 == c && is_number (line_of_step (step d b).1 b) l)) (step d b).0.parts
step_raised c l r d b are other s =
    let p : StepParts d b (step d b) = step_parts d b in
    let n : ℕ = r + one_if (0 == c && is_number (line_of_step (step d b).1 b) l) in
    let settled : RaisedIs c l n p.settled = before_told c l r d b p are s in
    let o : (l == 1) ≡ false = grind (arith, nat_tests) in
    elim p.told [
      | inl same ↦ subst (RaisedIs c l n) (sym same) settled
      | inr told ↦ subst (RaisedIs c l n) (sym told) (walk-raised c l n (teller d) p.settled 1 0 (nudge d p.settled) o (settled_pipes d b p are) (nudge_walk d p.settled) settled)
    ]

-- ---- a row
pub number_pipes : (o : Option ℕ) (f : Hart → Hart) (k : Parts) → (on_number o f k).pipes ≡ k.pipes
number_pipes None f k = refl
number_pipes (Some t) f k = refl

same_pipes : (c l r : ℕ) (k x : Parts) → x.pipes ≡ k.pipes → RaisedIs c l r k → RaisedIs c l (r + 0 + one_if (0 == c && false)) x
same_pipes c l r k x same s = rw (and_none (0 == c)) (record { times = λ p n e f. omega (arith, s.times p n (ap (λ (ps : List Pipe). slice_get ps c) (sym same) ∙ e) f) })

abbrev pub is_step : Event → Bool
is_step (Step c) = true
is_step (StepI c) = true
is_step _ = false

module _ (b : Board) (c l r : ℕ) (s : RaisedIs c l r b.parts) where
  -- what names an event
  named : (hit : Bool) (k : Parts) → RaisedIs c l (r + one_if hit) k → RaisedIs c l (r + one_if hit + one_if (0 == c && false)) k
  named hit k h = rw (and_none (0 == c)) (none_more c l (r + one_if hit) k h)

  ticked_row : RaisedIs c l (r + one_if (l == 0) + one_if (0 == c && device_raises l Tick b)) (row Tick b).0.parts
  unfolding row tick_devices
  ticked_row =
      let n : ℕ = one_if (0 == c && ticks_line l 0 b.memory.devices) in
      recount c l (r + n + one_if (l == 0)) (r + one_if (l == 0) + n) _ (omega arith) (raised_everywhere c l (r + n) _ (ticks_raised c l r 0 b.memory.devices b.parts s))

  -- an event that is no step
  pub other-raised : (event : Event) → is_step event ≡ false → RaisedIs c l (r + one_if (is_raise c l event) + one_if (0 == c && device_raises l event b)) (row event b).0.parts
  unfolding row stop set_bits poke set_breakpoint unset_breakpoint
  other-raised (Step d) e = cc
  other-raised Tick e = ticked_row
  other-raised (Raise d m) e = named (d == c && m == l) _ (pipe_raised c d l m r b.parts s)
  other-raised (Bell d m) e = named (d == c && m == l) _ (pipe_raised c d l m r b.parts s)
  other-raised (Stop d) e = same_pipes c l r b.parts _ refl s
  other-raised (Go d) e = same_pipes c l r b.parts _ refl s
  other-raised (StepI d) e = cc
  other-raised (SetReg d x value) e = same_pipes c l r b.parts _ (number_pipes (current d b.parts) (set_register x value) b.parts) s
  other-raised (SetPc d pc) e = same_pipes c l r b.parts _ (number_pipes (current d b.parts) (set_pc pc) b.parts) s
  other-raised (Poke address bytes) e = same_pipes c l r b.parts _ refl s
  other-raised (Break address) e = same_pipes c l r b.parts _ refl s
  other-raised (Unbreak address) e = same_pipes c l r b.parts _ refl s

  module _ (are : ArePipes b.parts) (other : l ≡ 1 → ⊥) where
    stepped : (hit : Bool) (k : Parts) → RaisedIs c l (r + one_if (0 == c && hit)) k → RaisedIs c l (r + 0 + one_if (0 == c && hit)) k
    stepped hit k h = recount c l _ _ k (omega arith) h

    singly : (d : ℕ) → RaisedIs c l (r + one_if (0 == c && device_raises l (StepI d) b)) (single_step d b).parts
    unfolding single_step set_bits
    singly d =
        let freed : Board = on_parts (set_bits false true d) b in
        record { times = (step_raised c l r d freed (record { each = are.each }) other (record { times = s.times })).times }

    pub row-raised : (event : Event) → RaisedIs c l (r + one_if (is_raise c l event) + one_if (0 == c && device_raises l event b)) (row event b).0.parts
    unfolding row
    row-raised (Step d) = stepped (is_number (line_of_step (step d b).1 b) l) _ (step_raised c l r d b are other s)
    row-raised (StepI d) = stepped (device_raises l (StepI d) b) _ (singly d)
    row-raised event = other-raised event refl
