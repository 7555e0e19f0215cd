-- The balance over a list of events.
use Rattle.std.proofs.Common.{◌≡◌, ℕ, suc, ◌+◌, ◌<◌, ◌≤◌, List, [], ◌∷◌, ◌++◌, Bool, true, false, cond, Option, Some, None, length, inl, inr, refl, ap, sym, ◌∙◌, subst, arith}
use Rattle.std.specs.Prelude.{◌-◌, slice_get, option_map, count_by, replicate, nat_le, nat_lt, ◌==◌, ◌&&◌, if◌then◌else◌}
use Rattle.std.proofs.lemmas.Bool.Decides.{nat_tests}
use Rattle.std.proofs.lemmas.List.{length-map, length-replicate}
use Rattle.std.proofs.lemmas.List.Sums.{sum_by-append}
use Rattle.std.proofs.lemmas.Option.{slice_get-map}
use Rattle.evm_lines.specs.Laws.{IsLineSet-empty}
use Rattle.evm_lines.specs.declared.TheConstants.{LINES}
use Rattle.evm_dev.specs.Rows.{ticked}
use Rattle.evm_model.specs.Boosts.{is_number}
use Rattle.evm_model.specs.Commands.{tick, set_bits, set_breakpoint, unset_breakpoint}
use Rattle.evm_model.specs.Devices.{Attached, line_if, raise_line, raise_by_ticks, tick_devices}
use Rattle.evm_model.specs.Harts.{set_register, set_pc}
use Rattle.evm_model.specs.Instructions.{stop}
use Rattle.evm_model.specs.Load.{start_loaded, load_board}
use Rattle.evm_model.specs.Memory.{poke}
use Rattle.evm_model.specs.Pipes.{Pipe, idle_pipe, no_counts, more_if, raise}
use Rattle.evm_model.specs.Refusals.{board_refusal, is_full}
use Rattle.evm_model.specs.Replay.{start, replay, apply, apply_unless, accept, left_by}
use Rattle.evm_model.specs.Rows.{row, step, single_step}
use Rattle.evm_model.specs.Settle.{current, nudge}
use Rattle.evm_model.specs.State.{State, Board, Parts, booted, booted_parts, on_parts, on_pipe}
use Rattle.evm_model.specs.declared.boot.Boot.{Boot}
use Rattle.evm_model.specs.declared.limits.TheConstants.{DEVICE_LINE}
use Rattle.evm_model.specs.declared.refusal.Refusal.{Refusal}
use Rattle.evm_model.specs.declared.refusal.Refusal.TheVariants.{Full}
use Rattle.evm_model.specs.Event.{Event}
use Rattle.evm_model.specs.declared.event.Event.TheVariants.{Step, Tick, Raise, Bell, Stop, Go, StepI, SetReg, SetPc, Poke, Break, Unbreak}
use Rattle.evm_model.proofs.Lists.{change-cases, slice_get-replicate, slice_get-below}
use Rattle.law_rules.proofs.Lift.{Lifts, lift}
use Rattle.law_rules.proofs.Walk.{Actor, ArePipes, Walk}
use Rattle.law_rules.specs.Raising.{raises_by_tick}
use Rattle.law_runs.specs.Balance.{IsFresh, AlwaysBalances, AlwaysBalancesLoaded, AlwaysBalancesFresh, AlwaysRaises, AlwaysRaisesLoaded, AlwaysRaisesFresh, is_raise, one_if, is_device_line, line_of_step, device_raises, device_raised, device_count}
use Rattle.law_runs.proofs.Balance.{PipeBalances, move-balances, raise_balances}
use Rattle.law_runs.specs.Kept.{kinds}
use Rattle.law_runs.proofs.Commands.{row-counts}
use Rattle.law_rules.proofs.RowWalks.{SETTLING_STAMPS}
use Rattle.law_runs.proofs.Executing.{SETTLING_MOVES, doer, settler, step_parts}
use Rattle.law_runs.proofs.Instructions.{step_writes}
use Rattle.law_runs.proofs.Raised.{RaisedIs, row-raised, teller, nudge_walk, number_pipes, and_none}

pub record PipesBalance (k : Parts) : Type 0 where
  pub each : (c : ℕ) (p : Pipe) → slice_get k.pipes c ≡ Some p → PipeBalances p

walk-balance : (a : Actor) (old : Parts) (n s : ℕ) (k : Parts) → Walk a old n s k → PipesBalance old → PipesBalance k
walk-balance a old n s k w h =
    let P : ℕ → Pipe → Type 0 = λ b p. PipeBalances p in
    let are : ArePipes old = record { each = λ c p e. (h.each c p e).pipe } in
    record {
      each = λ c p e.
          let lifts : Lifts (a.may c) P = record { more = λ b m q g x. x; moved = λ b m q y. move-balances (a.may c) m q y } in
          (lift a old P c lifts are n s 0 k w (record { holds = h.each c })).holds p e;
    }

pub pipes_of : (k : Parts) → PipesBalance k → ArePipes k
pipes_of k s = record { each = λ c p e. (s.each c p e).pipe }

-- ---- a row
pipe_balance : (d l : ℕ) (k : Parts) → PipesBalance k → PipesBalance (on_pipe d (raise l) k)
pipe_balance d l k s = record {
  each = λ c p e. elim (change-cases (raise l) k.pipes d c p e) [
    | inl g ↦ rw g.3 (raise_balances l g.1 (s.each d g.1 g.2))
    | inr g ↦ s.each c p g.1
  ];
}

line_balance : (o : Option ℕ) (k : Parts) → PipesBalance k → PipesBalance (raise_line o k)
line_balance None k s = s
line_balance (Some l) k s = pipe_balance 0 l k s

ticks_balance : (i : ℕ) (devices : List Attached) (k : Parts) → PipesBalance k → PipesBalance (raise_by_ticks i devices k)
unfolding raise_by_ticks
ticks_balance i [] k s = s
ticks_balance i (device ∷ devices) k s = ticks_balance (suc i) devices _ (line_balance (line_if (ticked device.kind device.words).raise i) k s)

tick_balance : (k : Parts) → PipesBalance k → PipesBalance (tick k)
unfolding tick
tick_balance k s = record { each = λ c p e. by c p (slice_get k.pipes c) refl (sym (slice_get-map (raise 0) k.pipes c) ∙ e) }
  where
    by : (c : ℕ) (p : Pipe) (o : Option Pipe) → slice_get k.pipes c ≡ o → option_map (raise 0) o ≡ Some p → PipeBalances p
    by c p None f e = cc
    by c p (Some old) f e = let same : raise 0 old ≡ p = cc in rw (← same) (raise_balances 0 old (s.each c old f))

step_balance : (c : ℕ) (b : Board) → PipesBalance b.parts → PipesBalance (step c b).0.parts
step_balance c b s =
    let p = step_parts c b in
    let line : Option ℕ = line_of_step (step c b).1 b in
    let before : PipesBalance p.before = walk-balance (doer c p.task) b.parts 1 65 p.before p.acts s in
    let settled : PipesBalance p.settled = walk-balance (settler c) (raise_line line p.before) SETTLING_MOVES SETTLING_STAMPS p.settled p.settles (line_balance line p.before before) in
    elim p.told [
      | inl same ↦ subst PipesBalance (sym same) settled
      | inr told ↦ subst PipesBalance (sym told) (walk-balance (teller c) p.settled 1 0 (nudge c p.settled) (nudge_walk c p.settled) settled)
    ]

single_balance : (c : ℕ) (b : Board) → PipesBalance b.parts → PipesBalance (single_step c b).parts
unfolding single_step set_bits
single_balance c b s = record { each = (step_balance c (on_parts (set_bits false true c) b) (record { each = s.each })).each }

same_balance : (k x : Parts) → x.pipes ≡ k.pipes → PipesBalance k → PipesBalance x
same_balance k x same s = record { each = λ c p e. s.each c p (ap (λ (ps : List Pipe). slice_get ps c) (sym same) ∙ e) }

row_balance : (event : Event) (b : Board) → PipesBalance b.parts → PipesBalance (row event b).0.parts
unfolding row stop set_bits poke set_breakpoint unset_breakpoint tick_devices
row_balance (Step c) b s = step_balance c b s
row_balance Tick b s = tick_balance _ (ticks_balance 0 b.memory.devices b.parts s)
row_balance (Raise c l) b s = pipe_balance c l b.parts s
row_balance (Bell c l) b s = pipe_balance c l b.parts s
row_balance (Stop c) b s = same_balance b.parts _ refl s
row_balance (Go c) b s = same_balance b.parts _ refl s
row_balance (StepI c) b s = single_balance c b s
row_balance (SetReg c r value) b s = same_balance b.parts _ (number_pipes (current c b.parts) (set_register r value) b.parts) s
row_balance (SetPc c pc) b s = same_balance b.parts _ (number_pipes (current c b.parts) (set_pc pc) b.parts) s
row_balance (Poke address bytes) b s = same_balance b.parts _ refl s
row_balance (Break address) b s = same_balance b.parts _ refl s
row_balance (Unbreak address) b s = same_balance b.parts _ refl s

-- ---- the count of the journal
one_last : (b : Bool) (n : ℕ) → n + (0 + cond b 1 0) ≡ more_if b n
one_last true n = omega arith
one_last false n = omega arith

pub count_last : (test : Event → Bool) (events : List Event) (event : Event) → count_by test (events ++ event ∷ []) ≡ more_if (test event) (count_by test events)
count_last test events event = sum_by-append (λ (e : Event). cond (test e) 1 0) events (event ∷ []) ∙ one_last (test event) (count_by test events)

pub more_is : (b : Bool) (r : ℕ) → more_if b r ≡ r + one_if b
more_is true r = refl
more_is false r = omega arith

-- ---- a run
-- each line balances, and line l of c was raised as often as the journal says and so many times more
record RunBalances (c l times : ℕ) (s : State) : Type 0 where
  pipes : PipesBalance s.board.parts
  raised : (l ≡ 1 → ⊥) → RaisedIs c l (count_by (is_raise c l) s.journal + times) s.board.parts

accepted : (c l times : ℕ) (s : State) (event : Event) → RunBalances c l times s → RunBalances c l (times + one_if (0 == c && device_raises l event s.board)) (accept event (row event s.board) s).0
accepted c l times s event h = record {
  pipes = row_balance event s.board h.pipes;
  raised = λ o.
      let r : ℕ = count_by (is_raise c l) s.journal + times in
      let now = row-raised s.board c l r (h.raised o) (pipes_of s.board.parts h.pipes) o event in
      let sum : r + one_if (is_raise c l event) + one_if (0 == c && device_raises l event s.board) ≡ count_by (is_raise c l) (s.journal ++ event ∷ []) + (times + one_if (0 == c && device_raises l event s.board)) =
      (let last = count_last (is_raise c l) s.journal event in let more = more_is (is_raise c l event) (count_by (is_raise c l) s.journal) in omega (arith, last, more)) in
      subst (λ (n : ℕ). RaisedIs c l n (row event s.board).0.parts) sum now;
}

left : (c l times : ℕ) (s : State) (event : Event) (full : Bool) (own : Option Refusal) → RunBalances c l times s
    → RunBalances c l (times + one_if (device_raised c l s event (apply_unless (if full then Some Full else own) event s))) (left_by (apply_unless (if full then Some Full else own) event s) s)
left c l times s event true own h = record { pipes = h.pipes; raised = λ o. record { times = λ p n e f. omega (arith, (h.raised o).times p n e f) } }
left c l times s event false (Some refusal) h = record { pipes = h.pipes; raised = λ o. record { times = λ p n e f. omega (arith, (h.raised o).times p n e f) } }
left c l times s event false None h = accepted c l times s event h

after : (c l times : ℕ) (s : State) (events : List Event) → RunBalances c l times s → RunBalances c l (times + device_count c l s events) (replay s events)
unfolding replay device_count apply
after c l times s [] h = record { pipes = h.pipes; raised = λ o. record { times = λ p n e f. omega (arith, (h.raised o).times p n e f) } }
after c l times s (event ∷ events) h =
    let first = left c l times s event (is_full s) (board_refusal event s.board) h in
    let hit : ℕ = one_if (device_raised c l s event (apply s event)) in
    let rest = after c l (times + hit) (left_by (apply s event) s) events first in
    record { pipes = rest.pipes; raised = λ o. record { times = λ p n e f. omega (arith, (rest.raised o).times p n e f) } }

-- ---- the lines that no device has
no_line : (c l count : ℕ) (n : Option ℕ) → (0 == c && (nat_le DEVICE_LINE l && nat_lt l (DEVICE_LINE + count))) ≡ false
    → ((m : ℕ) → n ≡ Some m → (j : ℕ) × ((j < count) × (m ≡ DEVICE_LINE + j))) → (0 == c && is_number n l) ≡ false
no_line c l count n off is = by (0 == c) n off is
  where
    by : (here : Bool) (n : Option ℕ) → (here && (nat_le DEVICE_LINE l && nat_lt l (DEVICE_LINE + count))) ≡ false
        → ((m : ℕ) → n ≡ Some m → (j : ℕ) × ((j < count) × (m ≡ DEVICE_LINE + j))) → (here && is_number n l) ≡ false
    by false n off is = refl
    by true None off is = refl
    by true (Some m) off is = other (m == l) refl
      where
        other : (b : Bool) → (m == l) ≡ b → b ≡ false
        other false e = refl
        other true e =
            let w = is m refl in
            let same : m ≡ l = grind (arith, nat_tests) in
            let one : DEVICE_LINE ≤ l = omega (arith, w.1.1) in
            let two : l < DEVICE_LINE + count = omega (arith, w.1.0, w.1.1) in
            let left : nat_le DEVICE_LINE l ≡ true = grind (arith, nat_tests) in
            let right : nat_lt l (DEVICE_LINE + count) ≡ true = grind (arith, nat_tests) in
            let no : (nat_le DEVICE_LINE l && nat_lt l (DEVICE_LINE + count)) ≡ true = rw (left, right) refl in
            cc

-- no device of the line is there to raise it
ticks_none : (c l : ℕ) (devices : List Attached) → is_device_line c l devices ≡ false → (0 == c && (nat_le DEVICE_LINE l && raises_by_tick (slice_get devices (l - DEVICE_LINE)))) ≡ false
ticks_none c l devices off = by (0 == c) (nat_le DEVICE_LINE l) (slice_get devices (l - DEVICE_LINE)) off refl refl
  where
    by : (here from : Bool) (o : Option Attached) → (here && (from && nat_lt l (DEVICE_LINE + length devices))) ≡ false → nat_le DEVICE_LINE l ≡ from → slice_get devices (l - DEVICE_LINE) ≡ o
        → (here && (from && raises_by_tick o)) ≡ false
    by false from o off e f = refl
    by true false o off e f = refl
    by true true None off e f = refl
    by true true (Some device) off e f =
        let least : DEVICE_LINE ≤ l = grind (arith, nat_tests) in
        let below : l - DEVICE_LINE < length devices = slice_get-below devices (l - DEVICE_LINE) device f in
        let less : l < DEVICE_LINE + length devices = omega arith in
        let yes : nat_lt l (DEVICE_LINE + length devices) ≡ true = grind (arith, nat_tests) in
        let no : true ≡ false = sym yes ∙ off in cc

device_none : (c l : ℕ) (event : Event) (b : Board) → is_device_line c l b.memory.devices ≡ false → (0 == c && device_raises l event b) ≡ false
device_none c l (Step d) b off = no_line c l (length b.memory.devices) (line_of_step (step d b).1 b) off (λ m e. (step_writes d b).line m e)
device_none c l (StepI d) b off =
    let freed : Board = on_parts (set_bits false true d) b in no_line c l (length b.memory.devices) (line_of_step (step d freed).1 freed) off (λ m e. (step_writes d freed).line m e)
device_none c l Tick b off = ticks_none c l b.memory.devices off
device_none c l _ b off = and_none (0 == c)

pub same_length : (x y : List Attached) → kinds x ≡ kinds y → length x ≡ length y
same_length x y e = sym (length-map x (λ (device : Attached). device.kind)) ∙ ap length e ∙ length-map y (λ (device : Attached). device.kind)

same_lines : (c l : ℕ) (x y : List Attached) → length x ≡ length y → is_device_line c l x ≡ is_device_line c l y
same_lines c l x y e = ap (λ (n : ℕ). 0 == c && (nat_le DEVICE_LINE l && nat_lt l (DEVICE_LINE + n))) e

none_counted : (c l : ℕ) (s : State) (event : Event) (full : Bool) (own : Option Refusal) → is_device_line c l s.board.memory.devices ≡ false
    → (is_device_line c l (left_by (apply_unless (if full then Some Full else own) event s) s).board.memory.devices ≡ false) × (one_if (device_raised c l s event (apply_unless (if full then Some Full else own) event s)) ≡ 0)
none_counted c l s event true own off = (off, refl)
none_counted c l s event false (Some refusal) off = (off, refl)
none_counted c l s event false None off = (
  same_lines c l (row event s.board).0.memory.devices s.board.memory.devices (same_length _ _ (row-counts event s.board).devices) ∙ off,
  ap one_if (device_none c l event s.board off),
)

counts_none : (c l : ℕ) (s : State) (events : List Event) → is_device_line c l s.board.memory.devices ≡ false → (is_device_line c l (replay s events).board.memory.devices ≡ false) × (device_count c l s events ≡ 0)
unfolding replay device_count apply
counts_none c l s [] off = (off, refl)
counts_none c l s (event ∷ events) off =
    let first = none_counted c l s event (is_full s) (board_refusal event s.board) off in
    let rest = counts_none c l (left_by (apply s event) s) events first.0 in
    (rest.0, omega (arith, first.1, rest.1))

-- .. after a run neither
lines_stay : (c l : ℕ) (s : State) (events : List Event) → is_device_line c l (replay s events).board.memory.devices ≡ is_device_line c l s.board.memory.devices
unfolding replay apply
lines_stay c l s [] = refl
lines_stay c l s (event ∷ events) = lines_stay c l (left_by (apply s event) s) events ∙ by (is_full s) (board_refusal event s.board)
  where
    by : (full : Bool) (own : Option Refusal) → is_device_line c l (left_by (apply_unless (if full then Some Full else own) event s) s).board.memory.devices ≡ is_device_line c l s.board.memory.devices
    by true own = refl
    by false (Some refusal) = refl
    by false None = same_lines c l (row event s.board).0.memory.devices s.board.memory.devices (same_length _ _ (row-counts event s.board).devices)

-- ---- the start
pub idle_balances : PipeBalances idle_pipe
idle_balances = record {
  pipe = record { wire = IsLineSet-empty; oob = IsLineSet-empty; in_band = IsLineSet-empty; counts = length-replicate LINES no_counts };
  lines = λ l n e. rw (slice_get-replicate LINES no_counts l n e) (record {
    wire = refl;
    oob = refl;
    in_band = refl;
    routes = record { oob_lines = λ h. refl; timer = λ h. refl; request = λ h. refl; others = λ h. refl };
  });
}

fresh_run : (c l : ℕ) (s : State) → IsFresh s → RunBalances c l 0 s
fresh_run c l s f = record {
  pipes = record { each = λ d p e. rw (f.pipes d p e) idle_balances };
  raised = λ o. record {
    times = λ p n e g. let there : slice_get (replicate LINES no_counts) l ≡ Some n = rw (f.pipes c p e) at g in
        rw (f.journal, slice_get-replicate LINES no_counts l n there) refl;
  };
}

pub always_raises_fresh : AlwaysRaisesFresh
always_raises_fresh s f events c l p n e g o = omega (arith, ((after c l 0 s events (fresh_run c l s f)).raised o).times p n e g)

pub always_balances_fresh : AlwaysBalancesFresh
always_balances_fresh s f events = record {
  each = λ c l p n e g. ((after c l 0 s events (fresh_run c l s f)).pipes.each c p e).lines l n g;
  raised = λ c l p n e g o off.
      let none = (counts_none c l s events (sym (lines_stay c l s events) ∙ off)).1 in omega (arith, none, always_raises_fresh s f events c l p n e g o);
}

fresh_start : (devices : List Attached) (boot : Boot) → IsFresh (start devices boot)
unfolding booted booted_parts
fresh_start devices boot = record { journal = refl; pipes = λ c p e. slice_get-replicate boot.cpus idle_pipe c p e }

fresh_loaded : (devices : List Attached) (byte : ℕ → ℕ) (entry : ℕ) (boot : Boot) → IsFresh (start_loaded devices byte entry boot)
unfolding booted booted_parts load_board
fresh_loaded devices byte entry boot = record { journal = refl; pipes = λ c p e. slice_get-replicate boot.cpus idle_pipe c p e }

pub always_balances : AlwaysBalances
always_balances devices boot = always_balances_fresh (start devices boot) (fresh_start devices boot)

pub always_balances_loaded : AlwaysBalancesLoaded
always_balances_loaded devices byte entry boot = always_balances_fresh (start_loaded devices byte entry boot) (fresh_loaded devices byte entry boot)

pub always_raises : AlwaysRaises
always_raises devices boot = always_raises_fresh (start devices boot) (fresh_start devices boot)

pub always_raises_loaded : AlwaysRaisesLoaded
always_raises_loaded devices byte entry boot = always_raises_fresh (start_loaded devices byte entry boot) (fresh_loaded devices byte entry boot)
