-- Counts stay small.
use Rattle.std.proofs.Common.{◌≡◌, ℕ, suc, List, ◌+◌, ◌*◌, ◌<◌, ◌≤◌, [], ◌∷◌, ◌++◌, Bool, true, false, Option, Some, None, length, length-append, refl, ap, ◌∙◌, arith, leb-false}
use Rattle.std.specs.Prelude.{slice_get, count_by, replicate, ◌==◌, nat_lt, if◌then◌else◌}
use Rattle.std.proofs.lemmas.Bool.Decides.{nat_tests}
use Rattle.std.proofs.lemmas.List.{length-replicate}
use Rattle.std.proofs.lemmas.List.Sums.{count_by-le-length}
use Rattle.evm_exec.specs.declared.hart.Hart.{Hart}
use Rattle.evm_lines.specs.declared.TheConstants.{LINES}
use Rattle.evm_model.specs.Bounds.{PER_EVENT, STAMPS_PER_EVENT, PipesUpTo}
use Rattle.evm_model.specs.Commands.{tick, set_bits, on_number, set_breakpoint, unset_breakpoint}
use Rattle.evm_dev.specs.Rows.{ticked}
use Rattle.evm_model.specs.Devices.{Attached, line_if, raise_line, raise_by_ticks, tick_devices}
use Rattle.evm_model.specs.Good.{is_tick}
use Rattle.evm_model.specs.Harts.{set_register, set_pc}
use Rattle.evm_model.specs.Instructions.{stop}
use Rattle.evm_model.specs.Load.{load_board, start_loaded}
use Rattle.evm_model.specs.Pipes.{idle_pipe, no_counts, more_if}
use Rattle.evm_model.specs.Replay.{bad_boot, start}
use Rattle.evm_model.specs.Rows.{row, single_step}
use Rattle.evm_model.specs.Settle.{current}
use Rattle.evm_model.specs.State.{State, Board, Parts, booted, booted_parts, on_parts}
use Rattle.evm_model.specs.declared.boot.Boot.{Boot}
use Rattle.evm_model.specs.Event.{Event}
use Rattle.evm_model.specs.declared.event.Event.TheVariants.{Step, Tick, Raise, Bell, Stop, Go, StepI, SetReg, SetPc, Poke, Break, Unbreak}
use Rattle.evm_model.specs.declared.limits.TheConstants.{CAPACITY_LIMIT, DEVICE_LIMIT}
use Rattle.evm_model.proofs.Lists.{slice_get-replicate}
use Rattle.law_rules.proofs.Counted.{walk_counted, PipesUpTo-more}
use Rattle.law_rules.proofs.Held.{held_more, walk_holds}
use Rattle.law_rules.proofs.RowWalks.{MOVES, acting, row_walks}
use Rattle.law_rules.proofs.Runs.{IsKept, replay_keeps}
use Rattle.law_rules.proofs.Sets.{walk_pipes}
use Rattle.law_rules.proofs.Walk.{Actor, ArePipes}
use Rattle.law_rules.proofs.States.{boot-tests}
use Rattle.law_runs.specs.Fit.{CountsFit, IsUncounted, CountsAlwaysFit, CountsAlwaysFitLoaded, CountsAlwaysFitFresh, HoldsFit, HoldsAlwaysFit, HoldsAlwaysFitLoaded, HoldsAlwaysFitFresh}
use Rattle.law_runs.proofs.Commands.{row-counts}
use Rattle.law_runs.proofs.Runs.{idle_balances, count_last, same_length}
use Rattle.law_runs.proofs.Counts.{step_ticks}

-- ---- the clock
number-ticks : (o : Option ℕ) (f : Hart → Hart) (k : Parts) → (on_number o f k).ticks ≡ k.ticks
number-ticks None f k = refl
number-ticks (Some t) f k = refl

line-ticks : (o : Option ℕ) (k : Parts) → (raise_line o k).ticks ≡ k.ticks
line-ticks None k = refl
line-ticks (Some l) k = refl

ticks-ticks : (i : ℕ) (devices : List Attached) (k : Parts) → (raise_by_ticks i devices k).ticks ≡ k.ticks
unfolding raise_by_ticks
ticks-ticks i [] k = refl
ticks-ticks i (device ∷ devices) k = ticks-ticks (suc i) devices _ ∙ line-ticks (line_if (ticked device.kind device.words).raise i) k

row-ticks : (event : Event) (b : Board) → (row event b).0.parts.ticks ≡ more_if (is_tick event) b.parts.ticks
unfolding row tick tick_devices stop set_bits single_step set_breakpoint unset_breakpoint
row-ticks (Step c) b = step_ticks c b
row-ticks Tick b = ap (λ n. n + 1) (ticks-ticks 0 b.memory.devices b.parts)
row-ticks (Raise c l) b = refl
row-ticks (Bell c l) b = refl
row-ticks (Stop c) b = refl
row-ticks (Go c) b = refl
row-ticks (StepI c) b = step_ticks c (on_parts (set_bits false true c) b)
row-ticks (SetReg c r value) b = number-ticks (current c b.parts) (set_register r value) b.parts
row-ticks (SetPc c pc) b = number-ticks (current c b.parts) (set_pc pc) b.parts
row-ticks (Poke address bytes) b = refl
row-ticks (Break address) b = refl
row-ticks (Unbreak address) b = refl

-- ---- a run
record RunFits (boot : Boot) (s : State) : Type 0 where
  boot_kept : s.boot ≡ boot
  journal : length s.journal ≤ boot.capacity
  ticks : s.board.parts.ticks ≡ count_by is_tick s.journal
  count : length s.board.parts.pipes ≡ boot.cpus
  pipes : ArePipes s.board.parts
  few : length s.board.memory.devices ≤ DEVICE_LIMIT
  counts : PipesUpTo (PER_EVENT * length s.journal) s.board.parts.pipes

few_still : (event : Event) (b : Board) → length b.memory.devices ≤ DEVICE_LIMIT → length (row event b).0.memory.devices ≤ DEVICE_LIMIT
few_still event b few = let same = same_length _ _ (row-counts event b).devices in omega (arith, same, few)

fits_kept : (boot : Boot) → IsKept (RunFits boot)
fits_kept boot = record {
  accepted = λ s event room e h.
      let a : Actor = acting event s.board in
      let t = row_walks event s.board h.few e in
      let grown : length (s.journal ++ event ∷ []) ≡ length s.journal + 1 = length-append s.journal (event ∷ []) in
      let within : length s.journal < s.boot.capacity = leb-false s.boot.capacity (length s.journal) room in
      let same : s.boot.capacity ≡ boot.capacity = ap (λ (x : Boot). x.capacity) h.boot_kept in
      record {
        boot_kept = h.boot_kept;
        journal = omega arith;
        ticks = rw (count_last is_tick s.journal event) (row-ticks event s.board ∙ ap (more_if (is_tick event)) h.ticks);
        count = (row-counts event s.board).pipes ∙ h.count;
        pipes = walk_pipes a s.board.parts MOVES STAMPS_PER_EVENT _ t h.pipes;
        few = few_still event s.board h.few;
        counts = PipesUpTo-more (PER_EVENT * length s.journal + MOVES) (PER_EVENT * length (s.journal ++ event ∷ [])) _ (omega arith)
            (walk_counted a s.board.parts MOVES STAMPS_PER_EVENT (PER_EVENT * length s.journal) _ t h.pipes h.counts);
      };
}

-- ---- the start
idle_up : (cpus b : ℕ) → PipesUpTo b (replicate cpus idle_pipe)
idle_up cpus b = record {
  each = λ c p e. rw (slice_get-replicate cpus idle_pipe c p e) (record {
    lines = λ l n g. rw (slice_get-replicate LINES no_counts l n g) (record {
      raised = omega arith;
      merged = omega arith;
      received = omega arith;
      oob = record { arrivals = omega arith; merged = omega arith; played = omega arith };
      in_band = record { arrivals = omega arith; merged = omega arith; played = omega arith };
    });
  });
}

start_fits : (boot : Boot) (board : Board) → IsUncounted boot board → RunFits boot (record (start [] boot) { board = board })
unfolding booted booted_parts
start_fits boot board u = record {
  boot_kept = refl;
  journal = omega arith;
  few = u.devices;
  ticks = u.ticks;
  count = ap length u.pipes ∙ length-replicate boot.cpus idle_pipe;
  pipes = record { each = λ c p e. let there : slice_get (replicate boot.cpus idle_pipe) c ≡ Some p = rw u.pipes at e in rw (slice_get-replicate boot.cpus idle_pipe c p there) idle_balances.pipe };
  counts = rw u.pipes (idle_up boot.cpus _);
}

second : (a b : Bool) → (if a then true else b) ≡ false → b ≡ false
second true b h = cc
second false b h = h

capacity_up : (boot : Boot) → bad_boot boot ≡ false → boot.capacity ≤ CAPACITY_LIMIT
capacity_up boot good =
    let few : nat_lt CAPACITY_LIMIT boot.capacity ≡ false = second (boot.capacity == 0) (nat_lt CAPACITY_LIMIT boot.capacity) (boot-tests boot good).2 in grind (arith, nat_tests)

run_fits : (boot : Boot) (s : State) → bad_boot boot ≡ false → RunFits boot s → CountsFit s
run_fits boot s good h =
    let capacity = capacity_up boot good in
    let j = h.journal in record {
      journal = rw h.boot_kept h.journal;
      small = omega arith;
      ticks = h.ticks;
      few_ticks = omega (arith, h.ticks, count_by-le-length is_tick s.journal);
      pipes = rw h.boot_kept h.count;
      lines = λ c p e. (h.pipes.each c p e).counts;
      counts = h.counts;
    }

pub counts_always_fit_fresh : CountsAlwaysFitFresh
counts_always_fit_fresh boot board good u events =
    let first : State = record (start [] boot) { board = board } in run_fits boot _ good (replay_keeps (RunFits boot) first events (fits_kept boot) (start_fits boot board u))

uncounted : (devices : List Attached) (boot : Boot) → length devices ≤ DEVICE_LIMIT → IsUncounted boot (start devices boot).board
unfolding booted booted_parts
uncounted devices boot few = record { pipes = refl; ticks = refl; devices = few }

uncounted_loaded : (devices : List Attached) (byte : ℕ → ℕ) (entry : ℕ) (boot : Boot) → length devices ≤ DEVICE_LIMIT → IsUncounted boot (start_loaded devices byte entry boot).board
unfolding booted booted_parts load_board
uncounted_loaded devices byte entry boot few = record { pipes = refl; ticks = refl; devices = few }

pub counts_always_fit : CountsAlwaysFit
counts_always_fit devices boot good few = counts_always_fit_fresh boot (start devices boot).board good (uncounted devices boot few)

pub counts_always_fit_loaded : CountsAlwaysFitLoaded
counts_always_fit_loaded devices byte entry boot good few = counts_always_fit_fresh boot (start_loaded devices byte entry boot).board good (uncounted_loaded devices byte entry boot few)

-- ---- how often mutexes are locked
record RunHolds (s : State) : Type 0 where
  pipes : ArePipes s.board.parts
  few : length s.board.memory.devices ≤ DEVICE_LIMIT
  holds : HoldsFit s

holds_kept : IsKept RunHolds
holds_kept = record {
  accepted = λ s event room e h.
      let a : Actor = acting event s.board in
      let t = row_walks event s.board h.few e in
      let before : ℕ = PER_EVENT * length s.journal in
      let grown : length (s.journal ++ event ∷ []) ≡ length s.journal + 1 = length-append s.journal (event ∷ []) in
      record {
        pipes = walk_pipes a s.board.parts MOVES STAMPS_PER_EVENT _ t h.pipes;
        few = few_still event s.board h.few;
        holds = held_more (before + 1 + MOVES) (PER_EVENT * length (s.journal ++ event ∷ [])) _ (omega arith)
            (walk_holds a s.board.parts MOVES STAMPS_PER_EVENT _ (before + 1) h.pipes (omega arith) t (held_more before (before + 1) s.board.parts.mutexes (omega arith) h.holds));
      };
}

pub holds_always_fit_fresh : HoldsAlwaysFitFresh
holds_always_fit_fresh boot board u none events =
    let first : State = record (start [] boot) { board = board } in
    let begins : RunHolds first = record { pipes = (start_fits boot board u).pipes; few = u.devices; holds = rw none (record { count = λ m mutex e. cc }) } in
    (replay_keeps RunHolds first events holds_kept begins).holds

pub holds_always_fit : HoldsAlwaysFit
unfolding booted booted_parts
holds_always_fit devices boot few = holds_always_fit_fresh boot (start devices boot).board (uncounted devices boot few) refl

pub holds_always_fit_loaded : HoldsAlwaysFitLoaded
unfolding booted booted_parts load_board
holds_always_fit_loaded devices byte entry boot few = holds_always_fit_fresh boot (start_loaded devices byte entry boot).board (uncounted_loaded devices byte entry boot few) refl
