-- What no event changes, over a list of events.
use Rattle.std.proofs.Common.{◌≡◌, ℕ, zero, suc, ◌+◌, List, [], ◌∷◌, Some, None, length, refl, ◌∙◌, arith}
use Rattle.std.specs.Prelude.{replicate}
use Rattle.std.proofs.lemmas.List.{length-set, length-replicate}
use Rattle.evm_ram.specs.declared.ram.TheConstants.{BASE}
use Rattle.evm_model.specs.Devices.{Attached}
use Rattle.evm_model.specs.Harts.{first_hart, set_pc}
use Rattle.evm_model.specs.Load.{load_board, start_loaded}
use Rattle.evm_model.specs.Pipes.{idle_pipe}
use Rattle.evm_model.specs.Replay.{start, replay}
use Rattle.evm_model.specs.Rows.{row}
use Rattle.evm_model.specs.State.{State, Board, booted, booted_parts, first_processor}
use Rattle.evm_model.specs.declared.boot.Boot.{Boot}
use Rattle.evm_model.specs.Event.{Event}
use Rattle.law_rules.proofs.Runs.{IsKept, replay_keeps}
use Rattle.law_runs.specs.Kept.{AllHaveRegisters, SameSizes, SizesStay, IsAsBooted, StaysAsBooted, StaysAsLoaded}
use Rattle.law_runs.proofs.Commands.{row-counts}
use Rattle.law_runs.proofs.Added.{change-registers}
use Rattle.law_runs.proofs.Replays.{loads_so_many_bytes}
use Rattle.law_runs.proofs.Counts.{SameCounts, same_then}

record Same (old new : State) : Type 0 where
  boot : new.boot ≡ old.boot
  counts : SameCounts old.board new.board

same_start : (s : State) → Same s s
same_start s = record { boot = refl; counts = record { processors = refl; pipes = refl; ram = refl; devices = refl; tasks = omega arith; harts = omega arith; few_tasks = λ h. h; a_hart_each = λ h. h; registers = λ h. h } }

same_kept : (first : State) → IsKept (Same first)
same_kept first = record {
  accepted = λ s event room e h. record { boot = h.boot; counts = same_then first.board s.board (row event s.board).0 h.counts (row-counts event s.board) };
}

same_after : (s : State) (events : List Event) → Same s (replay s events)
same_after s events = replay_keeps (Same s) s events (same_kept s) (same_start s)

sizes : (old new : Board) → SameCounts old new → SameSizes old new
sizes old new h = record {
  processors = h.processors;
  pipes = h.pipes;
  ram = h.ram;
  devices = h.devices;
  tasks = h.tasks;
  harts = h.harts;
  few_tasks = h.few_tasks;
  a_hart_each = h.a_hart_each;
  registers = h.registers;
}

pub sizes_stay : SizesStay
sizes_stay s events = let h = same_after s events in record { boot = h.boot; sizes = sizes s.board (replay s events).board h.counts }

-- ---- from boot on
as_after : (devices : List Attached) (boot : Boot) (first s : State) → IsAsBooted devices boot first → Same first s → IsAsBooted devices boot s
as_after devices boot first s f h = record {
  boot_kept = h.boot ∙ f.boot_kept;
  processors = h.counts.processors ∙ f.processors;
  pipes = h.counts.pipes ∙ f.pipes;
  ram = h.counts.ram ∙ f.ram;
  devices_kept = h.counts.devices ∙ f.devices_kept;
  some_tasks = omega (arith, h.counts.tasks, f.some_tasks);
  few_tasks = h.counts.few_tasks f.few_tasks;
  harts = h.counts.a_hart_each f.harts;
  registers = h.counts.registers f.registers;
}

first_registers : (ram : ℕ) → AllHaveRegisters (first_hart ram ∷ [])
first_registers ram zero hart e = let same : first_hart ram ≡ hart = cc in rw (← same) (record { count = length-set (replicate 32 0) 2 (BASE + ram) ∙ length-replicate {A = ℕ} 32 0; zero_first = refl })
first_registers ram (suc t) hart e = cc

as_booted : (devices : List Attached) (boot : Boot) → IsAsBooted devices boot (start devices boot)
unfolding booted booted_parts
as_booted devices boot = record {
  boot_kept = refl;
  processors = length-set (replicate boot.cpus (first_processor None)) 0 (first_processor (Some 0)) ∙ length-replicate boot.cpus (first_processor None);
  pipes = length-replicate boot.cpus idle_pipe;
  ram = length-replicate {A = ℕ} boot.ram 0;
  devices_kept = refl;
  some_tasks = omega arith;
  few_tasks = omega arith;
  harts = refl;
  registers = first_registers boot.ram;
}

as_loaded : (devices : List Attached) (byte : ℕ → ℕ) (entry : ℕ) (boot : Boot) → IsAsBooted devices boot (start_loaded devices byte entry boot)
unfolding booted booted_parts load_board
as_loaded devices byte entry boot = record {
  boot_kept = refl;
  processors = length-set (replicate boot.cpus (first_processor None)) 0 (first_processor (Some 0)) ∙ length-replicate boot.cpus (first_processor None);
  pipes = length-replicate boot.cpus idle_pipe;
  ram = loads_so_many_bytes byte BASE (length (replicate boot.ram 0)) ∙ length-replicate {A = ℕ} boot.ram 0;
  devices_kept = refl;
  some_tasks = omega arith;
  few_tasks = omega arith;
  harts = refl;
  registers = change-registers 0 0 0 (set_pc entry) (first_hart boot.ram ∷ []) (λ x. refl) (first_registers boot.ram);
}

pub stays_as_booted : StaysAsBooted
stays_as_booted devices boot events = as_after devices boot (start devices boot) _ (as_booted devices boot) (same_after (start devices boot) events)

pub stays_as_loaded : StaysAsLoaded
stays_as_loaded devices byte entry boot events =
    let first : State = start_loaded devices byte entry boot in as_after devices boot first _ (as_loaded devices byte entry boot) (same_after first events)
