-- From what a call answered to that memory was refused.
use Rattle.std.proofs.Common.{◌≡◌, ℕ, ◌≤◌, List, Bool, true, false, length, arith}
use Rattle.std.specs.Prelude.{Result, Ok, Err, ◌==◌, if◌then◌else◌, Some, None}
use Rattle.std.specs.List.{list_any}
use Rattle.evm_room.specs.Growth.{RefusedWithin}
use Rattle.evm_model.specs.declared.refusal.Refusal.{Refusal}
use Rattle.evm_model.specs.declared.refusal.Refusal.TheVariants.{BadAddress, Started, NoMemory}
use Rattle.evm_diagnostics.specs.evm_board.Room.{passes_ram}
use Rattle.evm_ram.specs.Images.{Contents}
use Rattle.evm_model.specs.State.{State}
use Rattle.evm_diagnostics.specs.evm_core.Load.{load, load_unless}
use Rattle.evm_diagnostics.specs.evm_debug.Views.{LacksMemory}
use Rattle.evm_serve.specs.Memory.{MemoryRefused}

pub by_asked : (asked : ℕ) → ((most : ℕ) → asked ≤ most → RefusedWithin most) → MemoryRefused
by_asked asked within = record { most = asked; refused = within asked (omega arith) }

pub by_most : (most : ℕ) → RefusedWithin most → MemoryRefused
by_most most refused = record { most = most; refused = refused }

pub by_view : (shown : Result (List ℕ) Refusal) → LacksMemory shown → MemoryRefused
by_view (Ok text) lacks = record { most = length text; refused = lacks }
by_view (Err refusal) lacks = absurd lacks

-- to load an image takes no memory
load_tested : (past begun : Bool) (image : Contents) (s : State)
    → load_unless (if past then Some BadAddress else (if begun then None else Some Started)) image s ≡ Err NoMemory → MemoryRefused
load_tested true begun image s h = absurd cc
load_tested false true image s h = absurd cc
load_tested false false image s h = absurd cc

pub by_load : (image : Contents) (s : State) → load image s ≡ Err NoMemory → MemoryRefused
unfolding load
by_load image s h = load_tested (list_any (passes_ram (length s.board.memory.ram)) image.segments) (length s.journal == 0) image s h

pub ruleset memory = (by_asked, by_most, by_view, by_load)
