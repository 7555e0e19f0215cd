-- What loading makes of a machine: RAM's bytes, and where task 0 begins.
use Rattle.std.specs.Prelude.{ℕ, zero, suc, ◌+◌, List, [], ◌∷◌, length}
use Rattle.evm_ram.specs.declared.ram.TheConstants.{BASE}
use Rattle.evm_model.specs.Devices.{Attached}
use Rattle.evm_model.specs.Harts.{set_pc}
use Rattle.evm_model.specs.Replay.{start}
use Rattle.evm_model.specs.State.{State, Board, on_hart, on_parts, on_memory}
use Rattle.evm_model.specs.declared.boot.Boot.{Boot}

-- n bytes, from an address on
unfoldable pub bytes_from : (ℕ → ℕ) → ℕ → ℕ → List ℕ
bytes_from byte address zero = []
bytes_from byte address (suc n) = byte address ∷ bytes_from byte (address + 1) n

-- RAM has the byte of each address
abbrev pub fill : (ℕ → ℕ) → Board → Board
fill byte b = on_memory (λ m. record m { ram = bytes_from byte BASE (length m.ram) }) b

-- RAM has the byte of each address, and task 0 begins at the entry
unfoldable pub load_board : (ℕ → ℕ) → ℕ → Board → Board
load_board byte entry b = on_parts (on_hart 0 (set_pc entry)) (fill byte b)

-- a machine that has had no event, with these devices, these bytes and this entry
abbrev pub start_loaded : List Attached → (ℕ → ℕ) → ℕ → Boot → State
start_loaded devices byte entry boot = record (start devices boot) { board = load_board byte entry (start devices boot).board }
