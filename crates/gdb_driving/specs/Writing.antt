-- How bytes are written: by which events.
use Rattle.std.specs.Prelude.{ℕ, zero, suc, ◌+◌, List, [], ◌∷◌, ◌++◌, Result, Ok, Err, length, take, drop, nat_lt, if◌then◌else◌}
use Rattle.std.specs.Int.{div_ceil}
use Rattle.evm_ram.specs.Ram.{is_inside}
use Rattle.evm_model.specs.Event.{Event}
use Rattle.evm_model.specs.Memory.{poke}
use Rattle.evm_model.specs.State.{State, on_memory}
use Rattle.evm_model.specs.declared.event.Event.TheVariants.{Poke}
use Rattle.evm_model.specs.declared.limits.TheConstants.{POKE_LIMIT}
use Rattle.evm_model.specs.declared.refusal.Refusal.{Refusal}
use Rattle.evm_model.specs.declared.refusal.Refusal.TheVariants.{BadAddress, Full}

-- the event that writes a block of bytes
abbrev pub poking : ℕ → List ℕ → Event
poking address block = Poke address (record { items = block })

-- how many blocks some bytes make: each but the last has as many bytes as a Poke takes
abbrev pub blocks_of : List ℕ → ℕ
blocks_of bytes = div_ceil (length bytes) POKE_LIMIT

-- the events that write the first blocks of some bytes, one behind the other
unfoldable pub block_pokes : ℕ → ℕ → List ℕ → List Event
block_pokes zero address bytes = []
block_pokes (suc blocks) address bytes = poking address (take POKE_LIMIT bytes) ∷ block_pokes blocks (address + POKE_LIMIT) (drop POKE_LIMIT bytes)

-- the events that write bytes from an address on
abbrev pub pokes : ℕ → List ℕ → List Event
pokes address bytes = block_pokes (blocks_of bytes) address bytes

-- those events; BadAddress where one of the bytes is outside RAM, Full where the journal has no room for them
abbrev pub writing : ℕ → List ℕ → State → Result (List Event) Refusal
writing address bytes s =
    if is_inside s.board.memory.ram address (length bytes)
    then (if nat_lt s.boot.capacity (length s.journal + blocks_of bytes) then Err Full else Ok (pokes address bytes))
    else Err BadAddress

-- the machine when all of them were made: they are in the journal, and the bytes in RAM
abbrev pub written : ℕ → List ℕ → State → State
written address bytes s = record s { journal = s.journal ++ pokes address bytes; board = on_memory (poke address bytes) s.board }
