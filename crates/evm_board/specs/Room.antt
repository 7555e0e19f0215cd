-- Which images RAM has room for.
use Rattle.std.specs.Prelude.{ℕ, ◌+◌, ◌==◌, nat_lt, Bool, ◌&&◌, not}
use Rattle.evm_ram.specs.Images.{Loaded}
use Rattle.evm_ram.specs.declared.ram.TheConstants.{BASE}

-- a byte of the segment lies past RAM of this size
abbrev pub passes_ram : ℕ → Loaded → Bool
passes_ram size s = not (s.memsz == 0) && nat_lt (BASE + size) (s.address + s.memsz)
