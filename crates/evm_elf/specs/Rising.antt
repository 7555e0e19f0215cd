-- The headers of segments that take memory, and those in the order of their addresses.
use Rattle.std.specs.Prelude.{ℕ, ◌+◌, Bool, true, ◌&&◌, nat_le, if◌then◌else◌, Option, Some, None, List, [], ◌∷◌}
use Rattle.evm_elf.specs.declared.header.Header.{Header}
use Rattle.evm_elf.specs.Faults.{is_load, occupies}

-- the header, where it is one of a segment to be loaded that takes memory
abbrev pub occupied_of : Option Header → Option Header
occupied_of None = None
occupied_of (Some h) = if is_load h && occupies h then Some h else None

-- each segment begins where the one before ends or after it, the first at `end` or after it
abbrev pub rise_from : ℕ → List Header → Bool
rise_from end [] = true
rise_from end (h ∷ hs) = nat_le end h.address && rise_from (h.address + h.memsz) hs
