-- What is kept of what was heard, and what a read answers at the end of it.
use Rattle.std.specs.Prelude.{◌≡◌, ◌<◌, ℕ, List, ◌++◌, length, slice_index, Option, Some, None, Result, IsOk, IsErr, ◌⊎◌}
use Rattle.gdb_packets.specs.declared.heard.TheConstants.{INTERRUPT}
use Rattle.gdb_packets.specs.declared.ends.HearingEnd.{HearingEnd}
use Rattle.gdb_packets.specs.declared.ends.HearingEnd.TheVariants.{EndOfInput, ReadFailed, NoMemory}

-- a part stands behind the bytes, or memory was refused for it, and the hearing ended so
abbrev pub TakesIn : List ℕ → List ℕ → Option HearingEnd → List ℕ → Option HearingEnd → Type 0
TakesIn part bytes end bytes' end' = ((bytes' ≡ bytes ++ part) × (end' ≡ end)) ⊎ ((bytes' ≡ bytes) × (end' ≡ Some NoMemory))

-- the byte by which GDB asks for a stop is read alone
abbrev pub StandsAlone : List ℕ → Type 0
StandsAlone bytes = (k : ℕ) → k < length bytes → slice_index bytes k ≡ INTERRUPT → length bytes ≡ 1

-- a read fails where no bytes are left and the hearing has failed
abbrev pub ReadsNothing : {E : Type 0} → Option HearingEnd → Result ℕ E → Type 0
ReadsNothing (Some (ReadFailed kind)) answer = IsErr answer
ReadsNothing (Some NoMemory) answer = IsErr answer
ReadsNothing (Some EndOfInput) answer = IsOk answer
ReadsNothing None answer = IsOk answer
