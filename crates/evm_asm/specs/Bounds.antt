-- How long a program is, and where its words stand.
use Rattle.std.specs.Prelude.{◌≡◌, ◌≤◌, ℕ, List, length, Ok, All}
use Rattle.evm_ram.specs.declared.ram.TheConstants.{SIZE_LIMIT}
use Rattle.evm_asm.specs.Assembled.{Assembled, StandsIn, program_of}

-- The most bytes that a program has: two sections fill RAM of the greatest size.
abbrev pub bytes_max : ℕ
bytes_max = SIZE_LIMIT

-- Every program fits.
abbrev pub ProgramsFit : Type 0
ProgramsFit = (source : List ℕ) (p : Assembled) → program_of source ≡ Ok p → length p.bytes ≤ bytes_max

-- The word of each line of every program stands at its address.
abbrev pub WordsStand : Type 0
WordsStand = (source : List ℕ) (p : Assembled) → program_of source ≡ Ok p → All (StandsIn p.bytes) p.lines
