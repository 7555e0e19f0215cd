-- What the lines of the program of every source are.
use Rattle.std.specs.Prelude.{◌≡◌, ℕ, List, Ok, All}
use Rattle.evm_asm.specs.Assembled.{Assembled, program_of, IsWorded}

-- The word of each line of every program stands for the line's instruction.
abbrev pub LinesAreWorded : Type 0
LinesAreWorded = (source : List ℕ) (p : Assembled) → program_of source ≡ Ok p → All IsWorded p.lines
