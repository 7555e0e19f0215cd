-- For contracts of bodies: what a first reading of a source keeps for the second.
use Rattle.std.specs.Prelude.{Bool, true, false, if◌then◌else◌, Option, Some, None, Ok, Err}
use Rattle.evm_asm_parser.specs.declared.kept.Kept.{Kept}
use Rattle.evm_asm_parser.specs.declared.spot.Spot.{Spot}
use Rattle.evm_asm_parser.specs.declared.statement.Statement.{Statement}
use Rattle.evm_asm_parser.specs.declared.statement.Statement.TheVariants.{Branch, Jump, LoadAddress}
use Rattle.evm_asm_parser.specs.Statements.{StatementReading}

abbrev pub names_label : Statement → Bool
names_label (Branch op rs1 rs2 target) = true
names_label (Jump rd target) = true
names_label (LoadAddress rd target) = true
names_label statement = false

-- the statement of a line that stands at a spot, where it names no label
abbrev pub kept_statement : Spot → StatementReading → Option Kept
kept_statement spot (Ok statement) = if names_label statement then None else Some (record { spot = spot; statement = statement })
kept_statement spot (Err kind) = None
