use Rattle.std.proofs.Common.{◌≡◌, ◌-◌, Ok}
use Rattle.evm_asm_parser.specs.declared.statement.Statement.TheVariants.{Numbers}
use Rattle.evm_asm_parser.specs.Statements.{with_data}
use Rattle.evm_asm_parser.proofs.directive.with_data.Given as goal

abbrev pub invariant-loop : goal.invariant-loop
invariant-loop l =
    with_data l.labels l.width (l.count - l.counter) l.read l.rest ≡ with_data l.labels l.width l.count (Ok (Numbers l.width l.count)) l.text
