use Rattle.law_rules.proofs.Registers.{registers_are_found}
use Rattle.law_rules.proofs.registers_are_found.Goals as goal

pub returns : goal.returns
returns c = registers_are_found
