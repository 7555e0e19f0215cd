-- nothing has changed the machine where neither branch did the line
use Rattle.std.proofs.Common.{rules}
use Rattle.evm_serve.proofs.script_line.run_line.Goals.{in-Some+in_default-read_short+in_default-read_poke, in_default}
use Rattle.evm_serve.proofs.script_line.run_line.Goals as goal

pub returns-clause-outcome : goal.returns-clause-outcome
returns-clause-outcome g c = λ devices held.
    elim c.match-run.branch [
      | in-Some+in_default-read_short+in_default-read_poke w ↦ search (rules, c.run_any.ensures.outcome devices)
      | in_default w ↦ search (rules, c.run_any.ensures.outcome devices)
    ]
