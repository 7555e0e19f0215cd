use Rattle.std.proofs.Common.{sym, ◌∙◌}
use Rattle.evm_core.proofs.Booted.{boot-answers, booted-again}
use Rattle.evm_core.proofs.machine.Machine.from_boot.Goals as goal

pub of_board-requires-clause-booted : goal.of_board-requires-clause-booted
of_board-requires-clause-booted g c κs within = booted-again c.args.devices c.args.boot c.in-Ok.board c.in-Ok.ensures.booted

pub returns-in-Ok : goal.returns-in-Ok
returns-in-Ok g c =
    boot-answers c.args.devices c.args.boot c.in-Ok.board c.of_board.result (sym c.is_bad.ensures ∙ c.if-is_bad.false) c.in-Ok.ensures.booted c.of_board.ensures.ok c.of_board.ensures.memory
