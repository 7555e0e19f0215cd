use Rattle.evm_parts.proofs.Giving.{given}
use Rattle.evm_parts.proofs.parts.Parts.give_mutex.Goals as goal

pub returns-clause-row : goal.returns-clause-row
returns-clause-row c =
    rw (c.hold.ensures.row, c.wake_with.ensures.row, c.owns_with-owns.ensures) (given c.args.t c.args.m c.args.value c.args.self.now)
