use Rattle.evm_model.specs.Harts.{advance}
use Rattle.evm_board.proofs.Accesses.{clock-access, notices-access, room-access, room-line, stamps-access}
use Rattle.evm_board.proofs.accessing.advance_and_settle.Goals as goal

pub raise_line-requires-clause-room : goal.raise_line-requires-clause-room
raise_line-requires-clause-room c = rw c.advance.ensures (room-line c.args.t advance c.args.parts.now c.requires.room)

pub settle_and_nudge-requires-clause-room : goal.settle_and_nudge-requires-clause-room
settle_and_nudge-requires-clause-room c = rw (c.raise_line.ensures, c.advance.ensures) (room-access c.args.line c.args.t advance c.args.parts.now c.requires.few c.requires.room)

pub settle_and_nudge-requires-clause-stamps : goal.settle_and_nudge-requires-clause-stamps
settle_and_nudge-requires-clause-stamps c = rw (c.raise_line.ensures, c.advance.ensures) (stamps-access c.args.line c.args.t advance c.args.parts.now c.requires.room)

pub settle_and_nudge-requires-clause-clock : goal.settle_and_nudge-requires-clause-clock
settle_and_nudge-requires-clause-clock c = rw (c.raise_line.ensures, c.advance.ensures) (clock-access c.args.line c.args.t advance c.args.parts.now c.requires.room)

pub settle_and_nudge-requires-clause-notices : goal.settle_and_nudge-requires-clause-notices
settle_and_nudge-requires-clause-notices c = rw (c.raise_line.ensures, c.advance.ensures) (notices-access c.args.line c.args.t advance c.args.parts.now c.requires.room)
