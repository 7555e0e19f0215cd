use Rattle.std.specs.Prelude.{slice_get}
use Rattle.hunt_space.proofs.Spared.{none-spares}
use Rattle.hunt_space.proofs.text.TextSpan.is_spared.Goals as goal

pub returns-then-is_none : goal.returns-then-is_none
returns-then-is_none c same i cpu t there acts =
    none-spares c.args.self.low c.args.self.high c.args.machine.now.board.memory (slice_get c.args.machine.now.board.parts.harts t) (c.is_none.ensures.low c.if-is_none.true) (c.is_none.ensures.high c.if-is_none.true)
