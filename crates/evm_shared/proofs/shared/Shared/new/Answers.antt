use Rattle.std.proofs.Common.{sym, ◌∙◌}
use Rattle.evm_shared.proofs.Locks.{accounted}
use Rattle.evm_shared.proofs.shared.Shared.new.Goals as goal

pub invariant_of-new : goal.invariant_of-new
invariant_of-new g c =
    accounted g.O.Origin.start g.O.Origin.machine c.args.machine g.O.Origin.base c.open-books.result.0 c.open-books.result.2 c.requires.replays c.requires.machine (sym c.lacks_lines.ensures ∙ c.if-lacks_lines.false) c.requires.base c.open-books.ensures.book c.open-books.ensures.history
