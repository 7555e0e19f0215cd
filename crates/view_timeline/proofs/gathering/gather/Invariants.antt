use Rattle.std.proofs.Common.{◌≡◌, length}
use Rattle.view_timeline.proofs.WindowLemmas.{Comes}
use Rattle.view_timeline.proofs.gathering.gather.Given as goal

-- the cells tell of the events so far, and the lanes are the processors of the first machine
abbrev pub invariant-loop-event : goal.invariant-loop-event
invariant-loop-event g l =
    Comes l.fn.walk l.walk l.first l.fn.window.to l._event l.timeline.cells.items
    × (l.timeline.cpu_count ≡ length l.fn.walk.machine.board.parts.processors)
