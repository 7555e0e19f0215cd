use Rattle.std.proofs.Common.{◌≡◌, ◌++◌, subst, ◌∙◌, ap}
use Rattle.run_marks.specs.Marks.{AreMarks, marks_of}
use Rattle.run_walk.proofs.Observing.{raised-seen, then}
use Rattle.run_walk.specs.Observers.{IsObserverOf}
use Rattle.run_walk.proofs.observer.Observer.follow_line.Goals as goal

pub returns-clause-ok : goal.returns-clause-ok
returns-clause-ok g c =
    λ was is only.
    let now = c.args.machine.now.board.parts in
    let seen = raised-seen c.args.self.now.before c.args.cpu c.args.line was now only is.observation in
    then _ _ c.push_raise.result
    (λ done. (record { observation = seen; tally = done.1 }, record { before = c.args.self.now.before; after = c.args.self.now.before; seen_before = is.observation; seen_after = seen; all = done.0 ∙ ap (λ l. l ++ marks_of c.args.self.now.before c.args.self.now.before was now) c.requires.empty }))
    (c.push_raise.ensures was c.args.self.now.before seen.cpu_count is.tally only)
