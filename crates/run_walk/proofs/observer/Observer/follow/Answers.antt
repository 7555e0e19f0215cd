use Rattle.std.proofs.Common.{◌++◌, ap, ◌∙◌}
use Rattle.run_marks.specs.Marks.{marks_of}
use Rattle.run_walk.proofs.observer.Observer.follow.Goals as goal

pub returns-clause-marks : goal.returns-clause-marks
returns-clause-marks g c =
    λ was is far.
    record {
      before = c.args.self.now.before;
      after = c.see.new.self;
      seen_before = is.observation;
      seen_after = c.in_ok-see.ensures;
      all = (c.in_ok-marks.ensures was is.tally far).0 ∙ ap (λ l. l ++ marks_of c.args.self.now.before c.see.new.self was c.args.machine.now.board.parts) c.requires;
    }
