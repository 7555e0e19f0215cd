use Rattle.std.proofs.Common.{refl, ◌∙◌}
use Rattle.run_marks.proofs.Sets.{begins, ends, goes}
use Rattle.run_marks.proofs.line_marks.push_touched.Goals as goal

pub lines-init : goal.lines-init
lines-init c = record {
  told = λ row there full differ. begins c.args.cpu c.args.marks.now.items row c.args.counts.now c.args.lines c.args.tally.now.rows c.first-least.ensures.set there differ;
  others = λ d other. refl;
}

pub lines-preserved : goal.lines-preserved
lines-preserved c = record {
  told = λ row there full differ.
      goes c.args.cpu c.in-Some.touched c.args.marks.now.items c.lines.marks.items c.push_line_at.new.marks.items row c.args.counts.now c.row.result.now c.lines.left c.pop.new.self c.lines.tally.rows c.keep_line.new.self.rows
      (c.lines.invariant.told row there full differ) c.in-Some.ensures.least c.row.ensures.here c.in_ok-push_line_at.ensures c.keep_line.ensures.here;
  others = λ d other. c.keep_line.ensures.others d other ∙ c.lines.invariant.others d other;
}

pub returns-clause-ok : goal.returns-clause-ok
returns-clause-ok c = λ row there full differ.
    ends c.args.cpu c.args.marks.now.items c.lines.marks.items row c.args.counts.now c.lines.left c.lines.tally.rows (c.lines.invariant.told row there full differ) c.in_default.ensures.least.0 full c.requires.counts
