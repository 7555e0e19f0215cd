use Rattle.std.proofs.Common.{◌++◌, sym, ap, ◌∙◌}
use Rattle.std.proofs.lemmas.List.{append-nil}
use Rattle.run_marks.proofs.Alike.{kept_line, kept_none, kept_one, line_raised, unraised}
use Rattle.run_marks.proofs.line_marks.push_raise.Goals as goal

pub returns-in_default : goal.returns-in_default
returns-in_default g c =
    λ was seen count is only. (
      sym (ap (λ l. c.args.marks.now.items ++ l) (unraised seen c.args.cpu was c.args.machine.now.board.parts (sym c.in_default.ensures) only.others) ∙ append-nil c.args.marks.now.items),
      kept_none c.args.cpu c.args.tally.now.rows was c.args.machine.now.board.parts is only.others (sym c.in_default.ensures),
    )

pub returns : goal.returns
returns g c =
    λ was seen count is only. (
      c.in_ok-push_line_at.ensures
          ∙ ap (λ l. c.args.marks.now.items ++ l) (sym (line_raised seen c.args.cpu c.args.line c.args.tally.now.rows c.row.result.now c.in-Some.counts.now was c.args.machine.now.board.parts count c.rules.ensures.good.good.pipes_count
          (λ pipe at. (c.rules.ensures.good.good.pipes c.args.cpu pipe at).counts) is only c.row.ensures.here (sym c.in-Some.ensures))),
      kept_one c.args.cpu c.args.tally.now.rows c.keep_line.new.self.rows c.in-Some.counts.now was c.args.machine.now.board.parts is only.others (sym c.in-Some.ensures)
          (kept_line c.args.cpu c.args.line c.args.tally.now.rows c.keep_line.new.self.rows c.row.result.now c.in-Some.counts.now was c.args.machine.now.board.parts is only c.row.ensures.here (sym c.in-Some.ensures) c.keep_line.ensures.here) c.keep_line.ensures.others,
    )
