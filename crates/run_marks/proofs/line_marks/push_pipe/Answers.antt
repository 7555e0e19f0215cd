use Rattle.std.proofs.Common.{◌≡◌, ◌++◌, Some, sym, ap, ◌∙◌}
use Rattle.std.proofs.lemmas.List.{append-nil}
use Rattle.evm_journal.specs.evm_core.Views.{line_counts_at}
use Rattle.run_marks.proofs.Following.{absent, differ, kept}
use Rattle.run_marks.proofs.Lemmas.{then}
use Rattle.run_marks.specs.Tallies.{DifferAt}
use Rattle.run_marks.proofs.line_marks.push_pipe.Goals as goal

pub returns-in_default : goal.returns-in_default
returns-in_default g c =
    λ was is far.
    let a = absent c.args.cpu c.args.tally.now.rows was c.args.machine.now.board.parts (sym c.in_default.ensures) is in
    (sym (ap (λ l. c.args.marks.now.items ++ l) a.0 ∙ append-nil c.args.marks.now.items), a.1)

pub returns-in-Some-touched_lines : goal.returns-in-Some-touched_lines
returns-in-Some-touched_lines g c =
    λ was is far.
    let now = c.args.machine.now.board.parts in
    let rows = c.args.tally.now.rows in
    let row = c.row.result.now in
    let counts = c.in-Some.counts.now in
    let after : line_counts_at c.args.cpu now ≡ Some counts = sym c.in-Some.ensures in
    then _ _ c.push_touched.result
    (λ done.
    let a = kept c.args.cpu rows c.push_touched.new.tally.rows row counts was now c.args.reach.now is far c.row.ensures.here after done.1 c.push_touched.ensures.others in
    (done.0 ∙ ap (λ l. c.args.marks.now.items ++ l) (sym a.0), a.1))
    (c.push_touched.ensures.ok row c.row.ensures.here c.row.ensures.lines
    (differ c.args.cpu rows row counts was now c.args.reach.now (DifferAt c.in-Some-touched_lines.lines row counts) is far c.row.ensures.here after (λ p q before there x y. c.in-Some-touched_lines.ensures was p q far before there x y)))

pub returns-in_ok-push_lines-in-None : goal.returns-in_ok-push_lines-in-None
returns-in_ok-push_lines-in-None g c =
    λ was is far.
    let a = kept c.args.cpu c.args.tally.now.rows c.keep.new.self.rows c.row-in-None.result.now c.in-Some.counts.now was c.args.machine.now.board.parts c.args.reach.now is far c.row-in-None.ensures.here (sym c.in-Some.ensures)
    c.keep.ensures.here c.keep.ensures.others in
    (c.in_ok-push_lines-in-None.ensures ∙ ap (λ l. c.args.marks.now.items ++ l) (sym a.0), a.1)
