use Rattle.std.proofs.Common.{◌≡◌, [], None, Some, ◌∙◌, refl, sym, ap, arith}
use Rattle.std.specs.Prelude.{slice_get}
use Rattle.std.proofs.lemmas.Option.{get_or_from_slice_get, slice_get_past}
use Rattle.evm_model.proofs.Lists.{slice_get-set_other, slice_get-set_same}
use Rattle.run_marks.proofs.tally.Tally.keep_line.Goals as goal

pub returns-then-from-row-clause-here : goal.returns-then-from-row-clause-here
returns-then-from-row-clause-here c = λ row there. (
  c.copy_line.new.row,
  rw c.from-then-from-row.ensures (slice_get-set_same c.args.self.now.rows c.args.c row c.copy_line.new.row there),
  c.copy_line.ensures.here,
  λ l other. c.copy_line.ensures.others l other ∙ ap (λ x. slice_get x l) (rw c.from-then-from-row.ensures (get_or_from_slice_get c.args.self.now.rows c.args.c row [] there)),
)

pub returns-then-from-row-clause-others : goal.returns-then-from-row-clause-others
returns-then-from-row-clause-others c = λ d other. slice_get-set_other c.args.self.now.rows c.from-then-from-row.result d _ (λ same. other (same ∙ c.from-then-from-row.ensures))

pub returns-else-from-row-clause-here : goal.returns-else-from-row-clause-here
returns-else-from-row-clause-here c = λ row there.
    let same : Some row ≡ Some c.row.result.now = sym there ∙ c.row.ensures.here in
    let is : row ≡ c.row.result.now = cc in
    let full = c.row.ensures.lines in
    let far = c.if-from-row.false in
    let line = c.from.ensures in
    let all = c.requires.lines in
    let none : slice_get row c.args.line ≡ None = ap (λ x. slice_get x c.args.line) is ∙ slice_get_past c.row.result.now c.args.line (omega (arith, far, line)) in
    (row, there, none ∙ sym (slice_get_past c.args.counts.now c.args.line (omega (arith, far, line, full, all))), λ l other. refl)
