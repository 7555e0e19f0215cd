use Rattle.std.proofs.Common.{subst, arith}
use Rattle.std.specs.Prelude.{All}
use Rattle.std.proofs.lemmas.List.{take_all}
use Rattle.std.proofs.lemmas.List.Elements.{All-more}
use Rattle.trace_records.specs.Placed.{FitsLabel}
use Rattle.trace_records.proofs.writing.fit_labels.Goals as goal

pub loop-label-preserved : goal.loop-label-preserved
loop-label-preserved c =
    All-more FitsLabel c.args.labels.now c.loop-label.label-index c.label-item.result c.loop-label-test.true c.loop-label.invariant (subst FitsLabel c.label-item.is c.fit_label.ensures)

pub returns : goal.returns
returns c = subst (λ xs. All FitsLabel xs) (take_all c.loop-label.label-index c.args.labels.now (omega (arith, c.loop-label-test.false))) c.loop-label.invariant
