use Rattle.std.proofs.Common.{◌∙◌, sym}
use Rattle.std.proofs.lemmas.Option.{slice_get-get_or}
use Rattle.evm_model.proofs.Lists.{slice_get-set_other, slice_get-set_same}
use Rattle.evm_model.specs.Pipes.{no_counts}
use Rattle.run_marks.proofs.tally.copy_line.Goals as goal

pub returns-clause-here : goal.returns-clause-here
returns-clause-here c =
    let to = slice_get-get_or c.args.row.now c.args.line no_counts c.requires.row in
    let of = slice_get-get_or c.args.counts.now c.args.line no_counts c.requires.counts in
    rw (c.from.ensures, c.from-2.ensures) (slice_get-set_same c.args.row.now c.args.line _ _ to ∙ sym of)

pub returns-clause-others : goal.returns-clause-others
returns-clause-others c = λ l other. slice_get-set_other c.args.row.now c.from-2.result l _ (λ same. other (same ∙ c.from-2.ensures))
