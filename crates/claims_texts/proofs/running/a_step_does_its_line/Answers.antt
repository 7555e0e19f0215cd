use Rattle.claims_texts.proofs.Doing.{steps, accepts}
use Rattle.claims_texts.proofs.running.a_step_does_its_line.Goals as goal

pub returns : goal.returns
returns c = record {
  row = λ source p e k d less. steps c.decoded_by_table.ensures _ (c.lines_are_worded.ensures source p e k d less);
  accepted = λ source p e k d less. accepts c.decoded_by_table.ensures _ (c.lines_are_worded.ensures source p e k d less);
}
