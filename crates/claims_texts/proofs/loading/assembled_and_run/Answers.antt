use Rattle.claims_texts.proofs.Taking.{all_begin}
use Rattle.claims_texts.proofs.loading.assembled_and_run.Goals as goal

pub returns : goal.returns
returns c = λ source p devices boot s e good taken.
    all_begin c.written_is_read.ensures.bytes devices boot p s good taken (c.lines_are_worded.ensures source p e) (c.words_stand.ensures source p e)
    (c.a_step_does_its_line.ensures.accepted source p e)
