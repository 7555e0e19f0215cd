use Rattle.std.specs.Prelude.{slice_index_or}
use Rattle.claims_texts.proofs.Sparing.{a_line_stays}
use Rattle.claims_texts.proofs.Taking.{all_hold}
use Rattle.claims_texts.proofs.staying.an_assembled_program_runs.Goals as goal

pub returns : goal.returns
returns c = λ source p devices boot s events e taken k d less spare c' t processor pipe hart room proceeds there pc.
    let has = all_hold c.written_is_read.ensures.bytes devices boot p s taken (c.lines_are_worded.ensures source p e) (c.words_stand.ensures source p e) k d less in
    c.a_step_does_its_line.ensures.accepted source p e k d less c' t processor pipe hart _ room proceeds
    (record { there = there; pc = pc; word = a_line_stays (slice_index_or p.lines k d) s events spare has })
