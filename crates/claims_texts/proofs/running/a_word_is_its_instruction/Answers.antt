use Rattle.claims_texts.proofs.Doing.{executes}
use Rattle.claims_texts.proofs.running.a_word_is_its_instruction.Goals as goal

pub returns : goal.returns
returns c = λ source p e k d less. executes c.decoded_by_table.ensures _ (c.lines_are_worded.ensures source p e k d less)
