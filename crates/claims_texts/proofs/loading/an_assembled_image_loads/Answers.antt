use Rattle.claims_texts.proofs.Taking.{takes, refuses, holds}
use Rattle.claims_texts.proofs.loading.an_assembled_image_loads.Goals as goal

pub returns : goal.returns
returns c = record {
  loads = λ source p devices boot e room.
      (_, takes devices boot p.bytes room, holds c.written_is_read.ensures.bytes devices boot p room (c.lines_are_worded.ensures source p e) (c.words_stand.ensures source p e));
  refused = λ source p devices boot e short. refuses devices boot p.bytes short;
}
