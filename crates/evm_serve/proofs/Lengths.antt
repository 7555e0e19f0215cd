-- Lengths of texts that stand one behind another.
use Rattle.std.proofs.Common.{append_assoc}
use Rattle.std.proofs.lemmas.List.{length-append}

pub ruleset lengths = (length-append, append_assoc)
