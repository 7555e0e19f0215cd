-- Where the rules hold, nothing follows a change of harts on a processor that does an instruction.
use Rattle.law_rules.proofs.Private.{private_row}
use Rattle.law_runs.specs.Resting.{GoodBoardsRest}
use Rattle.law_runs.proofs.Alike.AheadPrivate.{acts}

pub good_boards_rest : GoodBoardsRest
good_boards_rest c t b g e harts =
    let now = acts c t b e in
    private_row c t b.parts harts g (record { pipe = now.pipe; there = now.there; clear = now.clear; processor = now.processor; at = now.at; runs = now.runs })
