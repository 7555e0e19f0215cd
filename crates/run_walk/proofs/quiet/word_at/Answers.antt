use Rattle.std.proofs.Common.{sym}
use Rattle.run_walk.proofs.Found.{spells, word-is}
use Rattle.run_walk.proofs.quiet.word_at.Goals as goal

pub returns-in-len4 : goal.returns-in-len4
returns-in-len4 g c =
    word-is c.args.machine.now.board.memory.ram c.args.pc c.in_ok-bytes.field-0.now c.from_le_bytes.result (sym c.in_ok-bytes.ensures)
    (spells c.in_ok-bytes.field-0.now c.from_le_bytes.result c.in-len4.len_at_least c.in-len4.len_below c.from_le_bytes.ensures)
