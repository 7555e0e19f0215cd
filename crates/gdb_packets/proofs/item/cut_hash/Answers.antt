use Rattle.std.proofs.Common.{rules}
use Rattle.gdb_packets.proofs.Cuts.{no_hash-found, cut_hash-none, cut_hash-cut}
use Rattle.gdb_packets.proofs.item.cut_hash.Goals as goal

pub returns-in-None : goal.returns-in-None
returns-in-None c = cut_hash-none c.args.bytes.now (no_hash-found _ _ c.in-None.ensures)

pub returns-in-Some : goal.returns-in-Some
returns-in-Some c = cut_hash-cut c.args.bytes.now c.in-Some.end c.in-Some.ensures.0.high (search rules) (no_hash-found _ _ c.in-Some.ensures.0.before)
