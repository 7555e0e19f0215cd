use Rattle.std.proofs.Common.{rules}
use Rattle.evm_text.proofs.Cuts.{CutsLine-open, CutsLine-ended}
use Rattle.evm_text.proofs.lines.cut_line.Goals as goal

pub returns-in-None : goal.returns-in-None
returns-in-None c = CutsLine-open c.args.bytes.now _ (search rules) c.in-None.ensures.lines (search rules)

pub returns-in-Some : goal.returns-in-Some
returns-in-Some c = CutsLine-ended _ _ _ c.in-Some.ensures.lines c.in-Some.ensures.shorter
