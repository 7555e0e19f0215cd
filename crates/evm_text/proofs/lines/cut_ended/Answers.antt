use Rattle.std.proofs.Common.{rules}
use Rattle.evm_text.proofs.Cuts.{no_newline-found, text_of-none, text_of-cut}
use Rattle.evm_text.proofs.lines.cut_ended.Goals as goal

pub returns-in-None-clause-lines : goal.returns-in-None-clause-lines
returns-in-None-clause-lines c = text_of-none c.args.bytes.now (no_newline-found _ _ c.in-None.ensures)

pub returns-in-Some-clause-lines : goal.returns-in-Some-clause-lines
returns-in-Some-clause-lines c = text_of-cut c.args.bytes.now c.in-Some.end c.in-Some.ensures.0.high (search rules) (no_newline-found _ _ c.in-Some.ensures.0.before)
