use Rattle.std.proofs.Common.{sym, ◌∙◌}
use Rattle.evm_debug.proofs.Lines.{reads_results}
use Rattle.evm_debug.proofs.reading.read_line.Goals as goal

pub returns-clause-spelled : goal.returns-clause-spelled
returns-clause-spelled c = λ line. reads_results c.ok_or.result line c.args.bytes.now (sym c.ok_or.ensures.ok_part ∙ c.line_at.ensures)
