use Rattle.std.proofs.Common.{refl, replicate}
use Rattle.evm_lines.specs.declared.TheConstants.{LINE_COUNT}
use Rattle.evm_bells.specs.declared.counts.TheConstants.{PROCESSOR_LIMIT}
use Rattle.evm_bells.proofs.Counting.{zeros_counted}
use Rattle.evm_bells.proofs.counts.LineCounts.new.Goals as goal

pub returns : goal.returns
returns c = zeros_counted (replicate PROCESSOR_LIMIT (replicate LINE_COUNT 0)) refl
