use Rattle.std.proofs.Common.{◌≡◌, ◌+◌, ◌≤◌, length}
use Rattle.evm_asm.specs.Kept.{AreKept}
use Rattle.evm_asm.specs.Sources.{source_lines}
use Rattle.evm_asm.specs.Items.{layout_of, lines_meant, meaning_of}
use Rattle.evm_asm.proofs.meaning.meaning.Given as goal

abbrev pub invariant-loop-rest : goal.invariant-loop-rest
invariant-loop-rest l = record {
  counted : l.lines + length l.rest ≤ length l.source;
  meant_so_far : lines_meant (layout_of l.source) l.lines l.place (source_lines l.rest) l.items.items ≡ meaning_of l.source;
  kept : AreKept l.known (source_lines l.rest);
}

abbrev pub decreases-loop-rest : goal.decreases-loop-rest
decreases-loop-rest l = length l.rest
