use Rattle.std.proofs.Common.{◌≡◌, ◌+◌, ◌++◌, ◌≤◌, length, List, Option}
use Rattle.evm_asm_parser.specs.declared.kept.Kept.{Kept}
use Rattle.evm_asm.specs.Kept.{AreKept}
use Rattle.evm_asm.specs.Sources.{laid, nothing_laid, source_lines}
use Rattle.evm_asm.proofs.layout.lay_out.Given as goal

abbrev pub invariant-loop-rest : goal.invariant-loop-rest
invariant-loop-rest l = record {
  counted : l.lines + length l.rest ≤ length l.source;
  laid_so_far : laid (record { lines = l.lines; place = l.place; labels = l.labels; first = l.first }) (source_lines l.rest) ≡ laid nothing_laid (source_lines l.source);
  kept_so_far : (more : List (Option Kept)) → AreKept more (source_lines l.rest) → AreKept (l.kept ++ more) (source_lines l.source);
}

abbrev pub decreases-loop-rest : goal.decreases-loop-rest
decreases-loop-rest l = length l.rest
