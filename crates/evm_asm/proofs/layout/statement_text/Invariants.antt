use Rattle.std.proofs.Common.{◌≡◌, ◌-◌, length}
use Rattle.evm_asm.specs.Sources.{behind_labels}
use Rattle.evm_asm.proofs.layout.statement_text.Given as goal

abbrev pub invariant-loop : goal.invariant-loop
invariant-loop l = behind_labels (length l.text - l.counter) l.rest ≡ behind_labels (length l.text) l.text
