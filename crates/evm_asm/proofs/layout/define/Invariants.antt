use Rattle.std.proofs.Common.{◌≡◌, ◌≤◌, ◌-◌, length, false}
use Rattle.evm_asm.specs.Sources.{behind_labels, defined}
use Rattle.evm_asm.proofs.layout.define.Given as goal

abbrev pub invariant-loop : goal.invariant-loop
invariant-loop l = record {
  within : length l.rest ≤ length l.text;
  defined_so_far :
      defined (length l.text - l.counter) l.spot l.rest (record { labels = l.labels; twice = l.twice })
      ≡ defined (length l.text) l.spot l.text (record { labels = l.initial.labels; twice = false });
  behind_so_far : behind_labels (length l.text - l.counter) l.rest ≡ behind_labels (length l.text) l.text;
}
