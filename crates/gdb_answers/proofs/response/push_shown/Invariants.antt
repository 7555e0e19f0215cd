use Rattle.std.proofs.Common.{◌≡◌, length}
use Rattle.gdb_answers.specs.Written.{Extends}
use Rattle.gdb_answers.proofs.response.push_shown.Given as goal

abbrev pub invariant-packets : goal.invariant-packets
invariant-packets l = record {
  extends : Extends l.fn.out.items l.out.items;
  nothing : length l.text ≡ 0 → (length l.rest ≡ 0) × (l.out.items ≡ l.fn.out.items);
}

abbrev pub decreases-packets : goal.decreases-packets
decreases-packets l = length l.rest
