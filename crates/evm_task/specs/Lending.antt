-- What the registers of all tasks end as, where those of one were lent.
use Rattle.std.specs.Prelude.{ℕ, List, Option, slice_set}
use Rattle.std.specs.Borrow.{LendsIf, MutBor, Fml}
use Rattle.evm_exec.specs.contracts.hart.Hart as hart
use Rattle.evm_exec.specs.declared.hart.Hart.{Hart}
use Rattle.evm_task.specs.contracts.harts.Harts.{the_row}

-- once the borrow r ends, task t has the hart that was left behind it; where there was none, nothing is changed
abbrev pub lends_hart : MutBor (List Hart) → ℕ → Option (MutBor Hart) → Fml
lends_hart s t r = LendsIf the_row hart.the_row s r (slice_set s.now t) s.now
