use Rattle.std.proofs.Common.{◌+◌, ◌^◌, ◌<◌, ◌≤◌, length}
use Rattle.std.specs.Prelude.{Result}
use Rattle.evm_model.specs.State.{State}
use Rattle.evm_model.specs.declared.refusal.Refusal.{Refusal}
use Rattle.gdb_driving.specs.Kept.{KeepsJournal}
use Rattle.gdb_driving.specs.Setting.{MakesEach}
use Rattle.gdb_driving.specs.Writing.{pokes}
use Rattle.gdb_driving.proofs.memory.poke_each.Given as goal

-- what the events of the rest make of this machine, all events make of the first
abbrev pub invariant-pokes : goal.invariant-pokes
invariant-pokes g l = record {
  kept : KeepsJournal l.fn.machine l.machine;
  fits : 0 < length l.rest → l.place + length l.rest ≤ 2 ^ 64;
  goes_on : (result : Result (Unit {0}) Refusal) (new : State) → MakesEach (pokes l.place l.rest) result l.machine new
      → MakesEach (pokes l.address l.bytes) result l.fn.machine new;
}

abbrev pub decreases-pokes : goal.decreases-pokes
decreases-pokes g l = length l.rest
