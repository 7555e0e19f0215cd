use Rattle.std.proofs.Common.{◌≡◌, ◌+◌, ◌-◌, ◌≤◌, [], length}
use Rattle.std.specs.Prelude.{All, vec_capacity}
use Rattle.evm_bells.specs.declared.bells.TheConstants.{RINGER_WEIGHT}
use Rattle.evm_bells.specs.Seats.{IsNewTaker}
use Rattle.evm_bells.specs.Rule.{view_of}
use Rattle.evm_bells.proofs.bells.Bells.seated.Given as goal

abbrev pub invariant-loop : goal.invariant-loop
invariant-loop l = record {
  table : l.seat.table_id ≡ l.fn.self.id;
  me : l.seat.me ≡ (view_of (RINGER_WEIGHT + (l.fn.self.cpus - l.counter)) [] [] [], []);
  room : l.fn.self.cpus ≤ vec_capacity l.takers;
  count : length l.takers.items ≡ l.counter;
  takers : All (IsNewTaker l.fn.self.id) l.takers.items;
}
