use Rattle.std.proofs.Common.{◌≡◌, ◌+◌, ◌<◌, ◌++◌, length}
use Rattle.std.specs.Prelude.{All}
use Rattle.evm_bells.specs.Batches.{HaveCounted}
use Rattle.evm_bells.specs.Seats.{TakerValue, taken_by}
use Rattle.evm_bells.proofs.bells.Bells.gather.Given as goal

abbrev pub invariant-loop-taker : goal.invariant-loop-taker
invariant-loop-taker l = record {
  table : l.seat.table_id ≡ l.fn.self.id;
  all : All (λ (t : TakerValue). t.bells ≡ l.fn.self.id) l.takers.items;
  weight : l.seat.me.0.weight + length l.takers.items ≡ l.initial.seat.me.0.weight + length l.fn.takers.items;
  weighty : 0 < l.seat.me.0.weight;
  fresh : l.seat.me.0.fresh ≡ l.initial.seat.me.0.fresh;
  stood : l.seat.me.0.stood ≡ l.initial.seat.me.0.stood;
  taken : taken_by l.takers.items ++ l.seat.me.0.taken ≡ taken_by l.fn.takers.items;
  counted : HaveCounted l.taken.rows l.seat.me.0.taken;
}

abbrev pub decreases-loop-taker : goal.decreases-loop-taker
decreases-loop-taker l = length l.takers.items
