use Rattle.std.proofs.Common.{◌≡◌, All}
use Rattle.evm_bells.specs.Seats.{RingerValue}
use Rattle.bench_machine.proofs.bells.ringers_of.Given as goal

abbrev pub invariant-loop : goal.invariant-loop
invariant-loop l = record {
  bells : l.ringer.bells ≡ l.bells.id;
  made : All (λ (r : RingerValue). r.bells ≡ l.bells.id) l.ringers.items;
}
