use Rattle.std.proofs.Common.{take}
use Rattle.std.specs.Prelude.{All}
use mathlib.Core.List.{IsPrefix}
use Rattle.evm_shared.specs.Ports.{PortValue}
use Rattle.evm_shared.proofs.shared.see_all.Given as goal

abbrev pub invariant-loop-port : goal.invariant-loop-port
invariant-loop-port g l = record {
  more : IsPrefix l.initial.sight l.sight;
  all : All (λ (p : PortValue). IsPrefix p.log l.sight) (take l.port-index l.ports);
}
