use Rattle.evm_devs.proofs.Copies.{HaveKinds}
use Rattle.evm_devs.proofs.attached.are_of_kinds.Given as goal

abbrev pub invariant-loop-i : goal.invariant-loop-i
invariant-loop-i g l = HaveKinds g.D.Device.kind_of l.i l.devices l.others
