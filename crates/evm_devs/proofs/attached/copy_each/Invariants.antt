use Rattle.std.proofs.Common.{◌≡◌, vec_capacity}
use Rattle.evm_devs.proofs.Copies.{AreCopied}
use Rattle.evm_devs.proofs.attached.copy_each.Given as goal

abbrev pub invariant-loop-i : goal.invariant-loop-i
invariant-loop-i g l =
    AreCopied g.D.Device.kind_of g.D.Device.words_of l.i l.devices.items l.others × (vec_capacity l.devices ≡ vec_capacity l.initial.devices)
