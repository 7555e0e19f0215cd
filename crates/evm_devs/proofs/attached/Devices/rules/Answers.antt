use Rattle.std.proofs.Common.{refl}
use Rattle.std.proofs.lemmas.Option.{slice_get_read}
use Rattle.evm_devs.proofs.Bus.{all-first, first-more}
use Rattle.evm_devs.proofs.attached.Devices.rules.Goals as goal

pub loop-device-preserved : goal.loop-device-preserved
loop-device-preserved g c =
    let there = slice_get_read _ _ c.loop-device.device-index c.device-item.result refl c.loop-device-test.true c.device-item.is in
    first-more _ c.deref-device-items.result.now c.self.inside.items.items c.loop-device.device-index _ c.args.self.now c.self.view_is c.deref-device-items.ensures.value c.loop-device.invariant there c.kind-kind.ensures.words

pub returns : goal.returns
returns g c =
    all-first _ c.self.inside.items.items c.args.self.now c.loop-device.device-index c.self.view_is (rw (← c.deref-device-items.ensures.value) c.loop-device-test.false) c.self.invariant.0 c.loop-device.invariant
