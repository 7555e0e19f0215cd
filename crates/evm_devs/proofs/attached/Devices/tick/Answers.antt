use Rattle.std.proofs.Common.{ap, ◌∙◌, refl, arith}
use Rattle.std.proofs.lemmas.Option.{slice_get_read}
use Rattle.std.proofs.lemmas.List.{length-set}
use Rattle.evm_dev.specs.Attached.{Attached}
use Rattle.std.specs.Prelude.{List}
use Rattle.evm_devs.specs.Bus.{tick_bus}
use Rattle.evm_devs.proofs.Bus.{fewer-active, idle-ticked, ticked-at}
use Rattle.evm_devs.proofs.attached.Devices.tick.Goals as goal

pub invariant_of-self-2 : goal.invariant_of-self-2
invariant_of-self-2 g c =
    let there = slice_get_read _ _ c.args.i _ refl c.in-Some.ensures.item.3.0 c.in-Some.ensures.item.1 in
    let count = length-set c.self.inside.items.items c.args.i c.tick-raise.new.self in (
      omega (arith, count, c.self.invariant.0),
      c.self.invariant.1,
      omega (arith, count, fewer-active _ _ _ _ c.active_after-self-inside.ensures, c.self.invariant.2),
      idle-ticked _ c.self.inside.items.items c.args.i c.self.inside.active c.in-Some.device.now c.tick-raise.new.self c.active_after-self-inside.result c.is_idle.result there
          c.tick-raise.ensures.kind c.tick-raise.ensures.words c.is_idle.ensures.0 c.active_after-self-inside.ensures c.self.invariant.3,
    )

pub returns : goal.returns
returns g c =
    let there = slice_get_read _ _ c.args.i _ refl c.in-Some.ensures.item.3.0 c.in-Some.ensures.item.1 in
    ticked-at _ c.self.inside.items.items c.args.i c.in-Some.device.now c.tick-raise.new.self c.tick-raise.result there c.tick-raise.ensures.kind c.tick-raise.ensures.words c.tick-raise.ensures.raise
    ∙ ap (λ (devices : List Attached). tick_bus c.args.i devices) c.self.view_is
