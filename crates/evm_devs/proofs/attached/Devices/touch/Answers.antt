use Rattle.std.proofs.Common.{ap, ◌∙◌, refl, arith}
use Rattle.std.proofs.lemmas.Option.{slice_get_read, slice_get_within}
use Rattle.std.proofs.lemmas.List.{length-set}
use Rattle.evm_dev.specs.Attached.{Attached}
use Rattle.std.specs.Prelude.{List}
use Rattle.evm_devs.specs.Bus.{touch_bus}
use Rattle.evm_devs.proofs.Bus.{idle-touched, touched-at, unanswered-if}
use Rattle.evm_devs.proofs.attached.Devices.touch.Goals as goal

pub invariant_of-self-2 : goal.invariant_of-self-2
invariant_of-self-2 g c =
    let there = slice_get_read _ _ c.args.i _ refl c.in-Some.ensures.item.3.0 c.in-Some.ensures.item.1 in
    let within = slice_get_within c.self.inside.items.items c.args.i c.in-Some.device.now there in
    let count = length-set c.self.inside.items.items c.args.i c.touch-touch.new.self in (
      omega (arith, count, c.self.invariant.0),
      c.self.invariant.1,
      omega (arith, count, within, c.max-self-inside.ensures, c.self.invariant.2),
      idle-touched _ c.self.inside.items.items c.args.i c.self.inside.active c.touch-touch.new.self c.max-self-inside.result
          (omega (arith, c.max-self-inside.ensures)) (omega (arith, c.max-self-inside.ensures)) c.self.invariant.3,
    )

pub returns-clause-done : goal.returns-clause-done
returns-clause-done g c =
    let there = slice_get_read _ _ c.args.i _ refl c.in-Some.ensures.item.3.0 c.in-Some.ensures.item.1 in
    touched-at _ c.self.inside.items.items c.args.i c.in-Some.device.now c.touch-touch.new.self c.args.op c.args.register c.args.value c.touch-touch.result there c.touch-touch.ensures.kind c.touch-touch.ensures.words c.touch-touch.ensures.answer
    ∙ ap (λ (devices : List Attached). touch_bus c.args.i c.args.op c.args.register c.args.value devices) c.self.view_is

pub returns-clause-unanswered : goal.returns-clause-unanswered
returns-clause-unanswered g c =
    unanswered-if c.args.i c.args.op c.args.register c.args.value c.args.self.now _ c.touch-touch.result (returns-clause-done g c)
