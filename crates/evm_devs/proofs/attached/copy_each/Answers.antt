use Rattle.std.proofs.Common.{◌≡◌, ◌≤◌, length, refl, arith}
use Rattle.std.proofs.lemmas.Option.{slice_get_read}
use Rattle.evm_devs.proofs.Copies.{all_copied, copied, same_count, same_kind}
use Rattle.evm_devs.proofs.attached.copy_each.Goals as goal
use Rattle.evm_devs.proofs.attached.copy_each.Goals.{in-Some, in_default}

pub copy_from-requires : goal.copy_from-requires
copy_from-requires g c =
    let there = slice_get_read _ _ c.loop-i.i _ refl c.in-Some.ensures.item.3.0 c.in-Some.ensures.item.1 in
    let from = slice_get_read _ _ c.loop-i.i _ refl c.loop-i-test.true c.index-others-i.is in
    same_kind g.D.Device.kind_of c.loop-i.devices.items c.args.others.now c.loop-i.i c.in-Some.device.now c.index-others-i.result c.loop-i.invariant.0.kinds there from

pub loop-i-preserved : goal.loop-i-preserved
loop-i-preserved g c =
    elim c.match-get_mut.branch [
      | in-Some w ↦
          let there = slice_get_read _ _ c.loop-i.i _ refl w.in-Some.ensures.item.3.0 w.in-Some.ensures.item.1 in
          let from = slice_get_read _ _ c.loop-i.i _ refl c.loop-i-test.true w.index-others-i.is in
          rw w.devices-is (
            copied g.D.Device.kind_of g.D.Device.words_of c.loop-i.i c.loop-i.devices.items c.args.others.now w.in-Some.device.now w.copy_from.new.self w.index-others-i.result
                there from w.copy_from.ensures.kind w.copy_from.ensures.words c.loop-i.invariant.0,
            c.loop-i.invariant.1,
          )
      | in_default w ↦
          let count : length c.loop-i.devices.items ≡ length c.args.others.now =
          same_count g.D.Device.kind_of c.loop-i.devices.items c.args.others.now c.loop-i.invariant.0.kinds in
          absurd (omega (arith, count, w.in_default.ensures.item.3, c.loop-i-test.true))
    ]

pub returns-clause-seen : goal.returns-clause-seen
returns-clause-seen g c =
    let past : length c.args.others.now ≤ c.loop-i.i = omega arith in
    all_copied g.D.Device.kind_of g.D.Device.words_of c.loop-i.i c.loop-i.devices.items c.args.others.now past c.loop-i.invariant.0
