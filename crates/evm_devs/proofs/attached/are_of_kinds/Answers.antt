use Rattle.std.proofs.Common.{◌≡◌, ◌<◌, ◌≤◌, length, refl, sym, ◌∙◌, rules, arith}
use Rattle.std.proofs.lemmas.Option.{slice_get_read}
use Rattle.evm_devs.proofs.Copies.{all_kinds, one_more_kind, same_kind}
use Rattle.evm_devs.proofs.attached.are_of_kinds.Goals as goal

pub returns-then-ne-clause-other : goal.returns-then-ne-clause-other
returns-then-ne-clause-other g c was same =
    let below : c.loop-i.i < length c.args.others.now = omega arith in
    let here = slice_get_read _ _ c.loop-i.i _ refl c.loop-i-test.true c.index-devices-i.is in
    let there = slice_get_read _ _ c.loop-i.i _ refl below c.index-others-i.is in
    let kinds = same_kind g.D.Device.kind_of c.args.devices.now c.args.others.now c.loop-i.i c.index-devices-i.result c.index-others-i.result same here there in
    let equal : c.kind.result ≡ c.kind-in-loop-i.result = cc in
    search rules

pub loop-i-preserved : goal.loop-i-preserved
loop-i-preserved g c =
    let below : c.loop-i.i < length c.args.others.now = omega arith in
    let here = slice_get_read _ _ c.loop-i.i _ refl c.loop-i-test.true c.index-devices-i.is in
    let there = slice_get_read _ _ c.loop-i.i _ refl below c.index-others-i.is in
    let equal : c.kind.result ≡ c.kind-in-loop-i.result = search rules in
    one_more_kind g.D.Device.kind_of c.loop-i.i c.args.devices.now c.args.others.now c.index-devices-i.result c.index-others-i.result here there (sym c.kind.ensures.kind ∙ equal ∙ c.kind-in-loop-i.ensures.kind) c.loop-i.invariant

pub returns-clause-same : goal.returns-clause-same
returns-clause-same g c is =
    all_kinds g.D.Device.kind_of c.loop-i.i c.args.devices.now c.args.others.now (omega arith) (omega arith) c.loop-i.invariant
