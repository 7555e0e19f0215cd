use Rattle.std.proofs.Common.{◌≡◌, List, length, map, sym, ap, ◌∙◌, arith}
use Rattle.std.specs.Prelude.{slice_get}
use Rattle.evm_dev.specs.Attached.{Attached}
use Rattle.evm_devs.specs.Bus.{kinds_of}
use Rattle.evm_devs.proofs.Copies.{kinds-seen, same_count, seen_as}
use Rattle.evm_devs.proofs.attached.Devices.copy_from.Goals as goal

pub copy_each-requires-after_bounds : goal.copy_each-requires-after_bounds
copy_each-requires-after_bounds g c κs within =
    sym (kinds-seen g.D.Device.kind_of g.D.Device.words_of c.self.inside.items.items) ∙ ap kinds_of c.self.view_is ∙ c.requires ∙ ap kinds_of (sym c.other.view_is)
    ∙ kinds-seen g.D.Device.kind_of g.D.Device.words_of c.other.inside.items.items ∙ ap (map g.D.Device.kind_of) (sym c.deref.ensures.value)

pub invariant_of-self : goal.invariant_of-self
invariant_of-self g c =
    let all = c.copy_each.ensures.seen ∙ ap (map (seen_as g.D.Device.kind_of g.D.Device.words_of)) c.deref.ensures.value in
    let count = same_count (seen_as g.D.Device.kind_of g.D.Device.words_of) c.copy_each.new.devices.items c.other.inside.items.items all in (
      omega (arith, count, c.other.invariant.0),
      omega (arith, c.copy_each.ensures.capacity, c.self.invariant.1),
      omega (arith, count, c.other.invariant.2),
      λ i device from there. c.other.invariant.3 i device from (sym (ap (λ (ds : List Attached). slice_get ds i) all) ∙ there),
    )
