use Rattle.std.proofs.Common.{◌≡◌, map, sym, ap, ◌∙◌}
use Rattle.evm_devs.specs.Bus.{kinds_of}
use Rattle.evm_devs.proofs.Copies.{kinds-seen}
use Rattle.evm_devs.proofs.attached.Devices.are_like.Goals as goal

pub returns-clause-same : goal.returns-clause-same
returns-clause-same g c is =
    sym (ap kinds_of c.self.view_is) ∙ kinds-seen g.D.Device.kind_of g.D.Device.words_of c.self.inside.items.items
    ∙ ap (map g.D.Device.kind_of) (sym c.deref.ensures.value) ∙ c.are_of_kinds.ensures.same is ∙ ap (map g.D.Device.kind_of) c.deref-2.ensures.value
    ∙ sym (kinds-seen g.D.Device.kind_of g.D.Device.words_of c.others.inside.items.items) ∙ ap kinds_of c.others.view_is

pub returns-clause-other : goal.returns-clause-other
returns-clause-other g c is same =
    c.are_of_kinds.ensures.other is (
    ap (map g.D.Device.kind_of) c.deref.ensures.value ∙ sym (kinds-seen g.D.Device.kind_of g.D.Device.words_of c.self.inside.items.items) ∙ ap kinds_of c.self.view_is
    ∙ same ∙ sym (ap kinds_of c.others.view_is) ∙ kinds-seen g.D.Device.kind_of g.D.Device.words_of c.others.inside.items.items
    ∙ ap (map g.D.Device.kind_of) (sym c.deref-2.ensures.value))
