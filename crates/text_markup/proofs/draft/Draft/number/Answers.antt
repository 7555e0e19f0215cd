use Rattle.std.proofs.Common.{ap, ◌∙◌}
use Rattle.text_markup.proofs.Drafts.{with_attribute}
use Rattle.text_markup.specs.Draft.{Draft}
use Rattle.text_markup.proofs.draft.Draft.number.Goals as goal

pub invariant_of-result : goal.invariant_of-result
invariant_of-result c =
    with_attribute c.self.inside.in_tag c.self.inside.tags.items c.self.inside.shares.items c.push_attribute.new.out.items c.self.inside.out.items _ _ c.self.invariant (ap (λ (d : Draft). d.in_tag) c.self.view_is ∙ c.requires) c.in_ok-push_attribute.ensures
