use Rattle.std.proofs.Common.{ap, ◌∙◌}
use Rattle.text_markup.proofs.Drafts.{after_enter}
use Rattle.text_markup.specs.Draft.{Draft}
use Rattle.text_markup.proofs.draft.Draft.enter.Goals as goal

pub invariant_of-result : goal.invariant_of-result
invariant_of-result c =
    after_enter c.self.inside.in_tag c.self.inside.tags.items c.self.inside.shares.items c.push_markup.new.out.items c.self.inside.out.items c.self.invariant (ap (λ (d : Draft). d.in_tag) c.self.view_is ∙ c.requires) c.in_ok-push_markup.ensures
