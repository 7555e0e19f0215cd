use Rattle.std.proofs.Common.{ap, ◌∙◌}
use Rattle.text_markup.proofs.Drafts.{with_events}
use Rattle.text_markup.specs.Draft.{Draft}
use Rattle.text_markup.proofs.draft.Draft.events.Goals as goal

pub invariant_of-result : goal.invariant_of-result
invariant_of-result c =
    with_events c.self.inside.in_tag c.self.inside.tags.items c.push_shared.new.shares.items c.self.inside.shares.items c.push_events.new.out.items c.self.inside.out.items c.args.share c.self.invariant (ap (λ (d : Draft). d.in_tag) c.self.view_is ∙ c.requires) c.in_ok-push_events.ensures c.in_ok-push_shared.ensures
