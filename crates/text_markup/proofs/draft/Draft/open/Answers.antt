use Rattle.std.proofs.Common.{ap, ◌∙◌}
use Rattle.text_markup.proofs.Drafts.{opened}
use Rattle.text_markup.specs.Draft.{Draft}
use Rattle.text_markup.proofs.draft.Draft.open.Goals as goal

pub invariant_of-result : goal.invariant_of-result
invariant_of-result c =
    opened c.self.inside.in_tag c.push_tag.new.tags.items c.self.inside.tags.items c.self.inside.shares.items c.push_start.new.out.items c.self.inside.out.items c.args.tag c.self.invariant (ap (λ (d : Draft). d.in_tag) c.self.view_is ∙ c.requires.content) c.in_ok-push_tag.ensures c.in_ok-push_start.ensures
