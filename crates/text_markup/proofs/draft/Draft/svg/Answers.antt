use Rattle.text_markup.proofs.Drafts.{first_tag}
use Rattle.text_markup.proofs.draft.Draft.svg.Goals as goal

pub invariant_of-result : goal.invariant_of-result
invariant_of-result c =
    first_tag c.push_tag.new.tags.items c.new-tags.result.items c.new.result.items c.push_start.new.out.items c.new-out.result.items c.new-tags.ensures.items c.new.ensures.items c.new-out.ensures.items c.in_ok-push_tag.ensures c.in_ok-push_start.ensures
