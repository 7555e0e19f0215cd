use Rattle.std.proofs.Common.{◌<◌, length, ap, sym, ◌∙◌, subst}
use Rattle.text_markup.proofs.Drafts.{after_end}
use Rattle.text_markup.specs.Draft.{Draft}
use Rattle.text_markup.proofs.draft.Draft.end.Goals as goal

pub invariant_of-result : goal.invariant_of-result
invariant_of-result c =
    after_end c.self.inside.in_tag c.pop.new.self.items c.self.inside.tags.items c.self.inside.shares.items c.in-Some._tag c.push_markup.new.out.items c.self.inside.out.items c.self.invariant (ap (λ (d : Draft). d.in_tag) c.self.view_is ∙ c.requires.tag) (subst (λ x. 1 < length x) (sym (ap (λ (d : Draft). d.tags) c.self.view_is)) c.requires.inside) c.in-Some.ensures.items c.in_ok-push_markup.ensures
