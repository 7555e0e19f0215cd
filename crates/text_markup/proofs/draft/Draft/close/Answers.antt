use Rattle.std.proofs.Common.{◌<◌, length, ap, sym, ◌∙◌, subst}
use Rattle.text_markup.proofs.Drafts.{after_close}
use Rattle.text_markup.specs.Draft.{Draft}
use Rattle.text_markup.proofs.draft.Draft.close.Goals as goal

pub invariant_of-result : goal.invariant_of-result
invariant_of-result c =
    after_close c.self.inside.in_tag c.pop.new.self.items c.self.inside.tags.items c.self.inside.shares.items c.in-Some.tag c.push_close.new.out.items c.self.inside.out.items c.self.invariant (ap (λ (d : Draft). d.in_tag) c.self.view_is ∙ c.requires.content) (subst (λ x. 1 < length x) (sym (ap (λ (d : Draft). d.tags) c.self.view_is)) c.requires.inside) c.in-Some.ensures.items c.in_ok-push_close.ensures
