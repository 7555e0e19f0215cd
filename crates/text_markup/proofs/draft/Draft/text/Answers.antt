use Rattle.std.proofs.Common.{◌<◌, length, ap, sym, ◌∙◌, subst}
use Rattle.text_markup.proofs.Drafts.{with_text}
use Rattle.text_markup.specs.Draft.{Draft}
use Rattle.text_markup.proofs.draft.Draft.text.Goals as goal

pub invariant_of-result : goal.invariant_of-result
invariant_of-result c =
    with_text c.self.inside.in_tag c.self.inside.tags.items c.self.inside.shares.items c.push_escaped.new.out.items c.self.inside.out.items _ c.self.invariant (ap (λ (d : Draft). d.in_tag) c.self.view_is ∙ c.requires.content) (subst (λ x. 0 < length x) (sym (ap (λ (d : Draft). d.tags) c.self.view_is)) c.requires.inside) c.in_ok-push_escaped.ensures
