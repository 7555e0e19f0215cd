use Rattle.std.proofs.Common.{ap, ◌∙◌, subst}
use Rattle.text_markup.proofs.Drafts.{after_all}
use Rattle.text_markup.specs.Draft.{Draft}
use Rattle.text_markup.specs.Xml.{IsElement}
use Rattle.text_markup.specs.declared.names.Tag.TheVariants as tag
use Rattle.text_markup.proofs.draft.finished.Goals as goal

pub returns : goal.returns
returns c =
    subst (λ x. ∥ IsElement tag.Svg x c.push_close.new.out.items ∥₁) (ap (λ (d : Draft). d.shares) c.draft.view_is)
    (after_all c.draft.inside.in_tag c.draft.inside.tags.items c.draft.inside.shares.items c.push_close.new.out.items c.draft.inside.out.items c.draft.invariant (ap (λ (d : Draft). d.in_tag) c.draft.view_is ∙ c.requires.content) (ap (λ (d : Draft). d.tags) c.draft.view_is ∙ c.requires.outermost) c.in_ok-push_close.ensures)
