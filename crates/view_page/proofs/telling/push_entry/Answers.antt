use Rattle.std.proofs.Common.{◌≡◌, ◌++◌, ◌∷◌, ◌∙◌, ℕ, List, OnOk, ap, flat_map, subst}
use Rattle.std.specs.String.{string_bytes}
use Rattle.text_markup.specs.Text.{text}
use Rattle.view_page.proofs.Runs.{entry-parts}
use Rattle.view_page.specs.Entries.{entry_text, head_numbers, mark_numbers}
use Rattle.view_page.specs.Rows.{row_json}
use Rattle.view_page.proofs.telling.push_entry.Goals as goal

pub returns : goal.returns
returns c =
    let item = c.args.item.now in
    let marks = c.args.marks.now in
    let details = c.args.details.now in
    let row : c.as_slice.result.now ≡ head_numbers item ++ flat_map mark_numbers marks =
    c.as_slice.ensures.value ∙ c.in_ok-put_item.ensures ∙ ap (λ (l : List ℕ). l ++ (head_numbers item ++ flat_map mark_numbers marks)) c.clear.ensures.items in
    subst (λ (t : List ℕ). OnOk c.push_line.result (string_bytes c.push_line.new.out ≡ string_bytes c.args.out.now ++ t))
    (ap (λ (ns : List ℕ). 44 ∷ 10 ∷ text (row_json (ns ++ details))) row ∙ entry-parts item marks details) c.push_line.ensures.ok
