use Rattle.std.proofs.Common.{◌≡◌, ◌∙◌, ap, ◌++◌, ◌∷◌, [], None}
use Rattle.std.specs.Map.{lookup}
use Rattle.std.specs.Str.{bytes_eq}
use Rattle.evm_asm_lexer.specs.Names.{named}
use Rattle.indexmap.proofs.CallerLemmas.{insert_entry-new}
use Rattle.evm_asm_parser.proofs.Entries.{lookup-named, seen-append, seen}
use Rattle.evm_asm_parser.proofs.labels.Labels.add.Goals as goal

pub returns-clause-ok : goal.returns-clause-ok
returns-clause-ok c =
    let entries = c.self.inside.spots.entries in
    let kept : c.grow_map.new.map.entries ≡ entries = c.in_ok-grow_map.ensures.entries in
    let is : c.in_ok-name.name.items ≡ c.args.name.now = c.in_ok-name.ensures.ok in
    let new : named (seen entries) c.in_ok-name.name.items ≡ None =
    ap (λ n. named (seen entries) n) is ∙ ap (λ l. named l c.args.name.now) c.self.view_is ∙ c.requires in
    let absent = ap (λ es. lookup (λ k. bytes_eq c.in_ok-name.name.items k.items) es) kept ∙ lookup-named entries c.in_ok-name.name.items ∙ new in
    let grown = insert_entry-new _ c.grow_map.new.map c.in_ok-name.name c.args.spot absent in
    ap seen c.in-Ok.ensures.entries ∙ ap seen grown ∙ seen-append c.grow_map.new.map.entries ((c.in_ok-name.name, c.args.spot) ∷ [])
    ∙ ap (λ es. seen es ++ (c.in_ok-name.name.items, c.args.spot) ∷ []) kept
    ∙ ap (λ l. l ++ (c.in_ok-name.name.items, c.args.spot) ∷ []) c.self.view_is
    ∙ ap (λ n. c.args.self.now ++ (n, c.args.spot) ∷ []) is
