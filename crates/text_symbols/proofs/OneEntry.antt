-- The entries from one offset on, one by one.
use Rattle.std.proofs.Common.{◌≡◌, ℕ, ◌+◌, ◌*◌, ◌-◌, ◌<◌, suc, Option, Some, None, List, ◌++◌, refl, sym, ◌∙◌, ap, append_assoc, arith}
use Rattle.std.specs.Option.{option_to_list}
use Rattle.std.specs.List.{cons_option}
use Rattle.text_symbols.specs.Named.{Named}
use Rattle.text_symbols.specs.Entries.{symbol_at, symbols_from}

joined : {X : Type 0} (o : Option X) → (xs : List X) → cons_option o xs ≡ option_to_list o ++ xs
joined None xs = refl
joined (Some x) xs = refl

step : (file names : List ℕ) (start i n : ℕ) → i < n → symbols_from file names (start + 24 * i) (n - i) ≡ option_to_list (symbol_at file names (start + 24 * i)) ++ symbols_from file names (start + 24 * (i + 1)) (n - (i + 1))
step file names start i n h =
    let e : n - i ≡ suc (n - (i + 1)) = omega arith in
    let f : (start + 24 * i) + 24 ≡ start + 24 * (i + 1) = omega arith in
    ap (symbols_from file names (start + 24 * i)) e
    ∙ (joined (symbol_at file names (start + 24 * i)) (symbols_from file names (start + 24 * i + 24) (n - (i + 1)))
    ∙ ap (λ at. option_to_list (symbol_at file names (start + 24 * i)) ++ symbols_from file names at (n - (i + 1))) f)

-- one more entry is read
pub one_more : (whole done new : List Named) (file names : List ℕ) (start i n : ℕ) → i < n → whole ≡ done ++ symbols_from file names (start + 24 * i) (n - i) → new ≡ done ++ option_to_list (symbol_at file names (start + 24 * i)) → whole ≡ new ++ symbols_from file names (start + 24 * (i + 1)) (n - (i + 1))
one_more whole done new file names start i n h e s =
    let one = option_to_list (symbol_at file names (start + 24 * i)) in
    let rest = symbols_from file names (start + 24 * (i + 1)) (n - (i + 1)) in
    e ∙ (ap (λ t. done ++ t) (step file names start i n h) ∙ (sym (append_assoc done one rest) ∙ ap (λ t. t ++ rest) (sym s)))
