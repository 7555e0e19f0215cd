-- The entries of the map, seen as names with their spots.
use Rattle.std.proofs.Common.{◌≡◌, ℕ, List, [], ◌∷◌, ◌++◌, map, Some, cond, refl, ap, Vec, Global}
use Rattle.std.specs.Map.{lookup}
use Rattle.std.specs.Str.{bytes_eq}
use Rattle.evm_asm_parser.specs.declared.spot.Spot.{Spot}
use Rattle.evm_asm_lexer.specs.Names.{named}

abbrev pub seen : List (Vec ℕ Global × Spot) → List (List ℕ × Spot)
seen es = map (λ e. (e.0.items, e.1)) es

pub lookup-named : (es : List (Vec ℕ Global × Spot)) (q : List ℕ) → lookup (λ k. bytes_eq q k.items) es ≡ named (seen es) q
lookup-named [] q = refl
lookup-named (e ∷ es) q = ap (λ r. cond (bytes_eq q e.0.items) (Some e.1) r) (lookup-named es q)

pub seen-append : (es fs : List (Vec ℕ Global × Spot)) → seen (es ++ fs) ≡ seen es ++ seen fs
seen-append [] fs = refl
seen-append (e ∷ es) fs = ap (λ r. (e.0.items, e.1) ∷ r) (seen-append es fs)
