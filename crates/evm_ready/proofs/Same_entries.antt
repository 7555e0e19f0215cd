-- No entry in the place of none changes nothing.
use Rattle.std.proofs.Common.{◌≡◌, ℕ, List, Option, Some, None, false, refl, sym}
use Rattle.std.specs.Prelude.{is_some, slice_get}
use Rattle.evm_model.proofs.Lists.{slice_set-same}
use Rattle.evm_model.specs.Lists.{change, change_some}
use Rattle.evm_ready.specs.Places.{entry, entry_of}

same-some : {X : Type 0} (xs : List (Option X)) (t : ℕ) (o : Option (Option X)) → slice_get xs t ≡ o → false ≡ is_some (entry_of o) → change_some o (λ _. None) xs t ≡ xs
same-some xs t None e none = refl
same-some xs t (Some None) e none = slice_set-same xs t None e
same-some xs t (Some (Some x)) e none = cc

is-none : {X : Type 0} (o : Option X) → false ≡ is_some o → o ≡ None
is-none None e = refl
is-none (Some x) e = cc

pub change-none : {X : Type 0} (xs : List (Option X)) (t : ℕ) (new : Option X) → false ≡ is_some (entry xs t) → false ≡ is_some new → xs ≡ change (λ _. new) xs t
change-none xs t new none is = rw (is-none new is) (sym (same-some xs t (slice_get xs t) refl none))
