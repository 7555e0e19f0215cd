-- A page that is put together: the run of a journal, with texts before and behind it.
use Rattle.std.proofs.Common.{◌≡◌, ℕ, List, [], ◌++◌, refl, sym, ap, ◌∙◌, append_assoc}
use Rattle.std.proofs.lemmas.List.{append-nil}
use Rattle.std.specs.Prelude.{IfOk, OnOk, Result, Ok, Err}
use Rattle.evm_ram.specs.Images.{Contents}
use Rattle.evm_model.specs.Devices.{Attached}
use Rattle.view_page.specs.Pages.{AddsRun, HoldsRun}

-- a text is appended
abbrev pub Adds : List ℕ → List ℕ → Type 0
Adds old new = (back : List ℕ) × (new ≡ old ++ back)

pub nothing : (old : List ℕ) → Adds old old
nothing old = ([], sym (append-nil old))

-- a run is a text
pub added : {A E : Type 0} (r : Result A E) (devices : List Attached) (image : Contents) (journal old new : List ℕ) → OnOk r (AddsRun devices image journal old new) → OnOk r (Adds old new)
added (Err error) devices image journal old new told = tt
added (Ok done) devices image journal old new told = (told.0, told.2)

-- one text behind another
pub both : (old mid new : List ℕ) → Adds old mid → Adds mid new → Adds old new
both old mid new one two = (one.0 ++ two.0, two.1 ∙ ap (λ l. l ++ two.0) one.1 ∙ append_assoc old one.0 two.0)

-- a run with what stands behind it
pub has_run : (devices : List Attached) (image : Contents) (journal head mid page : List ℕ) → AddsRun devices image journal head mid → Adds mid page → HoldsRun devices image journal page
has_run devices image journal head mid page told rest = (head, told.0, rest.0, told.1, rest.1 ∙ ap (λ l. l ++ rest.0) told.2 ∙ append_assoc head told.0 rest.0)

pub whole : {A E : Type 0} (bytes : A → List ℕ) (r : Result A E) (devices : List Attached) (image : Contents) (journal head mid : List ℕ) → AddsRun devices image journal head mid
    → IfOk r (λ w. Adds mid (bytes w)) → IfOk r (λ w. HoldsRun devices image journal (bytes w))
whole bytes (Err error) devices image journal head mid told rest = tt
whole bytes (Ok w) devices image journal head mid told rest = has_run devices image journal head mid (bytes w) told rest
