-- What a file holds that was created: a text, if all of it was taken.
use Rattle.std.specs.Prelude.{◌≡◌, ℕ, List, Option, Some, None, Result, Ok}
use Rattle.evm_streams.specs.declared.sink.Writing.{Writing}
use Rattle.evm_streams.specs.Writes.{Took}

module _ {S C F : Type 0} (creates : S → List ℕ → Result C F → S → Type 0) (created : C → Writing → List ℕ → C → Type 0) where
  -- the file that was created under a name took a text
  abbrev pub IsKept : List ℕ → List ℕ → S → S → Type 0
  IsKept path text files files' = (file took : C) × creates files path (Ok file) files' × Took created file text took

  -- .. if there is a name, and else no file was asked for
  abbrev pub IsKeptIf : Option (List ℕ) → List ℕ → S → S → Type 0
  IsKeptIf None text files files' = files' ≡ files
  IsKeptIf (Some path) text files files' = IsKept path text files files'
