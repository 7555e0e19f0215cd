-- Messages on standard error: a report on a file or on a line of a file, whatever its words.
use Rattle.std.specs.Prelude.{◌≡◌, ℕ, List, [], ◌∷◌, ◌++◌, ◌⊎◌, Result, Ok, Err, codes}
use Rattle.evm_text.specs.Written.{decimal}
use Rattle.evm_streams.specs.declared.sink.Writing.{Writing}
use Rattle.evm_streams.specs.declared.sink.WriteFault.{WriteFault}
use Rattle.evm_streams.specs.Writes.{Took, TookPrefix}

-- the text behind a place
abbrev pub behind_place : List ℕ → List ℕ
behind_place words = codes ": " ++ words ++ codes "\n"

-- words about a file, or about the program
abbrev pub about : List ℕ → List ℕ → List ℕ
about name words = name ++ behind_place words

-- words about a line of a file, in the form that editors jump to
abbrev pub about_line : List ℕ → ℕ → List ℕ → List ℕ
about_line name line words = name ++ (codes ":" ++ (decimal line ++ behind_place words))

-- what a message is about: a file, or a line of a file
pub data Place : Type 0 where
  File : (name : List ℕ) → Place
  Line : (name : List ℕ) → (line : ℕ) → Place

module _ {E : Type 0} (takes : E → Writing → List ℕ → E → Type 0) where
  -- A text was written, or a write failed after a prefix of it, as the answer says.
  abbrev pub Writes : List ℕ → Result (Unit {0}) WriteFault → E → E → Type 0
  Writes text (Ok done) e e' = Took takes e text e'
  Writes text (Err fault) e e' = TookPrefix takes e text e'

  -- A text with some words in it was written, likewise.
  abbrev pub WritesSome : (List ℕ → List ℕ) → Result (Unit {0}) WriteFault → E → E → Type 0
  WritesSome text answer e e' = (words : List ℕ) × Writes (text words) answer e e'

  -- Some words were written.
  unfoldable pub TookWords : E → E → Type 0
  TookWords e e' = (words : List ℕ) × Took takes e words e'

  -- A write failed after a prefix of some words.
  unfoldable pub TookPart : E → E → Type 0
  TookPart e e' = (words : List ℕ) × TookPrefix takes e words e'

  -- some words, as the answer says
  abbrev pub WritesWords : Result (Unit {0}) WriteFault → E → E → Type 0
  WritesWords (Ok done) e e' = TookWords e e'
  WritesWords (Err fault) e e' = TookPart e e'

  -- A text was written, or a write failed after a prefix of it, whatever the answer.
  abbrev pub Reports : List ℕ → E → E → Type 0
  Reports text e e' = Took takes e text e' ⊎ TookPrefix takes e text e'

  -- A report on a file, or on the program: its name was written, and some words behind it.
  unfoldable pub Tells : List ℕ → E → E → Type 0
  Tells name e e' = (words : List ℕ) × Reports (about name words) e e'

  -- likewise a line of a file
  unfoldable pub TellsLine : List ℕ → ℕ → E → E → Type 0
  TellsLine name line e e' = (words : List ℕ) × Reports (about_line name line words) e e'

  abbrev pub TellsOf : Place → E → E → Type 0
  TellsOf (File name) e e' = Tells name e e'
  TellsOf (Line name line) e e' = TellsLine name line e e'

  -- places, one after another
  abbrev pub TellsAll : List Place → E → E → Type 0
  TellsAll [] e e' = e' ≡ e
  TellsAll (place ∷ places) e e' = (between : E) × TellsOf place e between × TellsAll places between e'

  -- the first of some places
  abbrev pub TellsSome : List Place → E → E → Type 0
  TellsSome places e e' = (front : List Place) × (rest : List Place) × (places ≡ front ++ rest) × TellsAll front e e'
