-- A mailbox keeps the last words that were put, the oldest first.
use Rattle.std.specs.Prelude.{ℕ, ◌-◌, true, List, [], ◌∷◌, ◌++◌, length, drop}
use Rattle.evm_dev.specs.Touched.{Touched, answers, raises_if}
use Rattle.evm_dev.specs.declared.kind.TheConstants.{MAILBOX_LIMIT}

-- the last words that there is room for
abbrev pub last_words : List ℕ → List ℕ
last_words words = drop (length words - MAILBOX_LIMIT) words

-- the oldest word is answered and leaves; of none it is 0
abbrev pub oldest_taken : List ℕ → Touched
oldest_taken [] = answers [] 0
oldest_taken (oldest ∷ words) = answers words oldest

-- register 0: the oldest word; register 1: how many there are
abbrev pub mailbox_fetches : List ℕ → List Touched
mailbox_fetches words = oldest_taken words ∷ answers words (length words) ∷ []

-- register 0: one word more, with an interrupt; register 1: empties the mailbox
abbrev pub mailbox_puts : ℕ → List ℕ → List Touched
mailbox_puts value words = raises_if true (answers (last_words (words ++ value ∷ [])) 0) ∷ answers [] 0 ∷ []
