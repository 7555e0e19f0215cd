-- A console takes bytes; its words are these bytes.
use Rattle.std.specs.Prelude.{ℕ, ◌%◌, nat_lt, cond, List, [], ◌∷◌, ◌++◌, length}
use Rattle.evm_dev.specs.Touched.{Touched, answers}
use Rattle.evm_dev.specs.declared.kind.TheConstants.{CONSOLE_LIMIT}

-- the low byte of a value comes last; a full console takes none
abbrev pub printed : ℕ → List ℕ → List ℕ
printed value bytes = cond (nat_lt (length bytes) CONSOLE_LIMIT) (bytes ++ (value % 256) ∷ []) bytes

-- register 0: how many bytes there are
abbrev pub console_fetches : List ℕ → List Touched
console_fetches bytes = answers bytes (length bytes) ∷ []

-- register 0: one byte more
abbrev pub console_puts : ℕ → List ℕ → List Touched
console_puts value bytes = answers (printed value bytes) 0 ∷ []
