-- Laws of the table of devices, by cases.
use Rattle.std.proofs.Common.{◌≡◌, ◌≢◌, ℕ, zero, suc, ◌%◌, ◌<◌, ◌≤◌, nat_lt, Bool, true, false, List, [], ◌∷◌, ◌++◌, length, map, IsSome, inl, inr, refl, arith}
use Rattle.std.proofs.lemmas.Bool.{cases_lt}
use Rattle.std.proofs.lemmas.Bool.Decides.{nat_tests}
use Rattle.std.proofs.lemmas.List.{length-append, length-drop}
use Rattle.std.specs.List.{AllByRecursion}
use Rattle.evm_dev.specs.Console.{printed}
use Rattle.evm_dev.specs.Mailbox.{last_words, oldest_taken}
use Rattle.evm_dev.specs.Rows.{AreWords, register_count, rows, ticked, touched}
use Rattle.evm_dev.specs.Touched.{Touched, answers, at_register, untouched}
use Rattle.evm_dev.specs.declared.kind.TheConstants.{CONSOLE_LIMIT, MAILBOX_LIMIT}
use Rattle.evm_dev.specs.declared.kind.Kind.{Kind}
use Rattle.evm_dev.specs.declared.kind.Kind.TheVariants.{Console, Mailbox, Pins}
use Rattle.evm_dev.specs.declared.touch.Op.{Op}
use Rattle.evm_dev.specs.declared.touch.Op.TheVariants.{Fetch, Put}

-- three words are three words
data IsThree : List ℕ → Type 0 where
  three : (level mask count : ℕ) → IsThree (level ∷ mask ∷ count ∷ [])

three_of : (words : List ℕ) → length words ≡ 3 → IsThree words
three_of [] h = absurd (omega arith)
three_of (a ∷ []) h = absurd (omega arith)
three_of (a ∷ b ∷ []) h = absurd (omega arith)
three_of (a ∷ b ∷ c ∷ []) h = three a b c
three_of (a ∷ b ∷ c ∷ d ∷ rest) h = absurd (omega arith)

past : (all : List Touched) (register : ℕ) (words : List ℕ) → length all ≤ register → at_register all register words ≡ untouched words
past [] register words h = refl
past (row ∷ all) zero words h = absurd (omega arith)
past (row ∷ all) (suc register) words h = past all register words (omega arith)

three-rows : (op : Op) (value : ℕ) (words : List ℕ) → IsThree words → length (rows Pins op value words) ≡ 3
three-rows Fetch value words (three a b c) = refl
three-rows Put value words (three a b c) = refl

length-rows : (kind : Kind) (op : Op) (value : ℕ) (words : List ℕ) → AreWords kind words → length (rows kind op value words) ≡ register_count kind
length-rows Console Fetch value words h = refl
length-rows Console Put value words h = refl
length-rows Mailbox Fetch value words h = refl
length-rows Mailbox Put value words h = refl
length-rows Pins op value words h = three-rows op value words (three_of words h)

pub missing : (kind : Kind) (op : Op) (register value : ℕ) (words : List ℕ) → AreWords kind words → register_count kind ≤ register
    → touched kind op register value words ≡ untouched words
missing kind op register value words h k = past (rows kind op value words) register words (omega (arith, length-rows kind op value words h))

taken-answers : (words : List ℕ) → IsSome (oldest_taken words).touch.answer
taken-answers [] = refl
taken-answers (word ∷ words) = refl

three-there : (op : Op) (register value : ℕ) (words : List ℕ) → IsThree words → register < 3 → IsSome (touched Pins op register value words).touch.answer
three-there Fetch zero value words (three a b c) h = refl
three-there Fetch (suc zero) value words (three a b c) h = refl
three-there Fetch (suc (suc zero)) value words (three a b c) h = refl
three-there Fetch (suc (suc (suc register))) value words (three a b c) h = absurd (omega arith)
three-there Put zero value words (three a b c) h = refl
three-there Put (suc zero) value words (three a b c) h = refl
three-there Put (suc (suc zero)) value words (three a b c) h = refl
three-there Put (suc (suc (suc register))) value words (three a b c) h = absurd (omega arith)

pub there : (kind : Kind) (op : Op) (register value : ℕ) (words : List ℕ) → AreWords kind words → register < register_count kind
    → IsSome (touched kind op register value words).touch.answer
there Console Fetch zero value words h k = refl
there Console Put zero value words h k = refl
there Console op (suc register) value words h k = absurd (omega arith)
there Mailbox Fetch zero value words h k = taken-answers words
there Mailbox Put zero value words h k = refl
there Mailbox Fetch (suc zero) value words h k = refl
there Mailbox Put (suc zero) value words h k = refl
there Mailbox op (suc (suc register)) value words h k = absurd (omega arith)
there Pins op register value words h k = three-there op register value words (three_of words h) k

-- a byte more
bytes-append : (bytes : List ℕ) (byte : ℕ) → AllByRecursion (λ b. b < 256) bytes → byte < 256 → AllByRecursion (λ b. b < 256) (bytes ++ byte ∷ [])
bytes-append [] byte h k = (k, tt)
bytes-append (first ∷ bytes) byte h k = (h.0, bytes-append bytes byte h.1 k)

printed-words : (value : ℕ) (bytes : List ℕ) → AreWords Console bytes → AreWords Console (printed value bytes)
printed-words value bytes h = elim (cases_lt (length bytes) CONSOLE_LIMIT) [
  | inl room ↦
      let test : nat_lt (length bytes) CONSOLE_LIMIT ≡ true = grind (arith, nat_tests) in
      rw test (simp length-append (omega arith), bytes-append bytes (value % 256) h.1 (omega arith))
  | inr full ↦ let test : nat_lt (length bytes) CONSOLE_LIMIT ≡ false = grind (arith, nat_tests) in rw test h
]

taken-words : (words : List ℕ) → length words ≤ MAILBOX_LIMIT → length (oldest_taken words).words ≤ MAILBOX_LIMIT
taken-words [] h = h
taken-words (word ∷ words) h = omega arith

last_words-limit : (words : List ℕ) → length (last_words words) ≤ MAILBOX_LIMIT
last_words-limit words = rw length-drop (omega arith)

three-words : (op : Op) (register value : ℕ) (words : List ℕ) → IsThree words → length (touched Pins op register value words).words ≡ 3
three-words Fetch zero value words (three a b c) = refl
three-words Fetch (suc zero) value words (three a b c) = refl
three-words Fetch (suc (suc zero)) value words (three a b c) = refl
three-words Fetch (suc (suc (suc register))) value words (three a b c) = refl
three-words Put zero value words (three a b c) = refl
three-words Put (suc zero) value words (three a b c) = refl
three-words Put (suc (suc zero)) value words (three a b c) = refl
three-words Put (suc (suc (suc register))) value words (three a b c) = refl

pub stay-touched : (kind : Kind) (op : Op) (register value : ℕ) (words : List ℕ) → AreWords kind words → AreWords kind (touched kind op register value words).words
stay-touched Console Fetch zero value words h = h
stay-touched Console Put zero value words h = printed-words value words h
stay-touched Console Fetch (suc register) value words h = h
stay-touched Console Put (suc register) value words h = h
stay-touched Mailbox Fetch zero value words h = taken-words words h
stay-touched Mailbox Put zero value words h = last_words-limit (words ++ value ∷ [])
stay-touched Mailbox Fetch (suc zero) value words h = h
stay-touched Mailbox Put (suc zero) value words h = omega arith
stay-touched Mailbox Fetch (suc (suc register)) value words h = h
stay-touched Mailbox Put (suc (suc register)) value words h = h
stay-touched Pins op register value words h = three-words op register value words (three_of words h)

three-ticked : (words : List ℕ) → IsThree words → length (ticked Pins words).words ≡ 3
three-ticked words (three a b c) = refl

pub stay-ticked : (kind : Kind) (words : List ℕ) → AreWords kind words → AreWords kind (ticked kind words).words
stay-ticked Console words h = h
stay-ticked Mailbox words h = h
stay-ticked Pins words h = three-ticked words (three_of words h)

taken-quiet : (words : List ℕ) → (oldest_taken words).touch.raise ≡ false
taken-quiet [] = refl
taken-quiet (word ∷ words) = refl

fetched-quiet : (all words : List ℕ) (register : ℕ) → (at_register (map (answers words) all) register words).touch.raise ≡ false
fetched-quiet [] words register = refl
fetched-quiet (word ∷ all) words zero = refl
fetched-quiet (word ∷ all) words (suc register) = fetched-quiet all words register

-- a test that is off isn't on
never : {P : Type 0} (test : Bool) → test ≡ false → test ≡ true → P
never test off on = cc

three-raises : (register value : ℕ) (words : List ℕ) → (touched Pins Put register value words).touch.raise ≡ true → register ≡ 0
three-raises zero value words h = refl
three-raises (suc register) value [] h = cc
three-raises (suc register) value (a ∷ []) h = cc
three-raises (suc register) value (a ∷ b ∷ []) h = cc
three-raises (suc zero) value (a ∷ b ∷ c ∷ []) h = cc
three-raises (suc (suc zero)) value (a ∷ b ∷ c ∷ []) h = cc
three-raises (suc (suc (suc register))) value (a ∷ b ∷ c ∷ []) h = cc
three-raises (suc register) value (a ∷ b ∷ c ∷ d ∷ rest) h = cc

pub raised : (kind : Kind) (op : Op) (register value : ℕ) (words : List ℕ) → (touched kind op register value words).touch.raise ≡ true
    → (op ≡ Put) × (register ≡ 0) × (kind ≢ Console)
raised Console Fetch zero value words h = cc
raised Console Put zero value words h = cc
raised Console Fetch (suc register) value words h = cc
raised Console Put (suc register) value words h = cc
raised Mailbox Fetch zero value words h = never _ (taken-quiet words) h
raised Mailbox Fetch (suc zero) value words h = cc
raised Mailbox Fetch (suc (suc register)) value words h = cc
raised Mailbox Put zero value words h = (refl, refl, λ e. cc)
raised Mailbox Put (suc zero) value words h = cc
raised Mailbox Put (suc (suc register)) value words h = cc
raised Pins Fetch register value words h = never _ (fetched-quiet words words register) h
raised Pins Put register value words h = (refl, three-raises register value words h, λ e. cc)
