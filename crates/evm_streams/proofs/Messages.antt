-- Texts written one behind the other, with words of any kind in them, and numbers digit by digit.
use Rattle.std.proofs.Common.{◌≡◌, ℕ, ◌+◌, ◌-◌, ◌/◌, ◌%◌, ◌<◌, ◌≤◌, ◌^◌, List, [], ◌∷◌, ◌++◌, Result, Ok, Err, MatchResult, refl, sym, ◌∙◌, arith, inl, inr, codes}
use Rattle.std.proofs.lemmas.Bool.{lt-ltb}
use Rattle.evm_text.specs.Written.{numeral}
use Rattle.evm_text.proofs.Steps.{numeral_one, numeral_then, some_division}
use Rattle.evm_streams.specs.declared.sink.Writing.{Writing}
use Rattle.evm_streams.specs.declared.sink.WriteFault.{WriteFault}
use Rattle.evm_streams.specs.Writes.{Took, TookPrefix}
use Rattle.evm_streams.proofs.Calls.{took_none, took_append, prefix_behind, prefix_longer}
use Rattle.evm_streams.specs.Diagnostic.{Writes, WritesSome, WritesWords, TookWords, TookPart, Tells, TellsLine, about, about_line}

module _ {E : Type 0} (takes : E → Writing → List ℕ → E → Type 0) where
  -- the first text was written, and the second as the answer says
  pub writes_then : (s t u : E) (a b : List ℕ) (answer : Result (Unit {0}) WriteFault) → Took takes s a t → Writes takes b answer t u → Writes takes (a ++ b) answer s u
  writes_then s t u a b (Ok done) took behind = took_append takes s t u a b took behind
  writes_then s t u a b (Err fault) took behind = prefix_behind takes s t u a b took behind

  -- the first was not written whole
  pub writes_failed : (s t : E) (a b : List ℕ) → TookPrefix takes s a t → TookPrefix takes s (a ++ b) t
  writes_failed s t a b failed = prefix_longer takes s t a b failed

  -- what a call answers that writes all of a text
  pub written : (s t : E) (a : List ℕ) (answer : Result (Unit {0}) WriteFault) → MatchResult answer (λ _. Took takes s a t) (λ _. TookPrefix takes s a t) → Writes takes a answer s t
  written s t a (Ok done) h = h
  written s t a (Err fault) h = h

  -- a text before one that has words in it
  pub some_then : (s t u : E) (front : List ℕ) (text : List ℕ → List ℕ) (answer : Result (Unit {0}) WriteFault) → Took takes s front t → WritesSome takes text answer t u → WritesSome takes (λ (words : List ℕ). front ++ text words) answer s u
  some_then s t u front text answer took behind = (behind.0, writes_then s t u front (text behind.0) answer took behind.1)

  pub some_failed : (s t : E) (front : List ℕ) (text : List ℕ → List ℕ) → TookPrefix takes s front t → (words : List ℕ) × TookPrefix takes s (front ++ text words) t
  some_failed s t front text failed = ([], writes_failed s t front (text []) failed)

  -- the end of a line behind words
  pub line_then : (s t u : E) (answer : Result (Unit {0}) WriteFault) → TookWords takes s t → Writes takes (codes "\n") answer t u → WritesSome takes (λ (words : List ℕ). words ++ codes "\n") answer s u
  unfolding TookWords
  line_then s t u answer took behind = (took.0, writes_then s t u took.0 (codes "\n") answer took.1 behind)

  pub line_failed : (s t : E) → TookPart takes s t → (words : List ℕ) × TookPrefix takes s (words ++ codes "\n") t
  unfolding TookPart
  line_failed s t failed = (failed.0, writes_failed s t failed.0 (codes "\n") failed.1)

  -- ---- words

  pub words_none : (s : E) → TookWords takes s s
  unfolding TookWords
  words_none s = ([], took_none takes s)

  -- a text is some words
  pub words_of : (s t : E) (a : List ℕ) (answer : Result (Unit {0}) WriteFault) → Writes takes a answer s t → WritesWords takes answer s t
  unfolding TookWords TookPart
  words_of s t a (Ok done) h = (a, h)
  words_of s t a (Err fault) h = (a, h)

  pub words_written : (s t : E) (a : List ℕ) (answer : Result (Unit {0}) WriteFault) → MatchResult answer (λ _. Took takes s a t) (λ _. TookPrefix takes s a t) → WritesWords takes answer s t
  words_written s t a answer h = words_of s t a answer (written s t a answer h)

  -- words behind words
  pub words_then : (s t u : E) (answer : Result (Unit {0}) WriteFault) → TookWords takes s t → WritesWords takes answer t u → WritesWords takes answer s u
  unfolding TookWords TookPart
  words_then s t u (Ok done) took behind = (took.0 ++ behind.0, took_append takes s t u took.0 behind.0 took.1 behind.1)
  words_then s t u (Err fault) took behind = (took.0 ++ behind.0, prefix_behind takes s t u took.0 behind.0 took.1 behind.1)

  -- ---- reports

  pub told : (s t : E) (name : List ℕ) (answer : Result (Unit {0}) WriteFault) → WritesSome takes (λ (words : List ℕ). about name words) answer s t → Tells takes name s t
  unfolding Tells
  told s t name (Ok done) h = (h.0, inl h.1)
  told s t name (Err fault) h = (h.0, inr h.1)

  pub told_line : (s t : E) (name : List ℕ) (line : ℕ) (answer : Result (Unit {0}) WriteFault) → WritesSome takes (λ (words : List ℕ). about_line name line words) answer s t → TellsLine takes name line s t
  unfolding TellsLine
  told_line s t name line (Ok done) h = (h.0, inl h.1)
  told_line s t name line (Err fault) h = (h.0, inr h.1)

-- a number of one digit
pub numeral_small : (behind n : ℕ) → n < 10 → numeral 10 behind n ≡ (48 + n) ∷ []
numeral_small behind n small = let e = lt-ltb n 10 small in numeral_one 10 behind n small ∙ rw e refl

-- its digits before the last, and the last
pub numeral_large : (behind n : ℕ) → n < 10 ^ (behind + 1) → 10 ≤ n → numeral 10 behind n ≡ numeral 10 (behind - 1) (n / 10) ++ (48 + n % 10) ∷ []
numeral_large behind n below large =
    let last : n % 10 < 10 = omega arith in
    let e = lt-ltb (n % 10) 10 last in
    sym (numeral_then [] 10 behind n (some_division 10 behind n below large) large) ∙ rw e refl
