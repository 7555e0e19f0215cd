-- The words of a device of a machine.
use Rattle.std.proofs.Common.{◌≡◌, ◌∙◌, ℕ, zero, suc, ◌<◌, ◌≤◌, List, [], ◌∷◌, Option, Some, None, length, refl, sym, arith}
use Rattle.std.specs.Prelude.{slice_get}
use Rattle.evm_dev.specs.Rows.{AreWords}
use Rattle.evm_dev.specs.declared.kind.Kind.{Kind}
use Rattle.evm_dev.specs.declared.kind.Kind.TheVariants.{Console, Mailbox, Pins}
use Rattle.evm_model.specs.Devices.{Attached}
use Rattle.evm_model.specs.Good.{AreDevices}
use Rattle.evm_journal.specs.evm_core.Views.{device_word, word_in_device}
use Rattle.evm_debug.specs.Pieces.{words_in}

pub is_within : {X : Type 0} (xs : List X) (i : ℕ) (x : X) → slice_get xs i ≡ Some x → i < length xs
is_within [] i x h = absurd cc
is_within (y ∷ xs) zero x h = omega arith
is_within (y ∷ xs) (suc i) x h = omega (arith, is_within xs i x h)

pub is_past : {X : Type 0} (xs : List X) (i : ℕ) → slice_get xs i ≡ None → length xs ≤ i
is_past [] i h = omega arith
is_past (x ∷ xs) zero h = absurd cc
is_past (x ∷ xs) (suc i) h = omega (arith, is_past xs i h)

few_of_kind : (kind : Kind) (words : List ℕ) → AreWords kind words → length words ≤ 256
few_of_kind Console words are = are.0
few_of_kind Mailbox words are = omega (arith, are)
few_of_kind Pins words are = omega (arith, are)

few_in : (devices : List Attached) (i : ℕ) (o : Option Attached) → slice_get devices i ≡ o → AreDevices devices → length (words_in o) ≤ 256
few_in devices i None e are = omega arith
few_in devices i (Some device) e are = few_of_kind device.kind device.words (are.each i device e)

pub few_words : (devices : List Attached) (i : ℕ) → AreDevices devices → length (words_in (slice_get devices i)) ≤ 256
few_words devices i are = few_in devices i (slice_get devices i) refl are

same_word : (o : Option Attached) (k : ℕ) → word_in_device o k ≡ slice_get (words_in o) k
same_word None k = refl
same_word (Some device) k = refl

pub word_found : (devices : List Attached) (i k word : ℕ) → Some word ≡ device_word i k devices → slice_get (words_in (slice_get devices i)) k ≡ Some word
word_found devices i k word e = sym (same_word (slice_get devices i) k) ∙ sym e

pub words_over : (devices : List Attached) (i k : ℕ) → device_word i k devices ≡ None → length (words_in (slice_get devices i)) ≤ k
words_over devices i k e = is_past (words_in (slice_get devices i)) k (sym (same_word (slice_get devices i) k) ∙ e)
