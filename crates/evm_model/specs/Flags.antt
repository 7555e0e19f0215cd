-- What each call on a flag group does to the parts, and what comes of it. A flag group is its word.
use Rattle.std.specs.Prelude.{ℕ, [], ◌∷◌, ◌++◌, Option, Some, None, ◌==◌, nat_lt, nat_le, bit_or, if◌then◌else◌, slice_get, length}
use Rattle.evm_model.specs.Stages.{refused, is_stalled, wait_refusal, wait_unless}
use Rattle.evm_model.specs.State.{Parts, on_flags}
use Rattle.evm_model.specs.Waits.{first_waiter, wake}
use Rattle.evm_model.specs.declared.call.Outcome.{Outcome}
use Rattle.evm_model.specs.declared.call.Outcome.TheVariants.{Returns}
use Rattle.evm_model.specs.declared.errno.Errno.TheVariants.{NoNumber, Invalid}
use Rattle.evm_model.specs.declared.limits.TheConstants.{FLAGS_LIMIT, FLAGS_WORD_LIMIT}
use Rattle.evm_model.specs.declared.stage.Stage.TheVariants.{OutOfBand}
use Rattle.evm_model.specs.declared.task.Wait.TheVariants.{Flags}

-- ---- 12: a new flag group
unfoldable pub add_flags : Parts → Parts
add_flags p = record p { flags = p.flags ++ 0 ∷ [] }

-- its number is answered
unfoldable pub new_flags : Parts → Parts × Outcome
new_flags p = if nat_le FLAGS_LIMIT (length p.flags) then refused NoNumber p else (add_flags p, Returns (length p.flags))

-- ---- 45: the word is taken
abbrev pub flags_wait_known : Option ℕ → ℕ → ℕ → ℕ → ℕ → Parts → Parts × Outcome
flags_wait_known None c t f deadline p = refused Invalid p
flags_wait_known (Some word) c t f deadline p =
    if word == 0 then wait_unless (wait_refusal (is_stalled OutOfBand c p) None p.ticks deadline) t (Flags f) deadline p
    else (on_flags f (λ _. 0) p, Returns word)

-- 45: the task takes the word, which is 0 then, or waits for one
unfoldable pub flags_wait : ℕ → ℕ → ℕ → ℕ → Parts → Parts × Outcome
flags_wait c t f deadline p = flags_wait_known (slice_get p.flags f) c t f deadline p

-- ---- bits are posted
-- the first that waits wakes with the word, which is 0 then; if there is none, it is kept
abbrev pub post_to : Option ℕ → ℕ → ℕ → Parts → Parts
post_to None f word p = on_flags f (λ _. word) p
post_to (Some t) f word p = wake t word (on_flags f (λ _. 0) p)

abbrev pub post_known : Option ℕ → ℕ → ℕ → Parts → Parts
post_known None f bits p = p
post_known (Some word) f bits p = post_to (first_waiter (Flags f) p) f (bit_or word bits) p

unfoldable pub post : ℕ → ℕ → Parts → Parts
post f bits p = post_known (slice_get p.flags f) f bits p

-- a post of no bit, or of bits that no word has
abbrev pub flags_post_of : ℕ → ℕ → Parts → Parts × Outcome
flags_post_of f bits p =
    if bits == 0 then refused Invalid p else (if nat_lt FLAGS_WORD_LIMIT bits then refused Invalid p else (post f bits p, Returns 0))

abbrev pub flags_post_known : Option ℕ → ℕ → ℕ → Parts → Parts × Outcome
flags_post_known None f bits p = refused Invalid p
flags_post_known (Some word) f bits p = flags_post_of f bits p

-- 46: the bits are set in the word
unfoldable pub flags_post : ℕ → ℕ → Parts → Parts × Outcome
flags_post f bits p = flags_post_known (slice_get p.flags f) f bits p
