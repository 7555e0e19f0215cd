-- Each call on a flag group leaves the state good but for what its processor settles.
use Rattle.std.proofs.Common.{ℕ, List, Option, Some, None, length, refl}
use Rattle.std.specs.Prelude.{slice_get, nat_lt, nat_le, ◌==◌}
use Rattle.evm_model.specs.Flags.{add_flags, new_flags, flags_wait_known, flags_wait, flags_post_of, flags_post_known, flags_post, post}
use Rattle.evm_model.specs.Good.{IsOwn}
use Rattle.evm_model.specs.State.{Parts}
use Rattle.evm_model.specs.declared.call.Outcome.{Outcome}
use Rattle.evm_model.specs.declared.limits.TheConstants.{FLAGS_LIMIT, FLAGS_WORD_LIMIT}
use Rattle.evm_model.specs.declared.task.Wait.TheVariants.{Flags}
use Rattle.law_rules.proofs.Done.{IsDone, either, others-done, rests-done, stirs-done}
use Rattle.law_rules.proofs.Firsts.{IsOobOwn}
use Rattle.law_rules.proofs.Handling.{post-stirs}
use Rattle.law_rules.proofs.Settling.{GoodBut}

module _ (c t : ℕ) (k : Parts) (g : GoodBut c k) (o : IsOwn c t k.tasks) where
  same : (outcome : Outcome) → IsDone c t (k, outcome)
  same outcome = record { but = g; own = λ v n. o }

  changed : (flags : List ℕ) (outcome : Outcome) → IsDone c t (record k { flags = flags }, outcome)
  changed flags outcome = others-done c t k k.semaphores flags k.timers k.actions k.console outcome g o

  pub new_flags-done : IsDone c t (new_flags k)
  unfolding new_flags add_flags
  new_flags-done = either c t (nat_le FLAGS_LIMIT (length k.flags)) _ _ (λ e. same _) (λ e. changed _ _)

  known-done : (x : Option ℕ) (f deadline : ℕ) → IsOobOwn c t k.tasks → IsDone c t (flags_wait_known x c t f deadline k)
  known-done None f deadline w = same _
  known-done (Some word) f deadline w = either c t (word == 0) _ _ (λ e. rests-done c t k g o w (Flags f) deadline refl refl) (λ e. changed _ _)

  pub flags_wait-done : (f deadline : ℕ) → IsOobOwn c t k.tasks → IsDone c t (flags_wait c t f deadline k)
  unfolding flags_wait
  flags_wait-done f deadline w = known-done (slice_get k.flags f) f deadline w

  post_of-done : (f bits : ℕ) → IsDone c t (flags_post_of f bits k)
  post_of-done f bits =
      either c t (bits == 0) _ _ (λ e. same _) (λ e. either c t (nat_lt FLAGS_WORD_LIMIT bits) _ _ (λ e. same _)
      (λ e. stirs-done c t k (post f bits k) _ (post-stirs f bits k g.shape) g o))

  post_known-done : (x : Option ℕ) (f bits : ℕ) → IsDone c t (flags_post_known x f bits k)
  post_known-done None f bits = same _
  post_known-done (Some word) f bits = post_of-done f bits

  pub flags_post-done : (f bits : ℕ) → IsDone c t (flags_post f bits k)
  unfolding flags_post
  flags_post-done f bits = post_known-done (slice_get k.flags f) f bits
