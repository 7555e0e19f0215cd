-- The turns of tasks, as one is set or one more comes.
use Rattle.std.proofs.Common.{◌≡◌, ℕ, zero, suc, List, [], ◌∷◌, ◌++◌, Bool, true, false, length, refl, ap, sym, ◌∙◌, arith}
use Rattle.std.specs.Prelude.{slice_get, ◌&&◌, ◌==◌, not}
use Rattle.std.proofs.lemmas.Bool.Decides.{nat_tests}
use Rattle.std.proofs.lemmas.Option.{slice_get_past}
use Rattle.evm_model.specs.Lists.{change}
use Rattle.evm_model.proofs.Lists.{change-elsewhere}
use Rattle.evm_ready.specs.declared.turn.Turn.{Turn}
use Rattle.evm_ready.specs.Queues.{has, is_in, precedes, restamped, AreQueued, AreQueuedBut}
use Rattle.evm_ready.proofs.Members.{in_order-same}

test-same : (t : ℕ) → (t == t) ≡ true
test-same t = grind (arith, nat_tests)

test-differs : (t u : ℕ) → (t == u) ≡ false → u ≡ t → ⊥
test-differs t u e same = let here : (t == u) ≡ true = rw same (test-same t) in cc

-- the order looks at the turns of the two alone
precedes-same : (turns others : List Turn) (t u : ℕ) → slice_get turns t ≡ slice_get others t → slice_get turns u ≡ slice_get others u → precedes turns t u ≡ precedes others t u
unfolding precedes
precedes-same turns others t u here there = rw (here, there) refl

but-same : (same a b : Bool) → (same ≡ false → a ≡ b) → (not same && a) ≡ (not same && b)
but-same true a b h = refl
but-same false a b h = h refl

but-member : (same member : Bool) → (not same && member) ≡ true → same ≡ false
but-member true member h = cc
but-member false member h = refl

-- the turn of a task that is in no queue doesn't matter
pub others-same : (turns others : List Turn) (t : ℕ) (queues : List (List ℕ)) → ((u : ℕ) → (u ≡ t → ⊥) → slice_get turns u ≡ slice_get others u)
    → AreQueuedBut t turns queues → AreQueuedBut t others queues
others-same turns others t queues same was = record {
  queued = λ q queue at.
      let is = was.queued q queue at in
      let elsewhere : (u : ℕ) → has queue u ≡ true → slice_get turns u ≡ slice_get others u =
      λ u h. same u (test-differs t u (but-member (t == u) (is_in turns q u) (sym (is.members u) ∙ h))) in
      record {
        in_order = in_order-same turns others queue (λ v u h k. precedes-same turns others v u (elsewhere v h) (elsewhere u k)) is.in_order;
        members = λ u. is.members u ∙ but-same (t == u) (is_in turns q u) (is_in others q u) (λ e. rw (same u (test-differs t u e)) refl);
      };
}

pub turned : (turns : List Turn) (t : ℕ) (turn : Turn) (queues : List (List ℕ)) → AreQueuedBut t turns queues → AreQueuedBut t (change (λ _. turn) turns t) queues
turned turns t turn queues was = others-same turns (change (λ _. turn) turns t) t queues (λ u other. sym (change-elsewhere (λ _. turn) turns t u other)) was

-- nor does its stamp
pub turned-stamp : (turns : List Turn) (t stamp : ℕ) (queues : List (List ℕ)) → AreQueuedBut t turns queues → AreQueuedBut t (change (restamped stamp) turns t) queues
turned-stamp turns t stamp queues was = others-same turns (change (restamped stamp) turns t) t queues (λ u other. sym (change-elsewhere (restamped stamp) turns t u other)) was

-- ---- one more
push-other : (turns : List Turn) (turn : Turn) (u : ℕ) → (u ≡ length turns → ⊥) → slice_get turns u ≡ slice_get (turns ++ turn ∷ []) u
push-other [] turn zero other = absurd (other refl)
push-other [] turn (suc u) other = refl
push-other (x ∷ turns) turn zero other = refl
push-other (x ∷ turns) turn (suc u) other = push-other turns turn u (λ same. other (ap suc same))

stay : (same member : Bool) → (same ≡ true → member ≡ false) → member ≡ (not same && member)
stay true member h = h refl
stay false member h = refl

same-test : (t u : ℕ) → (t == u) ≡ true → t ≡ u
same-test t u h = grind (arith, nat_tests)

past-none : (turns : List Turn) (q : ℕ) → is_in turns q (length turns) ≡ false
past-none turns q = rw (slice_get_past turns (length turns) (omega arith)) refl

pub pushed : (turns : List Turn) (turn : Turn) (queues : List (List ℕ)) → AreQueued turns queues → AreQueuedBut (length turns) (turns ++ turn ∷ []) queues
pushed turns turn queues was =
    others-same turns (turns ++ turn ∷ []) (length turns) queues (push-other turns turn)
    (record {
      queued = λ q queue at.
          let is = was.queued q queue at in
          record {
            in_order = is.in_order;
            members = λ u. is.members u ∙ stay (length turns == u) (is_in turns q u) (λ e. rw (← same-test (length turns) u e) (past-none turns q));
          };
    })
