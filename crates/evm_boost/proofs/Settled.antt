-- Ranks on the way from one schedule to the next.
use Rattle.std.proofs.Common.{◌≡◌, ℕ, ◌+◌, ◌<◌, ◌≤◌, ◌⊎◌, List, Option, Some, None, Bool, true, false, length, refl, ap, sym, ◌∙◌, inl, inr, arith}
use Rattle.std.specs.Prelude.{◌==◌, if◌then◌else◌, slice_get}
use Rattle.std.proofs.lemmas.Bool.Decides.{eqb_tells}
use Rattle.evm_boost.proofs.Entries.{entered-rank}
use Rattle.evm_boost.specs.Scatter.{AreRanks}
use Rattle.evm_boost.specs.Scheduled.{Scheduled, AreEntered, IsScheduled, AreSoundBoosts}
use Rattle.evm_boost.specs.Settling.{IsSettling}
use Rattle.evm_model.proofs.Lists.{change-here, change-elsewhere, slice_get-within}
use Rattle.evm_model.specs.Lists.{change}
use Rattle.evm_model.specs.Mutexes.{boosts, waits_on, heir_for, heir_of, lock_at, owner_of, owner_for}
use Rattle.evm_model.specs.Ranks.{own_rank, rank}
use Rattle.evm_model.specs.declared.limits.TheConstants.{TASK_LIMIT}
use Rattle.evm_model.specs.declared.mutex.Mutex.{Mutex}
use Rattle.evm_model.specs.declared.mutex.Protocol.{Protocol}
use Rattle.evm_model.specs.declared.mutex.Protocol.TheVariants.{Inheritance, Ceiling}
use Rattle.evm_model.specs.declared.task.Task.{Task}
use Rattle.evm_model.proofs.Heights.{falls-low}
use Rattle.evm_model.proofs.Links.{fewer-keeps}
use Rattle.evm_model.proofs.Mending.{settled-are, are-settled, mended-here, mended-on, mended-none, changed-but, no-loop, walk-over}
use Rattle.evm_model.proofs.Relinks.{limit-more, free-keeps, way-more}
use Rattle.evm_model.specs.Boosts.{is_number, greatest, reaches, walk, Falls, IsSettledRank}
use Rattle.evm_model.specs.Mending.{no_task, with_task}
use Rattle.evm_ready.specs.ListedRanks.{listed_rank, rank_or_0}

-- ---- between schedules
-- the ranks of a schedule follow from those of the boosters
pub scheduled-settled : (s : Scheduled) (mutexes : List Mutex) (tasks : List Task) → IsScheduled s mutexes tasks → s.sound ≡ true
    → IsSettledRank (boosts mutexes tasks) (own_rank mutexes tasks) (length tasks) (listed_rank s.ranks)
unfolding rank
scheduled-settled s mutexes tasks is sound =
    are-settled (boosts mutexes tasks) (own_rank mutexes tasks) (length tasks) TASK_LIMIT (listed_rank s.ranks) (is.sound sound).height is.ranks

settled-ranks : (s : Scheduled) (mutexes : List Mutex) (tasks : List Task) → IsSettling no_task s mutexes tasks → s.sound ≡ true → AreRanks s.ranks mutexes tasks
unfolding rank
settled-ranks s mutexes tasks is sound =
    settled-are (boosts mutexes tasks) (own_rank mutexes tasks) (length tasks) TASK_LIMIT (listed_rank s.ranks) (is.sound sound).height (is.settled sound)

-- where no task is left, they are the ranks
pub settled-scheduled : (s : Scheduled) (mutexes : List Mutex) (tasks : List Task) → IsSettling no_task s mutexes tasks → s.sound ≡ true → IsScheduled s mutexes tasks
settled-scheduled s mutexes tasks is sound = record {
  entered = is.entered;
  ranks = settled-ranks s mutexes tasks is sound;
  sound = is.sound;
}

-- ---- one task is mended
-- it has its rank
pub settled-here : (rest : ℕ → Bool) (s : Scheduled) (mutexes : List Mutex) (tasks : List Task) (t : ℕ)
    → listed_rank s.ranks t ≡ greatest (boosts mutexes tasks) (listed_rank s.ranks) t (own_rank mutexes tasks t) (length tasks)
    → IsSettling (with_task (Some t) rest) s mutexes tasks → IsSettling rest s mutexes tasks
settled-here rest s mutexes tasks t right is = record {
  entered = is.entered;
  sound = is.sound;
  settled = λ sound. mended-here rest (boosts mutexes tasks) (own_rank mutexes tasks) (length tasks) t (listed_rank s.ranks) right (is.settled sound);
}

-- there is no such task
beyond : (rest : ℕ → Bool) (t u count : ℕ) (b : Bool) → (t == u) ≡ b → count ≤ t → u < count → rest u ≡ false → (if b then true else rest u) ≡ false
beyond rest t u count true e over less out = elim (eqb_tells t u) [
  | inl g ↦ absurd (omega (arith, over, less, g.1))
  | inr g ↦ let no : true ≡ false = sym e ∙ g.0 in cc
]
beyond rest t u count false e over less out = out

pub settled-beyond : (rest : ℕ → Bool) (s : Scheduled) (mutexes : List Mutex) (tasks : List Task) (t : ℕ) → length tasks ≤ t
    → IsSettling (with_task (Some t) rest) s mutexes tasks → IsSettling rest s mutexes tasks
settled-beyond rest s mutexes tasks t over is = record {
  entered = is.entered;
  sound = is.sound;
  settled = λ sound. record { settled = λ u less out. (is.settled sound).settled u less (beyond rest t u (length tasks) (t == u) refl over less out) };
}

-- it has another, and the task that it boosts is left
rank-here : (ranks next : List ℕ) (t r : ℕ) → t < length ranks → next ≡ change (λ _. r) ranks t → listed_rank next t ≡ r
rank-here ranks next t r less e =
    let there = slice_get-within ranks t less in
    ap (λ (xs : List ℕ). listed_rank xs t) e ∙ ap rank_or_0 (change-here (λ _. r) ranks t) ∙ rw there.1 refl

rank-elsewhere : (ranks next : List ℕ) (t r u : ℕ) → (u ≡ t → ⊥) → next ≡ change (λ _. r) ranks t → listed_rank next u ≡ listed_rank ranks u
rank-elsewhere ranks next t r u other e = ap (λ (xs : List ℕ). listed_rank xs u) e ∙ ap rank_or_0 (change-elsewhere (λ _. r) ranks t u other)

pub settled-on : (rest : ℕ → Bool) (s next : Scheduled) (mutexes : List Mutex) (tasks : List Task) (t r : ℕ) → t < length tasks
    → r ≡ greatest (boosts mutexes tasks) (listed_rank s.ranks) t (own_rank mutexes tasks t) (length tasks)
    → next.places ≡ s.places → next.waiters ≡ s.waiters → next.ranks ≡ change (λ _. r) s.ranks t → next.sound ≡ s.sound
    → IsSettling (with_task (Some t) rest) s mutexes tasks → IsSettling (with_task (boosts mutexes tasks t) rest) next mutexes tasks
settled-on rest s next mutexes tasks t r less right place waiter ranks same is =
    let count = is.entered.count in
    record {
      entered = entered-rank s next tasks t r is.entered place waiter ranks;
      sound = λ sound. is.sound (sym same ∙ sound);
      settled = λ sound.
          mended-on rest (boosts mutexes tasks) (own_rank mutexes tasks) (length tasks) t (listed_rank s.ranks) (listed_rank next.ranks)
          (no-loop (boosts mutexes tasks) TASK_LIMIT t (is.sound (sym same ∙ sound)).height)
          (rank-here s.ranks next.ranks t r (omega (arith, count, less)) ranks ∙ right)
          (λ u other. rank-elsewhere s.ranks next.ranks t r u other ranks)
          (is.settled (sym same ∙ sound));
    }

-- ---- the walk
pub settled-none : (rest : ℕ → Bool) (s : Scheduled) (mutexes : List Mutex) (tasks : List Task) → IsSettling (with_task None rest) s mutexes tasks → IsSettling rest s mutexes tasks
settled-none rest s mutexes tasks is = record {
  entered = is.entered;
  sound = is.sound;
  settled = λ sound. mended-none rest (boosts mutexes tasks) (own_rank mutexes tasks) (length tasks) (listed_rank s.ranks) (is.settled sound);
}

over-step : (rest : ℕ → Bool) (s : Scheduled) (mutexes : List Mutex) (tasks : List Task) (o : Option ℕ) → ((u : ℕ) → o ≡ Some u → s.sound ≡ true → ⊥)
    → IsSettling (with_task o rest) s mutexes tasks → IsSettling rest s mutexes tasks
over-step rest s mutexes tasks None over is = settled-none rest s mutexes tasks is
over-step rest s mutexes tasks (Some u) over is = record {
  entered = is.entered;
  sound = is.sound;
  settled = λ sound. absurd (over u refl sound);
}

-- it is over after as many links as there may be tasks
pub settled-over : (rest : ℕ → Bool) (s : Scheduled) (mutexes : List Mutex) (tasks : List Task) (from link : ℕ) (o : Option ℕ) → TASK_LIMIT + 1 ≤ link → link ≤ TASK_LIMIT + 1
    → ((u : ℕ) → o ≡ Some u → walk (boosts mutexes tasks) link from ≡ Some u)
    → IsSettling (with_task o rest) s mutexes tasks → IsSettling rest s mutexes tasks
settled-over rest s mutexes tasks from link o over few way is =
    let all : link ≡ TASK_LIMIT + 1 = omega (arith, over, few) in
    over-step rest s mutexes tasks o
    (λ u e sound. walk-over (boosts mutexes tasks) TASK_LIMIT from u (is.sound sound).height (rw (← all) (way u e))) is

-- ---- what a change leaves to be mended
pub settling : (rest : ℕ → Bool) (s next : Scheduled) (mutexes others : List Mutex) (tasks new : List Task) → IsScheduled s mutexes tasks → AreEntered next new
    → next.ranks ≡ s.ranks → length new ≡ length tasks → (next.sound ≡ true → s.sound ≡ true) → (next.sound ≡ true → AreSoundBoosts others new)
    → (next.sound ≡ true → (u : ℕ) → rest u ≡ false → own_rank others new u ≡ own_rank mutexes tasks u)
    → (next.sound ≡ true → (u v : ℕ) → rest u ≡ false → is_number (boosts mutexes tasks v) u ≡ is_number (boosts others new v) u)
    → IsSettling rest next others new
settling rest s next mutexes others tasks new is entered ranks count was sound own links = record {
  entered = entered;
  sound = sound;
  settled = λ yes.
      rw (ranks, count)
      (changed-but rest (boosts mutexes tasks) (boosts others new) (own_rank mutexes tasks) (own_rank others new) (length tasks) (listed_rank s.ranks)
      (λ u less out. own yes u out) (λ u v less below out. links yes u v out) (scheduled-settled s mutexes tasks is (was yes)));
}

-- ---- chains that don't close
-- links fewer
pub sound-fewer : (mutexes others : List Mutex) (tasks new : List Task) → length tasks ≤ length new → AreSoundBoosts mutexes tasks
    → ((u v : ℕ) → boosts others new u ≡ Some v → boosts mutexes tasks u ≡ Some v) → AreSoundBoosts others new
sound-fewer mutexes others tasks new more is part = record {
  height = fewer-keeps (boosts mutexes tasks) (boosts others new) TASK_LIMIT is.height part;
  inside = λ u v e. let less = is.inside u v (part u v e) in omega (arith, less, more);
}

-- something falls along each link, and each leads to a task
pub sound-falls : (mutexes : List Mutex) (tasks : List Task) → length tasks ≤ TASK_LIMIT → ((u t : ℕ) → boosts mutexes tasks u ≡ Some t → t < length tasks)
    → Falls (boosts mutexes tasks) → AreSoundBoosts mutexes tasks
sound-falls mutexes tasks few inside falls = record {
  height = limit-more (boosts mutexes tasks) (length tasks) TASK_LIMIT few (falls-low (boosts mutexes tasks) (length tasks) inside falls);
  inside = inside;
}

-- links into a task that boosts nobody
pub sound-free : (mutexes others : List Mutex) (tasks : List Task) (t : ℕ) → length tasks ≤ TASK_LIMIT → t < length tasks → AreSoundBoosts mutexes tasks → boosts others tasks t ≡ None
    → ((u v : ℕ) → boosts others tasks u ≡ Some v → (v ≡ t) ⊎ (boosts mutexes tasks u ≡ Some v)) → AreSoundBoosts others tasks
sound-free mutexes others tasks t few less is none to =
    sound-falls others tasks few
    (λ u v e. elim (to u v e) [ inl same ↦ omega (arith, same, less) | inr was ↦ is.inside u v was ])
    (free-keeps (boosts mutexes tasks) (boosts others tasks) TASK_LIMIT t is.height none to)

-- who boosts a task waits for it
pub heir-owns : (o : Option Mutex) (t : ℕ) → heir_of o ≡ Some t → owner_of o ≡ Some t
heir-owns None t e = cc
heir-owns (Some mutex) t e = by mutex.protocol refl
  where
    by : (p : Protocol) → mutex.protocol ≡ p → mutex.owner ≡ Some t
    by Inheritance is = rw is at e
    by (Ceiling priority) is = let no : None ≡ Some t = rw is at e in cc

heir-for-owns : (mutexes : List Mutex) (o : Option ℕ) (t : ℕ) → heir_for mutexes o ≡ Some t → owner_for mutexes o ≡ Some t
heir-for-owns mutexes None t e = cc
heir-for-owns mutexes (Some m) t e = heir-owns (slice_get mutexes m) t e

boosts-waits : (mutexes : List Mutex) (tasks : List Task) (u t : ℕ) → boosts mutexes tasks u ≡ Some t → waits_on mutexes tasks u ≡ Some t
boosts-waits mutexes tasks u t e = heir-for-owns mutexes (lock_at tasks u) t e

not-both : (b : Bool) → (b ≡ true → ⊥) → b ≡ false
not-both true h = absurd (h refl)
not-both false h = refl

-- the way from a heir doesn't come back
pub away : (mutexes : List Mutex) (tasks : List Task) (t u : ℕ) → reaches (waits_on mutexes tasks) t TASK_LIMIT (Some u) ≡ false → reaches (boosts mutexes tasks) t TASK_LIMIT (Some u) ≡ false
away mutexes tasks t u e =
    not-both (reaches (boosts mutexes tasks) t TASK_LIMIT (Some u))
    (λ way. let no = way-more (boosts mutexes tasks) (waits_on mutexes tasks) t TASK_LIMIT (Some u) (Some u) (boosts-waits mutexes tasks) (λ v is. is) way in
    let bad : true ≡ false = sym no ∙ e in cc)

pub settled-to_none : (rest : ℕ → Bool) (s : Scheduled) (mutexes : List Mutex) (tasks : List Task) → IsSettling rest s mutexes tasks → IsSettling (with_task None rest) s mutexes tasks
settled-to_none rest s mutexes tasks is = record {
  entered = is.entered;
  sound = is.sound;
  settled = λ sound. record { settled = (is.settled sound).settled };
}

-- the task where a walk is
pub settled-at : (rest : ℕ → Bool) (s : Scheduled) (mutexes : List Mutex) (tasks : List Task) (o p : Option ℕ) → o ≡ p
    → IsSettling (with_task o rest) s mutexes tasks → IsSettling (with_task p rest) s mutexes tasks
settled-at rest s mutexes tasks o p e is = rw e at is
