-- What a changed mutex leaves to be mended.
use Rattle.std.proofs.Common.{◌≡◌, ℕ, ◌+◌, ◌<◌, ◌≤◌, ◌⊎◌, List, [], ◌∷◌, ◌++◌, Option, Some, None, Bool, true, false, length, refl, ap, sym, ◌∙◌, inl, inr, arith, add-one}
use Rattle.std.specs.Prelude.{option_map, slice_get}
use Rattle.std.proofs.lemmas.Bool.Decides.{eqb_tells}
use Rattle.std.proofs.lemmas.List.{length-append}
use Rattle.evm_boost.proofs.Entries.{entered-by}
use Rattle.evm_boost.proofs.Lending.{first-nobody}
use Rattle.evm_boost.proofs.Moves.{fallen-left, out-first, out-second, out-other, own-least, slice_get-other}
use Rattle.evm_boost.proofs.Settled.{heir-owns, scheduled-settled, settling, sound-fewer, sound-free}
use Rattle.evm_boost.specs.Lent.{first_waiting}
use Rattle.evm_boost.specs.Scatter.{class_rank_at}
use Rattle.evm_boost.specs.Scheduled.{Scheduled, AreEntered, IsScheduled, AreSoundBoosts}
use Rattle.evm_boost.specs.Settling.{IsCalm, BoostsNobody, RaisesNobody, IsSettling, fallen_owner}
use Rattle.evm_model.proofs.Least.{greatest-least, greatest-links}
use Rattle.evm_model.proofs.Mending.{link-fewer}
use Rattle.evm_model.specs.Mending.{no_task, with_task}
use Rattle.evm_model.proofs.Lists.{change-elsewhere, change-here, length-change}
use Rattle.evm_model.specs.Lists.{change}
use Rattle.evm_model.specs.Mutexes.{boosts, heir_for, heir_of, heir_by, held_by, freed, lock_at, owner, owner_of, ceiling, ceiling_of, ceiling_by, ceiling_owner, ceiling_owner_of, ceiling_owner_by}
use Rattle.evm_model.specs.Ranks.{class_rank_of, own_rank}
use Rattle.evm_model.specs.declared.mutex.Mutex.{Mutex}
use Rattle.evm_model.specs.declared.mutex.Protocol.{Protocol}
use Rattle.evm_model.specs.declared.mutex.Protocol.TheVariants.{Inheritance, Ceiling}
use Rattle.evm_model.specs.declared.task.Task.{Task}
use Rattle.evm_model.specs.declared.task.Wait.TheVariants.{Lock}
use Rattle.evm_model.proofs.Greatest.{boosts-is, greatest-booster, greatest-first, greatest-same}
use Rattle.evm_model.specs.Boosts.{greatest, is_number}
use Rattle.evm_ready.specs.ListedRanks.{listed_rank}

-- a mutex has the same protocol
abbrev pub KeepsProtocols : (Mutex → Mutex) → Type 0
KeepsProtocols g = (mutex : Mutex) → (g mutex).protocol ≡ mutex.protocol

-- ---- one mutex
not-number : (o : Option ℕ) (u : ℕ) → (o ≡ Some u → ⊥) → is_number o u ≡ false
not-number o u never = by (is_number o u) refl
  where
    by : (b : Bool) → is_number o u ≡ b → is_number o u ≡ false
    by true is = absurd (never (boosts-is o u is))
    by false is = is

-- it makes no other than its owner a heir
heir-number : (o : Option Mutex) (u : ℕ) → (owner_of o ≡ Some u → ⊥) → is_number (heir_of o) u ≡ false
heir-number None u never = refl
heir-number (Some mutex) u never = by mutex.protocol
  where
    by : (p : Protocol) → is_number (heir_by p mutex.owner) u ≡ false
    by Inheritance = not-number mutex.owner u never
    by (Ceiling priority) = refl

-- .. and raises no other to its ceiling
ceiling-number : (o : Option Mutex) (u : ℕ) → (owner_of o ≡ Some u → ⊥) → is_number (ceiling_owner_of o) u ≡ false
ceiling-number None u never = refl
ceiling-number (Some mutex) u never = by mutex.protocol
  where
    by : (p : Protocol) → is_number (ceiling_owner_by p mutex.owner) u ≡ false
    by Inheritance = refl
    by (Ceiling priority) = not-number mutex.owner u never

ceiling-kept : (g : Mutex → Mutex) (o : Option Mutex) → KeepsProtocols g → ceiling_of (option_map g o) ≡ ceiling_of o
ceiling-kept g None keeps = refl
ceiling-kept g (Some mutex) keeps = ap ceiling_by (keeps mutex)

held-owner : (t count u : ℕ) (o : Option Mutex) → owner_of (option_map (held_by t count) o) ≡ Some u → t ≡ u
held-owner t count u None e = cc
held-owner t count u (Some mutex) e = cc

freed-owner : (u : ℕ) (o : Option Mutex) → owner_of (option_map freed o) ≡ Some u → ⊥
freed-owner u None e = cc
freed-owner u (Some mutex) e = cc

-- ---- all mutexes, where one is changed
pub ceilings-kept : (g : Mutex → Mutex) (mutexes : List Mutex) (m v : ℕ) → KeepsProtocols g → ceiling (change g mutexes m) v ≡ ceiling mutexes v
ceilings-kept g mutexes m v keeps = elim (eqb_tells v m) [
  | inl e ↦ rw e.1 (ap ceiling_of (change-here g mutexes m) ∙ ceiling-kept g (slice_get mutexes m) keeps)
  | inr e ↦ ap ceiling_of (change-elsewhere g mutexes m v e.1)
]

heirs-but : (g : Mutex → Mutex) (mutexes : List Mutex) (m u : ℕ) (o : Option ℕ) → (owner mutexes m ≡ Some u → ⊥) → (owner (change g mutexes m) m ≡ Some u → ⊥)
    → is_number (heir_for mutexes o) u ≡ is_number (heir_for (change g mutexes m) o) u
heirs-but g mutexes m u None never later = refl
heirs-but g mutexes m u (Some n) never later = elim (eqb_tells n m) [
  | inl e ↦ rw e.1 (heir-number (slice_get mutexes m) u never ∙ sym (heir-number (slice_get (change g mutexes m) m) u later))
  | inr e ↦ ap (λ (o : Option Mutex). is_number (heir_of o) u) (sym (change-elsewhere g mutexes m n e.1))
]

ceilings-but : (g : Mutex → Mutex) (mutexes : List Mutex) (m u v : ℕ) → (owner mutexes m ≡ Some u → ⊥) → (owner (change g mutexes m) m ≡ Some u → ⊥)
    → is_number (ceiling_owner mutexes v) u ≡ is_number (ceiling_owner (change g mutexes m) v) u
ceilings-but g mutexes m u v never later = elim (eqb_tells v m) [
  | inl e ↦ rw e.1 (ceiling-number (slice_get mutexes m) u never ∙ sym (ceiling-number (slice_get (change g mutexes m) m) u later))
  | inr e ↦ ap (λ (o : Option Mutex). is_number (ceiling_owner_of o) u) (sym (change-elsewhere g mutexes m v e.1))
]

own-same : (mutexes others : List Mutex) (tasks : List Task) (u : ℕ) → length others ≡ length mutexes
    → ((v : ℕ) → is_number (ceiling_owner mutexes v) u ≡ is_number (ceiling_owner others v) u) → ((v : ℕ) → ceiling others v ≡ ceiling mutexes v)
    → own_rank others tasks u ≡ own_rank mutexes tasks u
unfolding own_rank
own-same mutexes others tasks u count links same =
    let class = class_rank_of (slice_get tasks u) in
    sym (greatest-links (ceiling_owner mutexes) (ceiling_owner others) (ceiling mutexes) u class (length mutexes) (λ v less. links v)
    ∙ greatest-same (ceiling_owner others) (ceiling mutexes) (ceiling others) u class (length mutexes) (λ v less e. sym (same v))
    ∙ ap (greatest (ceiling_owner others) (ceiling others) u class) (sym count))

-- ---- a mutex passes on
pub pass-settling : (rest : ℕ → Bool) (g : Mutex → Mutex) (s next : Scheduled) (mutexes others : List Mutex) (tasks : List Task) (m : ℕ) → KeepsProtocols g
    → IsScheduled s mutexes tasks → others ≡ change g mutexes m
    → next.places ≡ s.places → next.waiters ≡ s.waiters → next.ranks ≡ s.ranks
    → (next.sound ≡ true → s.sound ≡ true) → (next.sound ≡ true → AreSoundBoosts others tasks)
    → ((u : ℕ) → rest u ≡ false → (owner mutexes m ≡ Some u → ⊥) × (owner (change g mutexes m) m ≡ Some u → ⊥))
    → IsSettling rest next others tasks
pass-settling rest g s next mutexes others tasks m keeps is e place waiter ranks was sound apart =
    rw e
    (settling rest s next mutexes (change g mutexes m) tasks tasks is (entered-by s next tasks is.entered place waiter ranks) ranks refl was
    (λ yes. rw e at (sound yes))
    (λ yes u out. own-same mutexes (change g mutexes m) tasks u (length-change g mutexes m)
    (λ v. ceilings-but g mutexes m u v (apart u out).0 (apart u out).1) (λ v. ceilings-kept g mutexes m v keeps))
    (λ yes u v out. heirs-but g mutexes m u (lock_at tasks v) (apart u out).0 (apart u out).1))

-- it is held by another task
out-number : (o : Option ℕ) (u : ℕ) → is_number o u ≡ false → (o ≡ Some u → ⊥)
out-number None u e is = cc
out-number (Some t) u e is = let same : t ≡ u = cc in out-other t u e (sym same)

held-at : (mutexes : List Mutex) (m t count u : ℕ) → owner (change (held_by t count) mutexes m) m ≡ Some u → t ≡ u
held-at mutexes m t count u e = held-owner t count u (slice_get mutexes m) (ap owner_of (sym (change-here (held_by t count) mutexes m)) ∙ e)

hold-to : (mutexes : List Mutex) (tasks : List Task) (m t count u v : ℕ) (o : Option ℕ) → heir_for (change (held_by t count) mutexes m) o ≡ Some v → (v ≡ t) ⊎ (heir_for mutexes o ≡ Some v)
hold-to mutexes tasks m t count u v None e = cc
hold-to mutexes tasks m t count u v (Some n) e = elim (eqb_tells n m) [
  | inl g ↦ inl (sym (held-at mutexes m t count v (heir-owns (slice_get (change (held_by t count) mutexes m) m) v (rw g.1 at e))))
  | inr g ↦ inr (ap heir_of (sym (change-elsewhere (held_by t count) mutexes m n g.1)) ∙ e)
]

pub hold-settling : (s next : Scheduled) (mutexes others : List Mutex) (tasks : List Task) (m t count : ℕ) (before : Option ℕ)
    → IsScheduled s mutexes tasks → others ≡ change (held_by t count) mutexes m → before ≡ owner mutexes m
    → next.places ≡ s.places → next.waiters ≡ s.waiters → next.ranks ≡ s.ranks
    → (next.sound ≡ true → s.sound ≡ true) → (next.sound ≡ true → BoostsNobody others tasks t)
    → IsSettling (with_task before (with_task (Some t) no_task)) next others tasks
hold-settling s next mutexes others tasks m t count before is e was_owner place waiter ranks was free =
    pass-settling (with_task before (with_task (Some t) no_task)) (held_by t count) s next mutexes others tasks m (λ mutex. refl) is e place waiter ranks was
    (λ yes. sound-free mutexes others tasks t (free yes).few (free yes).below (is.sound (was yes)) (free yes).alone
    (λ u v to. hold-to mutexes tasks m t count u v (lock_at tasks u) (rw e at to)))
    (λ u out. (
      λ owns. out-number before u (out-first before (with_task (Some t) no_task) u out) (was_owner ∙ owns),
      λ owns. out-number (Some t) u (out-first (Some t) no_task u (out-second before (with_task (Some t) no_task) u out)) (ap Some (held-at mutexes m t count u owns)),
    ))

-- it is free
freed-at : (mutexes : List Mutex) (m u : ℕ) → owner (change freed mutexes m) m ≡ Some u → ⊥
freed-at mutexes m u e = freed-owner u (slice_get mutexes m) (ap owner_of (sym (change-here freed mutexes m)) ∙ e)

leave-to : (mutexes : List Mutex) (m v : ℕ) (o : Option ℕ) → heir_for (change freed mutexes m) o ≡ Some v → heir_for mutexes o ≡ Some v
leave-to mutexes m v None e = cc
leave-to mutexes m v (Some n) e = elim (eqb_tells n m) [
  | inl g ↦ absurd (freed-at mutexes m v (heir-owns (slice_get (change freed mutexes m) m) v (rw g.1 at e)))
  | inr g ↦ ap heir_of (sym (change-elsewhere freed mutexes m n g.1)) ∙ e
]

pub leave-settling : (s next : Scheduled) (mutexes others : List Mutex) (tasks : List Task) (m : ℕ) (before : Option ℕ)
    → IsScheduled s mutexes tasks → others ≡ change freed mutexes m → before ≡ owner mutexes m
    → next.places ≡ s.places → next.waiters ≡ s.waiters → next.ranks ≡ s.ranks → next.sound ≡ s.sound
    → IsSettling (with_task before (with_task None no_task)) next others tasks
leave-settling s next mutexes others tasks m before is e was_owner place waiter ranks sound =
    pass-settling (with_task before (with_task None no_task)) freed s next mutexes others tasks m (λ mutex. refl) is e place waiter ranks (λ yes. sym sound ∙ yes)
    (λ yes. sound-fewer mutexes others tasks tasks (omega arith) (is.sound (sym sound ∙ yes)) (λ u v to. leave-to mutexes m v (lock_at tasks u) (rw e at to)))
    (λ u out. (λ owns. out-number before u (out-first before (with_task None no_task) u out) (was_owner ∙ owns), freed-at mutexes m u))

-- its owner's own rank is no greater then
leave-raises : (o : Option Mutex) (u : ℕ) → ceiling_owner_of (option_map freed o) ≡ Some u → ⊥
leave-raises None u e = cc
leave-raises (Some mutex) u e = by mutex.protocol refl
  where
    by : (p : Protocol) → mutex.protocol ≡ p → ⊥
    by Inheritance is = let no : None ≡ Some u = rw is at e in cc
    by (Ceiling priority) is = let no : None ≡ Some u = rw is at e in cc

leave-ceiling : (mutexes : List Mutex) (m u v : ℕ) → ceiling_owner (change freed mutexes m) v ≡ Some u → ceiling_owner mutexes v ≡ Some u
leave-ceiling mutexes m u v e = elim (eqb_tells v m) [
  | inl g ↦ absurd (leave-raises (slice_get mutexes m) u (ap ceiling_owner_of (sym (change-here freed mutexes m)) ∙ rw g.1 at e))
  | inr g ↦ ap ceiling_owner_of (sym (change-elsewhere freed mutexes m v g.1)) ∙ e
]

leave-own : (mutexes : List Mutex) (tasks : List Task) (m u : ℕ) → own_rank (change freed mutexes m) tasks u ≤ own_rank mutexes tasks u
unfolding own_rank
leave-own mutexes tasks m u =
    let others = change freed mutexes m in
    let class = class_rank_of (slice_get tasks u) in
    let count : length others ≡ length mutexes = length-change freed mutexes m in
    let most = greatest (ceiling_owner mutexes) (ceiling mutexes) u class (length mutexes) in
    greatest-least (ceiling_owner others) (ceiling others) u class (length others) most
    (greatest-first (ceiling_owner mutexes) (ceiling mutexes) u class (length mutexes))
    (λ v less e.
    let up = greatest-booster (ceiling_owner mutexes) (ceiling mutexes) u class (length mutexes) v (omega (arith, less, count)) (leave-ceiling mutexes m u v e) in
    let same : ceiling others v ≡ ceiling mutexes v = ceilings-kept freed mutexes m v (λ mutex. refl) in
    omega (arith, up, same))

-- an owner that ranks as its class has its rank still
owner-settled : (s : Scheduled) (mutexes : List Mutex) (tasks : List Task) (m u : ℕ) → IsScheduled s mutexes tasks → s.sound ≡ true
    → listed_rank s.ranks u ≤ class_rank_at tasks u → u < length tasks
    → listed_rank s.ranks u ≡ greatest (boosts (change freed mutexes m) tasks) (listed_rank s.ranks) u (own_rank (change freed mutexes m) tasks u) (length tasks)
owner-settled s mutexes tasks m u is sound low less =
    link-fewer (boosts mutexes tasks) (boosts (change freed mutexes m) tasks) (listed_rank s.ranks) u (own_rank mutexes tasks u) (own_rank (change freed mutexes m) tasks u) (length tasks)
    (λ x e. leave-to mutexes m u (lock_at tasks x) e)
    (leave-own mutexes tasks m u)
    (let least = own-least (change freed mutexes m) tasks u in omega (arith, least, low))
    (scheduled-settled s mutexes tasks is sound u less)

-- so it is left only where it may fall
pub fallen-settling : (s next : Scheduled) (mutexes others : List Mutex) (tasks : List Task) (m : ℕ) (before : Option ℕ) → IsScheduled s mutexes tasks → others ≡ change freed mutexes m
    → next.ranks ≡ s.ranks → next.sound ≡ s.sound
    → IsSettling (with_task before (with_task None no_task)) next others tasks → IsSettling (with_task (fallen_owner next.ranks tasks before) (with_task None no_task)) next others tasks
fallen-settling s next mutexes others tasks m before is e ranks sound left =
    fallen-left next others tasks before (λ u at yes low less. rw (ranks, e) (owner-settled s mutexes tasks m u is (sym sound ∙ yes) (rw (← ranks) low) less)) left

-- ---- no link changes
pub calm-settling : (s next : Scheduled) (mutexes others : List Mutex) (tasks : List Task) → IsScheduled s mutexes tasks
    → next.places ≡ s.places → next.waiters ≡ s.waiters → next.ranks ≡ s.ranks → (next.sound ≡ true → s.sound ≡ true)
    → (next.sound ≡ true → (u : ℕ) → boosts others tasks u ≡ boosts mutexes tasks u) → (next.sound ≡ true → (u : ℕ) → own_rank others tasks u ≡ own_rank mutexes tasks u)
    → IsSettling (with_task None (with_task None no_task)) next others tasks
calm-settling s next mutexes others tasks is place waiter ranks was links own =
    settling (with_task None (with_task None no_task)) s next mutexes others tasks tasks is (entered-by s next tasks is.entered place waiter ranks) ranks refl was
    (λ yes. sound-fewer mutexes others tasks tasks (omega arith) (is.sound (was yes)) (λ u v to. sym (links yes u) ∙ to))
    (λ yes u out. own yes u)
    (λ yes u v out. ap (λ (o : Option ℕ). is_number o u) (sym (links yes v)))

-- the mutex has the same heir, where any task waits for it, and raises the same task to its ceiling
pub record IsAsIdle (s : Scheduled) (mutexes others : List Mutex) (m : ℕ) : Type 0 where
  pub heir : (first_waiting s (Lock m) ≡ None) ⊎ (heir_of (slice_get others m) ≡ heir_of (slice_get mutexes m))
  pub raises : ceiling_owner others m ≡ ceiling_owner mutexes m

heirs-as : (g : Mutex → Mutex) (s : Scheduled) (mutexes : List Mutex) (tasks : List Task) (m u : ℕ) (o : Option ℕ) → AreEntered s tasks → lock_at tasks u ≡ o
    → IsAsIdle s mutexes (change g mutexes m) m → heir_for (change g mutexes m) o ≡ heir_for mutexes o
heirs-as g s mutexes tasks m u None are e as_idle = refl
heirs-as g s mutexes tasks m u (Some n) are e as_idle = elim (eqb_tells n m) [
  | inl at ↦ elim as_idle.heir [
    | inl none ↦ absurd (first-nobody s tasks m u are none (e ∙ ap Some at.1))
    | inr same ↦ rw at.1 same
  ]
  | inr at ↦ ap heir_of (change-elsewhere g mutexes m n at.1)
]

ceilings-as : (g : Mutex → Mutex) (s : Scheduled) (mutexes : List Mutex) (m v : ℕ) → IsAsIdle s mutexes (change g mutexes m) m → ceiling_owner (change g mutexes m) v ≡ ceiling_owner mutexes v
ceilings-as g s mutexes m v as_idle = elim (eqb_tells v m) [
  | inl at ↦ rw at.1 as_idle.raises
  | inr at ↦ ap ceiling_owner_of (change-elsewhere g mutexes m v at.1)
]

pub idle-settling : (g : Mutex → Mutex) (s next : Scheduled) (mutexes others : List Mutex) (tasks : List Task) (m : ℕ) → KeepsProtocols g → IsScheduled s mutexes tasks → others ≡ change g mutexes m
    → next.places ≡ s.places → next.waiters ≡ s.waiters → next.ranks ≡ s.ranks → next.sound ≡ s.sound → IsAsIdle s mutexes (change g mutexes m) m
    → IsSettling (with_task None (with_task None no_task)) next others tasks
idle-settling g s next mutexes others tasks m keeps is e place waiter ranks sound as_idle =
    rw e
    (calm-settling s next mutexes (change g mutexes m) tasks is place waiter ranks (λ yes. sym sound ∙ yes)
    (λ yes u. heirs-as g s mutexes tasks m u (lock_at tasks u) is.entered refl as_idle)
    (λ yes u. own-same mutexes (change g mutexes m) tasks u (length-change g mutexes m)
    (λ v. ap (λ (o : Option ℕ). is_number o u) (sym (ceilings-as g s mutexes m v as_idle))) (λ v. ceilings-kept g mutexes m v keeps)))

-- an idle mutex stays so
raises-none : (p : Protocol) (o : Option ℕ) → p ≡ Inheritance → ceiling_owner_by p o ≡ None
raises-none p o e = rw e refl

idle-raises : (g : Mutex → Mutex) (o : Option Mutex) → KeepsProtocols g → ((mutex : Mutex) → o ≡ Some mutex → mutex.protocol ≡ Inheritance) → ceiling_owner_of (option_map g o) ≡ ceiling_owner_of o
idle-raises g None keeps inherits = refl
idle-raises g (Some mutex) keeps inherits =
    raises-none (g mutex).protocol (g mutex).owner (keeps mutex ∙ inherits mutex refl) ∙ sym (raises-none mutex.protocol mutex.owner (inherits mutex refl))

idle-heir : (g : Mutex → Mutex) (s : Scheduled) (m : ℕ) (o : Option Mutex) → ((mutex : Mutex) → o ≡ Some mutex → first_waiting s (Lock m) ≡ None)
    → (first_waiting s (Lock m) ≡ None) ⊎ (heir_of (option_map g o) ≡ heir_of o)
idle-heir g s m None alone = inr refl
idle-heir g s m (Some mutex) alone = inl (alone mutex refl)

pub idle-as : (g : Mutex → Mutex) (s : Scheduled) (mutexes : List Mutex) (m : ℕ) → KeepsProtocols g → RaisesNobody s mutexes m → IsAsIdle s mutexes (change g mutexes m) m
idle-as g s mutexes m keeps idle = record {
  heir = rw (change-here g mutexes m) (idle-heir g s m (slice_get mutexes m) idle.alone);
  raises = ap ceiling_owner_of (change-here g mutexes m) ∙ idle-raises g (slice_get mutexes m) keeps idle.inherits;
}

-- one that its owner has already has the same heir
owner-heir : (t count : ℕ) (o : Option Mutex) → owner_of o ≡ Some t
    → (heir_of (option_map (held_by t count) o) ≡ heir_of o) × (ceiling_owner_of (option_map (held_by t count) o) ≡ ceiling_owner_of o)
owner-heir t count None owns = cc
owner-heir t count (Some mutex) owns = (ap (heir_by mutex.protocol) (sym owns), ap (ceiling_owner_by mutex.protocol) (sym owns))

owner-as : (s : Scheduled) (mutexes : List Mutex) (m t count : ℕ) → owner mutexes m ≡ Some t → IsAsIdle s mutexes (change (held_by t count) mutexes m) m
owner-as s mutexes m t count owns = record {
  heir = inr (ap heir_of (change-here (held_by t count) mutexes m) ∙ (owner-heir t count (slice_get mutexes m) owns).0);
  raises = ap ceiling_owner_of (change-here (held_by t count) mutexes m) ∙ (owner-heir t count (slice_get mutexes m) owns).1;
}

pub calm-as : (s : Scheduled) (mutexes : List Mutex) (m t count : ℕ) → IsCalm s mutexes m t → IsAsIdle s mutexes (change (held_by t count) mutexes m) m
calm-as s mutexes m t count calm = elim calm [
  | inl owns ↦ owner-as s mutexes m t count owns
  | inr idle ↦ idle-as (held_by t count) s mutexes m (λ mutex. refl) idle
]

-- ---- one mutex more, which nobody owns
none-heir : (p : Protocol) → heir_by p None ≡ None
none-heir Inheritance = refl
none-heir (Ceiling priority) = refl

none-raises : (p : Protocol) → ceiling_owner_by p None ≡ None
none-raises Inheritance = refl
none-raises (Ceiling priority) = refl

slice_get-last : (mutexes : List Mutex) (mutex : Mutex) → slice_get (mutexes ++ mutex ∷ []) (length mutexes) ≡ Some mutex
slice_get-last [] mutex = refl
slice_get-last (x ∷ mutexes) mutex = slice_get-last mutexes mutex

slice_get-end : (mutexes : List Mutex) → slice_get mutexes (length mutexes) ≡ None
slice_get-end [] = refl
slice_get-end (x ∷ mutexes) = slice_get-end mutexes

create-heir : (mutexes : List Mutex) (mutex : Mutex) (o : Option ℕ) → mutex.owner ≡ None → heir_for (mutexes ++ mutex ∷ []) o ≡ heir_for mutexes o
create-heir mutexes mutex None none = refl
create-heir mutexes mutex (Some n) none = elim (eqb_tells n (length mutexes)) [
  | inl at ↦
      rw at.1
      (ap heir_of (slice_get-last mutexes mutex) ∙ ap (heir_by mutex.protocol) none ∙ none-heir mutex.protocol ∙ ap heir_of (sym (slice_get-end mutexes)))
  | inr at ↦ ap heir_of (slice_get-other mutexes mutex n at.1)
]

create-step : (boosts : ℕ → Option ℕ) (rank : ℕ → ℕ) (t first n : ℕ) → boosts n ≡ None → greatest boosts rank t first (n + 1) ≡ greatest boosts rank t first n
unfolding greatest
create-step boosts rank t first n none = rw (add-one, none) refl

create-own : (mutexes : List Mutex) (mutex : Mutex) (tasks : List Task) (u : ℕ) → mutex.owner ≡ None → own_rank (mutexes ++ mutex ∷ []) tasks u ≡ own_rank mutexes tasks u
unfolding own_rank
create-own mutexes mutex tasks u none =
    let others = mutexes ++ mutex ∷ [] in
    let class = class_rank_of (slice_get tasks u) in
    let last : ceiling_owner others (length mutexes) ≡ None = ap ceiling_owner_of (slice_get-last mutexes mutex) ∙ ap (ceiling_owner_by mutex.protocol) none ∙ none-raises mutex.protocol in
    let same : (v : ℕ) → v < length mutexes → slice_get others v ≡ slice_get mutexes v = λ v less. slice_get-other mutexes mutex v (λ is. omega (arith, is, less)) in
    ap (greatest (ceiling_owner others) (ceiling others) u class) (length-append mutexes (mutex ∷ []))
    ∙ create-step (ceiling_owner others) (ceiling others) u class (length mutexes) last
    ∙ greatest-links (ceiling_owner others) (ceiling_owner mutexes) (ceiling others) u class (length mutexes) (λ v less. ap (λ (o : Option Mutex). is_number (ceiling_owner_of o) u) (same v less))
    ∙ greatest-same (ceiling_owner mutexes) (ceiling others) (ceiling mutexes) u class (length mutexes) (λ v less e. ap ceiling_of (same v less))

pub create-settling : (s next : Scheduled) (mutexes others : List Mutex) (tasks : List Task) (mutex : Mutex) → IsScheduled s mutexes tasks → others ≡ mutexes ++ mutex ∷ []
    → next.places ≡ s.places → next.waiters ≡ s.waiters → next.ranks ≡ s.ranks → (next.sound ≡ true → s.sound ≡ true) → (next.sound ≡ true → mutex.owner ≡ None)
    → IsSettling (with_task None (with_task None no_task)) next others tasks
create-settling s next mutexes others tasks mutex is e place waiter ranks was none =
    rw e
    (calm-settling s next mutexes (mutexes ++ mutex ∷ []) tasks is place waiter ranks was
    (λ yes u. create-heir mutexes mutex (lock_at tasks u) (none yes))
    (λ yes u. create-own mutexes mutex tasks u (none yes)))
