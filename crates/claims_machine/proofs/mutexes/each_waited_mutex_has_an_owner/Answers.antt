use Rattle.std.proofs.Common.{◌≡◌, ◌≢◌, ℕ, ◌<◌, List, Option, Some, None, slice_get, length, refl, ap, ◌∙◌}
use Rattle.law_rules.specs.Ranking.{WalksNeverReturn}
use Rattle.evm_model.specs.Boosts.{walk}
use Rattle.evm_model.specs.Good.{AreLocks}
use Rattle.evm_model.specs.Mutexes.{owner, owner_of, lock_at, waits_on}
use Rattle.evm_model.specs.declared.limits.TheConstants.{TASK_LIMIT}
use Rattle.evm_model.specs.declared.mutex.Mutex.{Mutex}
use Rattle.evm_model.specs.declared.task.Task.{Task}
use Rattle.claims_machine.proofs.Ranking.{locks, waits}
use Rattle.claims_machine.proofs.Reached.{good}
use Rattle.claims_machine.proofs.mutexes.each_waited_mutex_has_an_owner.Goals as goal

-- a task doesn't wait for itself
not_itself : WalksNeverReturn → (mutexes : List Mutex) (tasks : List Task) (u t : ℕ) → AreLocks mutexes tasks → waits_on mutexes tasks u ≡ Some t → t ≢ u
unfolding walk
not_itself law mutexes tasks u t l e same = law (waits_on mutexes tasks) TASK_LIMIT 0 u l.chains (e ∙ ap Some same)

Owned : List Mutex → List Task → ℕ → ℕ → Type 0
Owned mutexes tasks u m = (t : ℕ) × ((mutex : Mutex) × ((slice_get mutexes m ≡ Some mutex) × (mutex.owner ≡ Some t) × (t < length tasks) × (t ≢ u)))

owned_by : WalksNeverReturn → (mutexes : List Mutex) (tasks : List Task) (u m : ℕ) (mutex : Mutex) (o : Option ℕ) → AreLocks mutexes tasks → lock_at tasks u ≡ Some m → slice_get mutexes m ≡ Some mutex → mutex.owner ≡ o → Owned mutexes tasks u m
unfolding Owned
owned_by law mutexes tasks u m mutex None l e there its = absurd (l.waited u m e (ap owner_of there ∙ its))
owned_by law mutexes tasks u m mutex (Some t) l e there its =
    let has : owner mutexes m ≡ Some t = ap owner_of there ∙ its in
    (t, (mutex, (there, its, l.owners m t has, not_itself law mutexes tasks u t l (waits mutexes tasks u m e ∙ has))))

owned_as : WalksNeverReturn → (mutexes : List Mutex) (tasks : List Task) (u m : ℕ) (o : Option Mutex) → AreLocks mutexes tasks → lock_at tasks u ≡ Some m → slice_get mutexes m ≡ o → Owned mutexes tasks u m
owned_as law mutexes tasks u m None l e there = absurd (l.waited u m e (ap owner_of there))
owned_as law mutexes tasks u m (Some mutex) l e there = owned_by law mutexes tasks u m mutex mutex.owner l e there refl

pub returns-clause-waited : goal.returns-clause-waited
unfolding Owned
returns-clause-waited g boot s u m task reached e on =
    owned_as g.walks_end.ensures.returns s.board.parts.mutexes s.board.parts.tasks u m (slice_get s.board.parts.mutexes m) (good g.rules_hold.ensures.booted g.rules_hold.ensures.loaded boot s reached).good.locks (locks s.board.parts.tasks u m task e on) refl

pub returns-clause-owners : goal.returns-clause-owners
returns-clause-owners g boot s m t mutex reached e its = (good g.rules_hold.ensures.booted g.rules_hold.ensures.loaded boot s reached).good.locks.owners m t (ap owner_of e ∙ its)

pub returns-clause-few : goal.returns-clause-few
returns-clause-few g boot s reached = (good g.rules_hold.ensures.booted g.rules_hold.ensures.loaded boot s reached).good.locks.few
