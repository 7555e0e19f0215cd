-- How the entries follow the tasks.
use Rattle.std.proofs.Common.{◌≡◌, ℕ, ◌<◌, List, [], ◌∷◌, ◌++◌, Option, Some, None, length, refl, sym, ap, ◌∙◌, arith}
use Rattle.std.specs.Prelude.{map, option_map, slice_get, slice_set}
use Rattle.std.proofs.lemmas.List.{length-append, length-map, map-append, map-set}
use Rattle.std.proofs.lemmas.Option.{slice_get-map}
use Rattle.evm_boost.specs.Scheduled.{Scheduled, AreEntered}
use Rattle.evm_boost.specs.Settling.{entered_as, stamped}
use Rattle.evm_model.proofs.Lists.{length-change, slice_get-set_same, slice_set-same}
use Rattle.evm_model.specs.Lists.{change, change_some}
use Rattle.evm_model.specs.declared.limits.TheConstants.{TASK_LIMIT}
use Rattle.evm_model.specs.declared.task.Task.{Task}
use Rattle.evm_model.specs.declared.task.TaskState.{TaskState}
use Rattle.evm_model.specs.declared.task.TaskState.TheVariants.{InReady, OobReady, Waits, Exit, Faulted}
use Rattle.evm_ready.specs.Places.{placed_in, ready_place, stamped_place}
use Rattle.evm_wait.specs.Waiters.{awaited, awaited_in, stamped_waiter}

-- one entry follows its task
follows-there : {X : Type 0} (says : Task → Option X) (tasks : List Task) (t : ℕ) (old new : Task) → slice_get tasks t ≡ Some old
    → change (λ _. says new) (map says tasks) t ≡ map says (slice_set tasks t new)
follows-there says tasks t old new e =
    let there : slice_get (map says tasks) t ≡ Some (says old) = slice_get-map says tasks t ∙ ap (option_map says) e in
    rw there (sym (map-set says tasks t new))

follows-some : {X : Type 0} (says : Task → Option X) (f : Task → Task) (tasks : List Task) (t : ℕ) (o : Option Task) → slice_get tasks t ≡ o
    → entered_as says (slice_get (change_some o f tasks t) t) t (map says tasks) ≡ map says (change_some o f tasks t)
follows-some says f tasks t None e = rw e refl
follows-some says f tasks t (Some old) e = rw (slice_get-set_same tasks t old (f old) e) (follows-there says tasks t old (f old) e)

follows : {X : Type 0} (says : Task → Option X) (f : Task → Task) (tasks : List Task) (t : ℕ)
    → entered_as says (slice_get (change f tasks t) t) t (map says tasks) ≡ map says (change f tasks t)
follows says f tasks t = follows-some says f tasks t (slice_get tasks t) refl

-- a task changed, and its entries with it
pub entered-change : (s next : Scheduled) (f : Task → Task) (tasks new : List Task) (t : ℕ) → AreEntered s tasks → new ≡ change f tasks t
    → next.places ≡ entered_as ready_place (slice_get new t) t s.places → next.waiters ≡ entered_as awaited (slice_get new t) t s.waiters → next.ranks ≡ s.ranks
    → AreEntered next new
entered-change s next f tasks new t are is place waiter ranks = record {
  places = place ∙ rw (is, are.places) (follows ready_place f tasks t);
  waiters = waiter ∙ rw (is, are.waiters) (follows awaited f tasks t);
  count = ap length ranks ∙ are.count ∙ rw is (sym (length-change f tasks t));
}

-- the entries of tasks of which one changed
map-change : {X : Type 0} (says : Task → Option X) (f : Task → Task) (h : Option X → Option X) (tasks : List Task) (t : ℕ) (o : Option Task)
    → ((task : Task) → says (f task) ≡ h (says task)) → slice_get tasks t ≡ o → map says (change_some o f tasks t) ≡ change h (map says tasks) t
map-change says f h tasks t None keeps e =
    let there : slice_get (map says tasks) t ≡ None = slice_get-map says tasks t ∙ ap (option_map says) e in
    rw there refl
map-change says f h tasks t (Some old) keeps e =
    let there : slice_get (map says tasks) t ≡ Some (says old) = slice_get-map says tasks t ∙ ap (option_map says) e in
    map-set says tasks t (f old) ∙ rw (there, keeps old) refl

-- an entry that was changed as its task was is what the task says
pub as-entered : {X : Type 0} (says : Task → Option X) (f : Task → Task) (h : Option X → Option X) (tasks new : List Task) (t : ℕ) (entries : List (Option X))
    → ((task : Task) → says (f task) ≡ h (says task)) → entries ≡ map says tasks → new ≡ change f tasks t
    → change h entries t ≡ entered_as says (slice_get new t) t entries
as-entered says f h tasks new t entries keeps are is =
    rw (are, is) (sym (map-change says f h tasks t (slice_get tasks t) keeps refl) ∙ sym (follows says f tasks t))

placed-stamped : (state : TaskState) (cpu old stamp : ℕ) → placed_in state cpu stamp ≡ option_map (stamped_place stamp) (placed_in state cpu old)
placed-stamped InReady cpu old stamp = refl
placed-stamped OobReady cpu old stamp = refl
placed-stamped (Waits wait) cpu old stamp = refl
placed-stamped Exit cpu old stamp = refl
placed-stamped (Faulted fault) cpu old stamp = refl

-- a task with another stamp is ready where it was
pub place-stamped : (stamp : ℕ) (task : Task) → ready_place (stamped stamp task) ≡ option_map (stamped_place stamp) (ready_place task)
place-stamped stamp task = placed-stamped task.state task.cpu task.stamp stamp

awaited-stamped : (state : TaskState) (old stamp : ℕ) → awaited_in state stamp ≡ option_map (stamped_waiter stamp) (awaited_in state old)
awaited-stamped InReady old stamp = refl
awaited-stamped OobReady old stamp = refl
awaited-stamped (Waits wait) old stamp = refl
awaited-stamped Exit old stamp = refl
awaited-stamped (Faulted fault) old stamp = refl

-- and waits for what it did
pub waiter-stamped : (stamp : ℕ) (task : Task) → awaited (stamped stamp task) ≡ option_map (stamped_waiter stamp) (awaited task)
waiter-stamped stamp task = awaited-stamped task.state task.stamp stamp

-- one more task
pub entered-push : (s next : Scheduled) (tasks new : List Task) (task : Task) (rank : ℕ) → AreEntered s tasks → new ≡ tasks ++ task ∷ []
    → next.places ≡ s.places ++ ready_place task ∷ [] → next.waiters ≡ s.waiters ++ awaited task ∷ [] → next.ranks ≡ s.ranks ++ rank ∷ []
    → AreEntered next new
entered-push s next tasks new task rank are is place waiter ranks = record {
  places = place ∙ rw (is, are.places, map-append) refl;
  waiters = waiter ∙ rw (is, are.waiters, map-append) refl;
  count = ap length ranks ∙ rw is (length-append s.ranks (rank ∷ []) ∙ rw are.count (sym (length-append tasks (task ∷ []))));
}

-- another rank
pub entered-rank : (s next : Scheduled) (tasks : List Task) (t rank : ℕ) → AreEntered s tasks → next.places ≡ s.places → next.waiters ≡ s.waiters
    → next.ranks ≡ change (λ _. rank) s.ranks t → AreEntered next tasks
entered-rank s next tasks t rank are place waiter ranks = record {
  places = place ∙ are.places;
  waiters = waiter ∙ are.waiters;
  count = ap length ranks ∙ length-change (λ _. rank) s.ranks t ∙ are.count;
}

-- a task changed in what no entry says
map-kept : {X : Type 0} (says : Task → Option X) (f : Task → Task) (tasks : List Task) (t : ℕ) (o : Option Task) → ((task : Task) → says (f task) ≡ says task) → slice_get tasks t ≡ o
    → map says (change_some o f tasks t) ≡ map says tasks
map-kept says f tasks t None kept e = refl
map-kept says f tasks t (Some old) kept e =
    let there : slice_get (map says tasks) t ≡ Some (says old) = slice_get-map says tasks t ∙ ap (option_map says) e in
    map-set says tasks t (f old) ∙ rw (kept old) (slice_set-same (map says tasks) t (says old) there)

pub entered-same : (s next : Scheduled) (f : Task → Task) (tasks new : List Task) (t : ℕ) → ((task : Task) → ready_place (f task) ≡ ready_place task) → ((task : Task) → awaited (f task) ≡ awaited task)
    → AreEntered s tasks → new ≡ change f tasks t → next.places ≡ s.places → next.waiters ≡ s.waiters → next.ranks ≡ s.ranks → AreEntered next new
entered-same s next f tasks new t place_kept waiter_kept are is place waiter ranks = record {
  places = place ∙ are.places ∙ rw is (sym (map-kept ready_place f tasks t (slice_get tasks t) place_kept refl));
  waiters = waiter ∙ are.waiters ∙ rw is (sym (map-kept awaited f tasks t (slice_get tasks t) waiter_kept refl));
  count = ap length ranks ∙ are.count ∙ rw is (sym (length-change f tasks t));
}

-- the same entries
pub entered-by : (s next : Scheduled) (tasks : List Task) → AreEntered s tasks → next.places ≡ s.places → next.waiters ≡ s.waiters → next.ranks ≡ s.ranks → AreEntered next tasks
entered-by s next tasks are place waiter ranks = record {
  places = place ∙ are.places;
  waiters = waiter ∙ are.waiters;
  count = ap length ranks ∙ are.count;
}

-- there is room for one more
pub entered-room : (s : Scheduled) (tasks : List Task) → AreEntered s tasks → length tasks < TASK_LIMIT → record { places : length s.places < TASK_LIMIT; waiters : length s.waiters < TASK_LIMIT }
entered-room s tasks are room =
    let ready : length s.places ≡ length tasks = ap length are.places ∙ length-map tasks ready_place in
    let waiting : length s.waiters ≡ length tasks = ap length are.waiters ∙ length-map tasks awaited in
    record { places = omega (arith, ready, room); waiters = omega (arith, waiting, room) }
