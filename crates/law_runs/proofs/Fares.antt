-- How a task that does not act fares by one primitive, and what is left of the mutexes.
use Rattle.std.proofs.Common.{◌≡◌, ℕ, zero, suc, ◌+◌, ◌-◌, ◌*◌, ◌/◌, ◌<◌, ◌≤◌, List, Bool, true, false, not, Option, Some, None, length, ◌⊎◌, inl, inr, refl, ap, sym, ◌∙◌, arith}
use Rattle.std.specs.Prelude.{slice_get, option_map, nat_le, ◌==◌, ◌&&◌, if◌then◌else◌}
use Rattle.std.proofs.Math.Nat.{add-mul, lt-div-mul-add, one-mul}
use Rattle.std.proofs.lemmas.Bool.{cases_eq}
use Rattle.std.proofs.lemmas.Bool.Decides.{nat_tests}
use Rattle.evm_exec.specs.declared.hart.Hart.{Hart}
use Rattle.evm_model.specs.Boosts.{is_number}
use Rattle.evm_model.proofs.Greatest.{boosts-so}
use Rattle.evm_model.specs.Good.{is_ready}
use Rattle.evm_model.specs.Lists.{change}
use Rattle.evm_model.specs.Mutexes.{owner, owner_of, owns_below, owns_any, held_by}
use Rattle.evm_model.specs.Ranks.{is_oob_ready}
use Rattle.evm_model.specs.State.{Parts}
use Rattle.evm_model.specs.Tasks.{restamp, set_slice, spend_slice, is_round_robin, is_weak}
use Rattle.evm_model.specs.Waits.{is_wait_for, first_waiter, ready_on, stage_of_wait, woken, woken_state}
use Rattle.evm_model.specs.declared.limits.TheConstants.{SLICE}
use Rattle.evm_model.specs.declared.mutex.Mutex.{Mutex}
use Rattle.evm_model.specs.declared.task.Class.{Class}
use Rattle.evm_model.specs.declared.task.Class.TheVariants.{RoundRobin}
use Rattle.evm_model.specs.declared.task.Task.{Task}
use Rattle.evm_model.specs.declared.task.TaskState.{TaskState}
use Rattle.evm_model.specs.declared.task.TaskState.TheVariants.{InReady, OobReady, Waits}
use Rattle.evm_model.specs.declared.task.Wait.{Wait}
use Rattle.evm_model.specs.declared.task.Wait.TheVariants.{Reacquire}
use Rattle.evm_model.specs.declared.stage.Stage.{Stage}
use Rattle.evm_model.specs.declared.stage.Stage.TheVariants.{OutOfBand, InBand}
use Rattle.evm_model.proofs.Lists.{change-here, change-elsewhere, slice_get-below}
use Rattle.law_rules.proofs.Sizes.{of_spend}
use Rattle.law_rules.proofs.Waiters.{IsWaiter, first_is}
use Rattle.law_rules.proofs.Walk.{Actor, IsHeld}
use Rattle.evm_model.specs.Actions.{action_in}
use Rattle.evm_model.specs.Events.{bound, bound_of}
use Rattle.evm_model.specs.Timers.{taken, is_due_timer, expired}
use Rattle.evm_model.specs.declared.timer.Timer.{Timer}
use Rattle.law_runs.specs.Changes.{IsReadyAfter, OneChanges, Overruns, Rests, Spends, Stays, EventEnds, by_signal, by_time, HasMutex, WokenBy, by_line, by_owner, by_owner_back, by_event, by_deadline, by_put, by_line_put, by_post, by_line_post, by_timer, MutexChanges, MutexesStay}

pub one_change : {X : Type 0} (i : ℕ) (f : X → X) (xs : List X) → OneChanges i f xs (change f xs i)
one_change i f xs = record { here = change-here f xs i; others = λ j other. change-elsewhere f xs i j other }

-- ---- who waits
pub record Waiter (t : ℕ) (wait : Wait) (k : Parts) : Type 0 where
  pub task : Task
  pub there : slice_get k.tasks t ≡ Some task
  pub on : task.state ≡ Waits wait

-- a task that waits for something, by the state in which it does; for a lock also one that reacquires it
pub record WaitsFor (t : ℕ) (wait : Wait) (k : Parts) : Type 0 where
  pub task : Task
  pub there : slice_get k.tasks t ≡ Some task
  pub on : is_wait_for wait task.state ≡ true

pub waits_not_ready : (wait : Wait) (state : TaskState) → is_wait_for wait state ≡ true → is_ready state ≡ false
waits_not_ready wait (Waits other) e = refl
waits_not_ready wait _ e = cc

pub both : (a b : Bool) → (a && b) ≡ true → (a ≡ true) × (b ≡ true)
both true b h = (refl, h)
both false b h = cc

pub first_waits : (t : ℕ) (wait : Wait) (k : Parts) → first_waiter wait k ≡ Some t → WaitsFor t wait k
first_waits t wait k e = let w : IsWaiter wait t k = first_is wait t k e in record { task = w.task; there = w.there; on = w.on }

-- ---- a task that has a mutex
owns_if : (b rest : Bool) → b ≡ true → (if b then true else rest) ≡ true
owns_if true rest e = refl
owns_if false rest e = cc

owns_else : (b rest : Bool) → rest ≡ true → (if b then true else rest) ≡ true
owns_else true rest e = refl
owns_else false rest e = e

owns_up : (t m n : ℕ) (mutexes : List Mutex) → m < n → owner mutexes m ≡ Some t → owns_below t mutexes n ≡ true
unfolding owns_below
owns_up t m zero mutexes h e = absurd (omega arith)
owns_up t m (suc n) mutexes h e = elim (cases_eq m n) [
  | inl same ↦ owns_if (is_number (owner mutexes n) t) _ (boosts-so (owner mutexes n) t (ap (owner mutexes) (sym same) ∙ e))
  | inr other ↦ owns_else (is_number (owner mutexes n) t) _ (owns_up t m n mutexes (omega (arith, h, other)) e)
]

owner_below : (mutexes : List Mutex) (m t : ℕ) (o : Option Mutex) → slice_get mutexes m ≡ o → owner_of o ≡ Some t → m < length mutexes
owner_below mutexes m t None e h = cc
owner_below mutexes m t (Some x) e h = slice_get-below mutexes m x e

pub owns_it : (t m : ℕ) (mutexes : List Mutex) → owner mutexes m ≡ Some t → owns_any t mutexes ≡ true
owns_it t m mutexes e = owns_up t m (length mutexes) mutexes (owner_below mutexes m t (slice_get mutexes m) refl e) e

-- ---- what a task woke to
-- whether it returns in-band
abbrev pub returns : Bool → Task → Bool
returns owns x = is_weak x.class && not owns

pub woke : (wait : Wait) (owns : Bool) (x : Task) → x.state ≡ Waits wait → woken owns x ≡ record x { state = ready_on (stage_of_wait wait) (returns owns x); deadline = 0 }
woke wait owns x e = ap (λ (state : TaskState). record x { state = woken_state (is_weak x.class && not owns) state; deadline = 0 }) e

ready_if : (stage : Stage) (b : Bool) (class : Class) → (b ≡ true → is_weak class ≡ true) → (ready_on stage b ≡ ready_on stage false) ⊎ ((ready_on stage b ≡ InReady) × (is_weak class ≡ true))
ready_if InBand b class h = inl refl
ready_if OutOfBand false class h = inl refl
ready_if OutOfBand true class h = inr (refl, h refl)

pub ready_after : (wait : Wait) (owns : Bool) (x : Task) → IsReadyAfter wait x.class (ready_on (stage_of_wait wait) (returns owns x))
ready_after wait owns x = ready_if (stage_of_wait wait) (returns owns x) x.class (λ h. (both (is_weak x.class) (not owns) h).0)

-- an owner stays out-of-band
stays_oob : (weak owns : Bool) → owns ≡ true → ready_on OutOfBand (weak && not owns) ≡ OobReady
stays_oob true true e = refl
stays_oob false true e = refl
stays_oob weak false e = cc

pub owner_oob : (m u : ℕ) (mutexes : List Mutex) (x : Task) → owner mutexes m ≡ Some u → ready_on OutOfBand (returns (owns_any u mutexes) x) ≡ OobReady
owner_oob m u mutexes x its = stays_oob (is_weak x.class) (owns_any u mutexes) (owns_it u m mutexes its)

-- what is there of it, after a wake
pub woken_there : (t : ℕ) (owns : Bool) (x y : Task) (stamp : ℕ) (tasks : List Task) → slice_get tasks t ≡ Some x → woken owns x ≡ y
    → slice_get (change (λ (z : Task). record z { stamp = stamp }) (change (woken owns) tasks t) t) t ≡ Some (record y { stamp = stamp })
woken_there t owns x y stamp tasks e h =
    let stamped : Task → Task = λ z. record z { stamp = stamp } in
    change-here stamped (change (woken owns) tasks t) t ∙ ap (option_map stamped) (change-here (woken owns) tasks t ∙ ap (option_map (woken owns)) e) ∙ ap (λ (z : Task). Some (record z { stamp = stamp })) h

-- ---- a task that doesn't act
-- it stays, spends its slice, or goes in-band by the watchdog
abbrev pub Fares : Actor → (ℕ → Hart → Type 0) → ℕ → Parts → Parts → Type 0
Fares a makes t old new = Stays a.task makes a.cpu t old new ⊎ (Spends a.cpu t old new ⊎ Overruns a.cpu t old new)

-- a timer that has expired is not due at the same tick
missed_late : (now due period : ℕ) → 1 ≤ period → due ≤ now → now < due + (1 + (now - due) / period) * period
missed_late now due period above come =
    let left : now - due < (now - due) / period * period + period = lt-div-mul-add above in
    let split : (1 + (now - due) / period) * period ≡ period + (now - due) / period * period = add-mul 1 ((now - due) / period) period ∙ ap (λ m. m + (now - due) / period * period) (one-mul period) in
    omega (arith, left, split)

expired_not : (one : Bool) (c now : ℕ) (timer : Timer) → (timer.period == 0) ≡ one → (timer.due ≡ 0 → ⊥) → timer.due ≤ now
    → (let due : ℕ = if one then 0 else timer.due + (if one then 1 else 1 + (now - timer.due) / timer.period) * timer.period in not (due == 0) && (nat_le due now && timer.cpu == c)) ≡ false
expired_not true c now timer e set come = refl
expired_not false c now timer e set come =
    let above : 1 ≤ timer.period = grind (arith, nat_tests) in
    let late : now < timer.due + (1 + (now - timer.due) / timer.period) * timer.period = missed_late now timer.due timer.period above come in
    grind (arith, nat_tests)

not_due : (c now : ℕ) (timer : Timer) → is_due_timer c now timer ≡ true → is_due_timer c now (taken (expired now timer)) ≡ false
unfolding expired
not_due c now timer due =
    let set : timer.due ≡ 0 → ⊥ = λ none. grind (arith, nat_tests) in
    let come : timer.due ≤ now = grind (arith, nat_tests) in
    expired_not (timer.period == 0) c now timer refl set come

-- what a primitive leaves of an object for which tasks wait: an event's mutex, actions, and such timers as are not due at this tick
pub record Still (c now : ℕ) (k x : Parts) : Type 0 where
  pub names : (e m : ℕ) → bound e k ≡ Some m → bound e x ≡ Some m
  pub acts : x.actions ≡ k.actions
  pub timers : (n : ℕ) (timer : Timer) → is_due_timer c now timer ≡ false → slice_get k.timers n ≡ Some timer → slice_get x.timers n ≡ Some timer

pub still : (c now : ℕ) (k x : Parts) → x.events ≡ k.events → x.actions ≡ k.actions → x.timers ≡ k.timers → Still c now k x
still c now k x e a t = record { names = λ event m h. ap (λ all. bound_of (slice_get all event)) e ∙ h; acts = a; timers = λ n timer off h. ap (λ all. slice_get all n) t ∙ h }

-- .. and of a task
pub record Keeps (c now t : ℕ) (k x : Parts) : Type 0 where
  pub task : (y : Task) → slice_get k.tasks t ≡ Some y → slice_get x.tasks t ≡ Some y
  pub hart : (y : Hart) → slice_get k.harts t ≡ Some y → slice_get x.harts t ≡ Some y
  pub mutex : (m : ℕ) (y : Mutex) → y.owner ≡ Some t → slice_get k.mutexes m ≡ Some y → slice_get x.mutexes m ≡ Some y
  pub objects : Still c now k x

pub keeps_all : (c now t : ℕ) (k x : Parts) → x.tasks ≡ k.tasks → x.harts ≡ k.harts → x.mutexes ≡ k.mutexes → Still c now k x → Keeps c now t k x
keeps_all c now t k x e f g objects = record {
  task = λ y h. ap (λ all. slice_get all t) e ∙ h;
  hart = λ y h. ap (λ all. slice_get all t) f ∙ h;
  mutex = λ m y o h. ap (λ all. slice_get all m) g ∙ h;
  objects = objects;
}

-- what ends a wait for an event does so, where more may call
pub ends_wider : (makes others : ℕ → Hart → Type 0) (c now e answer : ℕ) (task : Task) → ((n : ℕ) (h : Hart) → makes n h → others n h) → EventEnds makes c now e task answer → EventEnds others c now e task answer
ends_wider makes others c now e _ task make (by_signal hart (inl one) is) = by_signal hart (inl (make 43 hart one)) is
ends_wider makes others c now e _ task make (by_signal hart (inr all) is) = by_signal hart (inr (make 44 hart all)) is
ends_wider makes others c now e _ task make (by_time late) = by_time late

-- what woke it stays so, where more may act and call, and its mutexes and what it waited for stay
module _ (acts other : Option ℕ) (makes others : ℕ → Hart → Type 0) (c t : ℕ) (task : Task) (state : TaskState) (old k x : Parts)
    (act : (g : ℕ) → acts ≡ Some g → other ≡ Some g) (make : (n : ℕ) (h : Hart) → makes n h → others n h)
    (keeps : (m : ℕ) (y : Mutex) → y.owner ≡ Some t → slice_get k.mutexes m ≡ Some y → slice_get x.mutexes m ≡ Some y) (objects : Still c old.ticks k x) where
  has_on : (m : ℕ) → HasMutex t m state k.mutexes → HasMutex t m state x.mutexes
  has_on m h = record { mutex = h.mutex; there = keeps m h.mutex h.owns h.there; owns = h.owns; once = h.once; oob = h.oob }

  pub still_by : (wait : Wait) (answer : ℕ) → WokenBy acts makes c t task state old k wait answer → WokenBy other others c t task state old x wait answer
  still_by _ _ (by_line l home) = by_line l home
  still_by _ _ (by_owner m giver own had has) = by_owner m giver (act giver own) had (has_on m has)
  still_by _ _ (by_owner_back m answer giver own had has) = by_owner_back m answer giver (act giver own) had (has_on m has)
  still_by _ _ (by_event e m answer named has ends) = by_event e m answer (objects.names e m named) (has_on m has) (ends_wider makes others c old.ticks e answer task make ends)
  still_by _ _ (by_deadline wait plain late) = by_deadline wait plain late
  still_by _ _ (by_put hart call) = by_put hart (make 41 hart call)
  still_by _ _ (by_line_put l s is) = by_line_put l s (ap (λ all. action_in all l) objects.acts ∙ is)
  still_by _ _ (by_post hart word call is) = by_post hart word (make 46 hart call) is
  still_by _ _ (by_line_post l f word is) = by_line_post l f word (ap (λ all. action_in all l) objects.acts ∙ is)
  still_by _ _ (by_timer n timer due there) = by_timer n timer due (objects.timers n _ (not_due c old.ticks timer due) there)

pub fares_on : (a : Actor) (makes : ℕ → Hart → Type 0) (t : ℕ) (old k x : Parts) → Keeps a.cpu old.ticks t k x → Fares a makes t old k → Fares a makes t old x
fares_on a makes t old k x p (inl (inl r)) = inl (inl (record { task = λ y e. p.task y (r.task y e); hart = λ y e. p.hart y (r.hart y e) }))
fares_on a makes t old k x p (inl (inr (inl w))) = inl (inr (inl (record {
  task = w.task;
  wait = w.wait;
  state = w.state;
  stamp = w.stamp;
  answer = w.answer;
  waited = w.waited;
  on = w.on;
  by = still_by a.task a.task makes makes a.cpu t w.task w.state old k x (λ g e. e) (λ n h call. call) p.mutex p.objects w.wait w.answer w.by;
  ready = w.ready;
  fresh = w.fresh;
  wakes = p.task _ w.wakes;
  hart = λ y e. p.hart _ (w.hart y e);
})))
fares_on a makes t old k x p (inl (inr (inr q))) = inl (inr (inr (record {
  task = q.task;
  event = q.event;
  mutex = q.mutex;
  stamp = q.stamp;
  answer = q.answer;
  waited = q.waited;
  on = q.on;
  named = p.objects.names q.event q.mutex q.named;
  ends = q.ends;
  fresh = q.fresh;
  waits = p.task _ q.waits;
  hart = λ y e. p.hart _ (q.hart y e);
})))
fares_on a makes t old k x p (inr (inl s)) = inr (inl (record {
  task = s.task;
  slice = s.slice;
  stamp = s.stamp;
  runs = s.runs;
  there = s.there;
  on = s.on;
  robin = s.robin;
  left = s.left;
  spends = p.task _ s.spends;
  hart = λ y e. p.hart _ (s.hart y e);
}))
fares_on a makes t old k x p (inr (inr o)) = inr (inr (record {
  task = o.task;
  slice = o.slice;
  stamp = o.stamp;
  guarded = o.guarded;
  runs = o.runs;
  there = o.there;
  home = o.home;
  on = o.on;
  spent = o.spent;
  fresh = o.fresh;
  goes = p.task _ o.goes;
  hart = λ y e. p.hart _ (o.hart y e);
}))

-- a task that waits has stayed so far
waits_not : (t : ℕ) (k : Parts) (x y : Task) → slice_get k.tasks t ≡ Some x → slice_get k.tasks t ≡ Some y → is_ready x.state ≡ true → is_ready y.state ≡ false → ⊥
waits_not t k x y e f r w =
    let two : Some x ≡ Some y = sym e ∙ f in
    let same : x ≡ y = cc in
    let no : true ≡ false = sym r ∙ ap (λ (z : Task). is_ready z.state) same ∙ w in cc

ready_on-ready : (stage : Stage) → is_ready (ready_on stage false) ≡ true
ready_on-ready InBand = refl
ready_on-ready OutOfBand = refl

pub is_ready_after : (wait : Wait) (class : Class) (state : TaskState) → IsReadyAfter wait class state → is_ready state ≡ true
is_ready_after wait class state (inl there) = ap is_ready there ∙ ready_on-ready (stage_of_wait wait)
is_ready_after wait class state (inr in_band) = ap is_ready in_band.0

-- .. unless it waits for a mutex again
abbrev pub is_again : TaskState → Bool
is_again (Waits (Reacquire m answer)) = true
is_again _ = false

again_not : (t : ℕ) (k : Parts) (x y : Task) → slice_get k.tasks t ≡ Some x → slice_get k.tasks t ≡ Some y → is_again x.state ≡ true → is_again y.state ≡ false → ⊥
again_not t k x y e f r w =
    let two : Some x ≡ Some y = sym e ∙ f in
    let same : x ≡ y = cc in
    let no : true ≡ false = sym r ∙ ap (λ (z : Task). is_again z.state) same ∙ w in cc

pub rested : (a : Actor) (makes : ℕ → Hart → Type 0) (t : ℕ) (old k : Parts) (x : Task) → slice_get k.tasks t ≡ Some x → is_ready x.state ≡ false → is_again x.state ≡ false → Fares a makes t old k → Rests t old k
rested a makes t old k x e w again (inl (inl r)) = r
rested a makes t old k x e w again (inl (inr (inl q))) = absurd (waits_not t k _ x q.wakes e (is_ready_after q.wait q.task.class q.state q.ready) w)
rested a makes t old k x e w again (inl (inr (inr q))) = absurd (again_not t k _ x q.waits e refl again)
rested a makes t old k x e w again (inr (inl s)) = absurd (waits_not t k _ x s.spends e (ap is_ready s.on) w)
rested a makes t old k x e w again (inr (inr o)) = absurd (waits_not t k _ x o.goes e refl w)

-- ---- a tick of a slice
pub record Ticked (t : ℕ) (x : Task) (k new : Parts) : Type 0 where
  pub slice : ℕ
  pub stamp : ℕ
  pub left : ((stamp ≡ x.stamp) × (slice < x.slice)) ⊎ ((k.stamps ≤ stamp) × (slice ≤ SLICE))
  pub there : slice_get new.tasks t ≡ Some (record x { slice = slice; stamp = stamp })
  pub others : (u : ℕ) → (u ≡ t → ⊥) → slice_get new.tasks u ≡ slice_get k.tasks u
  pub harts : new.harts ≡ k.harts
  pub mutexes : new.mutexes ≡ k.mutexes

ticked_if : (t : ℕ) (x : Task) (k : Parts) (last : Bool) → slice_get k.tasks t ≡ Some x → nat_le x.slice 1 ≡ last → Ticked t x k (if last then restamp t (set_slice t SLICE k) else set_slice t (x.slice - 1) k)
unfolding restamp set_slice
ticked_if t x k true e h =
    let whole : Task → Task = λ z. record z { slice = SLICE } in
    let stamped : Task → Task = λ z. record z { stamp = k.stamps } in
    record {
      slice = SLICE;
      stamp = k.stamps;
      left = inr (omega arith, omega arith);
      there = change-here stamped (change whole k.tasks t) t ∙ ap (option_map stamped) (change-here whole k.tasks t ∙ ap (option_map whole) e);
      others = λ u other. change-elsewhere stamped (change whole k.tasks t) t u other ∙ change-elsewhere whole k.tasks t u other;
      harts = refl;
      mutexes = refl;
    }
ticked_if t x k false e h =
    let less : Task → Task = λ z. record z { slice = x.slice - 1 } in
    let more : 1 < x.slice = grind (arith, nat_tests) in
    record {
      slice = x.slice - 1;
      stamp = x.stamp;
      left = inl (refl, omega (arith, more));
      there = change-here less k.tasks t ∙ ap (option_map less) e;
      others = λ u other. change-elsewhere less k.tasks t u other;
      harts = refl;
      mutexes = refl;
    }

pub ticked : (t : ℕ) (x : Task) (k : Parts) → slice_get k.tasks t ≡ Some x → Ticked t x k (spend_slice t x.slice k)
unfolding spend_slice
ticked t x k e = ticked_if t x k (nat_le x.slice 1) e refl

pub is_oob : (state : TaskState) → is_oob_ready state ≡ true → state ≡ OobReady
is_oob OobReady h = refl
is_oob _ h = cc

pub is_robin : (class : Class) → is_round_robin class ≡ true → class ≡ RoundRobin
is_robin RoundRobin h = refl
is_robin _ h = cc

-- ---- the mutexes
pub same_mutexes : (o : Option ℕ) (x y : List Mutex) → y ≡ x → MutexesStay o x y
same_mutexes o x y same m before e = inl (ap (λ all. slice_get all m) same ∙ e)

changes_twice : (o : Option ℕ) (m : ℕ) (before : Mutex) (y z : List Mutex) (p : MutexChanges o m before y) → MutexChanges o m p.after z → MutexChanges o m before z
changes_twice o m before y z p q = record {
  after = q.after;
  there = q.there;
  kind = q.kind ∙ ap (λ (mutex : Mutex). record mutex { owner = q.after.owner; count = q.after.count }) p.kind;
  whose = p.whose;
}

changes_then : (o : Option ℕ) (m : ℕ) (before : Mutex) (y z : List Mutex) (p : MutexChanges o m before y) → slice_get z m ≡ Some p.after → MutexChanges o m before z
changes_then o m before y z p e = record { after = p.after; there = e; kind = p.kind; whose = p.whose }

pub mutexes_then : (o : Option ℕ) (x y z : List Mutex) → MutexesStay o x y → MutexesStay o y z → MutexesStay o x z
mutexes_then o x y z p q m before e = elim (p m before e) [
  | inl same ↦ q m before same
  | inr g ↦ elim (q m g.after g.there) [
    | inl same ↦ inr (changes_then o m before y z g same)
    | inr h ↦ inr (changes_twice o m before y z g h)
  ]
]

whose_by : (o : Option ℕ) (t : ℕ) (owner : Option ℕ) → o ≡ Some t → (owner ≡ None) ⊎ (owner ≡ Some t) → (owner ≡ None) ⊎ (owner ≡ o)
whose_by o t owner e (inl none) = inl none
whose_by o t owner e (inr its) = inr (its ∙ sym e)

pub held_stays : (o : Option ℕ) (i t m : ℕ) (f : Mutex → Mutex) (mutexes : List Mutex) → o ≡ Some t → ((x : Mutex) → slice_get mutexes m ≡ Some x → IsHeld t i x (f x)) → MutexesStay o mutexes (change f mutexes m)
held_stays o i t m f mutexes own h n before e = elim (cases_eq n m) [
  | inl same ↦
      let at : slice_get mutexes m ≡ Some before = rw (← same) e in
      let it = h before at in
      inr (record { after = f before; there = rw same (change-here f mutexes m ∙ ap (option_map f) at); kind = it.kind; whose = whose_by o t before.owner own it.whose })
  | inr other ↦ inl (change-elsewhere f mutexes m n other ∙ e)
]

-- a mutex of another task isn't changed
not_its : (t u : ℕ) (o : Option ℕ) → (o ≡ None) ⊎ (o ≡ Some t) → o ≡ Some u → (u ≡ t → ⊥) → ⊥
not_its t u o (inl none) e other = let no : None ≡ Some u = sym none ∙ e in cc
not_its t u o (inr its) e other = let same : Some t ≡ Some u = sym its ∙ e in other cc

pub held_keeps : (i t u m : ℕ) (f : Mutex → Mutex) (mutexes : List Mutex) → (u ≡ t → ⊥) → ((x : Mutex) → slice_get mutexes m ≡ Some x → IsHeld t i x (f x))
    → (n : ℕ) (y : Mutex) → y.owner ≡ Some u → slice_get mutexes n ≡ Some y → slice_get (change f mutexes m) n ≡ Some y
held_keeps i t u m f mutexes away h n y its e = elim (cases_eq n m) [
  | inl same ↦ absurd (not_its t u y.owner (h y (rw (← same) e)).whose its away)
  | inr other ↦ change-elsewhere f mutexes m n other ∙ e
]

-- a free mutex is taken: those that another task owns stay
pub free_keeps : (t u m : ℕ) (mutexes : List Mutex) → owner mutexes m ≡ None → (n : ℕ) (y : Mutex) → y.owner ≡ Some t → slice_get mutexes n ≡ Some y → slice_get (change (held_by u 1) mutexes m) n ≡ Some y
free_keeps t u m mutexes free n y its e = elim (cases_eq n m) [
  | inl same ↦ let no : Some t ≡ None = sym its ∙ ap owner_of (sym e) ∙ ap (owner mutexes) same ∙ free in cc
  | inr other ↦ change-elsewhere (held_by u 1) mutexes m n other ∙ e
]

pub free_stays : (o : Option ℕ) (u m : ℕ) (mutexes : List Mutex) → owner mutexes m ≡ None → MutexesStay o mutexes (change (held_by u 1) mutexes m)
free_stays o u m mutexes free n before e = elim (cases_eq n m) [
  | inl same ↦
      let at : slice_get mutexes m ≡ Some before = rw (← same) e in
      inr (record { after = held_by u 1 before; there = rw same (change-here (held_by u 1) mutexes m ∙ ap (option_map (held_by u 1)) at); kind = refl; whose = inl (ap owner_of (sym at) ∙ free) })
  | inr other ↦ inl (change-elsewhere (held_by u 1) mutexes m n other ∙ e)
]

-- a slice is spent: no object changes
pub spent_still : (c now t slice : ℕ) (k : Parts) → Still c now k (spend_slice t slice k)
unfolding restamp set_slice
spent_still c now t slice k = of_spend (λ y. Still c now k y) t slice k (still c now k _ refl refl refl) (still c now k _ refl refl refl)
