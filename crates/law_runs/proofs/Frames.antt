-- What a walk leaves of the tasks other than the acting one, and of the mutexes.
use Rattle.std.proofs.Common.{◌≡◌, ℕ, ◌<◌, ◌≤◌, List, Bool, true, false, Option, Some, None, length, ◌⊎◌, inl, inr, refl, ap, sym, ◌∙◌, arith}
use Rattle.std.specs.Prelude.{slice_get, option_map, ◌==◌}
use Rattle.std.proofs.lemmas.Bool.{cases_eq}
use Rattle.evm_model.specs.Commands.{tick}
use Rattle.evm_model.specs.Events.{bound}
use Rattle.evm_model.specs.Good.{is_ready, is_waiting}
use Rattle.evm_model.specs.Harts.{A0, set_register}
use Rattle.evm_model.specs.Lists.{change}
use Rattle.evm_model.specs.Mutexes.{owner, owner_of, owns_any, held_by}
use Rattle.evm_model.specs.Ranks.{is_in_ready, is_oob_ready, runs_oob_task}
use Rattle.evm_model.specs.Settle.{current}
use Rattle.evm_model.specs.OobCalls.{move_task}
use Rattle.evm_model.specs.State.{Parts, new_task, on_mutex, on_timer}
use Rattle.evm_model.specs.Tasks.{restamp, set_state, set_policy, is_round_robin}
use Rattle.evm_model.specs.Waits.{ready_on, stage_of_wait, woken, wake, begin_wait}
use Rattle.evm_model.specs.Timers.{is_due_timer}
use Rattle.evm_model.specs.declared.timer.Timer.{Timer}
use Rattle.evm_model.specs.declared.limits.TheConstants.{SLICE}
use Rattle.evm_model.specs.declared.mutex.Mutex.{Mutex}
use Rattle.evm_model.specs.declared.task.Class.{Class}
use Rattle.evm_model.specs.declared.task.Class.TheVariants.{RoundRobin}
use Rattle.evm_model.specs.declared.task.Task.{Task}
use Rattle.evm_model.specs.declared.task.TaskState.{TaskState}
use Rattle.evm_model.specs.declared.task.TaskState.TheVariants.{InReady, OobReady, Waits}
use Rattle.evm_model.specs.declared.task.Wait.{Wait}
use Rattle.evm_model.specs.declared.task.Wait.TheVariants.{Reacquire, Event as OfEvent}
use Rattle.evm_model.proofs.Lists.{change-here, change-elsewhere, change-cases, slice_get-push, slice_get-before}
use Rattle.law_rules.proofs.Sizes.{walk_least, walk_profile, walk_ticks}
use Rattle.law_rules.proofs.Walk.{Actor, Asks, Cause, passed_back, timed_out, Ends, IsLate, IsHeld, Makes, Does, hart, task, stamps, turns, awaits_event, spends, migrates, overruns, wakes, requeues, regains, gives, holds, names, sets_action, sets_timer, takes_expiries, expires, schedules, adds, makes, adds_event, adds_timer, Walk, start, next}
use Rattle.law_rules.proofs.Firsts.{eqb-is}
use Rattle.law_runs.specs.Changes.{Overruns, Rests, MutexesStay}
use Rattle.law_runs.proofs.Added.{walk_made}
use Rattle.law_runs.proofs.Fares.{Fares, Keeps, Still, Ticked, both, fares_on, free_keeps, free_stays, held_keeps, held_stays, is_again, is_oob, is_ready_after, is_robin, keeps_all, mutexes_then, ready_after, rested, returns, same_mutexes, spent_still, still, still_by, ticked, woke, woken_there}
use Rattle.law_runs.proofs.Named.{AreNamed, walk_named}
use Rattle.law_runs.proofs.Woken.{SoFar, asked_by, ends_by, woken_by}

-- ---- the frame of a walk
-- a task asked for another class of this one
pub record Asked (a : Actor) (old : Parts) (asked : List Task) : Type 0 where
  pub names : ℕ
  pub priority : ℕ
  pub class : Class
  pub asks : Asks a old names priority class
  pub tasks : asked ≡ change (λ (task : Task). record task { class = class; priority = priority; slice = SLICE }) old.tasks names

pub record IsThere (t : ℕ) (tasks : List Task) : Type 0 where
  pub task : Task
  pub there : slice_get tasks t ≡ Some task

-- of the tasks that don't act, such as the acting one asks for another class have it; each then fares as it may; what is there of one was there, or is ready in-band
pub record Frame (a : Actor) (old k : Parts) : Type 0 where
  pub asked : List Task
  pub scheduled : (asked ≡ old.tasks) ⊎ Asked a old asked
  pub others : (t : ℕ) → (a.task ≡ Some t → ⊥) → Fares a (Makes a old) t (record old { tasks = asked }) k
  pub back : (t : ℕ) (x : Task) → (a.task ≡ Some t → ⊥) → slice_get k.tasks t ≡ Some x → (is_in_ready x.state ≡ true) ⊎ IsThere t asked
  pub mutexes : MutexesStay a.task old.mutexes k.mutexes

-- a task that isn't ready in-band was there as it is, if it rested
pub was_there : (t : ℕ) (old k : Parts) (x : Task) → slice_get k.tasks t ≡ Some x → is_in_ready x.state ≡ false → (is_in_ready x.state ≡ true) ⊎ IsThere t old.tasks → Rests t old k → slice_get old.tasks t ≡ Some x
was_there t old k x e w (inl ready) r = let no : true ≡ false = sym ready ∙ w in cc
was_there t old k x e w (inr b) r = let two : Some b.task ≡ Some x = sym (r.task b.task b.there) ∙ e in b.there ∙ two

-- the frame of a walk that begins where the current task doesn't wait, and where the mutexes of events for which tasks wait are there; the clock stays
pub record MayFrame (a : Actor) (old : Parts) : Type 0 where
  pub runs : (t : ℕ) (x : Task) → current a.cpu old ≡ Some t → slice_get old.tasks t ≡ Some x → is_waiting x.state ≡ false
  pub named : AreNamed (length old.mutexes) old.events old.tasks
  pub clock : a.may 0 0 ≡ false

module _ (a : Actor) (old : Parts) (from : MayFrame a old) where
  frame_on : (k x : Parts) → Frame a old k → ((t : ℕ) → (a.task ≡ Some t → ⊥) → Keeps a.cpu old.ticks t k x)
      → ((t : ℕ) (y : Task) → (a.task ≡ Some t → ⊥) → slice_get x.tasks t ≡ Some y → (is_in_ready y.state ≡ true) ⊎ (slice_get k.tasks t ≡ Some y)) → MutexesStay a.task k.mutexes x.mutexes → Frame a old x
  frame_on k x f p b m = record {
    asked = f.asked;
    scheduled = f.scheduled;
    others = λ t h. fares_on a (Makes a old) t (record old { tasks = f.asked }) k x (p t h) (f.others t h);
    back = λ t y h e. elim (b t y h e) [
      | inl ready ↦ inl ready
      | inr there ↦ f.back t y h there
    ];
    mutexes = mutexes_then a.task old.mutexes k.mutexes x.mutexes f.mutexes m;
  }

  frame_same : (k x : Parts) → x.tasks ≡ k.tasks → x.harts ≡ k.harts → x.mutexes ≡ k.mutexes → Still a.cpu old.ticks k x → Frame a old k → Frame a old x
  frame_same k x e g m objects f =
      frame_on k x f (λ t h. keeps_all a.cpu old.ticks t k x e g m objects) (λ t y h there. inr (ap (λ all. slice_get all t) (sym e) ∙ there)) (same_mutexes a.task k.mutexes x.mutexes m)

  -- the acting task changes
  frame_own : (t : ℕ) (k x : Parts) → a.task ≡ Some t → ((u : ℕ) → (u ≡ t → ⊥) → slice_get x.tasks u ≡ slice_get k.tasks u) → ((u : ℕ) → (u ≡ t → ⊥) → slice_get x.harts u ≡ slice_get k.harts u) → x.mutexes ≡ k.mutexes → Still a.cpu old.ticks k x
      → Frame a old k → Frame a old x
  frame_own t k x own tasks harts m objects f =
      let away : (u : ℕ) → (a.task ≡ Some u → ⊥) → u ≡ t → ⊥ = λ u h same. h (own ∙ ap Some (sym same)) in
      frame_on k x f
      (λ u h. record { task = λ y e. tasks u (away u h) ∙ e; hart = λ y e. harts u (away u h) ∙ e; mutex = λ n y o e. ap (λ all. slice_get all n) m ∙ e; objects = objects })
      (λ u y h e. inr (sym (tasks u (away u h)) ∙ e)) (same_mutexes a.task k.mutexes x.mutexes m)

  -- one task changes that doesn't act
  frame_one : (t : ℕ) (k x : Parts) → ((u : ℕ) → (u ≡ t → ⊥) → (a.task ≡ Some u → ⊥) → Keeps a.cpu old.ticks u k x) → ((u : ℕ) → (u ≡ t → ⊥) → slice_get x.tasks u ≡ slice_get k.tasks u)
      → MutexesStay a.task k.mutexes x.mutexes → (f : Frame a old k)
      → ((a.task ≡ Some t → ⊥) → Fares a (Makes a old) t (record old { tasks = f.asked }) x) → ((y : Task) → (a.task ≡ Some t → ⊥) → slice_get x.tasks t ≡ Some y → (is_in_ready y.state ≡ true) ⊎ IsThere t f.asked) → Frame a old x
  frame_one t k x keeps tasks m f fares back = record {
    asked = f.asked;
    scheduled = f.scheduled;
    others = λ u h. elim (cases_eq u t) [
      | inl same ↦ let away : a.task ≡ Some t → ⊥ = λ e. h (e ∙ ap Some (sym same)) in rw same (fares away)
      | inr other ↦ fares_on a (Makes a old) u (record old { tasks = f.asked }) k x (keeps u other h) (f.others u h)
    ];
    back = λ u y h e. elim (cases_eq u t) [
      | inl same ↦ let away : a.task ≡ Some t → ⊥ = λ e. h (e ∙ ap Some (sym same)) in rw same (back y away (rw (← same) e))
      | inr other ↦ f.back u y h (sym (tasks u other) ∙ e)
    ];
    mutexes = mutexes_then a.task old.mutexes k.mutexes x.mutexes f.mutexes m;
  }

  -- ---- a slice
  oob_not : (t : ℕ) (k : Parts) (z x : Task) → slice_get k.tasks t ≡ Some z → z.state ≡ InReady → slice_get k.tasks t ≡ Some x → x.state ≡ OobReady → ⊥
  oob_not t k z x e f g h =
      let two : Some z ≡ Some x = sym e ∙ g in
      let same : z ≡ x = cc in
      let no : InReady ≡ OobReady = sym f ∙ ap (λ (y : Task). y.state) same ∙ h in cc

  left_twice : (x y p s b u c v : ℕ) → x ≤ y → ((b ≡ p) × (u < s)) ⊎ ((x ≤ b) × (u ≤ SLICE)) → ((c ≡ b) × (v < u)) ⊎ ((y ≤ c) × (v ≤ SLICE)) → ((c ≡ p) × (v < s)) ⊎ ((x ≤ c) × (v ≤ SLICE))
  left_twice x y p s b u c v h (inl q) (inl r) = inl (r.0 ∙ q.0, omega (arith, q.1, r.1))
  left_twice x y p s b u c v h (inr q) (inl r) = inr (omega (arith, q.0, r.0), omega (arith, q.1, r.1))
  left_twice x y p s b u c v h q (inr r) = inr (omega (arith, r.0, h), r.1)

  -- one that the watchdog made go in-band is no more out-of-band
  gone_not : (asked : List Task) (t : ℕ) (k : Parts) (x : Task) → Overruns a.cpu t (record old { tasks = asked }) k → slice_get k.tasks t ≡ Some x → x.state ≡ OobReady → ⊥
  gone_not asked t k x o there on = oob_not t k _ x o.goes refl there on

  -- of the tasks, one of which may have another class
  state_asked : (t : ℕ) (f : (asked : List Task) × ((asked ≡ old.tasks) ⊎ Asked a old asked)) (x : Task) → slice_get f.0 t ≡ Some x → (y : Task) × (slice_get old.tasks t ≡ Some y) × (y.state ≡ x.state)
  state_asked t (asked, inl same) x e = (x, ap (λ all. slice_get all t) (sym same) ∙ e, refl)
  state_asked t (asked, inr q) x e = elim (change-cases (λ (task : Task). record task { class = q.class; priority = q.priority; slice = SLICE }) old.tasks q.names t x (ap (λ all. slice_get all t) (sym q.tasks) ∙ e)) [
    | inl g ↦ (g.1, ap (slice_get old.tasks) g.0 ∙ g.2, ap (λ (z : Task). z.state) (sym g.3))
    | inr g ↦ (x, g.1, refl)
  ]

  -- a task that waited is not the one that was current
  not_spent : (t : ℕ) (k : Parts) (f : Frame a old k) (wait : Wait) (x : Task) → slice_get f.asked t ≡ Some x → x.state ≡ Waits wait → current a.cpu old ≡ Some t → ⊥
  not_spent t k f wait x there on runs =
      let w = state_asked t (f.asked, f.scheduled) x there in
      let no : true ≡ false = sym (ap is_waiting (w.2 ∙ on)) ∙ from.runs t w.0 runs w.1 in cc

  spends_on : (t : ℕ) (x : Task) (k new : Parts) (f : Frame a old k) → old.stamps ≤ k.stamps → current a.cpu old ≡ Some t → slice_get k.tasks t ≡ Some x → x.state ≡ OobReady → x.class ≡ RoundRobin → Ticked t x k new
      → (a.task ≡ Some t → ⊥) → Fares a (Makes a old) t (record old { tasks = f.asked }) k → Fares a (Makes a old) t (record old { tasks = f.asked }) new
  spends_on t x k new f later runs there on robin q away (inl (inl r)) = inr (inl (record {
    task = x;
    slice = q.slice;
    stamp = q.stamp;
    runs = runs;
    there = was_there t (record old { tasks = f.asked }) k x there (ap is_in_ready on) (f.back t x away there) r;
    on = on;
    robin = robin;
    left = elim q.left [
      | inl less ↦ inl less
      | inr fresh ↦ inr (omega (arith, later, fresh.0), fresh.1)
    ];
    spends = q.there;
    hart = λ y e. ap (λ all. slice_get all t) q.harts ∙ r.hart y e;
  }))
  spends_on t x k new f later runs there on robin q away (inl (inr (inl w))) = absurd (not_spent t k f w.wait w.task w.waited w.on runs)
  spends_on t x k new f later runs there on robin q away (inl (inr (inr w))) = absurd (not_spent t k f (OfEvent w.event) w.task w.waited w.on runs)
  spends_on t x k new f later runs there on robin q away (inr (inr o)) = absurd (gone_not f.asked t k x o there on)
  spends_on t x k new f later runs there on robin q away (inr (inl s)) =
      let two : Some x ≡ Some (record s.task { slice = s.slice; stamp = s.stamp }) = sym there ∙ s.spends in
      let same : x ≡ record s.task { slice = s.slice; stamp = s.stamp } = cc in
      let its_stamp : x.stamp ≡ s.stamp = ap (λ (y : Task). y.stamp) same in
      let its_slice : x.slice ≡ s.slice = ap (λ (y : Task). y.slice) same in
      inr (inl (record {
        task = s.task;
        slice = q.slice;
        stamp = q.stamp;
        runs = runs;
        there = s.there;
        on = s.on;
        robin = s.robin;
        left = left_twice old.stamps k.stamps s.task.stamp s.task.slice s.stamp s.slice q.stamp q.slice later s.left (rw (its_stamp, its_slice) at q.left);
        spends = q.there ∙ ap (λ (y : Task). Some (record y { slice = q.slice; stamp = q.stamp })) same;
        hart = λ y e. ap (λ all. slice_get all t) q.harts ∙ s.hart y e;
      }))

  frame_spends : (t : ℕ) (x : Task) (k new : Parts) → old.stamps ≤ k.stamps → current a.cpu old ≡ Some t → slice_get k.tasks t ≡ Some x → x.state ≡ OobReady → x.class ≡ RoundRobin → Ticked t x k new → Still a.cpu old.ticks k new
      → Frame a old k → Frame a old new
  frame_spends t x k new later runs there on robin q objects f =
      frame_one t k new
      (λ u other h. record { task = λ y e. q.others u other ∙ e; hart = λ y e. ap (λ all. slice_get all u) q.harts ∙ e; mutex = λ n y o e. ap (λ all. slice_get all n) q.mutexes ∙ e; objects = objects })
      q.others (same_mutexes a.task k.mutexes new.mutexes q.mutexes) f
      (λ away. spends_on t x k new f later runs there on robin q away (f.others t away))
      (λ y away e. elim (f.back t x away there) [
        | inl ready ↦ let no : true ≡ false = sym ready ∙ ap is_in_ready on in cc
        | inr b ↦ inr b
      ])

  -- ---- the watchdog
  overruns_on : (t : ℕ) (x : Task) (k new : Parts) (f : Frame a old k) → SoFar old k → current a.cpu old ≡ Some t → (k.profile.watchdog ≡ 0 → ⊥) → slice_get k.tasks t ≡ Some x → x.state ≡ OobReady → x.cpu ≡ a.cpu
      → slice_get new.tasks t ≡ Some (record x { stamp = k.stamps; state = InReady }) → new.harts ≡ k.harts
      → (a.task ≡ Some t → ⊥) → Fares a (Makes a old) t (record old { tasks = f.asked }) k → Fares a (Makes a old) t (record old { tasks = f.asked }) new
  overruns_on t x k new f far runs guarded there on home goes harts away (inl (inl r)) = inr (inr (record {
    task = x;
    slice = x.slice;
    stamp = k.stamps;
    guarded = λ off. guarded (ap (λ profile. profile.watchdog) far.profile ∙ off);
    runs = runs;
    there = was_there t (record old { tasks = f.asked }) k x there (ap is_in_ready on) (f.back t x away there) r;
    home = home;
    on = on;
    spent = inl refl;
    fresh = far.later;
    goes = goes;
    hart = λ y e. ap (λ all. slice_get all t) harts ∙ r.hart y e;
  }))
  overruns_on t x k new f far runs guarded there on home goes harts away (inl (inr (inl w))) = absurd (not_spent t k f w.wait w.task w.waited w.on runs)
  overruns_on t x k new f far runs guarded there on home goes harts away (inl (inr (inr w))) = absurd (not_spent t k f (OfEvent w.event) w.task w.waited w.on runs)
  overruns_on t x k new f far runs guarded there on home goes harts away (inr (inr o)) = absurd (gone_not f.asked t k x o there on)
  overruns_on t x k new f far runs guarded there on home goes harts away (inr (inl s)) =
      let two : Some x ≡ Some (record s.task { slice = s.slice; stamp = s.stamp }) = sym there ∙ s.spends in
      let same : x ≡ record s.task { slice = s.slice; stamp = s.stamp } = cc in
      inr (inr (record {
        task = s.task;
        slice = s.slice;
        stamp = k.stamps;
        guarded = λ off. guarded (ap (λ profile. profile.watchdog) far.profile ∙ off);
        runs = runs;
        there = s.there;
        home = ap (λ (y : Task). y.cpu) (sym same) ∙ home;
        on = s.on;
        spent = inr (
          s.robin,
          elim s.left [
            | inl less ↦ inl less.1
            | inr whole ↦ inr whole.1
          ],
        );
        fresh = far.later;
        goes = goes ∙ ap (λ (y : Task). Some (record y { stamp = k.stamps; state = InReady })) same;
        hart = λ y e. ap (λ all. slice_get all t) harts ∙ s.hart y e;
      }))

  frame_overruns : (t : ℕ) (o : Option Task) (k : Parts) → SoFar old k → current a.cpu old ≡ Some t → (k.profile.watchdog ≡ 0 → ⊥) → slice_get k.tasks t ≡ o → runs_oob_task a.cpu o ≡ true → Frame a old k → Frame a old (restamp t (set_state t InReady k))
  unfolding restamp set_state
  frame_overruns t None k far runs guarded there on f = cc
  frame_overruns t (Some x) k far runs guarded there on f =
      let ready : Task → Task = λ y. record y { state = InReady } in
      let stamped : Task → Task = λ y. record y { stamp = k.stamps } in
      let new : Parts = restamp t (set_state t InReady k) in
      let b = both (is_oob_ready x.state) (x.cpu == a.cpu) on in
      let goes : slice_get new.tasks t ≡ Some (record x { stamp = k.stamps; state = InReady }) = change-here stamped (change ready k.tasks t) t ∙ ap (option_map stamped) (change-here ready k.tasks t ∙ ap (option_map ready) there) in
      let tasks : (u : ℕ) → (u ≡ t → ⊥) → slice_get new.tasks u ≡ slice_get k.tasks u = λ u other. change-elsewhere stamped (change ready k.tasks t) t u other ∙ change-elsewhere ready k.tasks t u other in
      frame_one t k new (λ u other h. record { task = λ y e. tasks u other ∙ e; hart = λ y e. e; mutex = λ n y o e. e; objects = still a.cpu old.ticks k new refl refl refl }) tasks (same_mutexes a.task k.mutexes k.mutexes refl) f
      (λ away. overruns_on t x k new f far runs guarded there (is_oob x.state b.0) (eqb-is x.cpu a.cpu b.1) goes refl away (f.others t away))
      (λ y away e.
      let two : Some (record x { stamp = k.stamps; state = InReady }) ≡ Some y = sym goes ∙ e in
      let one : record x { stamp = k.stamps; state = InReady } ≡ y = cc in
      inl (ap (λ (z : Task). is_in_ready z.state) (sym one)))

  -- ---- a wake
  -- a task that waits in k, and for no mutex again, rested so far; a mutex that is passed to one that does is so by a task that has not made it wait again
  again_if : (u value : ℕ) (wait : Wait) (k : Parts) (x : Task) (f : Frame a old k) → x.state ≡ Waits wait → slice_get k.tasks u ≡ Some x → Cause a old u x k wait value → (a.task ≡ Some u → ⊥) → Rests u (record old { tasks = f.asked }) k
  again_if u value wait k x f on there why away = waits_on (is_again x.state) refl
    where
      gone_waits : Overruns a.cpu u (record old { tasks = f.asked }) k → ⊥
      gone_waits o =
          let two : Some (record o.task { slice = o.slice; stamp = o.stamp; state = InReady }) ≡ Some x = sym o.goes ∙ there in
          let one : record o.task { slice = o.slice; stamp = o.stamp; state = InReady } ≡ x = cc in
          let no : true ≡ false = ap (λ (y : Task). is_ready y.state) one ∙ ap is_ready on in cc

      still_waits : slice_get k.tasks u ≡ slice_get old.tasks u → Fares a (Makes a old) u (record old { tasks = f.asked }) k → Rests u (record old { tasks = f.asked }) k
      still_waits same (inl (inl r)) = r
      still_waits same (inl (inr (inl w))) =
          let old_task = state_asked u (f.asked, f.scheduled) w.task w.waited in
          let two : Some (record w.task { stamp = w.stamp; deadline = 0; state = w.state }) ≡ Some x = sym w.wakes ∙ there in
          let one : record w.task { stamp = w.stamp; deadline = 0; state = w.state } ≡ x = cc in
          let no : true ≡ false = sym (is_ready_after w.wait w.task.class w.state w.ready) ∙ ap (λ (y : Task). is_ready y.state) one ∙ ap is_ready on in cc
      still_waits same (inl (inr (inr q))) =
          let old_task = state_asked u (f.asked, f.scheduled) q.task q.waited in
          let two : Some old_task.0 ≡ Some (record q.task { stamp = q.stamp; deadline = 0; state = Waits (Reacquire q.mutex q.answer) }) = sym old_task.1 ∙ sym same ∙ q.waits in
          let one : old_task.0 ≡ record q.task { stamp = q.stamp; deadline = 0; state = Waits (Reacquire q.mutex q.answer) } = cc in
          let no : false ≡ true = ap is_again (sym (old_task.2 ∙ q.on)) ∙ ap (λ (y : Task). is_again y.state) one in cc
      still_waits same (inr (inr o)) = absurd (gone_waits o)
      still_waits same (inr (inl s)) =
          let two : Some (record s.task { slice = s.slice; stamp = s.stamp }) ≡ Some x = sym s.spends ∙ there in
          let one : record s.task { slice = s.slice; stamp = s.stamp } ≡ x = cc in
          let no : true ≡ false = ap is_ready (sym s.on) ∙ ap (λ (y : Task). is_ready y.state) one ∙ ap is_ready on in cc

      late_rests : IsLate a x k → Fares a (Makes a old) u (record old { tasks = f.asked }) k → Rests u (record old { tasks = f.asked }) k
      late_rests h (inl (inl r)) = r
      late_rests h (inl (inr (inl w))) =
          let two : Some (record w.task { stamp = w.stamp; deadline = 0; state = w.state }) ≡ Some x = sym w.wakes ∙ there in
          let one : record w.task { stamp = w.stamp; deadline = 0; state = w.state } ≡ x = cc in
          absurd (h.set (ap (λ (y : Task). y.deadline) (sym one)))
      late_rests h (inl (inr (inr q))) =
          let two : Some (record q.task { stamp = q.stamp; deadline = 0; state = Waits (Reacquire q.mutex q.answer) }) ≡ Some x = sym q.waits ∙ there in
          let one : record q.task { stamp = q.stamp; deadline = 0; state = Waits (Reacquire q.mutex q.answer) } ≡ x = cc in
          absurd (h.set (ap (λ (y : Task). y.deadline) (sym one)))
      late_rests h (inr (inr o)) = absurd (gone_waits o)
      late_rests h (inr (inl s)) =
          let two : Some (record s.task { slice = s.slice; stamp = s.stamp }) ≡ Some x = sym s.spends ∙ there in
          let one : record s.task { slice = s.slice; stamp = s.stamp } ≡ x = cc in
          let no : true ≡ false = ap is_ready (sym s.on) ∙ ap (λ (y : Task). is_ready y.state) one ∙ ap is_ready on in cc

      by_cause : (w : Wait) (v : ℕ) → w ≡ wait → Cause a old u x k w v → is_again (Waits w) ≡ true → Rests u (record old { tasks = f.asked }) k
      by_cause _ _ same (passed_back m answer p) e = still_waits p.rests (f.others u away)
      by_cause _ _ same (timed_out (Reacquire m answer) plain h) e = late_rests h (f.others u away)
      by_cause _ _ same _ e = cc

      waits_on : (b : Bool) → is_again x.state ≡ b → Rests u (record old { tasks = f.asked }) k
      waits_on true e = by_cause wait value refl why (ap is_again (sym on) ∙ e)
      waits_on false e = rested a (Makes a old) u (record old { tasks = f.asked }) k x there (ap is_ready on) e (f.others u away)

  frame_wakes : (u value : ℕ) (x : Task) (wait : Wait) (k : Parts) → SoFar old k → slice_get k.tasks u ≡ Some x → x.state ≡ Waits wait → Cause a old u x k wait value → Frame a old k → Frame a old (wake u value k)
  unfolding wake restamp
  frame_wakes u value x wait k far at on why f =
      let owns : Bool = owns_any u k.mutexes in
      let new : Parts = wake u value k in
      let state : TaskState = ready_on (stage_of_wait wait) (returns owns x) in
      let there : slice_get new.tasks u ≡ Some (record x { stamp = k.stamps; deadline = 0; state = state }) = woken_there u owns x (record x { state = state; deadline = 0 }) k.stamps k.tasks at (woke wait owns x on) in
      let tasks : (v : ℕ) → (v ≡ u → ⊥) → slice_get new.tasks v ≡ slice_get k.tasks v = λ v other. change-elsewhere (λ (z : Task). record z { stamp = k.stamps }) (change (woken owns) k.tasks u) u v other ∙ change-elsewhere (woken owns) k.tasks u v other in
      frame_one u k new
      (λ v other h. record { task = λ y e. tasks v other ∙ e; hart = λ y e. change-elsewhere (set_register A0 value) k.harts u v other ∙ e; mutex = λ n y o e. e; objects = still a.cpu old.ticks k new refl refl refl })
      tasks (same_mutexes a.task k.mutexes k.mutexes refl) f
      (λ away.
      let r : Rests u (record old { tasks = f.asked }) k = again_if u value wait k x f on at why away in
      inl (inr (inl (record {
        task = x;
        wait = wait;
        state = state;
        stamp = k.stamps;
        answer = value;
        waited = was_there u (record old { tasks = f.asked }) k x at (ap is_in_ready on) (f.back u x away at) r;
        on = on;
        by = still_by a.task a.task (Makes a old) (Makes a old) a.cpu u x state (record old { tasks = f.asked }) k new (λ g e. e) (λ n h call. call) (λ m y o e. e) (still a.cpu old.ticks k new refl refl refl) wait value (asked_by a old u wait value x state k f.asked (woken_by a old u k x value wait far at on why));
        ready = ready_after wait owns x;
        fresh = far.later;
        wakes = there;
        hart = λ y e. change-here (set_register A0 value) k.harts u ∙ ap (option_map (set_register A0 value)) (r.hart y e);
      }))))
      (λ y away e. elim (f.back u x away at) [
        | inl ready ↦ let no : true ≡ false = sym ready ∙ ap is_in_ready on in cc
        | inr b ↦ inr b
      ])

  -- ---- a wait for an event becomes one for its mutex
  queued_there : (u m answer stamp : ℕ) (x : Task) (tasks : List Task) → slice_get tasks u ≡ Some x
      → slice_get (change (λ (z : Task). record z { stamp = stamp }) (change (λ (z : Task). record z { state = Waits (Reacquire m answer); deadline = 0 }) tasks u) u) u ≡ Some (record x { stamp = stamp; deadline = 0; state = Waits (Reacquire m answer) })
  queued_there u m answer stamp x tasks e =
      let stamped : Task → Task = λ z. record z { stamp = stamp } in
      let queued : Task → Task = λ z. record z { state = Waits (Reacquire m answer); deadline = 0 } in
      change-here stamped (change queued tasks u) u ∙ ap (option_map stamped) (change-here queued tasks u ∙ ap (option_map queued) e)

  frame_requeues : (u e m answer : ℕ) (x : Task) (k : Parts) → SoFar old k → slice_get k.tasks u ≡ Some x → x.state ≡ Waits (OfEvent e) → bound e k ≡ Some m → Ends a old e x k answer → Frame a old k → Frame a old (begin_wait u (Reacquire m answer) 0 k)
  unfolding begin_wait restamp
  frame_requeues u e m answer x k far at on its why f =
      let new : Parts = begin_wait u (Reacquire m answer) 0 k in
      let tasks : (v : ℕ) → (v ≡ u → ⊥) → slice_get new.tasks v ≡ slice_get k.tasks v = λ v other. change-elsewhere (λ (z : Task). record z { stamp = k.stamps }) _ u v other ∙ change-elsewhere (λ (z : Task). record z { state = Waits (Reacquire m answer); deadline = 0 }) k.tasks u v other in
      frame_one u k new (λ v other h. record { task = λ y d. tasks v other ∙ d; hart = λ y d. d; mutex = λ n y o d. d; objects = still a.cpu old.ticks k new refl refl refl }) tasks (same_mutexes a.task k.mutexes k.mutexes refl) f
      (λ away.
      let r : Rests u (record old { tasks = f.asked }) k = rested a (Makes a old) u (record old { tasks = f.asked }) k x at (ap is_ready on) (ap is_again on) (f.others u away) in
      inl (inr (inr (record {
        task = x;
        event = e;
        mutex = m;
        stamp = k.stamps;
        answer = answer;
        waited = was_there u (record old { tasks = f.asked }) k x at (ap is_in_ready on) (f.back u x away at) r;
        on = on;
        named = its;
        ends = ends_by a old e answer x k far.ticks why;
        fresh = far.later;
        waits = queued_there u m answer k.stamps x k.tasks at;
        hart = λ y h. r.hart y h;
      }))))
      (λ y away h. elim (f.back u x away at) [
        | inl ready ↦ let no : true ≡ false = sym ready ∙ ap is_in_ready on in cc
        | inr b ↦ inr b
      ])

  -- ---- a mutex changes
  frame_holds : (i t m : ℕ) (g : Mutex → Mutex) (k : Parts) → a.task ≡ Some t → ((x : Mutex) → slice_get k.mutexes m ≡ Some x → IsHeld t i x (g x)) → Frame a old k → Frame a old (on_mutex m g k)
  frame_holds i t m g k own held f =
      frame_on k _ f (λ u h. record { task = λ y e. e; hart = λ y e. e; mutex = held_keeps i t u m g k.mutexes (λ one. h (own ∙ ap Some (sym one))) held; objects = still a.cpu old.ticks k _ refl refl refl }) (λ u y h e. inr e) (held_stays a.task i t m g k.mutexes own held)

  -- a free mutex is taken by a task that doesn't act, or does
  frame_takes : (u m : ℕ) (k : Parts) → owner k.mutexes m ≡ None → Frame a old k → Frame a old (on_mutex m (held_by u 1) k)
  frame_takes u m k free f =
      frame_on k _ f (λ v h. record { task = λ y e. e; hart = λ y e. e; mutex = free_keeps v u m k.mutexes free; objects = still a.cpu old.ticks k _ refl refl refl }) (λ v y h e. inr e) (free_stays a.task u m k.mutexes free)

  -- nothing of tasks or mutexes has changed yet
  frame_fresh : (x : Parts) → x.tasks ≡ old.tasks → x.harts ≡ old.harts → x.mutexes ≡ old.mutexes → Frame a old x
  frame_fresh x tasks harts mutexes = record {
    asked = old.tasks;
    scheduled = inl refl;
    others = λ t h. inl (inl (record { task = λ y e. ap (λ all. slice_get all t) tasks ∙ e; hart = λ y e. ap (λ all. slice_get all t) harts ∙ e }));
    back = λ t y h e. inr (record { task = y; there = ap (λ all. slice_get all t) (sym tasks) ∙ e });
    mutexes = λ m before e. inl (ap (λ all. slice_get all m) mutexes ∙ e);
  }

  -- a timer that is due expires
  timer_still : (n : ℕ) (g : Timer → Timer) (timer : Timer) (k : Parts) → k.ticks ≡ old.ticks → slice_get k.timers n ≡ Some timer → is_due_timer a.cpu k.ticks timer ≡ true → Still a.cpu old.ticks k (on_timer n g k)
  timer_still n g timer k clock there due = record {
    names = λ e m h. h;
    acts = refl;
    timers = λ i z off h. elim (cases_eq i n) [
      | inl same ↦
          let two : Some z ≡ Some timer = sym h ∙ ap (slice_get k.timers) same ∙ there in
          let one : z ≡ timer = cc in
          let no : true ≡ false = sym due ∙ ap (λ now. is_due_timer a.cpu now timer) clock ∙ ap (is_due_timer a.cpu old.ticks) (sym one) ∙ off in cc
      | inr other ↦ change-elsewhere g k.timers n i other ∙ h
    ];
  }

  -- ---- each primitive
  does_frame : (i j : ℕ) (k x : Parts) → SoFar old k → Does a old i j k x → Frame a old k → Frame a old x
  unfolding restamp set_state set_policy move_task begin_wait tick
  does_frame _ _ _ _ far (hart t r value g k own x there) f = frame_own t k _ own (λ u o. refl) (λ u o. change-elsewhere g k.harts t u o) refl (still a.cpu old.ticks k _ refl refl refl) f
  does_frame _ _ _ _ far (task t g k own x none there) f = frame_own t k _ own (λ u o. change-elsewhere g k.tasks t u o) (λ u o. refl) refl (still a.cpu old.ticks k _ refl refl refl) f
  does_frame _ _ _ _ far (stamps t k own there) f = frame_own t k _ own (λ u o. change-elsewhere _ k.tasks t u o) (λ u o. refl) refl (still a.cpu old.ticks k _ refl refl refl) f
  does_frame _ _ _ _ far (turns t g k own x none there) f = frame_own t k _ own (λ u o. change-elsewhere _ _ t u o ∙ change-elsewhere g k.tasks t u o) (λ u o. refl) refl (still a.cpu old.ticks k _ refl refl refl) f
  does_frame _ _ _ _ far (awaits_event t e m deadline k own there its small) f = frame_own t k _ own (λ u o. change-elsewhere _ _ t u o ∙ change-elsewhere _ k.tasks t u o) (λ u o. refl) refl (still a.cpu old.ticks k _ refl refl refl) f
  does_frame _ _ _ _ far (spends t x k runs there on) f =
      let b = both (is_oob_ready x.state) (is_round_robin x.class) on in frame_spends t x k _ far.later runs there (is_oob x.state b.0) (is_robin x.class b.1) (ticked t x k there) (spent_still a.cpu old.ticks t x.slice k) f
  does_frame _ _ _ _ far (migrates t d y k own call is there on fresh) f =
      frame_own t k _ own (λ u o. change-elsewhere _ _ t u o ∙ change-elsewhere _ k.tasks t u o) (λ u o. refl) refl (still a.cpu old.ticks k _ refl refl refl) f
  does_frame _ _ _ _ far (overruns t k its on) f = frame_overruns t (slice_get k.tasks t) k far its.runs its.guarded refl on f
  does_frame _ _ _ _ far (wakes u value y wait k there on why) f = frame_wakes u value y wait k far there on why f
  does_frame _ _ _ _ far (requeues u v e m answer y k there on its owned why) f = frame_requeues u e m answer y k far there on its why f
  does_frame _ _ _ _ far (regains u e m y k there on its free) f = frame_takes u m k free f
  does_frame _ _ _ _ far (gives t u m k own same its) f =
      frame_holds 1 t m (held_by u 1) k own (λ x e. record { kind = refl; whose = inr (ap owner_of (sym e) ∙ its); count = omega arith }) f
  does_frame _ _ _ _ far (holds i t m g k own same held) f = frame_holds i t m g k own held f
  does_frame _ _ _ _ far (names e m y k call is at small fresh) f = frame_fresh _ fresh.tasks fresh.harts fresh.mutexes
  does_frame _ _ _ _ far (sets_action l action y k call is above valid fresh) f = frame_fresh _ fresh.tasks fresh.harts fresh.mutexes
  does_frame _ _ _ _ far (sets_timer n first period y k call is small short fresh) f = frame_fresh _ fresh.tasks fresh.harts fresh.mutexes
  does_frame _ _ _ _ far (takes_expiries n y k call is fresh) f = frame_fresh _ fresh.tasks fresh.harts fresh.mutexes
  does_frame _ _ _ _ far (adds_event t k own fresh room) f = frame_fresh _ fresh.tasks fresh.harts fresh.mutexes
  does_frame _ _ _ _ far (adds_timer t k own fresh room) f = frame_fresh _ fresh.tasks fresh.harts fresh.mutexes
  does_frame _ _ _ _ far (expires n timer woke k there due) f = frame_same k _ refl refl refl (timer_still n _ timer k far.ticks there due) f
  does_frame _ _ _ _ far (schedules u priority class k fresh asks) f = record {
    asked = change (λ (y : Task). record y { class = class; priority = priority; slice = SLICE }) k.tasks u;
    scheduled = inr (record { names = u; priority = priority; class = class; asks = asks; tasks = ap (λ all. change (λ (y : Task). record y { class = class; priority = priority; slice = SLICE }) all u) fresh.tasks });
    others = λ t h. inl (inl (record { task = λ y e. e; hart = λ y e. ap (λ all. slice_get all t) fresh.harts ∙ e }));
    back = λ t y h e. inr (record { task = y; there = e });
    mutexes = f.mutexes;
  }
  does_frame _ _ _ _ far (adds t entry value cpu k own fresh room) f =
      frame_on k _ f (λ u h. record { task = λ y e. slice_get-before k.tasks _ u y e; hart = λ y e. slice_get-before k.harts _ u y e; mutex = λ n y o e. e; objects = still a.cpu old.ticks k _ refl refl refl })
      (λ u y h e. elim (slice_get-push k.tasks (new_task cpu k.stamps) u y e) [
        | inl there ↦ inr there
        | inr last ↦ inl (ap (λ (z : Task). is_in_ready z.state) last.1)
      ]) (same_mutexes a.task k.mutexes k.mutexes refl)
  does_frame _ _ _ _ far (makes t recursive protocol k own fresh room) f =
      frame_on k _ f (λ u h. record { task = λ y e. e; hart = λ y e. e; mutex = λ n y o e. slice_get-before k.mutexes _ n y e; objects = still a.cpu old.ticks k _ refl refl refl }) (λ u y h e. inr e) (λ n before e. inl (slice_get-before k.mutexes _ n before e))
  does_frame _ _ k _ far _ f = frame_same k _ refl refl refl (still a.cpu old.ticks k _ refl refl refl) f

  so_far : (n s : ℕ) (k : Parts) → Walk a old n s k → SoFar old k
  so_far n s k w = record {
    later = walk_least a old n s k w;
    ticks = walk_ticks a old n s k from.clock w;
    profile = walk_profile a old n s k w;
    named = walk_named a old n s k w from.named;
    mutexes = elim (walk_made a old n s k from.named w) [
      | inl same ↦ omega (arith, same)
      | inr more ↦ omega (arith, more.count)
    ];
  }

  pub walk_frame : (n s : ℕ) (k : Parts) → Walk a old n s k → Frame a old k
  walk_frame _ _ _ start = frame_fresh old refl refl refl
  walk_frame _ _ _ (next m n s u i j k x few g d w) = does_frame i j k x (so_far m s k w) d (walk_frame m s k w)
