-- Semaphores, flag groups, timers, events and actions stay within their bounds.
use Rattle.std.proofs.Common.{◌≡◌, ℕ, ◌+◌, ◌-◌, ◌*◌, ◌/◌, ◌<◌, ◌≤◌, List, [], ◌∷◌, Bool, true, false, Option, Some, None, length, length-append, inl, inr, refl, ap, sym, ◌∙◌, arith}
use Rattle.std.specs.Prelude.{slice_get, option_map, ◌==◌, if◌then◌else◌}
use Rattle.std.proofs.Math.Nat.{add-mul, div-mul-le_self, le-mul_of_pos_right, one-mul}
use Rattle.std.proofs.lemmas.Bool.{cases_eq}
use Rattle.std.proofs.lemmas.Bool.Decides.{nat_tests}
use Rattle.evm_model.specs.Actions.{action_or_nothing, action_in}
use Rattle.evm_model.specs.Commands.{tick}
use Rattle.evm_model.specs.Good.{AreSemaphores, AreFlags, IsTimer, AreTimers, AreActions}
use Rattle.evm_model.specs.Lists.{change}
use Rattle.evm_model.specs.State.{Parts}
use Rattle.evm_model.specs.OobCalls.{move_task}
use Rattle.evm_model.specs.Tasks.{restamp, set_state, set_policy, set_slice}
use Rattle.evm_model.specs.Timers.{idle_timer, set_timer, taken, is_due_timer, expired}
use Rattle.evm_model.specs.Waits.{wake, begin_wait}
use Rattle.evm_model.specs.declared.action.Action.{Action}
use Rattle.evm_model.specs.declared.action.Action.TheVariants.{Nothing, Puts, Posts}
use Rattle.evm_model.specs.declared.limits.TheConstants.{EVENT_LIMIT}
use Rattle.evm_model.specs.declared.timer.Timer.{Timer}
use Rattle.evm_model.proofs.Lists.{change-here, change-elsewhere, change-cases, slice_get-push, length-change}
use Rattle.law_rules.proofs.Sizes.{of_spend}
use Rattle.law_rules.proofs.Walk.{Actor, ArePipes, IsAction, Does, spends, names, counts, writes, sets_timer, takes_expiries, expires, sets_action, clock, sets_up, adds_event, adds_flags, adds_timer, Walk, start, next}

module _ (a : Actor) (old : Parts) where
  does_amount : (i j : ℕ) (k x : Parts) → Does a old i j k x → AreSemaphores k.semaphores → AreSemaphores x.semaphores
  unfolding restamp set_state set_policy set_slice move_task wake begin_wait tick
  does_amount _ _ _ _ (spends t x k runs there on) q = of_spend (λ (y : Parts). AreSemaphores y.semaphores) t x.slice k q q
  does_amount _ _ _ _ (counts s f k why h) q = record {
    few = omega (arith, q.few, length-change f k.semaphores s);
    bounded = λ i n e. elim (change-cases f k.semaphores s i n e) [
      | inl g ↦ rw g.3 (h g.1 g.2 (q.bounded s g.1 g.2))
      | inr g ↦ q.bounded i n g.1
    ];
  }
  does_amount _ _ _ _ (sets_up t count k own fresh room fits) q = record {
    few = omega (arith, room, length-append k.semaphores (count ∷ []));
    bounded = λ i n e. elim (slice_get-push k.semaphores count i n e) [
      | inl there ↦ q.bounded i n there
      | inr last ↦ rw last.1 fits
    ];
  }
  does_amount _ _ _ _ _ q = q

  pub walk_amounts : (n s : ℕ) (k : Parts) → Walk a old n s k → AreSemaphores old.semaphores → AreSemaphores k.semaphores
  walk_amounts _ _ _ start q = q
  walk_amounts _ _ _ (next m n s u i j k x h g d w) q = does_amount i j k x d (walk_amounts m s k w q)

-- ---- flag groups
module _ (a : Actor) (old : Parts) (are : ArePipes old) where
  does_flags : (i j : ℕ) (k x : Parts) → Does a old i j k x → AreFlags k.flags → AreFlags x.flags
  unfolding restamp set_state set_policy set_slice move_task wake begin_wait tick
  does_flags _ _ _ _ (spends t x k runs there on) q = of_spend (λ (y : Parts). AreFlags y.flags) t x.slice k q q
  does_flags _ _ _ _ (writes g f k why h) q = record {
    few = omega (arith, q.few, length-change f k.flags g);
    bounded = λ i n e. elim (change-cases f k.flags g i n e) [
      | inl c ↦ rw c.3 (h are c.1 c.2 (q.bounded g c.1 c.2))
      | inr c ↦ q.bounded i n c.1
    ];
  }
  does_flags _ _ _ _ (adds_flags t k own fresh room) q = record {
    few = omega (arith, room, length-append k.flags (0 ∷ []));
    bounded = λ i n e. elim (slice_get-push k.flags 0 i n e) [
      | inl there ↦ q.bounded i n there
      | inr last ↦ rw last.1 (omega arith)
    ];
  }
  does_flags _ _ _ _ _ q = q

  pub walk_flags : (n s : ℕ) (k : Parts) → Walk a old n s k → AreFlags old.flags → AreFlags k.flags
  walk_flags _ _ _ start q = q
  walk_flags _ _ _ (next m n s u i j k x h g d w) q = does_flags i j k x d (walk_flags m s k w q)

-- ---- timers
-- what is due
record IsDueNow (now : ℕ) (timer : Timer) : Type 0 where
  set : timer.due ≡ 0 → ⊥
  come : timer.due ≤ now

due_now : (c now : ℕ) (timer : Timer) → is_due_timer c now timer ≡ true → IsDueNow now timer
due_now c now timer h = record { set = λ e. grind (arith, nat_tests); come = grind (arith, nat_tests) }

abbrev missed_if : Bool → ℕ → Timer → ℕ
missed_if one now timer = if one then 1 else 1 + (now - timer.due) / timer.period

abbrev expired_if : Bool → ℕ → Timer → Timer
expired_if one now timer = record timer { due = if one then 0 else timer.due + missed_if one now timer * timer.period; expiries = timer.expiries + missed_if one now timer }

expired_is : (one : Bool) (now : ℕ) (timer : Timer) → (timer.period == 0) ≡ one → IsDueNow now timer → IsTimer now timer → IsTimer now (expired_if one now timer)
expired_is true now timer e d is = record {
  period = is.period;
  due = omega arith;
  set = λ no. absurd (no refl);
  off = λ none. omega (arith, is.set d.set, d.come);
}
expired_is false now timer e d is =
    let above : 1 ≤ timer.period = grind (arith, nat_tests) in
    let q : ℕ = (now - timer.due) / timer.period in
    let most : q * timer.period ≤ now - timer.due = div-mul-le_self (now - timer.due) timer.period in
    let split : (1 + q) * timer.period ≡ timer.period + q * timer.period = add-mul 1 q timer.period ∙ ap (λ m. m + q * timer.period) (one-mul timer.period) in
    let least : q ≤ q * timer.period = le-mul_of_pos_right q above in
    record {
      period = is.period;
      due = omega (arith, most, split, is.period, d.come);
      set = λ no. omega (arith, is.set d.set, split, above, least);
      off = λ none. absurd (d.set (omega (arith, none)));
    }

IsTimer-expired : (now : ℕ) (timer : Timer) → IsDueNow now timer → IsTimer now timer → IsTimer now (expired now timer)
unfolding expired
IsTimer-expired now timer d is = expired_is (timer.period == 0) now timer refl d is

IsTimer-taken : (now : ℕ) (timer : Timer) → IsTimer now timer → IsTimer now (taken timer)
IsTimer-taken now timer is = record { period = is.period; due = is.due; set = λ no. omega (arith, no, is.set no); off = λ none. omega arith }

IsTimer-woke : (woke : Bool) (now : ℕ) (timer : Timer) → IsTimer now (expired now timer) → IsTimer now (if woke then taken (expired now timer) else expired now timer)
IsTimer-woke true now timer is = IsTimer-taken now (expired now timer) is
IsTimer-woke false now timer is = is

IsTimer-later : (now : ℕ) (timer : Timer) → IsTimer now timer → IsTimer (now + 1) timer
IsTimer-later now timer is = record { period = is.period; due = omega (arith, is.due); set = is.set; off = λ none. omega (arith, is.off none) }

-- one of them is another
timers_changed : (now n : ℕ) (f : Timer → Timer) (timers : List Timer) → AreTimers now timers → ((timer : Timer) → slice_get timers n ≡ Some timer → IsTimer now timer → IsTimer now (f timer)) → AreTimers now (change f timers n)
timers_changed now n f timers q h = record {
  few = omega (arith, q.few, length-change f timers n);
  each = λ i timer e. elim (change-cases f timers n i timer e) [
    | inl g ↦ rw g.3 (h g.1 g.2 (q.each n g.1 g.2))
    | inr g ↦ q.each i timer g.1
  ];
}

module _ (a : Actor) (old : Parts) where
  does_timers : (i j : ℕ) (k x : Parts) → Does a old i j k x → AreTimers k.ticks k.timers → AreTimers x.ticks x.timers
  unfolding restamp set_state set_policy set_slice move_task wake begin_wait tick
  does_timers _ _ _ _ (spends t x k runs there on) q = of_spend (λ (y : Parts). AreTimers y.ticks y.timers) t x.slice k q q
  does_timers _ _ _ _ (sets_timer n first period x k call is small short fresh) q =
      timers_changed k.ticks n (λ _. set_timer a.cpu first period) k.timers q (λ timer e is. record { period = short; due = omega (arith, small); set = λ no. omega (arith, no); off = λ none. omega arith })
  does_timers _ _ _ _ (takes_expiries n x k call is fresh) q = timers_changed k.ticks n taken k.timers q (λ timer e is. IsTimer-taken k.ticks timer is)
  does_timers _ _ _ _ (expires n timer woke k there due) q =
      timers_changed k.ticks n _ k.timers q (λ z e is. IsTimer-woke woke k.ticks timer (IsTimer-expired k.ticks timer (due_now a.cpu k.ticks timer due) (q.each n timer there)))
  does_timers _ _ _ _ (clock k x) q = record { few = q.few; each = λ n timer e. IsTimer-later k.ticks timer (q.each n timer e) }
  does_timers _ _ _ _ (adds_timer t k own fresh room) q = record {
    few = omega (arith, room, length-append k.timers (idle_timer ∷ []));
    each = λ n timer e. elim (slice_get-push k.timers idle_timer n timer e) [
      | inl there ↦ q.each n timer there
      | inr last ↦ rw last.1 (record { period = omega arith; due = omega arith; set = λ no. absurd (no refl); off = λ none. omega arith })
    ];
  }
  does_timers _ _ _ _ _ q = q

  pub walk_timers : (n s : ℕ) (k : Parts) → Walk a old n s k → AreTimers old.ticks old.timers → AreTimers k.ticks k.timers
  walk_timers _ _ _ start q = q
  walk_timers _ _ _ (next m n s u i j k x h g d w) q = does_timers i j k x d (walk_timers m s k w q)

  -- ---- events
  does_events : (i j : ℕ) (k x : Parts) → Does a old i j k x → length k.events ≤ EVENT_LIMIT → length x.events ≤ EVENT_LIMIT
  unfolding restamp set_state set_policy set_slice move_task wake begin_wait tick
  does_events _ _ _ _ (spends t x k runs there on) q = of_spend (λ (y : Parts). length y.events ≤ EVENT_LIMIT) t x.slice k q q
  does_events _ _ _ _ (names e m x k call is at small fresh) q = omega (arith, q, length-change (λ (_ : Option ℕ). Some m) k.events e)
  does_events _ _ _ _ (adds_event t k own fresh room) q = omega (arith, room, length-append k.events (None ∷ []))
  does_events _ _ _ _ _ q = q

  pub walk_few_events : (n s : ℕ) (k : Parts) → Walk a old n s k → length old.events ≤ EVENT_LIMIT → length k.events ≤ EVENT_LIMIT
  walk_few_events _ _ _ start q = q
  walk_few_events _ _ _ (next m n s u i j k x h g d w) q = does_events i j k x d (walk_few_events m s k w q)

-- ---- actions
-- more semaphores and flag groups
actions_more : (actions : List Action) (s r f g : List ℕ) → length s ≤ length r → length f ≤ length g → AreActions actions s f → AreActions actions r g
actions_more actions s r f g h i q = record { count = q.count; fixed = q.fixed; puts = λ l n e. omega (arith, h, q.puts l n e); posts = λ l n e. omega (arith, i, q.posts l n e) }

action_here : (action : Action) (o : Option Action) (any : Action) → action_or_nothing (option_map (λ (_ : Action). action) o) ≡ any → (any ≡ Nothing → ⊥) → action ≡ any
action_here action None any e other = absurd (other (sym e))
action_here action (Some x) any e other = e

module _ (l : ℕ) (action : Action) (k : Parts) (is : IsAction action k) (q : AreActions k.actions k.semaphores k.flags) where
  abbrev f : Action → Action
  f _ = action

  in_line : (i : ℕ) (any : Action) → action_in (change f k.actions l) i ≡ any → (any ≡ Nothing → ⊥) → (P : Type 0) → (action ≡ any → P) → (action_in k.actions i ≡ any → P) → P
  in_line i any e other P here elsewhere = elim (cases_eq i l) [
    | inl same ↦ here (action_here action (slice_get k.actions l) any (ap action_or_nothing (sym (change-here f k.actions l)) ∙ ap (λ j. action_in (change f k.actions l) j) (sym same) ∙ e) other)
    | inr away ↦ elsewhere (ap action_or_nothing (sym (change-elsewhere f k.actions l i away)) ∙ e)
  ]

  action_set : 2 ≤ l → AreActions (change f k.actions l) k.semaphores k.flags
  action_set from = record {
    count = length-change f k.actions l ∙ q.count;
    fixed = λ i small. ap action_or_nothing (change-elsewhere f k.actions l i (λ same. omega (arith, same, small, from))) ∙ q.fixed i small;
    puts = λ i s e. in_line i (Puts s) e (λ no. cc) (s < length k.semaphores) (λ here. is.puts s here) (λ there. q.puts i s there);
    posts = λ i g e. in_line i (Posts g) e (λ no. cc) (g < length k.flags) (λ here. is.posts g here) (λ there. q.posts i g there);
  }

module _ (a : Actor) (old : Parts) where
  does_actions : (i j : ℕ) (k x : Parts) → Does a old i j k x → AreActions k.actions k.semaphores k.flags → AreActions x.actions x.semaphores x.flags
  unfolding restamp set_state set_policy set_slice move_task wake begin_wait tick
  does_actions _ _ _ _ (spends t x k runs there on) q = of_spend (λ (y : Parts). AreActions y.actions y.semaphores y.flags) t x.slice k q q
  does_actions _ _ _ _ (counts s g k why h) q = actions_more k.actions k.semaphores _ k.flags k.flags (omega (arith, length-change g k.semaphores s)) (omega arith) q
  does_actions _ _ _ _ (writes g h k why fits) q = actions_more k.actions k.semaphores k.semaphores k.flags _ (omega arith) (omega (arith, length-change h k.flags g)) q
  does_actions _ _ _ _ (sets_action l action x k call is from valid fresh) q = action_set l action k valid q from
  does_actions _ _ _ _ (sets_up t count k own fresh room fits) q = actions_more k.actions k.semaphores _ k.flags k.flags (omega (arith, length-append k.semaphores (count ∷ []))) (omega arith) q
  does_actions _ _ _ _ (adds_flags t k own fresh room) q = actions_more k.actions k.semaphores k.semaphores k.flags _ (omega arith) (omega (arith, length-append k.flags (0 ∷ []))) q
  does_actions _ _ _ _ _ q = q

  pub walk_actions : (n s : ℕ) (k : Parts) → Walk a old n s k → AreActions old.actions old.semaphores old.flags → AreActions k.actions k.semaphores k.flags
  walk_actions _ _ _ start q = q
  walk_actions _ _ _ (next m n s u i j k x h g d w) q = does_actions i j k x d (walk_actions m s k w q)
