-- Timers expire by number.
use Rattle.std.proofs.Common.{◌≡◌, ℕ, zero, suc, ◌≤◌, Bool, true, false, not, ◌&&◌, Option, Some, None, length, refl, ap, ◌∙◌, arith, eq-eqb}
use Rattle.std.specs.Prelude.{slice_get, nat_le, ◌==◌, if◌then◌else◌}
use Rattle.std.specs.List.{fold}
use Rattle.std.proofs.lemmas.Bool.Decides.{nat_tests}
use Rattle.std.proofs.lemmas.Option.{slice_get_within}
use Rattle.evm_model.proofs.Lists.{change-elsewhere}
use Rattle.evm_model.specs.State.{Parts}
use Rattle.evm_model.specs.Tasks.{restamp}
use Rattle.evm_model.specs.Timers.{is_due_timer, expired, expire_to, expire_known, expire, expire_below, expire_timers}
use Rattle.evm_model.specs.Waits.{first_waiter, wake}
use Rattle.evm_model.specs.declared.task.Wait.TheVariants.{Timer as For}
use Rattle.evm_model.specs.declared.timer.Timer.{Timer}
use Rattle.law_runs.specs.Due.{IsTimerDue, TimersExpireByNumber}
use Rattle.law_runs.proofs.Turns.{numbers, numbers_rise, are_such, are_all, by_number}
use Rattle.law_runs.proofs.Due.{both_of, unset, all_of}

due_timer : (c n now : ℕ) (timer : Timer) → is_due_timer c now timer ≡ true → (timer.due ≡ 0 → ⊥) × (timer.due ≤ now) × (timer.cpu ≡ c)
due_timer c n now timer h =
    let one = both_of (not (timer.due == 0)) (nat_le timer.due now && timer.cpu == c) h in
    let two = both_of (nat_le timer.due now) (timer.cpu == c) one.1 in
    (unset timer.due one.0, grind (arith, nat_tests), grind (arith, nat_tests))

abbrev is_due_at : ℕ → ℕ → Option Timer → Bool
is_due_at c now None = false
is_due_at c now (Some timer) = is_due_timer c now timer

timer_is : (c n : ℕ) (k : Parts) (o : Option Timer) → slice_get k.timers n ≡ o → is_due_at c k.ticks o ≡ true → IsTimerDue c n k
timer_is c n k None there h = cc
timer_is c n k (Some timer) there h = let w = due_timer c n k.ticks timer h in record { timer = timer; there = there; set = w.0; come = w.1; home = w.2 }

is_timer : (c n : ℕ) (k : Parts) → IsTimerDue c n k → is_due_at c k.ticks (slice_get k.timers n) ≡ true
is_timer c n k w =
    let set : not (w.timer.due == 0) ≡ true = grind (arith, nat_tests, w.set) in
    let come : nat_le w.timer.due k.ticks ≡ true = grind (arith, nat_tests, w.come) in
    ap (is_due_at c k.ticks) w.there ∙ all_of (not (w.timer.due == 0)) (nat_le w.timer.due k.ticks) (w.timer.cpu == c) set come (eq-eqb w.timer.cpu c w.home)

-- an expiry leaves the clock and the other timers
record Leaves (n : ℕ) (k x : Parts) : Type 0 where
  ticks : x.ticks ≡ k.ticks
  others : (i : ℕ) → (i ≡ n → ⊥) → slice_get x.timers i ≡ slice_get k.timers i

to_leaves : (o : Option ℕ) (n : ℕ) (timer : Timer) (k : Parts) → Leaves n k (expire_to o n timer k)
unfolding wake restamp
to_leaves None n timer k = record { ticks = refl; others = λ i other. change-elsewhere _ k.timers n i other }
to_leaves (Some t) n timer k = record { ticks = refl; others = λ i other. change-elsewhere _ k.timers n i other }

known_leaves : (o : Option Timer) (c n : ℕ) (k : Parts) → Leaves n k (expire_known o c n k)
known_leaves None c n k = record { ticks = refl; others = λ i other. refl }
known_leaves (Some timer) c n k = elim (is_due_timer c k.ticks timer) as (λ b. Leaves n k (if b then expire_to (first_waiter (For n) k) n (expired k.ticks timer) k else k)) [
  | true ↦ to_leaves (first_waiter (For n) k) n (expired k.ticks timer) k
  | false ↦ record { ticks = refl; others = λ i other. refl }
]

leaves_one : (c n : ℕ) (k : Parts) → Leaves n k (expire c n k)
unfolding expire
leaves_one c n k = known_leaves (slice_get k.timers n) c n k

record Above (n : ℕ) (k x : Parts) : Type 0 where
  ticks : x.ticks ≡ k.ticks
  above : (i : ℕ) → n ≤ i → slice_get x.timers i ≡ slice_get k.timers i

leaves_above : (c n : ℕ) (k : Parts) → Above n k (expire_below c n k)
unfolding expire_below
leaves_above c zero k = record { ticks = refl; above = λ i h. refl }
leaves_above c (suc n) k =
    let before = leaves_above c n k in
    let one = leaves_one c n (expire_below c n k) in
    record { ticks = one.ticks ∙ before.ticks; above = λ i h. one.others i (λ same. omega (arith, h, same)) ∙ before.above i (omega (arith, h)) }

-- nothing is done to one that isn't due
known_if : (o : Option Timer) (c n : ℕ) (x : Parts) → expire_known o c n x ≡ (if is_due_at c x.ticks o then expire_known o c n x else x)
known_if None c n x = refl
known_if (Some timer) c n x = elim (is_due_timer c x.ticks timer) as (λ b. (if b then expire_to (first_waiter (For n) x) n (expired x.ticks timer) x else x) ≡ (if b then (if b then expire_to (first_waiter (For n) x) n (expired x.ticks timer) x else x) else x)) [ true ↦ refl | false ↦ refl ]

expire_if : (c n : ℕ) (x : Parts) → expire c n x ≡ (if is_due_at c x.ticks (slice_get x.timers n) then expire c n x else x)
unfolding expire
expire_if c n x = known_if (slice_get x.timers n) c n x

expire_step : (c n : ℕ) (k : Parts) → expire_below c (suc n) k ≡ (if is_due_at c k.ticks (slice_get k.timers n) then expire c n (expire_below c n k) else expire_below c n k)
unfolding expire_below
expire_step c n k =
    let x : Parts = expire_below c n k in
    let before = leaves_above c n k in
    expire_if c n x ∙ ap (λ (now : ℕ). if is_due_at c now (slice_get x.timers n) then expire c n x else x) before.ticks
    ∙ ap (λ (o : Option Timer). if is_due_at c k.ticks o then expire c n x else x) (before.above n (omega arith))

expire_none : (c : ℕ) (k : Parts) → expire_below c 0 k ≡ k
unfolding expire_below
expire_none c k = refl

pub timers_expire_by_number : TimersExpireByNumber
unfolding expire_timers
timers_expire_by_number c k =
    let test : ℕ → Bool = λ n. is_due_at c k.ticks (slice_get k.timers n) in
    let count : ℕ = length k.timers in
    record {
      due = numbers test count;
      in_order = record {
        rising = numbers_rise test count;
        members = λ n. (
          (λ h. timer_is c n k (slice_get k.timers n) refl (are_such test count n h)),
          (λ w. are_all test count n (slice_get_within k.timers n w.timer w.there) (is_timer c n k w)),
        );
      };
      expires = by_number (λ x n. expire c n x) test (λ n. expire_below c n k) (λ n. expire_step c n k) count ∙ ap (λ (x : Parts). fold (λ x n. expire c n x) x (numbers test count)) (expire_none c k);
    }
