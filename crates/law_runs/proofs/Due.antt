-- Waits end by deadline, then by number.
use Rattle.std.proofs.Common.{◌≡◌, ℕ, zero, suc, ◌+◌, ◌-◌, ◌<◌, ◌≤◌, List, [], ◌∷◌, ◌++◌, Bool, true, false, not, ◌&&◌, Option, Some, None, length, length-append, ◌⊎◌, inl, inr, refl, ap, sym, ◌∙◌, arith, eq-eqb}
use Rattle.std.specs.Prelude.{slice_get, slice_index, option_map, nat_le, ◌==◌}
use Rattle.std.specs.List.{Contains, fold}
use Rattle.std.proofs.Math.ListN.{get_or-append}
use Rattle.std.proofs.Math.Nat.{eq-or-lt_of_le}
use Rattle.std.proofs.Math.Seq.{get_or-append_seam}
use Rattle.std.proofs.lemmas.Bool.{cases_eq}
use Rattle.std.proofs.lemmas.Bool.Decides.{nat_tests}
use Rattle.std.proofs.lemmas.List.Elements.{Contains-append_left, Contains-get_or, Contains-push, Contains-push_cases}
use Rattle.std.proofs.lemmas.List.Sums.{fold-append}
use Rattle.std.proofs.lemmas.Option.{slice_get_within}
use Rattle.evm_model.proofs.Lists.{change-here, change-elsewhere, length-change}
use Rattle.evm_model.specs.Deadlines.{deadline_of, deadline, is_due_task, is_due, next_due, end_wait_for, end_wait_in, end_wait_of, end_wait, end_next, end_rounds, end_waits}
use Rattle.evm_model.specs.Events.{bound, bound_of, reacquire_from, reacquire_of, reacquire}
use Rattle.evm_model.specs.Good.{event_of_task, event_at, is_mutex, is_waiting}
use Rattle.evm_model.specs.Lists.{change}
use Rattle.evm_model.specs.Mutexes.{owner, held_by}
use Rattle.evm_model.specs.Ranks.{first}
use Rattle.evm_model.specs.State.{Parts, on_mutex}
use Rattle.evm_model.specs.Tasks.{restamp}
use Rattle.evm_model.specs.Waits.{begin_wait, wake}
use Rattle.evm_model.specs.declared.mutex.Mutex.{Mutex}
use Rattle.evm_model.specs.declared.task.Task.{Task}
use Rattle.evm_model.specs.declared.task.TaskState.{TaskState}
use Rattle.evm_model.specs.declared.task.TaskState.TheVariants.{Waits}
use Rattle.evm_model.specs.declared.task.Wait.{Wait}
use Rattle.evm_model.specs.declared.task.Wait.TheVariants.{Sleep, Event}
use Rattle.law_rules.proofs.Waiters.{first-member}
use Rattle.law_runs.specs.Due.{IsLate, IsSooner, EndsByDeadline, WaitsEndByDeadline}
use Rattle.law_runs.proofs.Sooner.{Leads, leads, how_many, few, no_many, none_left, one_less}

-- ---- a wait ends
-- what is done to task t leaves the others, the clock and the events
record Aside (t : ℕ) (k x : Parts) : Type 0 where
  others : (u : ℕ) → (u ≡ t → ⊥) → slice_get x.tasks u ≡ slice_get k.tasks u
  ticks : x.ticks ≡ k.ticks
  events : x.events ≡ k.events
  size : length x.tasks ≡ length k.tasks

-- .. and takes its deadline
record Frees (t : ℕ) (k x : Parts) : Type 0 where
  aside : Aside t k x
  free : deadline x.tasks t ≡ 0

none_aside : (t : ℕ) (k : Parts) → Aside t k k
none_aside t k = record { others = λ u other. refl; ticks = refl; events = refl; size = refl }

option_free : (f g : Task → Task) (o : Option Task) → ((x : Task) → (g (f x)).deadline ≡ 0) → deadline_of (option_map g (option_map f o)) ≡ 0
option_free f g None h = refl
option_free f g (Some x) h = h x

changes_free : (f g : Task → Task) (tasks : List Task) (t : ℕ) → ((x : Task) → (g (f x)).deadline ≡ 0) → deadline (change g (change f tasks t) t) t ≡ 0
changes_free f g tasks t h = ap deadline_of (change-here g (change f tasks t) t ∙ ap (option_map g) (change-here f tasks t)) ∙ option_free f g (slice_get tasks t) h

wake_frees : (t value : ℕ) (k : Parts) → Frees t k (wake t value k)
unfolding wake restamp
wake_frees t value k = record {
  aside = record {
    others = λ u other. change-elsewhere _ _ t u other ∙ change-elsewhere _ k.tasks t u other;
    ticks = refl;
    events = refl;
    size = length-change _ _ t ∙ length-change _ k.tasks t;
  };
  free = changes_free _ _ k.tasks t (λ x. refl);
}

given_frees : (t m value : ℕ) (k : Parts) → Frees t k (wake t value (on_mutex m (held_by t 1) k))
unfolding wake restamp
given_frees t m value k = record {
  aside = record {
    others = λ u other. change-elsewhere _ _ t u other ∙ change-elsewhere _ k.tasks t u other;
    ticks = refl;
    events = refl;
    size = length-change _ _ t ∙ length-change _ k.tasks t;
  };
  free = changes_free _ _ k.tasks t (λ x. refl);
}

waits_frees : (t : ℕ) (wait : Wait) (k : Parts) → Frees t k (begin_wait t wait 0 k)
unfolding begin_wait restamp
waits_frees t wait k = record {
  aside = record {
    others = λ u other. change-elsewhere _ _ t u other ∙ change-elsewhere _ k.tasks t u other;
    ticks = refl;
    events = refl;
    size = length-change _ _ t ∙ length-change _ k.tasks t;
  };
  free = changes_free _ _ k.tasks t (λ x. refl);
}

from_frees : (o : Option ℕ) (t m answer : ℕ) (k : Parts) → Frees t k (reacquire_from o t m answer k)
from_frees None t m answer k = given_frees t m answer k
from_frees (Some u) t m answer k = waits_frees t _ k

of_frees : (o : Option ℕ) (t answer : ℕ) (k : Parts) (mutexes : List Mutex) → is_mutex o mutexes ≡ true → Frees t k (reacquire_of o t answer k)
of_frees None t answer k mutexes e = cc
of_frees (Some m) t answer k mutexes e = from_frees (owner k.mutexes m) t m answer k

reacquire_frees : (e t answer : ℕ) (k : Parts) (mutexes : List Mutex) → is_mutex (bound e k) mutexes ≡ true → Frees t k (reacquire e t answer k)
unfolding reacquire
reacquire_frees e t answer k mutexes h = of_frees (bound e k) t answer k mutexes h

-- the two rules, of task t
record Obeys (t : ℕ) (mutexes : List Mutex) (k : Parts) : Type 0 where
  named : (e : ℕ) → event_at k.tasks t ≡ Some e → is_mutex (bound e k) mutexes ≡ true
  timed : (task : Task) → slice_get k.tasks t ≡ Some task → is_waiting task.state ≡ false → task.deadline ≡ 0

for_frees : (wait : Wait) (task : Task) (t : ℕ) (mutexes : List Mutex) (k : Parts) → slice_get k.tasks t ≡ Some task → task.state ≡ Waits wait → Obeys t mutexes k → Frees t k (end_wait_for wait t k)
for_frees Sleep task t mutexes k there is r = wake_frees t 0 k
for_frees (Event e) task t mutexes k there is r = reacquire_frees e t _ k mutexes (r.named e (ap event_of_task there ∙ rw is refl))
for_frees wait task t mutexes k there is r = wake_frees t _ k

rests_frees : (task : Task) (t : ℕ) (mutexes : List Mutex) (k : Parts) → slice_get k.tasks t ≡ Some task → is_waiting task.state ≡ false → Obeys t mutexes k → Frees t k k
rests_frees task t mutexes k there ready r = record { aside = none_aside t k; free = ap deadline_of there ∙ r.timed task there ready }

in_frees : (state : TaskState) (task : Task) (t : ℕ) (mutexes : List Mutex) (k : Parts) → slice_get k.tasks t ≡ Some task → task.state ≡ state → Obeys t mutexes k → Frees t k (end_wait_in state t k)
in_frees (Waits wait) task t mutexes k there is r = for_frees wait task t mutexes k there is r
in_frees state task t mutexes k there is r = rests_frees task t mutexes k there (rw is refl) r

task_frees : (o : Option Task) (t : ℕ) (mutexes : List Mutex) (k : Parts) → slice_get k.tasks t ≡ o → Obeys t mutexes k → Frees t k (end_wait_of o t k)
task_frees None t mutexes k there r = record { aside = none_aside t k; free = ap deadline_of there }
task_frees (Some task) t mutexes k there r = in_frees task.state task t mutexes k there refl r

end_frees : (t : ℕ) (mutexes : List Mutex) (k : Parts) → Obeys t mutexes k → Frees t k (end_wait t k)
unfolding end_wait
end_frees t mutexes k r = task_frees (slice_get k.tasks t) t mutexes k refl r

-- ---- late tasks
pub both_of : (a b : Bool) → (a && b) ≡ true → (a ≡ true) × (b ≡ true)
both_of true b h = (refl, h)
both_of false b h = cc

pub unset : (n : ℕ) → not (n == 0) ≡ true → n ≡ 0 → ⊥
unset n h e = grind (arith, nat_tests)

late_task : (c t now : ℕ) (tasks : List Task) (o : Option Task) → slice_get tasks t ≡ o → is_due_task c now o ≡ true → (task : Task) × (slice_get tasks t ≡ Some task) × (task.deadline ≡ 0 → ⊥) × (task.deadline ≤ now) × (task.cpu ≡ c)
late_task c t now tasks None there h = cc
late_task c t now tasks (Some task) there h =
    let one = both_of (not (task.deadline == 0)) (nat_le task.deadline now && task.cpu == c) h in
    let two = both_of (nat_le task.deadline now) (task.cpu == c) one.1 in
    (task, there, unset task.deadline one.0, grind (arith, nat_tests), grind (arith, nat_tests))

is_late : (c t : ℕ) (k : Parts) → is_due c k.ticks k.tasks t ≡ true → IsLate c t k
is_late c t k h = let w = late_task c t k.ticks k.tasks (slice_get k.tasks t) refl h in record { task = w.0; there = w.1; set = w.2; come = w.3; home = w.4 }

pub all_of : (a b c : Bool) → a ≡ true → b ≡ true → c ≡ true → (a && (b && c)) ≡ true
all_of a b c e f g = rw (e, f, g) refl

late_is : (c t : ℕ) (k : Parts) → IsLate c t k → is_due c k.ticks k.tasks t ≡ true
late_is c t k w =
    let set : not (w.task.deadline == 0) ≡ true = grind (arith, nat_tests, w.set) in
    let come : nat_le w.task.deadline k.ticks ≡ true = grind (arith, nat_tests, w.come) in
    ap (is_due_task c k.ticks) w.there ∙ all_of (not (w.task.deadline == 0)) (nat_le w.task.deadline k.ticks) (w.task.cpu == c) set come (eq-eqb w.task.cpu c w.home)

free_not : (c now : ℕ) (o : Option Task) → deadline_of o ≡ 0 → is_due_task c now o ≡ false
free_not c now None e = refl
free_not c now (Some task) e = rw e refl

late_there : (c now t : ℕ) (tasks : List Task) → is_due c now tasks t ≡ true → t < length tasks
late_there c now t tasks h = let w = late_task c t now tasks (slice_get tasks t) refl h in slice_get_within tasks t w.0 w.1

-- ---- rounds
-- what so many rounds have done
record Ended (c n : ℕ) (k x : Parts) : Type 0 where
  late : List ℕ
  folds : x ≡ fold (λ y t. end_wait t y) k late
  ticks : x.ticks ≡ k.ticks
  events : x.events ≡ k.events
  size : length x.tasks ≡ length k.tasks
  which : (t : ℕ) → (Contains late t × (deadline x.tasks t ≡ 0)) ⊎ (slice_get x.tasks t ≡ slice_get k.tasks t)
  were : (t : ℕ) → Contains late t → is_due c k.ticks k.tasks t ≡ true
  still : (t u : ℕ) → Contains late t → is_due c k.ticks x.tasks u ≡ true → IsSooner k.tasks t u
  sooner : (i j : ℕ) → i < j → j < length late → IsSooner k.tasks (slice_index late i) (slice_index late j)
  left : how_many (is_due c k.ticks x.tasks) (length k.tasks) ≤ length k.tasks - n

not_yes : (b : Bool) → (b ≡ true → ⊥) → b ≡ false
not_yes true h = absurd (h refl)
not_yes false h = refl

-- a task that is late then was so from the beginning
late_same : (c n u : ℕ) (k x : Parts) → Ended c n k x → is_due c k.ticks x.tasks u ≡ true → slice_get x.tasks u ≡ slice_get k.tasks u
late_same c n u k x w h = elim (w.which u) [
  | inl done ↦ let no : true ≡ false = sym h ∙ free_not c k.ticks (slice_get x.tasks u) done.1 in cc
  | inr same ↦ same
]

sooner_as : (tasks new : List Task) (t u : ℕ) → slice_get new t ≡ slice_get tasks t → slice_get new u ≡ slice_get tasks u → (u ≡ t → ⊥) → (deadline new t < deadline new u) ⊎ ((deadline new t ≡ deadline new u) × (t ≤ u)) → IsSooner tasks t u
sooner_as tasks new t u e f other (inl less) = inl (rw (← ap deadline_of e, ← ap deadline_of f) less)
sooner_as tasks new t u e f other (inr tied) = inr (sym (ap deadline_of e) ∙ tied.0 ∙ ap deadline_of f, omega (arith, tied.1, other))

module _ (c n : ℕ) (k x : Parts) (a : (t e : ℕ) → event_at k.tasks t ≡ Some e → is_mutex (bound e k) k.mutexes ≡ true) (d : (t : ℕ) (task : Task) → slice_get k.tasks t ≡ Some task → is_waiting task.state ≡ false → task.deadline ≡ 0) (w : Ended c n k x) where
  abbrev member : ℕ → Bool
  member u = is_due c k.ticks x.tasks u

  none_more : Leads member (deadline x.tasks) (length k.tasks) None → Ended c (suc n) k x
  none_more none =
      let zero_left : how_many member (length k.tasks) ≡ 0 = no_many member (length k.tasks) (λ u low. not_yes (member u) (none u low)) in
      record {
        late = w.late;
        folds = w.folds;
        ticks = w.ticks;
        events = w.events;
        size = w.size;
        which = w.which;
        were = w.were;
        still = w.still;
        sooner = w.sooner;
        left = omega arith;
      }

  obeys : (t : ℕ) → slice_get x.tasks t ≡ slice_get k.tasks t → Obeys t k.mutexes x
  obeys t same = record {
    named = λ e h. rw (ap (λ (events : List (Option ℕ)). bound_of (slice_get events e)) w.events) (a t e (ap event_of_task (sym same) ∙ h));
    timed = λ task there. d t task (sym same ∙ there);
  }

  one_more : (t : ℕ) → Leads member (deadline x.tasks) (length k.tasks) (Some t) → member t ≡ true → Ended c (suc n) k (end_wait t x)
  one_more t first is =
      let y : Parts = end_wait t x in
      let same : slice_get x.tasks t ≡ slice_get k.tasks t = late_same c n t k x w is in
      let f : Frees t x y = end_frees t k.mutexes x (obeys t same) in
      let gone : is_due c k.ticks y.tasks t ≡ false = free_not c k.ticks (slice_get y.tasks t) f.free in
      let kept : (u : ℕ) → (u ≡ t → ⊥) → is_due c k.ticks y.tasks u ≡ member u = λ u other. ap (is_due_task c k.ticks) (f.aside.others u other) in
      let other : (u : ℕ) → is_due c k.ticks y.tasks u ≡ true → u ≡ t → ⊥ = λ u h at. let no : true ≡ false = sym h ∙ ap (is_due c k.ticks y.tasks) at ∙ gone in cc in
      let long : length (w.late ++ t ∷ []) ≡ length w.late + 1 = length-append w.late (t ∷ []) in
      let less : how_many member (length k.tasks) ≡ how_many (is_due c k.ticks y.tasks) (length k.tasks) + 1 = one_less member (is_due c k.ticks y.tasks) (length k.tasks) t first.0 is gone kept in
      record {
        late = w.late ++ t ∷ [];
        folds = ap (λ (z : Parts). end_wait t z) w.folds ∙ sym (fold-append (λ (y : Parts) (t : ℕ). end_wait t y) k w.late (t ∷ []));
        ticks = f.aside.ticks ∙ w.ticks;
        events = f.aside.events ∙ w.events;
        size = f.aside.size ∙ w.size;
        which = λ u. elim (cases_eq u t) [
          | inl at ↦ inl (rw at (Contains-push w.late t), ap (deadline y.tasks) at ∙ f.free)
          | inr away ↦ elim (w.which u) [
            | inl done ↦ inl (Contains-append_left w.late (t ∷ []) u done.0, ap deadline_of (f.aside.others u away) ∙ done.1)
            | inr stays ↦ inr (f.aside.others u away ∙ stays)
          ]
        ];
        were = λ u h. elim (Contains-push_cases w.late t u h) [
          | inl before ↦ w.were u before
          | inr last ↦ ap (is_due c k.ticks k.tasks) (sym last) ∙ ap (is_due_task c k.ticks) (sym same) ∙ is
        ];
        still = λ v u h late.
            let away = other u late in
            let was : member u ≡ true = sym (kept u away) ∙ late in
            elim (Contains-push_cases w.late t v h) [
              | inl before ↦ w.still v u before was
              | inr last ↦ rw (← last) (sooner_as k.tasks x.tasks t u same (late_same c n u k x w was) away (first.1 u (rw (← w.size) (late_there c k.ticks u x.tasks was)) was))
            ];
        sooner = λ i j under low. elim (eq-or-lt_of_le {n = j} {m = length w.late} (omega (arith, long, low))) [
          | inl at ↦
              let start : i < length w.late = omega arith in
              let here : slice_index (w.late ++ t ∷ []) i ≡ slice_index w.late i = get_or-append w.late (t ∷ []) 0 i start in
              let there : slice_index (w.late ++ t ∷ []) (length w.late) ≡ t = get_or-append_seam w.late t [] 0 in
              rw (here, at, there) (w.still (slice_index w.late i) t (Contains-get_or w.late i 0 start) is)
          | inr within ↦
              let start : i < length w.late = omega arith in
              let here : slice_index (w.late ++ t ∷ []) i ≡ slice_index w.late i = get_or-append w.late (t ∷ []) 0 i start in
              let there : slice_index (w.late ++ t ∷ []) j ≡ slice_index w.late j = get_or-append w.late (t ∷ []) 0 j within in
              rw (here, there) (w.sooner i j under within)
        ];
        left = omega (arith, w.left, less);
      }

  more_by : (o : Option ℕ) → Leads member (deadline x.tasks) (length k.tasks) o → ((t : ℕ) → o ≡ Some t → member t ≡ true) → Ended c (suc n) k (end_next o x)
  more_by None first is = none_more first
  more_by (Some t) first is = one_more t first (is t refl)

  next_is : next_due c x ≡ first member (λ _. 0) (deadline x.tasks) (length k.tasks)
  unfolding next_due
  next_is = rw (w.ticks, w.size) refl

  one_round : Ended c (suc n) k (end_next (next_due c x) x)
  one_round =
      rw next_is
      (more_by (first member (λ _. 0) (deadline x.tasks) (length k.tasks)) (leads member (deadline x.tasks) (length k.tasks))
      (λ t e. (first-member member (λ _. 0) (deadline x.tasks) (length k.tasks) t e).1))

module _ (c : ℕ) (k : Parts) (a : (t e : ℕ) → event_at k.tasks t ≡ Some e → is_mutex (bound e k) k.mutexes ≡ true) (d : (t : ℕ) (task : Task) → slice_get k.tasks t ≡ Some task → is_waiting task.state ≡ false → task.deadline ≡ 0) where
  rounds : (n : ℕ) → Ended c n k (end_rounds c n k)
  unfolding end_rounds
  rounds zero = record {
    late = [];
    folds = refl;
    ticks = refl;
    events = refl;
    size = refl;
    which = λ t. inr refl;
    were = λ t h. absurd (omega (arith, h.1));
    still = λ t u h. absurd (omega (arith, h.1));
    sooner = λ i j under low. absurd (omega arith);
    left = omega (arith, few (is_due c k.ticks k.tasks) (length k.tasks));
  }
  rounds (suc n) = one_round c n k (end_rounds c n k) a d (rounds n)

  all_ended : EndsByDeadline c k
  unfolding end_waits
  all_ended =
      let count : ℕ = length k.tasks in
      let x : Parts = end_rounds c count k in
      let w : Ended c count k x = rounds count in
      let left : how_many (is_due c k.ticks x.tasks) count ≡ 0 = omega (arith, w.left) in
      record {
        late = w.late;
        members = λ t. (
          (λ h. is_late c t k (w.were t h)),
          (λ late. elim (w.which t) [
            | inl done ↦ done.0
            | inr same ↦
                let was : is_due c k.ticks k.tasks t ≡ true = late_is c t k late in
                let not : is_due c k.ticks x.tasks t ≡ false = none_left (is_due c k.ticks x.tasks) count t left (late_there c k.ticks t k.tasks was) in
                let no : true ≡ false = sym was ∙ ap (is_due_task c k.ticks) (sym same) ∙ not in cc
          ]),
        );
        sooner = w.sooner;
        ends = w.folds;
      }

pub waits_end_by_deadline : WaitsEndByDeadline
waits_end_by_deadline c k a d = all_ended c k a d
