-- What goes by number goes over a list of numbers that rises.
use Rattle.std.proofs.Common.{◌≡◌, ℕ, zero, suc, ◌+◌, ◌<◌, ◌≤◌, ◌++◌, List, [], ◌∷◌, Bool, true, false, Option, Some, None, length, inl, inr, refl, ap, sym, ◌∙◌, eq-eqb, arith}
use Rattle.std.specs.Prelude.{slice_get, filter, ◌==◌, ◌&&◌, if◌then◌else◌}
use Rattle.std.specs.List.{Contains, fold, range_with_len}
use Rattle.std.specs.List.Sorted.{IsStrictlyIncreasing}
use Rattle.std.proofs.lemmas.List.Elements.{filter-append, Contains-append_left, Contains-push, Contains-push_cases}
use Rattle.std.proofs.lemmas.List.FromFn.{length-range_with_len, get_or-range_with_len}
use Rattle.std.proofs.lemmas.List.Kept.{IsStrictlyIncreasing-filter}
use Rattle.std.proofs.lemmas.List.Sums.{fold-append}
use Rattle.std.proofs.lemmas.Option.{slice_get_within}
use Rattle.std.proofs.Math.Nat.{eq-or-lt_of_le}
use Rattle.evm_lines.specs.Laws.{line_set_increases}
use Rattle.evm_model.specs.Boosts.{is_number}
use Rattle.evm_model.proofs.Greatest.{boosts-is, boosts-so}
use Rattle.evm_model.specs.Good.{IsPipe}
use Rattle.evm_model.specs.Mutexes.{owner, owner_of}
use Rattle.evm_model.specs.Passing.{hand_over, hand_over_below, end_task}
use Rattle.evm_model.specs.Pipes.{Pipe, play, receive}
use Rattle.evm_model.specs.Settle.{play_oob, play_oob_lines, play_in_band, play_in_band_lines, play_in_band_pipe, run_best, run_in_band, settle_oob, settle_oob_pipe, turn_in_band}
use Rattle.evm_model.specs.State.{Parts, on_pipe}
use Rattle.evm_model.specs.Tasks.{restamp}
use Rattle.evm_model.specs.Waits.{is_wait_for, awaits_line, wake, wake_below}
use Rattle.evm_model.specs.declared.mutex.Mutex.{Mutex}
use Rattle.evm_model.specs.declared.stage.Stage.TheVariants.{InBand}
use Rattle.evm_model.specs.declared.task.Task.{Task}
use Rattle.evm_model.specs.declared.task.Wait.TheVariants.{Line}
use Rattle.evm_model.proofs.Lists.{change-elsewhere}
use Rattle.law_rules.proofs.PassingWalks.{untouched}
use Rattle.law_rules.proofs.Sets.{IsPipe-receive}
use Rattle.law_runs.specs.Order.{LinesRise, LogsPlayInOrder, Rise, MutexesPassByNumber, WaitersWakeByNumber, WaitsForLine}
use Rattle.law_rules.proofs.Waiters.{wait_is}
use Rattle.law_rules.proofs.Firsts.{eqb-is}
use Rattle.law_runs.proofs.Fares.{both}

-- ---- the numbers below a bound that pass a test
abbrev pub numbers : (ℕ → Bool) → ℕ → List ℕ
numbers test n = filter test (range_with_len 0 n)

range_more : (a n : ℕ) → range_with_len a (suc n) ≡ range_with_len a n ++ (a + n) ∷ []
range_more a zero = let same : a ≡ a + 0 = omega arith in ap (λ x. x ∷ []) same
range_more a (suc n) =
    let same : a + 1 + n ≡ a + suc n = omega arith in
    ap (λ xs. a ∷ xs) (range_more (a + 1) n ∙ ap (λ x. range_with_len (a + 1) n ++ x ∷ []) same)

one_more : (test : ℕ → Bool) (n : ℕ) (b : Bool) → test n ≡ b → filter test (n ∷ []) ≡ (if b then n ∷ [] else [])
one_more test n true e = rw e refl
one_more test n false e = rw e refl

append_none : (xs : List ℕ) → xs ++ [] ≡ xs
append_none [] = refl
append_none (x ∷ xs) = ap (λ ys. x ∷ ys) (append_none xs)

more : (test : ℕ → Bool) (n : ℕ) → numbers test (suc n) ≡ numbers test n ++ filter test (n ∷ [])
more test n =
    let same : 0 + n ≡ n = omega arith in
    ap (filter test) (range_more 0 n) ∙ filter-append test (range_with_len 0 n) ((0 + n) ∷ []) ∙ ap (λ x. numbers test n ++ filter test (x ∷ [])) same

with_it : (test : ℕ → Bool) (n : ℕ) → test n ≡ true → numbers test (suc n) ≡ numbers test n ++ n ∷ []
with_it test n e = more test n ∙ ap (λ xs. numbers test n ++ xs) (one_more test n true e)

without_it : (test : ℕ → Bool) (n : ℕ) → test n ≡ false → numbers test (suc n) ≡ numbers test n
without_it test n e = more test n ∙ ap (λ xs. numbers test n ++ xs) (one_more test n false e) ∙ append_none (numbers test n)

range_rises : (a n : ℕ) → IsStrictlyIncreasing (range_with_len a n)
range_rises a n k h =
    let long = length-range_with_len a n in
    let here = get_or-range_with_len a n k 0 (omega arith) in
    let next = get_or-range_with_len a n (k + 1) 0 (omega arith) in
    omega (arith, here, next)

pub numbers_rise : (test : ℕ → Bool) (n : ℕ) → IsStrictlyIncreasing (numbers test n)
numbers_rise test n = IsStrictlyIncreasing-filter test (range_with_len 0 n) (range_rises 0 n)

-- a member is below the bound and passes
pub are_such : (test : ℕ → Bool) (n m : ℕ) → Contains (numbers test n) m → test m ≡ true
are_such test zero m h = absurd (omega (arith, h.1))
are_such test (suc n) m h = either (test n) refl (are_such test n m)
  where
    either : (b : Bool) → test n ≡ b → (Contains (numbers test n) m → test m ≡ true) → test m ≡ true
    either true e before = elim (Contains-push_cases (numbers test n) n m (rw (with_it test n e) at h)) [
      | inl sooner ↦ before sooner
      | inr last ↦ ap test (sym last) ∙ e
    ]
    either false e before = before (rw (without_it test n e) at h)

pub are_all : (test : ℕ → Bool) (n m : ℕ) → m < n → test m ≡ true → Contains (numbers test n) m
are_all test zero m low h = absurd (omega arith)
are_all test (suc n) m low h = elim (eq-or-lt_of_le {n = m} {m = n} (omega arith)) [
  | inl same ↦ let here : test n ≡ true = ap test (sym same) ∙ h in rw (with_it test n here, same) (Contains-push (numbers test n) n)
  | inr less ↦ either (test n) refl (are_all test n m less h)
]
  where
    either : (b : Bool) → test n ≡ b → Contains (numbers test n) m → Contains (numbers test (suc n)) m
    either true e before = rw (with_it test n e) (Contains-append_left (numbers test n) (n ∷ []) m before)
    either false e before = rw (without_it test n e) before

-- what is done to each such number, from below, is done to these one after another
pub by_number : (f : Parts → ℕ → Parts) (test : ℕ → Bool) (g : ℕ → Parts) → ((n : ℕ) → g (suc n) ≡ (if test n then f (g n) n else g n)) → (n : ℕ) → g n ≡ fold f (g 0) (numbers test n)
by_number f test g step zero = refl
by_number f test g step (suc n) = either (test n) refl (by_number f test g step n)
  where
    either : (b : Bool) → test n ≡ b → g n ≡ fold f (g 0) (numbers test n) → g (suc n) ≡ fold f (g 0) (numbers test (suc n))
    either true e before =
        step n ∙ ap (λ (b : Bool). if b then f (g n) n else g n) e ∙ ap (λ x. f x n) before
        ∙ sym (fold-append f (g 0) (numbers test n) (n ∷ [])) ∙ ap (fold f (g 0)) (sym (with_it test n e))
    either false e before = step n ∙ ap (λ (b : Bool). if b then f (g n) n else g n) e ∙ before ∙ ap (fold f (g 0)) (sym (without_it test n e))

-- ---- lines
rise : (p : Pipe) → IsPipe p → Rise p
rise p h = record { wire = line_set_increases p.wire h.wire; oob = line_set_increases p.oob.lines h.oob; in_band = line_set_increases p.in_band.lines h.in_band }

pub lines_rise : LinesRise
lines_rise stage l p h = (rise p h, rise (receive stage l p) (IsPipe-receive stage l p h))

oob_in_order : (was : Option ℕ) (c : ℕ) (lines : List ℕ) (k : Parts) → play_oob_lines was c lines k ≡ fold (λ x l. play_oob was c l x) k lines
unfolding play_oob_lines
oob_in_order was c [] k = refl
oob_in_order was c (l ∷ ls) k = oob_in_order was c ls (play_oob was c l k)

in_band_in_order : (c : ℕ) (lines : List ℕ) (k : Parts) → play_in_band_lines c lines k ≡ fold (λ x l. play_in_band c l x) k lines
unfolding play_in_band_lines
in_band_in_order c [] k = refl
in_band_in_order c (l ∷ ls) k = in_band_in_order c ls (play_in_band c l k)

open_oob : (was : Option ℕ) (c : ℕ) (k : Parts) (pipe : Pipe) → slice_get k.pipes c ≡ Some pipe → pipe.oob.stalled ≡ false → settle_oob was c k ≡ run_best c (play_oob_lines was c pipe.oob.lines k)
unfolding settle_oob
open_oob was c k pipe there open_stage = ap (λ o. settle_oob_pipe o was c k) there ∙ ap (λ (b : Bool). if b then k else run_best c (play_oob_lines was c pipe.oob.lines k)) open_stage

open_in_band : (c : ℕ) (k : Parts) (pipe : Pipe) → slice_get k.pipes c ≡ Some pipe → pipe.in_band.stalled ≡ false → turn_in_band c k ≡ run_in_band c (play_in_band_lines c pipe.in_band.lines k)
unfolding turn_in_band
open_in_band c k pipe there open_stage = ap (λ o. run_in_band c (play_in_band_pipe o c k)) there ∙ ap (λ (b : Bool). run_in_band c (if b then k else play_in_band_lines c pipe.in_band.lines k)) open_stage

pub logs_play_in_order : LogsPlayInOrder
logs_play_in_order was c k pipe there = record {
  oob = λ open_stage. open_oob was c k pipe there open_stage ∙ ap (run_best c) (oob_in_order was c pipe.oob.lines k);
  in_band = λ open_stage. open_in_band c k pipe there open_stage ∙ ap (run_in_band c) (in_band_in_order c pipe.in_band.lines k);
}

-- ---- waiters
wakes_elsewhere : (b : Bool) (t i : ℕ) (k : Parts) → (i ≡ t → ⊥) → slice_get (if b then wake t 0 k else k).tasks i ≡ slice_get k.tasks i
unfolding wake restamp
wakes_elsewhere true t i k other = change-elsewhere _ _ t i other ∙ change-elsewhere _ k.tasks t i other
wakes_elsewhere false t i k other = refl

wakes_above : (c l n i : ℕ) (k : Parts) → n ≤ i → slice_get (wake_below c l n k).tasks i ≡ slice_get k.tasks i
unfolding wake_below
wakes_above c l zero i k h = refl
wakes_above c l (suc t) i k h =
    let before : Parts = wake_below c l t k in
    wakes_elsewhere (awaits_line c l (slice_get before.tasks t)) t i before (λ same. omega (arith, h, same)) ∙ wakes_above c l t i k (omega (arith, h))

waits_there : (c l t : ℕ) (tasks : List Task) (o : Option Task) → slice_get tasks t ≡ o → awaits_line c l o ≡ true → WaitsForLine c l t tasks
waits_there c l t tasks None e h = cc
waits_there c l t tasks (Some task) e h = let b = both (is_wait_for (Line l) task.state) (task.cpu == c) h in record { task = task; there = e; on = wait_is (Line l) task.state refl b.0; home = eqb-is task.cpu c b.1 }

itself : (n : ℕ) → (n == n) ≡ true
itself n = eq-eqb n n refl

both_are : (a b : Bool) → a ≡ true → b ≡ true → (a && b) ≡ true
both_are true true e f = refl
both_are true false e f = cc
both_are false b e f = cc

awaits_there : (c l t : ℕ) (tasks : List Task) → WaitsForLine c l t tasks → awaits_line c l (slice_get tasks t) ≡ true
awaits_there c l t tasks w =
    ap (awaits_line c l) w.there
    ∙ both_are (is_wait_for (Line l) w.task.state) (w.task.cpu == c) (ap (is_wait_for (Line l)) w.on ∙ itself l) (ap (λ n. n == c) w.home ∙ itself c)

wake_step : (c l n : ℕ) (k : Parts) → wake_below c l (suc n) k ≡ (if awaits_line c l (slice_get k.tasks n) then wake n 0 (wake_below c l n k) else wake_below c l n k)
unfolding wake_below
wake_step c l n k =
    let before : Parts = wake_below c l n k in
    ap (λ o. if awaits_line c l o then wake n 0 before else before) (wakes_above c l n n k (omega arith))

wake_none : (c l : ℕ) (k : Parts) → wake_below c l 0 k ≡ k
unfolding wake_below
wake_none c l k = refl

pub waiters_wake_by_number : WaitersWakeByNumber
unfolding play_in_band
waiters_wake_by_number c l k =
    let test : ℕ → Bool = λ t. awaits_line c l (slice_get k.tasks t) in
    let played : Parts = on_pipe c (play InBand l) k in
    record {
      waiters = numbers test (length k.tasks);
      in_order = record {
        rising = numbers_rise test (length k.tasks);
        members = λ t. (
          (λ h. waits_there c l t k.tasks (slice_get k.tasks t) refl (are_such test (length k.tasks) t h)),
          (λ w. are_all test (length k.tasks) t (slice_get_within k.tasks t w.task w.there) (awaits_there c l t k.tasks w)),
        );
      };
      wakes =
          by_number (λ x t. wake t 0 x) test (λ n. wake_below c l n played) (λ n. wake_step c l n played) (length k.tasks)
          ∙ ap (λ x. fold (λ x t. wake t 0 x) x (numbers test (length k.tasks))) (wake_none c l played);
    }

-- ---- mutexes
pass_step : (t n : ℕ) (k : Parts) → hand_over_below t (suc n) k ≡ (if is_number (owner k.mutexes n) t then hand_over n (hand_over_below t n k) else hand_over_below t n k)
unfolding hand_over_below
pass_step t n k =
    let before : Parts = hand_over_below t n k in
    ap (λ (o : Option Mutex). if is_number (owner_of o) t then hand_over n before else before) (untouched t n n k (omega arith))

pass_none : (t : ℕ) (k : Parts) → hand_over_below t 0 k ≡ k
unfolding hand_over_below
pass_none t k = refl

owned_within : (t m : ℕ) (mutexes : List Mutex) (o : Option Mutex) → slice_get mutexes m ≡ o → owner_of o ≡ Some t → m < length mutexes
owned_within t m mutexes None e h = cc
owned_within t m mutexes (Some mutex) e h = slice_get_within mutexes m mutex e

pub mutexes_pass_by_number : MutexesPassByNumber
unfolding end_task
mutexes_pass_by_number c t state k =
    let test : ℕ → Bool = λ m. is_number (owner k.mutexes m) t in
    let count : ℕ = length k.mutexes in
    let passed : hand_over_below t count k ≡ fold (λ x m. hand_over m x) k (numbers test count) =
    by_number (λ x m. hand_over m x) test (λ n. hand_over_below t n k) (λ n. pass_step t n k) count
    ∙ ap (λ x. fold (λ x m. hand_over m x) x (numbers test count)) (pass_none t k) in
    record {
      owned = numbers test count;
      in_order = record {
        rising = numbers_rise test count;
        members = λ m. (
          (λ h. boosts-is (owner k.mutexes m) t (are_such test count m h)),
          (λ its. are_all test count m (owned_within t m k.mutexes (slice_get k.mutexes m) refl its) (boosts-so (owner k.mutexes m) t its)),
        );
      };
      passes = rw passed refl;
    }
