-- A change that looks at no clock, made of timeless parts, and that names no time.
use Rattle.std.proofs.Common.{◌≡◌, ℕ, zero, suc, ◌+◌, List, [], ◌∷◌, ◌++◌, Bool, true, false, Option, Some, None, length, map, refl, ap, sym, ◌∙◌, inl, inr, subst}
use Rattle.std.specs.Prelude.{slice_get, option_map, drop, ◌-◌, if◌then◌else◌}
use Rattle.std.proofs.lemmas.Bool.Decides.{eqb_tells}
use Rattle.std.proofs.lemmas.List.{length-map, map-append, drop-map}
use Rattle.evm_model.proofs.Lists.{change-here, change-elsewhere}
use Rattle.evm_model.specs.Deadlines.{deadline_of}
use Rattle.evm_model.specs.Lists.{change}
use Rattle.evm_model.specs.Notices.{asks_for, keep, last_notices, notify, is_refused, notify_refused}
use Rattle.evm_model.specs.State.{Parts, Notices}
use Rattle.evm_model.specs.declared.call.Outcome.{Outcome}
use Rattle.evm_model.specs.declared.errno.Errno.{Errno}
use Rattle.evm_model.specs.declared.limits.TheConstants.{NOTICE_LIMIT}
use Rattle.evm_model.specs.declared.notice.Notice.{Notice}
use Rattle.evm_model.specs.declared.notice.NoticeKind.{NoticeKind}
use Rattle.evm_model.specs.declared.task.Task.{Task}
use Rattle.evm_model.specs.declared.timer.Timer.{Timer}
use Rattle.law_runs.specs.Timeless.{undated, timeless, expiry_of, NoTimes, HasNoTimes}

-- the second is the first without the clock, and the first has no times
pub record Clockless (x y : Parts) : Type 0 where
  pub same : y ≡ timeless x
  pub none : HasNoTimes x

-- .. with the same outcome
abbrev pub ClocklessDone : Parts × Outcome → Parts × Outcome → Type 0
ClocklessDone x y = Clockless x.0 y.0 × (y.1 ≡ x.1)

pub at_once : {x : Parts} → HasNoTimes x → Clockless x (timeless x)
at_once h = record { same = refl; none = h }

-- ---- one change after another
pub onward : (f : Parts → Parts) {x y : Parts} → Clockless x y → ((p : Parts) → HasNoTimes p → Clockless (f p) (f (timeless p))) → Clockless (f x) (f y)
onward f {x = x} s step = subst (λ y. Clockless (f x) (f y)) (sym s.same) (step x s.none)

pub clockless_if : (b : Bool) {p q x y : Parts} → Clockless p q → Clockless x y → Clockless (if b then p else x) (if b then q else y)
clockless_if true s d = s
clockless_if false s d = d

pub done_if : (b : Bool) {p q x y : Parts × Outcome} → ClocklessDone p q → ClocklessDone x y → ClocklessDone (if b then p else x) (if b then q else y)
done_if true s d = s
done_if false s d = d

-- ---- no time is named
-- a number that is 0 of each element is 0 of each where one was changed
mapped_zero : {X : Type 0} (number : Option X → ℕ) (f : X → X) (o : Option X) → ((x : X) → number (Some x) ≡ 0 → number (Some (f x)) ≡ 0) → number o ≡ 0 → number (option_map f o) ≡ 0
mapped_zero number f None e h = h
mapped_zero number f (Some x) e h = e x h

changed_zero : {X : Type 0} (number : Option X → ℕ) (f : X → X) (xs : List X) (i j : ℕ) → ((x : X) → number (Some x) ≡ 0 → number (Some (f x)) ≡ 0) → ((k : ℕ) → number (slice_get xs k) ≡ 0)
    → number (slice_get (change f xs i) j) ≡ 0
changed_zero number f xs i j e h = elim (eqb_tells j i) [
  | inl g ↦ rw g.1 (ap number (change-here f xs i) ∙ mapped_zero number f (slice_get xs i) e (h i))
  | inr g ↦ ap number (change-elsewhere f xs i j g.1) ∙ h j
]

-- .. and where there is one more
pushed_zero : {X : Type 0} (number : Option X → ℕ) (xs : List X) (x : X) (j : ℕ) → number None ≡ 0 → number (Some x) ≡ 0 → ((k : ℕ) → number (slice_get xs k) ≡ 0) → number (slice_get (xs ++ x ∷ []) j) ≡ 0
pushed_zero number [] x zero none e h = e
pushed_zero number [] x (suc j) none e h = none
pushed_zero number (y ∷ xs) x zero none e h = h 0
pushed_zero number (y ∷ xs) x (suc j) none e h = pushed_zero number xs x j none e (λ k. h (suc k))

module _ {tasks : List Task} {timers : List Timer} (h : NoTimes tasks timers) where
  -- a task is changed, and gets no deadline
  pub no_times_task : (t : ℕ) (f : Task → Task) → ((x : Task) → x.deadline ≡ 0 → (f x).deadline ≡ 0) → NoTimes (change f tasks t) timers
  no_times_task t f e = record { no_deadline = λ u. changed_zero deadline_of f tasks t u e h.no_deadline; no_timer = h.no_timer }

  -- a timer is changed, and stays off
  pub no_times_timer : (n : ℕ) (f : Timer → Timer) → ((x : Timer) → x.due ≡ 0 → (f x).due ≡ 0) → NoTimes tasks (change f timers n)
  no_times_timer n f e = record { no_deadline = h.no_deadline; no_timer = λ m. changed_zero expiry_of f timers n m e h.no_timer }

  pub no_times_add_task : (x : Task) → x.deadline ≡ 0 → NoTimes (tasks ++ x ∷ []) timers
  no_times_add_task x e = record { no_deadline = λ u. pushed_zero deadline_of tasks x u refl e h.no_deadline; no_timer = h.no_timer }

  pub no_times_add_timer : (x : Timer) → x.due ≡ 0 → NoTimes tasks (timers ++ x ∷ [])
  no_times_add_timer x e = record { no_deadline = h.no_deadline; no_timer = λ n. pushed_zero expiry_of timers x n refl e h.no_timer }

-- ---- a notice
undated_twice : (notices : List Notice) → map undated (map undated notices) ≡ map undated notices
undated_twice [] = refl
undated_twice (notice ∷ notices) = ap (λ rest. undated notice ∷ rest) (undated_twice notices)

pub timeless_twice : (p : Parts) → timeless (timeless p) ≡ timeless p
timeless_twice p = ap (λ kept. record (timeless p) { notices = record p.notices { kept = kept } }) (undated_twice p.notices.kept)

undated_last : (notices : List Notice) → last_notices (map undated notices) ≡ map undated (last_notices notices)
undated_last notices = ap (λ n. drop (n - NOTICE_LIMIT) (map undated notices)) (length-map notices undated) ∙ drop-map undated (length notices - NOTICE_LIMIT) notices

undated_keep : (notice : Notice) (n : Notices) → keep (undated notice) (record n { kept = map undated n.kept }) ≡ record (keep notice n) { kept = map undated (keep notice n).kept }
unfolding keep
undated_keep notice n =
    ap (λ kept. record { kept = last_notices kept; total = n.total + 1 }) (sym (map-append undated n.kept (notice ∷ [])))
    ∙ ap (λ kept. record { kept = kept; total = n.total + 1 }) (undated_last (n.kept ++ notice ∷ []))

module _ (p : Parts) (h : HasNoTimes p) where
  pub clockless_notify : (kind : NoticeKind) (t : ℕ) → Clockless (notify kind t p) (notify kind t (timeless p))
  unfolding notify
  clockless_notify kind t =
      clockless_if (asks_for kind (slice_get p.tasks t))
      (record { same = ap (λ notices. record (timeless p) { notices = notices }) (undated_keep (record { tick = p.ticks; task = t; kind = kind }) p.notices); none = h })
      (at_once h)

-- task t gets a notice if its call is refused with an error
pub done_notify : {x y : Parts × Outcome} → ClocklessDone x y → (e : Errno) (kind : NoticeKind) (t : ℕ) → ClocklessDone (notify_refused e kind t x) (notify_refused e kind t y)
done_notify {x = x} {y = y} d e kind t =
    rw d.1 (done_if (is_refused e x.1) (onward (notify kind t) d.0 (λ p h. clockless_notify p h kind t), refl) (d.0, refl))
