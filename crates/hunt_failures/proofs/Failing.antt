-- From what is seen of an event to what has failed.
use Rattle.std.proofs.Common.{◌≡◌, ℕ, Option, Some, None, Bool, true, false, inl, inr, refl, sym, ap, subst, ◌∙◌, arith}
use Rattle.std.specs.Prelude.{IfSome, MatchOption, slice_get, is_some, if◌then◌else◌}
use Rattle.std.proofs.lemmas.Bool.Decides.{nat_tests}
use Rattle.arrayvec.specs.ArrayVec.{ArrayVec}
use Rattle.evm_exec.specs.declared.hart.Hart.{Hart}
use Rattle.evm_model.specs.Current.{current}
use Rattle.evm_model.specs.Event.{Event}
use Rattle.evm_model.specs.State.{State}
use Rattle.evm_model.specs.declared.call.Call.{Call}
use Rattle.evm_model.specs.declared.errno.Errno.{Errno}
use Rattle.evm_model.specs.declared.event.Answer.{Answer}
use Rattle.evm_model.specs.declared.event.Answer.TheVariants.{Ran}
use Rattle.hunt_failures.specs.Eves.{IsNothingLeft, IsQuietStep, NoneAbandoned, NoneAnsweredLate, NoneDemoted, NoneNoticed, NoneRefused, NoneWokenLate, noted_owner, noted_waiter, owner_wanted, waiter_wanted}
use Rattle.hunt_failures.specs.Failures.{Fails, FailsAsWanted, IsAbandoned, IsAnsweredLate, IsAtCall, IsCaller, IsDeadlock, IsDemoted, IsOverrun, IsRefused, IsSeen, IsWokenLate, awaits_timer, call_in, error_in, has_error, faulted_at, is_answered, is_answered_late, is_at_pc, is_in_band_task, is_late, is_left, is_to_stay, live_owner, looks_at_calls, step_of, stopped_at}
use Rattle.hunt_failures.specs.declared.calls.Caller.{Caller}
use Rattle.hunt_failures.specs.declared.failure.Failure.{Failure}
use Rattle.hunt_failures.specs.declared.failure.Failure.TheVariants as failures
use Rattle.hunt_failures.specs.declared.wanted.Errors.{Errors}
use Rattle.hunt_failures.specs.declared.wanted.Wanted.{Wanted}

-- ---- calls that are refused
same-caller : (t u : ℕ) (s : State) (event : Event) → IsCaller t s event → IsCaller u s event → t ≡ u
same-caller t u s event h g =
    let cpu : h.0 ≡ g.0 = cc in
    let here : current h.0 s.board.parts ≡ Some u = subst (λ (c : ℕ). current c s.board.parts ≡ Some u) (sym cpu) g.2 in
    let some : Some t ≡ Some u = sym h.2 ∙ here in
    cc

same-pc : (hart : Option Hart) (pc at : ℕ) → is_at_pc pc hart ≡ true → is_at_pc at hart ≡ true → pc ≡ at
same-pc None pc at h g = cc
same-pc (Some hart) pc at h g = grind (arith, nat_tests)

pub refused-call : (caller : Caller) (errors : Errors) (wanted : Wanted) (before s : State) (event : Event) (r : Option Failure) → wanted.errors ≡ Some errors
    → IsCaller caller.task before event → IsAtCall caller.task caller.pc before
    → MatchOption r ((e : Errno) → error_in errors e ≡ true → is_answered caller.pc e (slice_get s.board.parts.harts caller.task) ≡ true → ⊥)
    (λ failure. (e : Errno) × (failure ≡ failures.Refused caller.task e) × (is_answered caller.pc e (slice_get s.board.parts.harts caller.task) ≡ true))
    → MatchOption r (NoneRefused wanted before event s) (λ failure. (t : ℕ) × (e : Errno) × (failure ≡ failures.Refused t e) × IsCaller t before event × IsRefused t e before s)
refused-call caller errors wanted before s event None known is at h = λ t e sought caller' refused.
    let one : t ≡ caller.task = same-caller t caller.task before event caller' is in
    let at' : is_at_pc refused.0 (slice_get before.board.parts.harts caller.task) ≡ true = subst (λ (u : ℕ). is_at_pc refused.0 (slice_get before.board.parts.harts u) ≡ true) one refused.1.0 in
    let here : refused.0 ≡ caller.pc = same-pc (slice_get before.board.parts.harts caller.task) refused.0 caller.pc at' at.0 in
    let sought' : error_in errors e ≡ true = subst (λ (set : Option Errors). has_error set e ≡ true) known sought in
    let answered : is_answered refused.0 e (slice_get s.board.parts.harts caller.task) ≡ true = subst (λ (u : ℕ). is_answered refused.0 e (slice_get s.board.parts.harts u) ≡ true) one refused.2 in
    h e sought' (subst (λ (pc : ℕ). is_answered pc e (slice_get s.board.parts.harts caller.task) ≡ true) here answered)
refused-call caller errors wanted before s event (Some failure) known is at h = (caller.task, h.0, h.1, is, (caller.pc, at, h.2))

some-set : (set : Option Errors) (e : Errno) → has_error set e ≡ true → is_some set ≡ true
some-set None e h = cc
some-set (Some set) e h = refl

some-errors : (wanted : Wanted) (e : Errno) → has_error wanted.errors e ≡ true → is_some wanted.errors ≡ true
some-errors wanted e h = some-set wanted.errors e h

looks-if : (set : Option Errors) (overrun : Bool) → is_some set ≡ true → (if is_some set then true else overrun) ≡ true
looks-if None overrun h = cc
looks-if (Some set) overrun h = refl

looks-for-errors : (wanted : Wanted) → is_some wanted.errors ≡ true → looks_at_calls wanted ≡ true
looks-for-errors wanted h = looks-if wanted.errors wanted.overrun h

looks-else : (set : Option Errors) (overrun : Bool) → overrun ≡ true → (if is_some set then true else overrun) ≡ true
looks-else None overrun h = h
looks-else (Some set) overrun h = refl

looks-for-expiries : (wanted : Wanted) → wanted.overrun ≡ true → looks_at_calls wanted ≡ true
looks-for-expiries wanted h = looks-else wanted.errors wanted.overrun h

none-set : (set : Option Errors) (e : Errno) → set ≡ None → has_error set e ≡ true → ⊥
none-set None e same h = cc
none-set (Some set) e same h = cc

pub none-sought : (wanted : Wanted) (before s : State) (event : Event) → wanted.errors ≡ None → NoneRefused wanted before event s
none-sought wanted before s event none t e sought caller refused = none-set wanted.errors e none sought

-- ---- mutexes that are abandoned
-- where they are looked for, the owner that is to be noted is the owner
sought-owner : (sought : Bool) (m : ℕ) (s : State) → sought ≡ true → owner_wanted sought m s ≡ live_owner m s
sought-owner true m s h = refl
sought-owner false m s h = cc

-- an owner that is to be noted is the owner
owner-sought : (sought : Bool) (m t : ℕ) (s : State) → owner_wanted sought m s ≡ Some t → live_owner m s ≡ Some t
owner-sought true m t s h = h
owner-sought false m t s h = cc

pub abandoned-mutex : (owners : Option (ArrayVec (Option ℕ))) (wanted : Wanted) (before s : State) (r : Option Failure) → ((m : ℕ) → noted_owner owners m ≡ owner_wanted wanted.abandoned m before)
    → MatchOption r ((t m : ℕ) → noted_owner owners m ≡ Some t → is_left t m s ≡ true → ⊥)
    (λ failure. (t : ℕ) × (m : ℕ) × (failure ≡ failures.Abandoned t m) × (noted_owner owners m ≡ Some t) × (is_left t m s ≡ true))
    → MatchOption r (NoneAbandoned wanted before s) (λ failure. (t : ℕ) × (m : ℕ) × (failure ≡ failures.Abandoned t m) × IsAbandoned t m before s)
abandoned-mutex owners wanted before s None noted h = λ t m sought abandoned.
    h t m (noted m ∙ (sought-owner wanted.abandoned m before sought ∙ abandoned.0)) abandoned.1
abandoned-mutex owners wanted before s (Some failure) noted h =
    (h.0, h.1, h.2, (owner-sought wanted.abandoned h.1 h.0 before (sym (noted h.1) ∙ h.3), h.4))

-- ---- tasks that are demoted
pub demoted-task : (t : ℕ) (wanted : Wanted) (before s : State) (event : Event) (r : Option Failure) → IsCaller t before event → is_to_stay t before ≡ true
    → MatchOption r (is_in_band_task (slice_get s.board.parts.tasks t) ≡ true → ⊥) (λ failure. (failure ≡ failures.Demoted t) × (is_in_band_task (slice_get s.board.parts.tasks t) ≡ true))
    → MatchOption r (NoneDemoted wanted before event s) (λ failure. (u : ℕ) × (failure ≡ failures.Demoted u) × IsDemoted u before event s)
demoted-task t wanted before s event None is stays h = λ u sought demoted.
    let one : u ≡ t = same-caller u t before event demoted.0 is in
    h (subst (λ (v : ℕ). is_in_band_task (slice_get s.board.parts.tasks v) ≡ true) one demoted.2)
demoted-task t wanted before s event (Some failure) is stays h = (t, h.0, (is, stays, h.1))

pub none-demoted : (wanted : Wanted) (before s : State) (event : Event) → (wanted.demotion ≡ true → (t : ℕ) → IsCaller t before event → is_to_stay t before ≡ true → ⊥) → NoneDemoted wanted before event s
none-demoted wanted before s event h t sought demoted = h sought t demoted.0 demoted.1

-- ---- waits for timers that are answered late
sought-waiter : (sought : Bool) (t : ℕ) (s : State) → sought ≡ true → waiter_wanted sought t s ≡ awaits_timer (slice_get s.board.parts.tasks t)
sought-waiter true t s h = refl
sought-waiter false t s h = cc

waiter-sought : (sought : Bool) (t : ℕ) (s : State) → waiter_wanted sought t s ≡ true → awaits_timer (slice_get s.board.parts.tasks t) ≡ true
waiter-sought true t s h = h
waiter-sought false t s h = cc

pub woken-task : (waiters : Option (ArrayVec Bool)) (wanted : Wanted) (before s : State) (r : Option Failure) → ((t : ℕ) → noted_waiter waiters t ≡ waiter_wanted wanted.overrun t before)
    → MatchOption r ((t : ℕ) → noted_waiter waiters t ≡ true → is_late t s ≡ true → ⊥) (λ failure. (t : ℕ) × (failure ≡ failures.Overrun t) × (noted_waiter waiters t ≡ true) × (is_late t s ≡ true))
    → MatchOption r (NoneWokenLate wanted before s) (λ failure. (t : ℕ) × (failure ≡ failures.Overrun t) × IsWokenLate t before s)
woken-task waiters wanted before s None noted h = λ t sought woken. h t (noted t ∙ (sought-waiter wanted.overrun t before sought ∙ woken.0)) woken.1
woken-task waiters wanted before s (Some failure) noted h = (h.0, h.1, (waiter-sought wanted.overrun h.0 before (sym (noted h.0) ∙ h.2), h.3))

pub answered-task : (caller : Caller) (wanted : Wanted) (before s : State) (event : Event) (r : Option Failure)
    → IsCaller caller.task before event → IsAtCall caller.task caller.pc before → caller.call ≡ call_in (slice_get before.board.parts.harts caller.task)
    → MatchOption r (is_answered_late caller.pc caller.call (slice_get s.board.parts.harts caller.task) ≡ true → ⊥)
    (λ failure. (failure ≡ failures.Overrun caller.task) × (is_answered_late caller.pc caller.call (slice_get s.board.parts.harts caller.task) ≡ true))
    → MatchOption r (NoneAnsweredLate wanted before event s) (λ failure. (t : ℕ) × (failure ≡ failures.Overrun t) × IsAnsweredLate t before event s)
answered-task caller wanted before s event None is at same h = λ t sought late.
    let one : t ≡ caller.task = same-caller t caller.task before event late.0 is in
    let at' : is_at_pc late.1 (slice_get before.board.parts.harts caller.task) ≡ true = subst (λ (u : ℕ). is_at_pc late.1 (slice_get before.board.parts.harts u) ≡ true) one late.2.0 in
    let here : late.1 ≡ caller.pc = same-pc (slice_get before.board.parts.harts caller.task) late.1 caller.pc at' at.0 in
    let answered : is_answered_late late.1 (call_in (slice_get before.board.parts.harts caller.task)) (slice_get s.board.parts.harts caller.task) ≡ true =
    subst (λ (u : ℕ). is_answered_late late.1 (call_in (slice_get before.board.parts.harts u)) (slice_get s.board.parts.harts u) ≡ true) one late.3 in
    let called : is_answered_late late.1 caller.call (slice_get s.board.parts.harts caller.task) ≡ true =
    subst (λ (call : Option Call). is_answered_late late.1 call (slice_get s.board.parts.harts caller.task) ≡ true) (sym same) answered in
    h (subst (λ (pc : ℕ). is_answered_late pc caller.call (slice_get s.board.parts.harts caller.task) ≡ true) here called)
answered-task caller wanted before s event (Some failure) is at same h =
    (caller.task, h.0, (is, caller.pc, at, subst (λ (call : Option Call). is_answered_late caller.pc call (slice_get s.board.parts.harts caller.task) ≡ true) same h.1))

pub none-answered : (wanted : Wanted) (before s : State) (event : Event) → (looks_at_calls wanted ≡ true → (t pc : ℕ) → IsCaller t before event → IsAtCall t pc before → ⊥) → NoneAnsweredLate wanted before event s
none-answered wanted before s event h t sought late = h (looks-for-expiries wanted sought) t late.1 late.0 late.2

not-sought : (sought : Bool) → sought ≡ false → sought ≡ true → ⊥
not-sought true h g = cc
not-sought false h g = cc

pub none-late : (wanted : Wanted) (before s : State) (event : Event) → wanted.overrun ≡ false → NoneAnsweredLate wanted before event s
none-late wanted before s event off t sought late = not-sought wanted.overrun off sought

no-overrun : (wanted : Wanted) (t : ℕ) (before s : State) (event : Event) → IsNothingLeft wanted before event s → wanted.overrun ≡ true → IsOverrun t before event s → ⊥
no-overrun wanted t before s event left sought (inl woken) = left.woken t sought woken
no-overrun wanted t before s event left sought (inr answered) = left.answered t sought answered

-- ---- what a task has left
pub left-abandoned : (wanted : Wanted) (before s : State) (event : Event) (answer : Answer) (failure : Failure) → is_some (step_of event) ≡ true
    → (t : ℕ) × (m : ℕ) × (failure ≡ failures.Abandoned t m) × IsAbandoned t m before s → Fails wanted.lines failure before event answer s
left-abandoned wanted before s event answer failure step h = subst (λ (f : Failure). Fails wanted.lines f before event answer s) (sym h.2) (step, h.3)

pub left-demoted : (wanted : Wanted) (before s : State) (event : Event) (answer : Answer) (failure : Failure)
    → (t : ℕ) × (failure ≡ failures.Demoted t) × IsDemoted t before event s → Fails wanted.lines failure before event answer s
left-demoted wanted before s event answer failure h = subst (λ (f : Failure). Fails wanted.lines f before event answer s) (sym h.1) h.2

pub left-woken : (wanted : Wanted) (before s : State) (event : Event) (answer : Answer) (failure : Failure) → is_some (step_of event) ≡ true
    → (t : ℕ) × (failure ≡ failures.Overrun t) × IsWokenLate t before s → Fails wanted.lines failure before event answer s
left-woken wanted before s event answer failure step h = subst (λ (f : Failure). Fails wanted.lines f before event answer s) (sym h.1) (step, inl h.2)

pub left-answered : (wanted : Wanted) (before s : State) (event : Event) (answer : Answer) (r : Option Failure) → is_some (step_of event) ≡ true
    → NoneAbandoned wanted before s → NoneDemoted wanted before event s → NoneWokenLate wanted before s
    → MatchOption r (NoneAnsweredLate wanted before event s) (λ failure. (t : ℕ) × (failure ≡ failures.Overrun t) × IsAnsweredLate t before event s)
    → MatchOption r (IsNothingLeft wanted before event s) (λ failure. Fails wanted.lines failure before event answer s)
left-answered wanted before s event answer None step abandoned demoted woken h = record { abandoned = abandoned; demoted = demoted; woken = woken; answered = h }
left-answered wanted before s event answer (Some failure) step abandoned demoted woken h = subst (λ (f : Failure). Fails wanted.lines f before event answer s) (sym h.1) (step, inr h.2)

-- ---- what a step shows
pub quiet-step : (wanted : Wanted) (c : ℕ) (before s : State) (event : Event) (answer : Answer) (r : Option Failure)
    → (wanted.ebreak ≡ true → stopped_at c s ≡ true → ⊥) → (wanted.fault ≡ true → (t : ℕ) → answer ≡ Ran t → faulted_at t s ≡ true → ⊥)
    → MatchOption r (wanted.deadlock ≡ true → IsDeadlock wanted.lines s → ⊥) (λ failure. (failure ≡ failures.Deadlock) × IsDeadlock wanted.lines s)
    → MatchOption r (IsQuietStep wanted c answer s) (λ failure. Fails wanted.lines failure before event answer s)
quiet-step wanted c before s event answer None ebreak fault h = record { ebreak = ebreak; fault = fault; deadlock = h }
quiet-step wanted c before s event answer (Some failure) ebreak fault h = subst (λ (f : Failure). Fails wanted.lines f before event answer s) (sym h.0) h.1

step-is : (event : Event) (c d : ℕ) → step_of event ≡ Some c → step_of event ≡ Some d → d ≡ c
step-is event c d h g = let both : Some d ≡ Some c = sym g ∙ h in cc

-- what isn't refused, left as a notice, a failure of a step, or left by a task, is none that is looked for
pub nothing-shown : (wanted : Wanted) (c : ℕ) (before s : State) (event : Event) (answer : Answer) → step_of event ≡ Some c
    → NoneRefused wanted before event s → NoneNoticed wanted before s → IsQuietStep wanted c answer s → IsNothingLeft wanted before event s → FailsAsWanted wanted before event answer s → ⊥
nothing-shown wanted c before s event answer is refused noticed quiet left (failures.Ebreak d, sought, fails) =
    quiet.ebreak sought (subst (λ (n : ℕ). stopped_at n s ≡ true) (step-is event c d is fails.0) fails.1)
nothing-shown wanted c before s event answer is refused noticed quiet left (failures.Fault t, sought, fails) = quiet.fault sought t fails.1 fails.2
nothing-shown wanted c before s event answer is refused noticed quiet left (failures.Deadlock, sought, fails) = quiet.deadlock sought fails
nothing-shown wanted c before s event answer is refused noticed quiet left (failures.Notice t kind, sought, fails) = noticed t kind sought fails
nothing-shown wanted c before s event answer is refused noticed quiet left (failures.Refused t e, sought, fails) = refused t e sought fails.0 fails.1
nothing-shown wanted c before s event answer is refused noticed quiet left (failures.Abandoned t m, sought, fails) = left.abandoned t m sought fails.1
nothing-shown wanted c before s event answer is refused noticed quiet left (failures.Demoted t, sought, fails) = left.demoted t sought fails
nothing-shown wanted c before s event answer is refused noticed quiet left (failures.Overrun t, sought, fails) = no-overrun wanted t before s event left sought fails.1
nothing-shown wanted c before s event answer is refused noticed quiet left (failures.Lost d line, sought, fails) = cc
nothing-shown wanted c before s event answer is refused noticed quiet left (failures.Held m, sought, fails) = cc
nothing-shown wanted c before s event answer is refused noticed quiet left (failures.KeptBack t, sought, fails) = cc
nothing-shown wanted c before s event answer is refused noticed quiet left (failures.Stuck t, sought, fails) = cc

no-step : (event : Event) (c : ℕ) → step_of event ≡ None → step_of event ≡ Some c → ⊥
no-step event c h g = let both : None ≡ Some c = sym h ∙ g in cc

no-step-at-all : (event : Event) → step_of event ≡ None → is_some (step_of event) ≡ true → ⊥
no-step-at-all event h g = let both : is_some {T = ℕ} None ≡ true = ap is_some (sym h) ∙ g in cc

nothing-outside : (wanted : Wanted) (before s : State) (event : Event) (answer : Answer) → step_of event ≡ None
    → NoneNoticed wanted before s → (wanted.deadlock ≡ true → IsDeadlock wanted.lines s → ⊥) → FailsAsWanted wanted before event answer s → ⊥
nothing-outside wanted before s event answer is noticed deadlock (failures.Ebreak d, sought, fails) = no-step event d is fails.0
nothing-outside wanted before s event answer is noticed deadlock (failures.Fault t, sought, fails) = no-step-at-all event is fails.0
nothing-outside wanted before s event answer is noticed deadlock (failures.Deadlock, sought, fails) = deadlock sought fails
nothing-outside wanted before s event answer is noticed deadlock (failures.Notice t kind, sought, fails) = noticed t kind sought fails
nothing-outside wanted before s event answer is noticed deadlock (failures.Refused t e, sought, fails) = no-step event fails.0.0 is fails.0.1
nothing-outside wanted before s event answer is noticed deadlock (failures.Abandoned t m, sought, fails) = no-step-at-all event is fails.0
nothing-outside wanted before s event answer is noticed deadlock (failures.Demoted t, sought, fails) = no-step event fails.0.0 is fails.0.1
nothing-outside wanted before s event answer is noticed deadlock (failures.Overrun t, sought, fails) = no-step-at-all event is fails.0
nothing-outside wanted before s event answer is noticed deadlock (failures.Lost d line, sought, fails) = cc
nothing-outside wanted before s event answer is noticed deadlock (failures.Held m, sought, fails) = cc
nothing-outside wanted before s event answer is noticed deadlock (failures.KeptBack t, sought, fails) = cc
nothing-outside wanted before s event answer is noticed deadlock (failures.Stuck t, sought, fails) = cc

pub seen-outside : (wanted : Wanted) (before s : State) (event : Event) (answer : Answer) (r : Option Failure) → step_of event ≡ None → NoneNoticed wanted before s
    → MatchOption r (wanted.deadlock ≡ true → IsDeadlock wanted.lines s → ⊥) (λ failure. (failure ≡ failures.Deadlock) × IsDeadlock wanted.lines s)
    → IsSeen wanted before event answer s r
seen-outside wanted before s event answer None is noticed h = nothing-outside wanted before s event answer is noticed h
seen-outside wanted before s event answer (Some failure) is noticed h = subst (λ (f : Failure). Fails wanted.lines f before event answer s) (sym h.0) h.1

-- a step that made none of the other failures, and what a task has left by it, or nothing
pub seen-step : (wanted : Wanted) (c : ℕ) (before s : State) (event : Event) (answer : Answer) (r : Option Failure) → step_of event ≡ Some c
    → NoneRefused wanted before event s → NoneNoticed wanted before s → IsQuietStep wanted c answer s
    → MatchOption r (IsNothingLeft wanted before event s) (λ failure. Fails wanted.lines failure before event answer s) → IsSeen wanted before event answer s r
seen-step wanted c before s event answer None is refused noticed quiet h = nothing-shown wanted c before s event answer is refused noticed quiet h
seen-step wanted c before s event answer (Some failure) is refused noticed quiet h = h

-- a failure that is what it is known to be
pub seen-as : (wanted : Wanted) (before s : State) (event : Event) (answer : Answer) (failure known : Failure) → failure ≡ known
    → Fails wanted.lines known before event answer s → Fails wanted.lines failure before event answer s
seen-as wanted before s event answer failure known same h = subst (λ (f : Failure). Fails wanted.lines f before event answer s) (sym same) h

-- a later look that found none that is looked for
pub seen-late : (wanted : Wanted) (before s : State) (event : Event) (answer : Answer) (r : Option Failure) → (FailsAsWanted wanted before event answer s → ⊥)
    → IfSome r (λ failure. Fails wanted.lines failure before event answer s) → IsSeen wanted before event answer s r
seen-late wanted before s event answer None none h = none
seen-late wanted before s event answer (Some failure) none h = h

pub none-refused : (wanted : Wanted) (before s : State) (event : Event) → (looks_at_calls wanted ≡ true → (t pc : ℕ) → IsCaller t before event → IsAtCall t pc before → ⊥) → NoneRefused wanted before event s
none-refused wanted before s event h t e sought caller refused = h (looks-for-errors wanted (some-errors wanted e sought)) t refused.0 caller refused.1
