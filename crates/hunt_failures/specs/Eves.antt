-- What is noted of a machine before an event, and what is seen behind it.
use Rattle.std.specs.Prelude.{◌≡◌, ℕ, Option, Some, None, Bool, true, false, slice_get, ⊤}
use Rattle.arrayvec.specs.ArrayVec.{ArrayVec}
use Rattle.evm_model.specs.Event.{Event}
use Rattle.evm_model.specs.State.{State}
use Rattle.evm_model.specs.declared.errno.Errno.{Errno}
use Rattle.evm_model.specs.declared.event.Answer.{Answer}
use Rattle.evm_model.specs.declared.event.Answer.TheVariants.{Ran}
use Rattle.evm_model.specs.declared.notice.NoticeKind.{NoticeKind}
use Rattle.hunt_failures.specs.Failures.{IsAbandoned, IsAnsweredLate, IsAtCall, IsCaller, IsDeadlock, IsDemoted, IsNoticed, IsRefused, IsUnawaited, IsWokenLate, awaits_timer, call_in, faulted_at, has_error, has_kind, is_to_stay, live_owner, looks_at_calls, step_of, stopped_at}
use Rattle.hunt_failures.specs.declared.calls.Caller.{Caller}
use Rattle.hunt_failures.specs.declared.eve.Eve.{Eve}
use Rattle.hunt_failures.specs.declared.lines.Unawaited.{Unawaited}
use Rattle.hunt_failures.specs.declared.wanted.Wanted.{Wanted}

-- where calls are looked at, the call that the event is about to make, or none
abbrev pub IsCallNoted : Option Caller → Wanted → Event → State → Type 0
IsCallNoted None wanted event s = looks_at_calls wanted ≡ true → (t pc : ℕ) → IsCaller t s event → IsAtCall t pc s → ⊥
IsCallNoted (Some caller) wanted event s =
    IsCaller caller.task s event × IsAtCall caller.task caller.pc s × (caller.call ≡ call_in (slice_get s.board.parts.harts caller.task))

-- where demotions are looked for, the task that is to stay out-of-band, or none
abbrev pub IsStayNoted : Option ℕ → Wanted → Event → State → Type 0
IsStayNoted None wanted event s = wanted.demotion ≡ true → (t : ℕ) → IsCaller t s event → is_to_stay t s ≡ true → ⊥
IsStayNoted (Some t) wanted event s = IsCaller t s event × (is_to_stay t s ≡ true)

abbrev pub IsLineNoted : Option Unawaited → State → Type 0
IsLineNoted None s = ⊤
IsLineNoted (Some line) s = IsUnawaited line.cpu line.line line.played s

abbrev pub listed_owner : Option (Option ℕ) → Option ℕ
listed_owner None = None
listed_owner (Some owner) = owner

-- the task that was noted as the owner of mutex m
abbrev pub noted_owner : Option (ArrayVec (Option ℕ)) → ℕ → Option ℕ
noted_owner None m = None
noted_owner (Some owners) m = listed_owner (slice_get owners.items m)

-- the owner of mutex m that is to be noted: there is none where abandoned mutexes aren't looked for
abbrev pub owner_wanted : Bool → ℕ → State → Option ℕ
owner_wanted false m s = None
owner_wanted true m s = live_owner m s

abbrev pub is_listed : Option Bool → Bool
is_listed None = false
is_listed (Some waits) = waits

-- task t was noted as one that waits for a timer
abbrev pub noted_waiter : Option (ArrayVec Bool) → ℕ → Bool
noted_waiter None t = false
noted_waiter (Some waiters) t = is_listed (slice_get waiters.items t)

-- task t is to be noted so: none is where late answers aren't looked for
abbrev pub waiter_wanted : Bool → ℕ → State → Bool
waiter_wanted false t s = false
waiter_wanted true t s = awaits_timer (slice_get s.board.parts.tasks t)

-- what is noted is true of the machine
pub record IsEve (eve : Eve) (wanted : Wanted) (event : Event) (s : State) : Type 0 where
  pub cpu : eve.cpu ≡ step_of event
  pub notices : eve.notices ≡ s.board.parts.notices.total
  pub call : IsCallNoted eve.caller wanted event s
  pub line : IsLineNoted eve.line s
  pub owners : (m : ℕ) → noted_owner eve.owners m ≡ owner_wanted wanted.abandoned m s
  pub staying : IsStayNoted eve.staying wanted event s
  pub waiters : (t : ℕ) → noted_waiter eve.waiters t ≡ waiter_wanted wanted.overrun t s

-- no call was refused
abbrev pub NoneRefused : Wanted → State → Event → State → Type 0
NoneRefused wanted before event s = (t : ℕ) (e : Errno) → has_error wanted.errors e ≡ true → IsCaller t before event → IsRefused t e before s → ⊥

-- no notice was left
abbrev pub NoneNoticed : Wanted → State → State → Type 0
NoneNoticed wanted before s = (t : ℕ) (kind : NoticeKind) → has_kind wanted kind ≡ true → IsNoticed t kind before s → ⊥

-- no mutex was abandoned
abbrev pub NoneAbandoned : Wanted → State → State → Type 0
NoneAbandoned wanted before s = (t m : ℕ) → wanted.abandoned ≡ true → IsAbandoned t m before s → ⊥

-- no task was demoted
abbrev pub NoneDemoted : Wanted → State → Event → State → Type 0
NoneDemoted wanted before event s = (t : ℕ) → wanted.demotion ≡ true → IsDemoted t before event s → ⊥

-- no task that waited for a timer was answered more than one expiry
abbrev pub NoneWokenLate : Wanted → State → State → Type 0
NoneWokenLate wanted before s = (t : ℕ) → wanted.overrun ≡ true → IsWokenLate t before s → ⊥

-- no task was answered more than one expiry at once
abbrev pub NoneAnsweredLate : Wanted → State → Event → State → Type 0
NoneAnsweredLate wanted before event s = (t : ℕ) → wanted.overrun ≡ true → IsAnsweredLate t before event s → ⊥

-- none of these failures was made
pub record IsNothingLeft (wanted : Wanted) (before : State) (event : Event) (s : State) : Type 0 where
  pub abandoned : NoneAbandoned wanted before s
  pub demoted : NoneDemoted wanted before event s
  pub woken : NoneWokenLate wanted before s
  pub answered : NoneAnsweredLate wanted before event s

-- a step of processor c made no failure of these
pub record IsQuietStep (wanted : Wanted) (c : ℕ) (answer : Answer) (s : State) : Type 0 where
  pub ebreak : wanted.ebreak ≡ true → stopped_at c s ≡ true → ⊥
  pub fault : wanted.fault ≡ true → (t : ℕ) → answer ≡ Ran t → faulted_at t s ≡ true → ⊥
  pub deadlock : wanted.deadlock ≡ true → IsDeadlock wanted.lines s → ⊥
