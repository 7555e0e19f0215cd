-- What each call of the in-band kernel does to the parts, and what comes of it.
use Rattle.std.specs.Prelude.{ℕ, ◌+◌, ◌-◌, ◌%◌, List, [], ◌∷◌, ◌++◌, Option, Some, None, Bool, true, not, ◌==◌, nat_lt, nat_le, is_none, drop, if◌then◌else◌, slice_get, length}
use Rattle.evm_model.specs.Harts.{spawned_hart}
use Rattle.evm_model.specs.Mutexes.{owns_any}
use Rattle.evm_model.specs.Passing.{end_task}
use Rattle.evm_model.specs.Policies.{policy_of}
use Rattle.evm_model.specs.Profiles.{line_count}
use Rattle.evm_model.specs.Stages.{refused, is_stalled, is_attached, wait_refusal}
use Rattle.evm_model.specs.State.{Parts, new_task}
use Rattle.evm_model.specs.Tasks.{restamp, leave_in_band, set_policy, clear_policy}
use Rattle.evm_model.specs.Waits.{begin_wait}
use Rattle.evm_ram.specs.declared.ram.TheConstants.{BASE}
use Rattle.evm_model.specs.declared.call.Outcome.{Outcome}
use Rattle.evm_model.specs.declared.call.Outcome.TheVariants.{Returns, Blocks, Exits}
use Rattle.evm_model.specs.declared.errno.Errno.{Errno}
use Rattle.evm_model.specs.declared.errno.Errno.TheVariants.{NotPermitted, NoNumber, Busy, Invalid}
use Rattle.evm_model.specs.declared.limits.TheConstants.{CONSOLE_LIMIT, TASK_LIMIT}
use Rattle.evm_model.specs.declared.stage.Stage.TheVariants.{InBand}
use Rattle.evm_model.specs.declared.task.Class.{Class}
use Rattle.evm_model.specs.declared.task.TaskState.TheVariants.{Exit}
use Rattle.evm_model.specs.declared.task.Wait.TheVariants.{Line}

-- 0: the task ends
unfoldable pub exit : ℕ → ℕ → Parts → Parts × Outcome
exit c t p = (end_task c t Exit p, Exits)

-- the last bytes that there is room for
abbrev pub last_bytes : List ℕ → List ℕ
last_bytes bytes = drop (length bytes - CONSOLE_LIMIT) bytes

-- 1: the low byte goes to the console
unfoldable pub putc : ℕ → Parts → Parts × Outcome
putc byte p = (record p { console = last_bytes (p.console ++ (byte % 256) ∷ []) }, Returns 0)

-- 2: the task goes behind the others that are ready; not while in-band is stalled
unfoldable pub yield_now : ℕ → ℕ → Parts → Parts × Outcome
yield_now c t p = if is_stalled InBand c p then refused NotPermitted p else (leave_in_band c (restamp t p), Returns 0)

-- an entry that is no multiple of 4 in RAM of this size
abbrev pub is_bad_entry : ℕ → ℕ → Bool
is_bad_entry ram entry = if not (entry % 4 == 0) then true else (if nat_lt entry BASE then true else nat_le (BASE + ram) entry)

-- a task more, whose a0 is the value
unfoldable pub add_task : ℕ → ℕ → ℕ → Parts → Parts
add_task entry value cpu p = record p {
  harts = p.harts ++ spawned_hart entry value ∷ [];
  tasks = p.tasks ++ new_task cpu p.stamps ∷ [];
  stamps = p.stamps + 1;
}

-- 3: a new task, ready in-band; its number is answered
unfoldable pub spawn : ℕ → ℕ → ℕ → Parts → Parts × Outcome
spawn entry value cpu p =
    if is_bad_entry p.profile.ram entry then refused Invalid p
    else (if is_none (slice_get p.processors cpu) then refused Invalid p
    else (if nat_le TASK_LIMIT (length p.tasks) then refused NoNumber p
    else (add_task entry value cpu p, Returns (length p.tasks))))

-- task t waits in-band for line l, unless the call is refused
abbrev pub wait_line_unless : Option Errno → ℕ → ℕ → ℕ → Parts → Parts × Outcome
wait_line_unless (Some e) c t l p = refused e p
wait_line_unless None c t l p = (leave_in_band c (begin_wait t (Line l) 0 p), Blocks)

-- 6: the task waits until the line is played in-band; not while in-band is stalled
unfoldable pub wait_line : ℕ → ℕ → ℕ → Parts → Parts × Outcome
wait_line c t l p =
    if nat_le (line_count p.profile) l then refused Invalid p
    else wait_line_unless (wait_refusal (is_stalled InBand c p) None p.ticks 0) c t l p

-- 7: the task has a class and a priority; not where it has one
abbrev pub attach_as : Option Class → ℕ → ℕ → Parts → Parts × Outcome
attach_as None t priority p = refused Invalid p
attach_as (Some class) t priority p =
    if is_attached t p then refused Busy p else (set_policy t class priority p, Returns 0)

unfoldable pub attach_task : ℕ → ℕ → ℕ → Parts → Parts × Outcome
attach_task t class priority p = attach_as (policy_of class priority) t priority p

-- 8: the task has no class; not while it owns a mutex
unfoldable pub detach : ℕ → Parts → Parts × Outcome
detach t p =
    if not (is_attached t p) then refused NotPermitted p
    else (if owns_any t p.mutexes then refused Busy p else (clear_policy t p, Returns 0))
