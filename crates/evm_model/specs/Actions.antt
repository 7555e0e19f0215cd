-- The actions of lines: which stage receives a line, what its out-of-band play does, and the call that sets it.
use Rattle.std.specs.Prelude.{ℕ, ◌^◌, List, Option, Some, None, ◌==◌, nat_lt, nat_le, is_none, if◌then◌else◌, slice_get}
use Rattle.evm_model.specs.Flags.{post}
use Rattle.evm_model.specs.Pipes.{stage_of, receive}
use Rattle.evm_model.specs.Profiles.{line_count}
use Rattle.evm_model.specs.Semaphores.{sem_put}
use Rattle.evm_model.specs.Stages.{refused}
use Rattle.evm_model.specs.State.{Parts, on_action, on_pipe}
use Rattle.evm_model.specs.declared.action.Action.{Action}
use Rattle.evm_model.specs.declared.action.Action.TheVariants.{Nothing, Puts, Posts}
use Rattle.evm_model.specs.declared.call.Outcome.{Outcome}
use Rattle.evm_model.specs.declared.call.Outcome.TheVariants.{Returns}
use Rattle.evm_model.specs.declared.errno.Errno.TheVariants.{Invalid}
use Rattle.evm_model.specs.declared.limits.TheConstants.{FLAG_BITS}

abbrev pub action_or_nothing : Option Action → Action
action_or_nothing None = Nothing
action_or_nothing (Some action) = action

-- the action of line l
abbrev pub action_in : List Action → ℕ → Action
action_in actions l = action_or_nothing (slice_get actions l)

abbrev pub action_at : ℕ → Parts → Action
action_at l p = action_in p.actions l

-- line l of processor c is received by the stage that its action says now
unfoldable pub receive_line : ℕ → ℕ → Parts → Parts
receive_line c l p = on_pipe c (receive (stage_of (action_at l p) l) l) p

-- what line l does by an action: it puts one into a semaphore, unless that has its greatest count, or posts bit l, which a
-- word has for the first lines alone
unfoldable pub act : Action → ℕ → Parts → Parts
act Nothing l p = p
act (Puts s) l p = (sem_put s p).0
act (Posts f) l p = if nat_lt l FLAG_BITS then post f (2 ^ l) p else p

-- ---- 14: a line has an action
-- line l may post where a word has its bit
abbrev pub posts_to : ℕ → ℕ → Parts → Option Action
posts_to l f p = if nat_le FLAG_BITS l then None else (if is_none (slice_get p.flags f) then None else Some (Posts f))

-- 0 none, 1 puts into a semaphore, 2 posts to a flag group
abbrev pub action_of : ℕ → ℕ → ℕ → Parts → Option Action
action_of l action object p =
    if action == 0 then Some Nothing
    else (if action == 1 then (if is_none (slice_get p.semaphores object) then None else Some (Puts object))
    else (if action == 2 then posts_to l object p else None))

abbrev pub set_line_to : Option Action → ℕ → Parts → Parts × Outcome
set_line_to None l p = refused Invalid p
set_line_to (Some action) l p = (on_action l (λ _. action) p, Returns 0)

-- 14: lines from 2 on have an action
unfoldable pub set_line : ℕ → ℕ → ℕ → Parts → Parts × Outcome
set_line l action object p =
    if nat_lt l 2 then refused Invalid p
    else (if nat_le (line_count p.profile) l then refused Invalid p else set_line_to (action_of l action object p) l p)
