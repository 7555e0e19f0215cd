use Rattle.std.proofs.Common.{◌≡◌, ℕ, Some, List, slice_get, true, ◌⊎◌, inl, inr, refl, length, arith}
use Rattle.evm_model.specs.Good.{is_ready}
use Rattle.evm_model.specs.Pipes.{Pipe}
use Rattle.evm_model.specs.Ranks.{is_in_ready}
use Rattle.evm_model.specs.declared.processor.Processor.{Processor}
use Rattle.evm_model.specs.declared.task.TaskState.{TaskState}
use Rattle.evm_model.specs.declared.task.TaskState.TheVariants.{InReady, OobReady}
use Rattle.evm_model.proofs.Lists.{slice_get-within, slice_get-below}
use Rattle.claims_machine.proofs.Reached.{good}
use Rattle.claims_machine.proofs.rules.a_current_task_is_ready_at_home.Goals as goal

on_either : (state : TaskState) → is_ready state ≡ true → (state ≡ InReady) ⊎ (state ≡ OobReady)
on_either InReady e = inl refl
on_either OobReady e = inr refl
on_either _ e = cc

in_band : (state : TaskState) → is_in_ready state ≡ true → state ≡ InReady
in_band InReady e = refl
in_band _ e = cc

-- a processor has its pipe
its_pipe : (pipes : List Pipe) (processors : List Processor) (c : ℕ) (p : Processor) → length pipes ≡ length processors → slice_get processors c ≡ Some p → (pipe : Pipe) × (slice_get pipes c ≡ Some pipe)
its_pipe pipes processors c p same f = slice_get-within pipes c (omega (arith, same, slice_get-below processors c p f))

pub returns-clause-current : goal.returns-clause-current
returns-clause-current g boot s c t p reached f now =
    let rules = (good g.rules_hold.ensures.booted g.rules_hold.ensures.loaded boot s reached).good in
    let pipe = its_pipe s.board.parts.pipes s.board.parts.processors c p rules.pipes_count f in
    let own = (rules.settled c pipe.0 p pipe.1 f).current_own t now in (own.task, (own.there, own.at_home, on_either own.task.state own.ready))

pub returns-clause-in_band : goal.returns-clause-in_band
returns-clause-in_band g boot s c t p reached f now =
    let rules = (good g.rules_hold.ensures.booted g.rules_hold.ensures.loaded boot s reached).good in
    let pipe = its_pipe s.board.parts.pipes s.board.parts.processors c p rules.pipes_count f in
    let own = (rules.settled c pipe.0 p pipe.1 f).in_band_own t now in (own.task, (own.there, own.at_home, in_band own.task.state own.ready))

pub returns-clause-homes : goal.returns-clause-homes
returns-clause-homes g boot s t task reached e = (good g.rules_hold.ensures.booted g.rules_hold.ensures.loaded boot s reached).good.homes t task e
