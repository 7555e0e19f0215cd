use Rattle.std.proofs.Common.{◌≡◌, ℕ, zero, suc, ◌%◌, List, [], ◌∷◌, false, ◌⊎◌, inl, inr, ap, sym}
use Rattle.evm_model.specs.Devices.{Attached}
use Rattle.evm_model.specs.Event.{Event}
use Rattle.evm_model.specs.Good.{AreDevices}
use Rattle.evm_model.specs.Load.{load_board, start_loaded}
use Rattle.evm_model.specs.Replay.{bad_boot, start, replay}
use Rattle.evm_model.specs.State.{State, booted, booted_parts, first_task}
use Rattle.evm_model.specs.declared.boot.Boot.{Boot}
use Rattle.evm_model.specs.declared.task.Task.{Task}
use Rattle.law_rules.specs.Rules.{RulesHold, RulesHoldLoaded}
use Rattle.claims_machine.specs.Reached.{Reached}
use Rattle.claims_machine.proofs.Beginning.{endless}
use Rattle.claims_machine.proofs.Settling.{AreEndless, replay_endless}
use Rattle.claims_machine.proofs.waking.a_wait_for_a_line_or_a_timer_has_no_deadline.Goals as goal

first_endless : AreEndless (first_task ∷ [])
first_endless zero y at on = let same : first_task ≡ y = cc in ap (λ (x : Task). x.deadline) (sym same)
first_endless (suc u) y at on = cc

started : (devices : List Attached) (boot : Boot) → AreEndless (start devices boot).board.parts.tasks
unfolding booted booted_parts
started devices boot = first_endless

loaded_endless : (devices : List Attached) (byte : ℕ → ℕ) (entry : ℕ) (boot : Boot) → AreEndless (start_loaded devices byte entry boot).board.parts.tasks
unfolding booted booted_parts load_board
loaded_endless devices byte entry boot = first_endless

reached_endless : RulesHold → RulesHoldLoaded → (devices : List Attached) (boot : Boot) (s : State) (events : List Event) → AreDevices devices → bad_boot boot ≡ false
    → (s ≡ replay (start devices boot) events) ⊎ ((byte : ℕ → ℕ) × ((entry : ℕ) × ((entry % 4 ≡ 0) × (s ≡ replay (start_loaded devices byte entry boot) events)))) → AreEndless s.board.parts.tasks
reached_endless plain loaded devices boot s events are fits (inl e) = rw e (replay_endless (start devices boot) (plain devices boot are fits) (started devices boot) events)
reached_endless plain loaded devices boot s events are fits (inr (byte, (entry, e))) =
    rw e.1 (replay_endless (start_loaded devices byte entry boot) (loaded devices byte entry boot are fits e.0) (loaded_endless devices byte entry boot) events)

of : RulesHold → RulesHoldLoaded → (boot : Boot) (s : State) → Reached boot s → AreEndless s.board.parts.tasks
of plain loaded boot s r = reached_endless plain loaded r.devices boot s r.events r.are r.fits r.from

pub returns-clause-line : goal.returns-clause-line
returns-clause-line g boot s t l task reached there is = of g.rules_hold.ensures.booted g.rules_hold.ensures.loaded boot s reached t task there (ap endless is)

pub returns-clause-timer : goal.returns-clause-timer
returns-clause-timer g boot s t n task reached there is = of g.rules_hold.ensures.booted g.rules_hold.ensures.loaded boot s reached t task there (ap endless is)
