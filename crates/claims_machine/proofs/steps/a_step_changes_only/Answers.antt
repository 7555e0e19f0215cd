use Rattle.evm_model.specs.declared.event.Event.TheVariants.{Step}
use Rattle.claims_machine.proofs.Reached.{good}
use Rattle.claims_machine.proofs.Whole.{changes_only}
use Rattle.claims_machine.proofs.steps.a_step_changes_only.Goals as goal

pub returns : goal.returns
returns g boot old new answer c reached e =
    let rules = good g.rules_hold.ensures.booted g.rules_hold.ensures.loaded boot old reached in changes_only c old.board new.board ((g.events_change_only.ensures old new (Step c) answer e).board rules.good rules.devices.few)
