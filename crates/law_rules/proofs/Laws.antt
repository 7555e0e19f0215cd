-- The rules hold after every event.
use Rattle.evm_model.specs.Load.{start_loaded}
use Rattle.evm_model.specs.Replay.{start}
use Rattle.law_rules.specs.Rules.{RulesHold, RulesHoldLoaded}
use Rattle.law_rules.proofs.States.{GoodState-replay, GoodState-start, GoodState-loaded}

pub rules_hold : RulesHold
rules_hold devices boot are fits events = GoodState-replay (start devices boot) events (GoodState-start devices boot are fits)

pub rules_hold_loaded : RulesHoldLoaded
rules_hold_loaded devices byte entry boot are fits multiple events = GoodState-replay (start_loaded devices byte entry boot) events (GoodState-loaded devices byte entry boot are fits multiple)
