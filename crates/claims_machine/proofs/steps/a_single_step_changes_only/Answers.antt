use Rattle.std.proofs.Common.{◌≡◌, ◌≢◌, ℕ, Option, Some, None, true, false, slice_get, refl, ap, sym, ◌∙◌}
use Rattle.std.specs.Prelude.{option_map}
use Rattle.evm_model.specs.Rows.{step}
use Rattle.evm_model.specs.Settle.{current, current_of}
use Rattle.evm_model.specs.State.{Board}
use Rattle.evm_model.specs.declared.event.Event.TheVariants.{StepI}
use Rattle.evm_model.specs.declared.processor.Processor.{Processor}
use Rattle.law_runs.specs.Changes.{StepsOnce}
use Rattle.claims_machine.specs.Steps.{StepChangesOnly}
use Rattle.claims_machine.proofs.Reached.{good}
use Rattle.claims_machine.proofs.Moved.{moved}
use Rattle.claims_machine.proofs.Whole.{changes_only}
use Rattle.claims_machine.proofs.steps.a_single_step_changes_only.Goals as goal

-- a processor that goes runs what it ran
runs_still : (o : Option Processor) → current_of (option_map (λ (q : Processor). record q { stopped = false; skip = true }) o) ≡ current_of o
runs_still None = refl
runs_still (Some q) = refl

-- a single step is a step between two changes of bits
as_step : (c : ℕ) (old new : Board) → StepsOnce c old new → StepChangesOnly (current c old.parts) c old new
as_step c old new b =
    let after : Board = (step c b.freed).0 in
    let still : current c b.freed.parts ≡ current c old.parts = ap current_of b.goes.processors.here ∙ runs_still (slice_get old.parts.processors c) in
    let steps : StepChangesOnly (current c old.parts) c b.freed after = rw still at (changes_only c b.freed after b.steps) in
    let others : (d : ℕ) → d ≢ c → slice_get new.parts.processors d ≡ slice_get old.parts.processors d = λ d other. b.stops.processors.others d other ∙ b.steps.processors d other ∙ b.goes.processors.others d other in
    let back : old ≡ record b.freed { parts = record b.freed.parts { processors = old.parts.processors } } = sym (ap (λ (x : Board). record x { parts = record x.parts { processors = old.parts.processors } }) b.goes.rest) in
    rw (back, b.stops.rest) (moved (current c old.parts) c b.freed after old.parts.processors new.parts.processors others steps)

pub returns-clause-changes : goal.returns-clause-changes
returns-clause-changes g boot old new answer c reached e =
    let rules = good g.rules_hold.ensures.booted g.rules_hold.ensures.loaded boot old reached in as_step c old.board new.board ((g.events_change_only.ensures old new (StepI c) answer e).board rules.good rules.devices.few)

-- a processor whose bits were set so has them
stands_still : (o : Option Processor) (p : Processor) → option_map (λ (q : Processor). record q { stopped = true; skip = false }) o ≡ Some p → (p.stopped ≡ true) × (p.skip ≡ false)
stands_still None p e = cc
stands_still (Some q) p e =
    let same : record q { stopped = true; skip = false } ≡ p = cc in
    (sym (ap (λ (r : Processor). r.stopped) same), sym (ap (λ (r : Processor). r.skip) same))

pub returns-clause-stops : goal.returns-clause-stops
returns-clause-stops g boot old new answer c q reached e there =
    let rules = good g.rules_hold.ensures.booted g.rules_hold.ensures.loaded boot old reached in
    let b = (g.events_change_only.ensures old new (StepI c) answer e).board rules.good rules.devices.few in
    stands_still _ q (sym b.stops.processors.here ∙ there)
