use Rattle.std.proofs.Common.{◌∷◌, ◌++◌, [], ◌≡◌, ◌+◌, List, take, get_or, subst, sym}
use Rattle.std.proofs.lemmas.List.{take_more}
use Rattle.evm_model.specs.Replay.{replay}
use Rattle.hunt_schedules.specs.Branches.{events_of_turns, turn_events}
use Rattle.hunt_schedules.specs.declared.branch.Choice.TheVariants as choices
use Rattle.hunt_schedules.specs.declared.branch.CpuTurn.{CpuTurn}
use Rattle.hunt_space.proofs.Reaching.{at-turn, no-events}
use Rattle.hunt_space.proofs.replaying.repeat_turns.Goals as goal

pub turns-init : goal.turns-init
turns-init c = (no-events c.args.machine.now, (λ first h. h))

pub turns-preserved : goal.turns-preserved
turns-preserved c =
    let none : CpuTurn = record { cpu = 0; steps = 0; choice = choices.Step 0 } in
    let front = take c.turns.turn-index c.args.turns.now in
    let turn : CpuTurn = get_or c.args.turns.now c.turns.turn-index none in
    let more : take (c.turns.turn-index + 1) c.args.turns.now ≡ front ++ turn ∷ [] = take_more c.args.turns.now c.turns.turn-index none c.turns-test.true in
    let here = subst (λ s. c.repeat_turn.new.machine ≡ replay s (turn_events turn)) c.turns.invariant.0 c.repeat_turn.ensures.repeats in (
      subst (λ (turns : List CpuTurn). c.repeat_turn.new.machine ≡ replay c.args.machine.now (events_of_turns turns)) (sym more) (at-turn c.args.machine.now c.repeat_turn.new.machine front turn here),
      (λ first h. c.repeat_turn.ensures.replays first (c.turns.invariant.1 first h)),
    )
