use Rattle.std.proofs.Common.{◌∷◌, ◌++◌, [], ◌≡◌, ◌+◌, List, take, get_or, subst, sym}
use Rattle.std.proofs.lemmas.List.{take_more}
use Rattle.hunt_failures.specs.Failures.{FailsAsWanted}
use Rattle.hunt_schedules.proofs.Walking.{passed-none, passed-turn}
use Rattle.hunt_schedules.specs.Branches.{events_of_turns}
use Rattle.hunt_schedules.specs.Walks.{HasPassed}
use Rattle.hunt_schedules.specs.declared.branch.Choice.TheVariants as choices
use Rattle.hunt_schedules.specs.declared.branch.CpuTurn.{CpuTurn}
use Rattle.hunt_search.proofs.walking.begin_with.Goals as goal

pub turns-init : goal.turns-init
turns-init c = (passed-none (FailsAsWanted c.args.wanted.now) c.args.machine.now, (λ first h. h))

pub turns-preserved : goal.turns-preserved
turns-preserved c =
    let none : CpuTurn = record { cpu = 0; steps = 0; choice = choices.Step 0 } in
    let front = take c.turns.turn-index c.args.turns.now in
    let turn : CpuTurn = get_or c.args.turns.now c.turns.turn-index none in
    let more : take (c.turns.turn-index + 1) c.args.turns.now ≡ front ++ turn ∷ [] = take_more c.args.turns.now c.turns.turn-index none c.turns-test.true in (
      subst (λ (turns : List CpuTurn). HasPassed (FailsAsWanted c.args.wanted.now) c.args.machine.now (events_of_turns turns) c.take_turn.new.machine) (sym more)
          (passed-turn (FailsAsWanted c.args.wanted.now) c.args.machine.now c.turns.machine c.take_turn.new.machine front turn c.turns.invariant.0 c.in-None.ensures.passes),
      (λ first h. c.take_turn.ensures.replays first (c.turns.invariant.1 first h)),
    )
