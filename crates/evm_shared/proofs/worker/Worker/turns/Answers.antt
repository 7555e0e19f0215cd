use Rattle.std.proofs.Common.{◌∙◌, arith}
use Rattle.evm_shared.proofs.Turns.{run_stops, turns_more}
use Rattle.evm_shared.proofs.worker.Worker.turns.Goals as goal

pub loop-turn-preserved : goal.loop-turn-preserved
loop-turn-preserved g c =
    let i = c.loop-turn.invariant in
    let same = c.turn.ensures.same in record {
      cpu = same.0 ∙ i.cpu;
      bells = same.1 ∙ i.bells;
      unrefused = same.2 ∙ i.unrefused;
      made = turns_more g.O.Origin.machine c.args.bells.now.cpus c.loop-turn.turn c.args.self.now c.loop-turn.self c.turn.new.self i.made c.in_default.ensures.made;
      steps = omega (arith, i.steps, c.in_default.ensures.steps);
    }

pub returns-in-Err : goal.returns-in-Err
returns-in-Err g c =
    let i = c.loop-turn.invariant in
    let same = c.turn.ensures.same in
    run_stops g.O.Origin.machine c.args.bells.now.cpus c.args.turns c.loop-turn.turn c.args.self.now c.loop-turn.self c.turn.new.self c.stop.new.self c.in-Err.why i.cpu i.bells same.0 same.1
    c.loop-turn-test.true i.made i.steps c.in-Err.ensures.refused c.in-Err.ensures.reason c.stop.ensures
