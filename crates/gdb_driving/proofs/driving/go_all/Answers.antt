use Rattle.std.proofs.Common.{◌∙◌, arith}
use Rattle.gdb_driving.proofs.Kept.{keeps_more}
use Rattle.gdb_driving.proofs.Standing.{goes_next}
use Rattle.gdb_driving.proofs.driving.go_all.Goals as goal

pub loop-c-preserved : goal.loop-c-preserved
loop-c-preserved g c =
    let next = goes_next c.loop-c.c c.loop-c.machine c.go.new.machine (omega arith) c.in_ok-go.ensures.goes c.loop-c.invariant.below in
    record {
      kept = keeps_more c.args.machine.now c.loop-c.machine c.go.new.machine c.loop-c.invariant.kept c.go.ensures.kept;
      count = next.1 ∙ c.loop-c.invariant.count;
      below = next.0;
    }
