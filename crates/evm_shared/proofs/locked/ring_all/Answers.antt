use Rattle.std.proofs.Common.{ap, arith, length, length-append}
use Rattle.evm_core.proofs.Outcomes.{bell_refusals}
use Rattle.evm_model.specs.declared.boot.Boot.{Boot}
use Rattle.evm_shared.specs.Receipts.{bells_below}
use Rattle.evm_shared.proofs.Bells.{few_bells}
use Rattle.evm_shared.proofs.Locks.{is_line, rung_none, rung_more, rung_same}
use Rattle.evm_shared.proofs.locked.ring_all.Goals.{then-word-line-eq1+in-Ok, else-word-line-eq1}
use Rattle.evm_shared.proofs.locked.ring_all.Goals as goal

pub loop-line-init : goal.loop-line-init
loop-line-init g c = rung_none c.args.cpu c.args.word c.args.machine.now

pub overflow_add-count : goal.overflow_add-count
overflow_add-count g c = omega (arith, c.loop-line.invariant.counted, few_bells c.args.cpu c.args.word c.loop-line.line)

pub unreachable-requires : goal.unreachable-requires
unreachable-requires g c =
    let h = c.loop-line.invariant in
    let full = bell_refusals c.loop-line.machine c.args.cpu c.loop-line.line c.in_default.field-0 c.in_default.ensures.err (omega (arith, h.processors, c.requires.cpu)) (is_line c.loop-line.machine c.loop-line.line c.rules.ensures.good (omega (arith, c.requires.profile, ap (λ (b : Boot). b.profile) h.capacity)) c.loop-line-test.true) in
    omega (arith, full.1, ap (λ (b : Boot). b.capacity) h.capacity, ap length h.journaled, c.requires.room, few_bells c.args.cpu c.args.word c.loop-line.line, length-append c.args.machine.now.journal (bells_below c.args.cpu c.args.word c.loop-line.line))

pub loop-line-preserved : goal.loop-line-preserved
loop-line-preserved g c = elim c.if-word-line-eq1.branch [
  | then-word-line-eq1+in-Ok w ↦
      rw (w.machine-is, w.count-is) (rung_more c.args.cpu c.args.word c.loop-line.line c.loop-line.count c.args.machine.now c.loop-line.machine w.apply.new.self w.if-word-line-eq1.true c.loop-line.invariant w.in-Ok.ensures.journaled w.in-Ok.ensures.booted w.in-Ok.ensures.processors w.in-Ok.ensures.replays)
  | else-word-line-eq1 w ↦
      rw (w.machine-is, w.count-is) (rung_same c.args.cpu c.args.word c.loop-line.line c.loop-line.count c.args.machine.now c.loop-line.machine w.if-word-line-eq1.false c.loop-line.invariant)
]
