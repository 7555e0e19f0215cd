use Rattle.std.proofs.Common.{◌≡◌, ◌++◌, length, refl, sym, ap, subst, ◌∙◌, arith}
use Rattle.std.proofs.lemmas.List.{append-nil}
use Rattle.run_marks.specs.Lists.{below}
use Rattle.run_marks.specs.Marks.{processor_marks}
use Rattle.run_marks.specs.Tallies.{IsTallyUpTo}
use Rattle.run_marks.proofs.Following.{at_first, at_last}
use Rattle.run_marks.proofs.Lemmas.{below-none, stepped}
use Rattle.run_marks.proofs.marking.push_processors.Goals as goal

pub loop-cpu-init : goal.loop-cpu-init
loop-cpu-init g c =
    λ was is far. (
      sym (ap (λ l. c.args.marks.now.items ++ l) (below-none (processor_marks c.args.before.now c.args.after.now was c.args.machine.now.board.parts)) ∙ append-nil c.args.marks.now.items),
      at_first c.args.tally.now.rows was c.args.machine.now.board.parts is,
    )

pub loop-cpu-preserved : goal.loop-cpu-preserved
loop-cpu-preserved g c =
    λ was is far.
    let h = c.loop-cpu.invariant was is far in
    let r = c.in_ok-push_processor.ensures was h.1 far in (
      stepped (processor_marks c.args.before.now c.args.after.now was c.args.machine.now.board.parts) c.loop-cpu.cpu c.args.marks.now.items c.loop-cpu.marks.items
          c.push_processor.new.marks.items _ h.0 r.0 refl,
      r.1,
    )

pub returns : goal.returns
returns g c =
    λ was is far.
    let h = c.loop-cpu.invariant was is far in
    let last : c.loop-cpu.cpu ≡ c.args.after.now.cpu_count = omega (arith, c.loop-cpu-test.false, c.loop-cpu.auto.cpu-end) in
    let all : length c.args.machine.now.board.parts.pipes ≡ c.args.after.now.cpu_count = c.rules.ensures.good.good.pipes_count ∙ sym c.requires in (
      subst (λ n. c.loop-cpu.marks.items ≡ c.args.marks.now.items ++ below (processor_marks c.args.before.now c.args.after.now was c.args.machine.now.board.parts) n) last h.0,
      at_last c.args.after.now.cpu_count c.loop-cpu.tally.rows was c.args.machine.now.board.parts (subst (λ n. IsTallyUpTo n c.loop-cpu.tally.rows was c.args.machine.now.board.parts) last h.1) all,
    )
