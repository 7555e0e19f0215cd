use Rattle.std.proofs.Common.{arith}
use Rattle.evm_shared.specs.EventCounts.{event_total}
use Rattle.claims_threads.proofs.Bells.{first_and_others}
use Rattle.claims_threads.specs.Lines.{rings}
use Rattle.claims_threads.proofs.stages.each_ring_comes_to_a_stage.Goals as goal

pub returns-clause-lines : goal.returns-clause-lines
returns-clause-lines g c boot p l pipe n none kept holds told ran low off here there =
    omega (arith, c.in-Some.ensures.lines p l none kept holds told, c.each_bell_comes_to_a_stage.ensures boot c.in-Some.done.machine p l pipe n ran low off here there)

pub returns-clause-since : goal.returns-clause-since
returns-clause-since g c boot p l pipe n late kept holds told ran low off here there =
    let s = c.in-Some.done.machine in
    let both = first_and_others (rings p l) (event_total g.O.Origin.base) s.journal in
    omega (arith, both, c.in-Some.ensures.since p l late kept holds told, c.each_bell_comes_to_a_stage.ensures boot s p l pipe n ran low off here there)
