use Rattle.std.proofs.Common.{arith}
use Rattle.claims_machine.specs.Raising.{raises}
use Rattle.claims_threads.proofs.Bells.{by_cause, split_events}
use Rattle.claims_threads.specs.Lines.{raises_otherwise, rings}
use Rattle.claims_threads.proofs.stages.each_bell_comes_to_a_stage.Goals as goal

pub returns : goal.returns
returns c boot s p l pipe n ran low off here there =
    let raised = c.raised_as_often_as_the_journal_says.ensures.ran boot s p l pipe n ran (λ e. omega (arith, e, low)) off here there in
    let split = split_events (raises p l) (rings p l) (raises_otherwise p l) (by_cause p l) s.journal in
    let wire = c.no_line_is_lost_on_its_wire.ensures.ran boot s p l pipe n ran here there in
    let oob = c.no_line_is_lost_in_a_stage.ensures.out_of_band boot s p l pipe n ran here there in
    let in_band = c.no_line_is_lost_in_a_stage.ensures.in_band boot s p l pipe n ran here there in
    let stages = c.what_is_received_comes_to_a_stage.ensures.others boot s p l pipe n ran low here there in
    omega (arith, raised, split, wire, oob, in_band, stages)
