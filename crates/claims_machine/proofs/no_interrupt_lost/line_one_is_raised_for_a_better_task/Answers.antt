use Rattle.claims_machine.proofs.no_interrupt_lost.line_one_is_raised_for_a_better_task.Goals as goal

pub returns-clause-booted : goal.returns-clause-booted
returns-clause-booted c devices boot events d pipe n are fits here there = c.line_one_is_raised.ensures.booted devices boot are fits events d pipe n here there

pub returns-clause-loaded : goal.returns-clause-loaded
returns-clause-loaded c devices boot byte entry events d pipe n are fits multiple here there = c.line_one_is_raised.ensures.loaded devices byte entry boot are fits multiple events d pipe n here there
