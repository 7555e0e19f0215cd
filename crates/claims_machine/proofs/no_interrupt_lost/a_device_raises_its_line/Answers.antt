use Rattle.claims_machine.proofs.no_interrupt_lost.a_device_raises_its_line.Goals as goal

pub returns-clause-booted : goal.returns-clause-booted
returns-clause-booted c devices boot events p l pipe n other here there = c.balance_holds.ensures.raised devices boot events p l pipe n here there other

pub returns-clause-loaded : goal.returns-clause-loaded
returns-clause-loaded c devices byte entry boot events p l pipe n other here there = c.balance_holds.ensures.raised_loaded devices byte entry boot events p l pipe n here there other

pub returns-clause-fresh : goal.returns-clause-fresh
returns-clause-fresh c s events p l pipe n other idle here there = c.balance_holds.ensures.raised_fresh s (record { journal = idle.journal; pipes = idle.pipes }) events p l pipe n here there other
