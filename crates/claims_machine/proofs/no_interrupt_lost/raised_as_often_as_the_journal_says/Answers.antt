use Rattle.law_runs.specs.Balance.{Balance}
use Rattle.claims_machine.proofs.Lines.{is_none}
use Rattle.claims_machine.proofs.Reached.{ran}
use Rattle.claims_machine.proofs.no_interrupt_lost.raised_as_often_as_the_journal_says.Goals as goal

pub returns-clause-ran : goal.returns-clause-ran
returns-clause-ran c boot s p l pipe n r other off here there =
    (ran Balance boot s r (c.balance_holds.ensures.booted r.devices boot) (λ byte entry. c.balance_holds.ensures.loaded r.devices byte entry boot)).raised p l pipe n here there other (is_none p l s.board.memory.devices off)

pub returns-clause-fresh : goal.returns-clause-fresh
returns-clause-fresh c s events p l pipe n other idle off here there =
    (c.balance_holds.ensures.fresh s (record { journal = idle.journal; pipes = idle.pipes }) events).raised p l pipe n here there other (is_none p l _ off)
