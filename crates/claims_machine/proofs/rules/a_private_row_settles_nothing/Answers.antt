use Rattle.claims_machine.proofs.Reached.{good}
use Rattle.claims_machine.proofs.Settled.{clear}
use Rattle.claims_machine.proofs.rules.a_private_row_settles_nothing.Goals as goal

pub returns-clause-registers : goal.returns-clause-registers
returns-clause-registers g boot s c t pipe p harts reached e f w r =
    g.rows_settle_nothing.ensures.registers c t s.board.parts harts (good g.rules_hold.ensures.booted g.rules_hold.ensures.loaded boot s reached).good (clear c t s.board.parts pipe p e f w r)

pub returns-clause-stops : goal.returns-clause-stops
returns-clause-stops g boot s c t pipe p harts reached e f w r =
    g.rows_settle_nothing.ensures.stops c t s.board.parts harts (good g.rules_hold.ensures.booted g.rules_hold.ensures.loaded boot s reached).good (clear c t s.board.parts pipe p e f w r)

pub returns-clause-passes : goal.returns-clause-passes
returns-clause-passes g boot s c t pipe p harts reached e f w r =
    g.rows_settle_nothing.ensures.passes c t s.board.parts harts (good g.rules_hold.ensures.booted g.rules_hold.ensures.loaded boot s reached).good (clear c t s.board.parts pipe p e f w r)
