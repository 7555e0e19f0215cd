use Rattle.claims_machine.proofs.Settled.{settled, none-ready}
use Rattle.claims_machine.proofs.rules.a_processor_runs_its_best_task.Goals as goal

pub returns-clause-best : goal.returns-clause-best
returns-clause-best g boot s c t pipe p reached e f u v b = (settled g.rules_hold.ensures.booted g.rules_hold.ensures.loaded boot s c pipe p reached e f).runs_best u v t b

pub returns-clause-none_ready : goal.returns-clause-none_ready
returns-clause-none_ready g boot s c pipe p reached e f u v m =
    none-ready c pipe p s.board.parts.mutexes s.board.parts.tasks (settled g.rules_hold.ensures.booted g.rules_hold.ensures.loaded boot s c pipe p reached e f) u v m

pub returns-clause-in_band : goal.returns-clause-in_band
returns-clause-in_band g boot s c pipe p reached e f m = (settled g.rules_hold.ensures.booted g.rules_hold.ensures.loaded boot s c pipe p reached e f).runs_in_band m
