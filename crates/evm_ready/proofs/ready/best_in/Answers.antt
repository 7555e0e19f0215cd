use Rattle.std.proofs.Common.{sym, arith}
use Rattle.evm_ready.proofs.Queued_first.{best-none, best-some}
use Rattle.evm_ready.proofs.ready.best_in.Goals as goal

pub returns-then-q-c : goal.returns-then-q-c
returns-then-q-c c = λ places ranks e is.
    best-some places ranks c.args.c c.in-Some.q c.head.result e (omega (arith, c.in-Some.ensures.above)) c.if-q-c.true
    (λ p t above below. rw (← is) (c.in-Some.ensures.least p t (omega arith) below)) (rw (← is) c.in-Some.ensures.used) (rw (← is) (sym c.head.ensures))

pub returns-else-q-c : goal.returns-else-q-c
returns-else-q-c c = λ places ranks e is.
    best-none places ranks c.args.c e (λ p t above below. rw (← is) (c.in-Some.ensures.least p t (omega arith) (omega (arith, c.if-q-c.false))))

pub returns-in_default : goal.returns-in_default
returns-in_default c = λ places ranks e is.
    best-none places ranks c.args.c e (λ p t above below. rw (← is) (c.in_default.ensures.none p t (omega arith) (omega arith)))
