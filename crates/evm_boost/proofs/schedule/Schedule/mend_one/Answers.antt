use Rattle.std.proofs.Common.{◌∙◌, sym, ap, arith}
use Rattle.evm_boost.proofs.Lending.{lent-is}
use Rattle.evm_boost.proofs.Settled.{settled-beyond, settled-here, settled-on, settled-to_none}
use Rattle.evm_boost.specs.Scheduled.{Scheduled}
use Rattle.evm_ready.specs.ListedRanks.{listed_rank}
use Rattle.evm_boost.proofs.schedule.Schedule.mend_one.Goals as goal

pub returns-then-t-count-clause-settled : goal.returns-then-t-count-clause-settled
returns-then-t-count-clause-settled c rest is = settled-to_none rest _ _ _ (settled-beyond rest _ _ _ c.args.t (omega (arith, c.if-t-count.true, c.count.ensures.count)) is)

pub returns-then-rank-clause-settled : goal.returns-then-rank-clause-settled
returns-then-rank-clause-settled c rest is =
    settled-to_none rest _ _ _
    (settled-here rest _ _ _ c.args.t
    (ap (λ (s : Scheduled). listed_rank s.ranks c.args.t) (sym c.self.view_is) ∙ sym c.rank.ensures ∙ sym c.if-rank.true ∙ c.rank_now-rank.ensures ∙ lent-is _ _ _ c.args.t is.entered) is)

pub returns-clause-settled : goal.returns-clause-settled
returns-clause-settled c rest is =
    rw c.boosts.ensures
    (settled-on rest _ _ _ _ c.args.t c.rank_now-rank.result (omega (arith, c.if-t-count.false, c.count.ensures.count))
    (c.rank_now-rank.ensures ∙ lent-is _ _ _ c.args.t is.entered)
    c.set_rank.ensures.places c.set_rank.ensures.waiters c.set_rank.ensures.ranks c.set_rank.ensures.sound is)
