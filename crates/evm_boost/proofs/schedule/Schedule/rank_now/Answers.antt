use Rattle.std.proofs.Common.{◌∙◌, ap, refl, sym}
use Rattle.evm_boost.proofs.Owning.{greatest-end, greatest-set, greatest-step}
use Rattle.evm_boost.specs.Lent.{lent_rank}
use Rattle.evm_boost.specs.Owning.{greatest_of}
use Rattle.evm_model.specs.Boosts.{greater}
use Rattle.evm_boost.proofs.schedule.Schedule.rank_now.Goals as goal

pub lending-init : goal.lending-init
lending-init c = rw (c.class_rank_at-rank.ensures, c.owned-left.ensures.owned) refl

pub lending-preserved : goal.lending-preserved
lending-preserved c =
    let lends = lent_rank c.args.self.now c.args.mutexes.now in
    ap (λ r. greatest_of lends r c.pop.new.self) (c.greater-rank.ensures ∙ ap (greater c.lending.rank) c.lent_rank.ensures)
    ∙ sym (greatest-step lends c.lending.rank c.in-Some.m c.pop.new.self)
    ∙ ap (greatest_of lends c.lending.rank) (sym c.in-Some.ensures.least)
    ∙ c.lending.invariant

pub returns : goal.returns
returns c =
    let lends = lent_rank c.args.self.now c.args.mutexes.now in
    sym (greatest-end lends c.lending.rank)
    ∙ ap (greatest_of lends c.lending.rank) (sym c.in_default.ensures.least.0)
    ∙ c.lending.invariant
    ∙ greatest-set c.args.mutexes.now lends c.args.t _ _ c.owned-left.ensures.few refl
