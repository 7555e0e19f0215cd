use Rattle.std.proofs.Common.{◌∙◌, refl, arith}
use Rattle.evm_boost.proofs.Settled.{settled-at, settled-none, settled-over}
use Rattle.evm_model.proofs.Mending.{walk-none, walk-more}
use Rattle.evm_boost.proofs.schedule.Schedule.walk_from.Goals as goal

pub loop-link-init : goal.loop-link-init
loop-link-init c = record {
  settled = λ rest is. is;
  way = λ u e. walk-none _ _ ∙ e;
  sound = refl;
}

pub loop-link-preserved : goal.loop-link-preserved
loop-link-preserved c = record {
  settled = λ rest is. c.mend_one-at.ensures.settled rest (settled-at rest _ _ _ _ _ c.in-Some.is (c.loop-link.invariant.settled rest is));
  way = λ u e. walk-more _ c.loop-link.link _ _ (c.loop-link.invariant.way _ c.in-Some.is) ∙ c.mend_one-at.ensures.next u e;
  sound = c.mend_one-at.ensures.sound ∙ c.loop-link.invariant.sound;
}

pub returns-in_default-clause-settled : goal.returns-in_default-clause-settled
returns-in_default-clause-settled c rest is = settled-none rest _ _ _ (settled-at rest _ _ _ _ _ c.in_default.is (c.loop-link.invariant.settled rest is))

pub returns-in_default-clause-sound : goal.returns-in_default-clause-sound
returns-in_default-clause-sound c = c.loop-link.invariant.sound

pub returns-clause-settled : goal.returns-clause-settled
returns-clause-settled c rest is =
    settled-over rest _ _ _ _ c.loop-link.link _ (omega (arith, c.loop-link-test.false)) (omega (arith, c.loop-link.auto.link-end)) c.loop-link.invariant.way (c.loop-link.invariant.settled rest is)

pub returns-clause-sound : goal.returns-clause-sound
returns-clause-sound c = c.loop-link.invariant.sound
