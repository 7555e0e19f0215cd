use Rattle.std.proofs.Common.{◌≡◌, ◌∙◌, refl, sym, ap, arith, length}
use Rattle.evm_boost.proofs.Fills.{filled-none, filled-next}
use Rattle.evm_boost.proofs.Raising.{filled-are, length-filled}
use Rattle.evm_boost.proofs.schedule.Schedule.reckon.Goals as goal

pub loop-t-init : goal.loop-t-init
loop-t-init c = record { places = refl; waiters = refl; ranks = sym (filled-none _ _); sound = refl }

pub loop-t-preserved : goal.loop-t-preserved
loop-t-preserved c = record {
  places = c.set_rank.ensures.places ∙ c.loop-t.invariant.places;
  waiters = c.set_rank.ensures.waiters ∙ c.loop-t.invariant.waiters;
  ranks = filled-next _ _ _ _ c.loop-t.t _ c.loop-t.invariant.ranks c.listed_rank.ensures c.set_rank.ensures.ranks;
  sound = c.set_rank.ensures.sound ∙ c.loop-t.invariant.sound;
}

pub returns : goal.returns
returns c =
    let all : c.loop-t.t ≡ length c.args.tasks.now = omega (arith, c.loop-t-test.false, c.loop-t.auto.t-end, c.count-t-end.ensures.count) in
    record {
      entered = record {
        places = c.loop-t.invariant.places ∙ c.requires.entered.places;
        waiters = c.loop-t.invariant.waiters ∙ c.requires.entered.waiters;
        count = ap length c.loop-t.invariant.ranks ∙ length-filled _ _ _ ∙ c.requires.entered.count;
      };
      ranks = filled-are _ _ _ _ _ _ c.requires.entered.count c.loop-t.invariant.ranks all c.ranks-ranks.ensures;
      sound = λ yes. let no = sym yes ∙ c.loop-t.invariant.sound ∙ c.requires.unsound in cc;
    }
