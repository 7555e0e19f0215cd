use Rattle.std.proofs.Common.{◌≡◌, ◌+◌, ◌-◌, ◌*◌, ◌∷◌, length, refl, ap, arith}
use Rattle.evm_model.specs.Bounds.{COUNT_LIMIT}
use Rattle.evm_model.specs.Settle.{play_oob_lines}
use Rattle.law_rules.proofs.Counted.{PipesUpTo-more}
use Rattle.law_rules.proofs.Counting.{play_oob-up}
use Rattle.evm_settle.proofs.playing.play_oob_lines.Goals as goal

pub playing-init : goal.playing-init
playing-init c = record { rest = refl; few = c.requires.few; room = PipesUpTo-more _ _ _ (omega arith) c.requires.room; stamps = omega (arith, c.requires.stamps, c.requires.few); clock = c.requires.clock; notices = omega (arith, c.requires.few, c.requires.notices) }

pub play_oob-requires-clause-room : goal.play_oob-requires-clause-room
play_oob-requires-clause-room c = let shorter = ap length c.in-Some.ensures.least in PipesUpTo-more _ _ _ (omega arith) c.playing.invariant.room

pub play_oob-requires-clause-stamps : goal.play_oob-requires-clause-stamps
play_oob-requires-clause-stamps c = let shorter = ap length c.in-Some.ensures.least in omega (arith, shorter, c.requires.stamps, c.playing.invariant.stamps)

pub play_oob-requires-clause-notices : goal.play_oob-requires-clause-notices
play_oob-requires-clause-notices c = omega (arith, c.playing.invariant.notices)

pub playing-preserved : goal.playing-preserved
unfolding play_oob_lines
playing-preserved c =
    let cut : c.playing.left ≡ c.in-Some.line ∷ c.pop.new.self = c.in-Some.ensures.least in
    let shorter = ap length cut in
    record {
      rest = rw c.play_oob.ensures.row (rw cut at c.playing.invariant.rest);
      few = omega (arith, c.playing.invariant.few);
      room = rw c.play_oob.ensures.row (PipesUpTo-more (COUNT_LIMIT - 2 * length c.playing.left + 2) _ _ (omega (arith, shorter, c.playing.invariant.few)) (play_oob-up _ c.args.was c.args.c c.in-Some.line c.playing.parts c.playing.invariant.room));
      stamps = omega (arith, shorter, c.playing.invariant.few, c.playing.invariant.stamps, c.play_oob.ensures.stamps);
      clock = omega (arith, c.playing.invariant.clock, c.play_oob.ensures.clock);
      notices = omega (arith, shorter, c.playing.invariant.notices, c.play_oob.ensures.notices);
    }
