use Rattle.std.proofs.Common.{◌≡◌, ◌+◌, ◌-◌, ◌∷◌, length, refl, ap, arith}
use Rattle.evm_model.specs.Bounds.{COUNT_LIMIT}
use Rattle.evm_model.specs.Settle.{play_in_band_lines}
use Rattle.law_rules.proofs.Counted.{PipesUpTo-more}
use Rattle.law_rules.proofs.Counting.{play_in_band-up}
use Rattle.evm_settle.proofs.playing.play_in_band_lines.Goals as goal

pub playing-init : goal.playing-init
playing-init c = record { rest = refl; few = c.requires.few; room = PipesUpTo-more _ _ _ (omega arith) c.requires.room; stamps = omega (arith, c.requires.stamps, c.requires.few) }

pub play_in_band-requires-clause-room : goal.play_in_band-requires-clause-room
play_in_band-requires-clause-room c = PipesUpTo-more _ _ _ (omega arith) c.playing.invariant.room

pub play_in_band-requires-clause-stamps : goal.play_in_band-requires-clause-stamps
play_in_band-requires-clause-stamps c = let shorter = ap length c.in-Some.ensures.least in omega (arith, c.playing.invariant.stamps)

pub playing-preserved : goal.playing-preserved
unfolding play_in_band_lines
playing-preserved c =
    let cut : c.playing.left ≡ c.in-Some.line ∷ c.pop.new.self = c.in-Some.ensures.least in
    let shorter = ap length cut in
    record {
      rest = rw c.play_in_band.ensures.row (rw cut at c.playing.invariant.rest);
      few = omega (arith, c.playing.invariant.few);
      room = rw c.play_in_band.ensures.row (PipesUpTo-more (COUNT_LIMIT - length c.playing.left + 1) _ _ (omega (arith, shorter, c.playing.invariant.few)) (play_in_band-up _ c.args.c c.in-Some.line c.playing.parts c.playing.invariant.room));
      stamps = omega (arith, c.playing.invariant.few, c.playing.invariant.stamps, c.play_in_band.ensures.stamps);
    }
