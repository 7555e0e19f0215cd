use Rattle.std.proofs.Common.{◌≡◌, ℕ, ◌+◌, ◌<◌, ◌^◌, get_or, length}
use Rattle.view_timeline.specs.declared.cells.TheConstants.{LANE_LIMIT}
use Rattle.view_timeline.proofs.cells.summed.Given as goal

-- the sums of the lanes so far
abbrev pub invariant-loop-i : goal.invariant-loop-i
invariant-loop-i l =
    (length l.shares ≡ LANE_LIMIT)
    × ((lane : ℕ) → lane < l.i → get_or l.fn.one lane 0 + get_or l.fn.two lane 0 < 2 ^ 64 → get_or l.shares lane 0 ≡ get_or l.fn.one lane 0 + get_or l.fn.two lane 0)
