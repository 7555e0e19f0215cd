-- Each move keeps a pipe's wire and logs sets of lines, and its counts as many.
use Rattle.std.proofs.Common.{◌≡◌, ℕ, ◌≤◌, List, Bool, length, filter, refl, ap, ◌∙◌, arith}
use Rattle.std.proofs.lemmas.List.Sums.{length-filter, count_by-le-length}
use Rattle.std.proofs.lemmas.List.FromFn.{length-range_with_len}
use Rattle.evm_lines.specs.Lines.{all_lines, has_line, IsLineSet}
use Rattle.evm_lines.specs.Laws.{IsLineSet-with, IsLineSet-without, IsLineSet-empty}
use Rattle.evm_lines.specs.declared.TheConstants.{LINES}
use Rattle.evm_model.specs.Good.{IsPipe}
use Rattle.evm_model.specs.Pipes.{Pipe, raise, arrive, leave_wire, receive, play, set_stall, idle_pipe}
use Rattle.evm_model.specs.State.{Parts}
use Rattle.evm_model.specs.declared.stage.Stage.{Stage}
use Rattle.evm_model.specs.declared.stage.Stage.TheVariants.{OutOfBand, InBand}
use Rattle.evm_model.proofs.Lists.{length-change}
use Rattle.law_rules.proofs.Lift.{lift}
use Rattle.law_rules.proofs.Walk.{Actor, PipeMove, raises, receives, plays_timer, plays_oob, plays_in_band, stalls, ArePipes, Walk}

-- a set has as many members at most as there are lines
pub length-set : (set : List ℕ) → IsLineSet set → length set ≤ LINES
unfolding all_lines
length-set set s =
    let same : length set ≡ length (filter (has_line set) all_lines) = ap length s.members in
    omega (arith, length-filter (has_line set) all_lines, count_by-le-length (has_line set) all_lines, length-range_with_len 0 LINES)

pub IsPipe-raise : (l : ℕ) (p : Pipe) → IsPipe p → IsPipe (raise l p)
unfolding raise
IsPipe-raise l p s = record { wire = IsLineSet-with p.wire l; oob = s.oob; in_band = s.in_band; counts = length-change _ p.counts l ∙ s.counts }

pub IsPipe-leave : (l : ℕ) (p : Pipe) → IsPipe p → IsPipe (leave_wire l p)
unfolding leave_wire
IsPipe-leave l p s = record { wire = IsLineSet-without p.wire l; oob = s.oob; in_band = s.in_band; counts = length-change _ p.counts l ∙ s.counts }

pub IsPipe-arrive : (stage : Stage) (l : ℕ) (p : Pipe) → IsPipe p → IsPipe (arrive stage l p)
unfolding arrive
IsPipe-arrive OutOfBand l p s = record { wire = s.wire; oob = IsLineSet-with p.oob.lines l; in_band = s.in_band; counts = length-change _ p.counts l ∙ s.counts }
IsPipe-arrive InBand l p s = record { wire = s.wire; oob = s.oob; in_band = IsLineSet-with p.in_band.lines l; counts = length-change _ p.counts l ∙ s.counts }

pub IsPipe-play : (stage : Stage) (l : ℕ) (p : Pipe) → IsPipe p → IsPipe (play stage l p)
unfolding play
IsPipe-play OutOfBand l p s = record { wire = s.wire; oob = IsLineSet-without p.oob.lines l; in_band = s.in_band; counts = length-change _ p.counts l ∙ s.counts }
IsPipe-play InBand l p s = record { wire = s.wire; oob = s.oob; in_band = IsLineSet-without p.in_band.lines l; counts = length-change _ p.counts l ∙ s.counts }

pub IsPipe-stall : (stage : Stage) (b : Bool) (p : Pipe) → IsPipe p → IsPipe (set_stall stage b p)
unfolding set_stall
IsPipe-stall OutOfBand b p s = record { wire = s.wire; oob = s.oob; in_band = s.in_band; counts = s.counts }
IsPipe-stall InBand b p s = record { wire = s.wire; oob = s.oob; in_band = s.in_band; counts = s.counts }

pub IsPipe-receive : (stage : Stage) (l : ℕ) (p : Pipe) → IsPipe p → IsPipe (receive stage l p)
unfolding receive
IsPipe-receive stage l p h = IsPipe-arrive stage l (leave_wire l p) (IsPipe-leave l p h)

pub IsPipe-idle : IsPipe idle_pipe
IsPipe-idle = record { wire = IsLineSet-empty; oob = IsLineSet-empty; in_band = IsLineSet-empty; counts = refl }

pub move_kept : (may : ℕ → Bool) (n : ℕ) (p q : Pipe) → PipeMove may n p q → IsPipe p → IsPipe q
move_kept may _ _ _ (raises l p h on) s = IsPipe-raise l p s
move_kept may _ _ _ (receives stage l p fixed h) s = IsPipe-receive stage l p s
move_kept may _ _ _ (plays_timer p h) s = IsPipe-arrive InBand 0 (play OutOfBand 0 p) (IsPipe-play OutOfBand 0 p s)
move_kept may _ _ _ (plays_oob l p other h) s = IsPipe-play OutOfBand l p s
move_kept may _ _ _ (plays_in_band l p h) s = IsPipe-play InBand l p s
move_kept may _ _ _ (stalls stage b p) s = IsPipe-stall stage b p s

-- ---- all pipes
pub walk_pipes : (a : Actor) (old : Parts) (n s : ℕ) (k : Parts) → Walk a old n s k → ArePipes old → ArePipes k
walk_pipes a old n s k w are =
    let P : ℕ → Pipe → Type 0 = λ b p. IsPipe p in
    record { each = λ d p e. (lift a old P d (record { more = λ b m q h g. g; moved = λ b m p q. move_kept (a.may d) m p q }) are n s 0 k w (record { holds = are.each d })).holds p e }
