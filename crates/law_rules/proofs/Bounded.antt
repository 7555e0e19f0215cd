-- Settling and nudging keep pipes, and add little to a count.
use Rattle.std.proofs.Common.{◌≡◌, ℕ, ◌+◌, ◌*◌, ◌≤◌, List, Bool, true, false, not, ◌&&◌, Option, Some, None, refl, sym, ◌∙◌, arith}
use Rattle.std.specs.Prelude.{replicate, slice_get, ◌==◌, if◌then◌else◌}
use Rattle.evm_lines.specs.declared.TheConstants.{LINES}
use Rattle.evm_model.specs.Actions.{action_at, receive_line}
use Rattle.evm_model.specs.Bounds.{PipeUpTo}
use Rattle.evm_model.specs.Good.{IsPipe}
use Rattle.evm_model.specs.Pipes.{Pipe, raise, receive, stage_of, set_stall, idle_pipe, no_counts}
use Rattle.evm_model.specs.Settle.{current, is_oob, differs, play_oob_lines, run_best, settle_oob_pipe, settle_oob, settle_in_band, settle, nudge, settle_and_nudge}
use Rattle.evm_model.specs.State.{Parts, on_pipe, on_watch}
use Rattle.evm_model.specs.Watch.{rest_watch}
use Rattle.evm_model.specs.declared.stage.Stage.{Stage}
use Rattle.evm_model.proofs.Lists.{slice_get-replicate}
use Rattle.law_rules.proofs.Counted.{PipesUpTo-more, walk_counted}
use Rattle.law_rules.proofs.PlayingWalks.{OOB_STAMPS, unnoted}
use Rattle.law_rules.proofs.RowWalks.{IN_BAND_STAMPS, settles_oob, settles_in_band, nudges}
use Rattle.law_rules.proofs.Sets.{IsPipe-raise, IsPipe-receive, IsPipe-idle, walk_pipes}
use Rattle.law_rules.proofs.Tasks.{stalls_stage}
use Rattle.law_rules.proofs.Walk.{Actor, ArePipes as AllPipes, Walk, start}
pub use Rattle.law_rules.specs.Within.{EachIsPipe, AreWithin}
use Rattle.law_rules.proofs.Playing.{play_oob_lines-pipes}
use Rattle.law_rules.proofs.Counting.{each-change, on_raise-up, on_receive-up}

pub are-change : (c : ℕ) (f : Pipe → Pipe) (k : Parts) → ((p : Pipe) → IsPipe p → IsPipe (f p)) → EachIsPipe k.pipes → EachIsPipe (on_pipe c f k).pipes
are-change c f k here h = each-change IsPipe IsPipe f k.pipes c (λ p s. s) (λ p e. here p) h

-- ---- pipes whose counts are within a bound
pub within-more : (a b : ℕ) (k : Parts) → a ≤ b → AreWithin a k → AreWithin b k
within-more a b k h w = record { are = w.are; up = PipesUpTo-more a b k.pipes h w.up }

-- ---- a walk
are-walk : (a : Actor) (n s : ℕ) (k new : Parts) → Walk a k n s new → EachIsPipe k.pipes → EachIsPipe new.pipes
are-walk a n s k new w h = let are : AllPipes k = record { each = h } in (walk_pipes a k n s new w are).each

pub within-walk : (a : Actor) (n s b : ℕ) (k new : Parts) → Walk a k n s new → AreWithin b k → AreWithin (b + n) new
within-walk a n s b k new w h = let are : AllPipes k = record { each = h.are } in record { are = are-walk a n s k new w h.are; up = walk_counted a k n s b new w are h.up }

-- a processor that settles, and tells the others
abbrev settler : ℕ → Actor
settler c = record { cpu = c; task = None; may = λ d l. l == 1; chooses = true; calls = false; faults = false }

-- of the task that is current
oob-walk : (c : ℕ) (k : Parts) → Walk (settler c) k LINES OOB_STAMPS (settle_oob (current c k) c k)
oob-walk c k = settles_oob (settler c) k refl (current c k) 0 0 k refl (λ calm. unnoted refl) start

-- whose slice is taken changes no pipe
oob-pipes_if : (was : Option ℕ) (c : ℕ) (stalled : Bool) (lines : List ℕ) (k : Parts)
    → (if stalled then k else run_best c (play_oob_lines was c lines k)).pipes ≡ (if stalled then k else run_best c (play_oob_lines (current c k) c lines k)).pipes
oob-pipes_if was c true lines k = refl
oob-pipes_if was c false lines k = play_oob_lines-pipes was c lines k ∙ sym (play_oob_lines-pipes (current c k) c lines k)

oob-pipes_of : (was : Option ℕ) (c : ℕ) (o : Option Pipe) (k : Parts) → (settle_oob_pipe o was c k).pipes ≡ (settle_oob_pipe o (current c k) c k).pipes
oob-pipes_of was c None k = refl
oob-pipes_of was c (Some pipe) k = oob-pipes_if was c pipe.oob.stalled pipe.oob.lines k

oob-pipes : (was : Option ℕ) (c : ℕ) (k : Parts) → (settle_oob was c k).pipes ≡ (settle_oob (current c k) c k).pipes
unfolding settle_oob
oob-pipes was c k = oob-pipes_of was c (slice_get k.pipes c) k

in_band-walk : (c : ℕ) (k : Parts) → Walk (settler c) k LINES IN_BAND_STAMPS (settle_in_band c k)
in_band-walk c k = settles_in_band (settler c) k refl 0 0 k start

nudge-walk : (c : ℕ) (k : Parts) → Walk (settler c) k 1 0 (nudge c k)
nudge-walk c k = nudges (settler c) k 0 0 k (λ d. refl) start

pub are-settle_oob : (was : Option ℕ) (c : ℕ) (k : Parts) → EachIsPipe k.pipes → EachIsPipe (settle_oob was c k).pipes
are-settle_oob was c k h = rw (oob-pipes was c k) (are-walk (settler c) LINES OOB_STAMPS k _ (oob-walk c k) h)

pub are-settle_in_band : (c : ℕ) (k : Parts) → EachIsPipe k.pipes → EachIsPipe (settle_in_band c k).pipes
are-settle_in_band c k h = are-walk (settler c) LINES IN_BAND_STAMPS k _ (in_band-walk c k) h

pub are-nudge : (c : ℕ) (k : Parts) → EachIsPipe k.pipes → EachIsPipe (nudge c k).pipes
are-nudge c k h = are-walk (settler c) 1 0 k _ (nudge-walk c k) h

pub within-settle_oob : (b : ℕ) (was : Option ℕ) (c : ℕ) (k : Parts) → AreWithin b k → AreWithin (b + LINES) (settle_oob was c k)
within-settle_oob b was c k w =
    let x : AreWithin (b + LINES) (settle_oob (current c k) c k) = within-walk (settler c) LINES OOB_STAMPS b k _ (oob-walk c k) w in
    record { are = rw (oob-pipes was c k) x.are; up = rw (oob-pipes was c k) x.up }

pub within-settle_in_band : (b c : ℕ) (k : Parts) → AreWithin b k → AreWithin (b + LINES) (settle_in_band c k)
within-settle_in_band b c k w = within-walk (settler c) LINES IN_BAND_STAMPS b k _ (in_band-walk c k) w

-- what the watchdog counts changes no pipe
rest-if : (b on : Bool) (n c : ℕ) (k : Parts) → AreWithin n k → AreWithin n (if b && not on then k else on_watch c (λ m. 0) k)
rest-if true false n c k w = w
rest-if true true n c k w = record { are = w.are; up = w.up }
rest-if false on n c k w = record { are = w.are; up = w.up }

within-rest : (n : ℕ) (was : Option ℕ) (c : ℕ) (k : Parts) → AreWithin n k → AreWithin n (rest_watch was c k)
unfolding rest_watch
within-rest n was c k w = rest-if (is_oob (current c k) k.tasks) (differs (current c k) was) n c k w

pub within-settle_and_nudge : (b : ℕ) (was : Option ℕ) (c : ℕ) (k : Parts) → AreWithin b k → AreWithin (b + 2 * LINES + 1) (settle_and_nudge was c k)
unfolding settle_and_nudge settle
within-settle_and_nudge b was c k w =
    let x : AreWithin (b + LINES + LINES) (settle_in_band c (settle_oob was c k)) = within-settle_in_band (b + LINES) c (settle_oob was c k) (within-settle_oob b was c k w) in
    let y : AreWithin (b + LINES + LINES) (settle was c k) = within-rest (b + LINES + LINES) was c (settle_in_band c (settle_oob was c k)) x in
    within-more (b + LINES + LINES + 1) (b + 2 * LINES + 1) _ (omega arith) (within-walk (settler c) 1 0 (b + LINES + LINES) (settle was c k) _ (nudge-walk c _) y)

-- ---- one change
pub within-raise : (b c l : ℕ) (k : Parts) → AreWithin b k → AreWithin (b + 1) (on_pipe c (raise l) k)
within-raise b c l k w = record { are = are-change c (raise l) k (IsPipe-raise l) w.are; up = on_raise-up b c l k w.up }

pub within-receive : (b c : ℕ) (stage : Stage) (l : ℕ) (k : Parts) → AreWithin b k → AreWithin (b + 2) (on_pipe c (receive stage l) k)
within-receive b c stage l k w = record {
  are = are-change c (receive stage l) k (IsPipe-receive stage l) w.are;
  up = PipesUpTo-more (b + 1) (b + 2) _ (omega arith) (on_receive-up b c stage l k w.up);
}

-- .. by the stage that its action says
pub within-receive_line : (b c l : ℕ) (k : Parts) → AreWithin b k → AreWithin (b + 2) (receive_line c l k)
unfolding receive_line
within-receive_line b c l k w = within-receive b c (stage_of (action_at l k) l) l k w

pub within-stall : (b c : ℕ) (stage : Stage) (on : Bool) (k : Parts) → AreWithin b k → AreWithin b (on_pipe c (set_stall stage on) k)
within-stall b c stage on k w = within-more (b + 0) b _ (omega arith) (within-walk (settler c) 0 0 b k _ (stalls_stage (settler c) k 0 0 k start stage on) w)

-- ---- nothing has been counted
idle-up : PipeUpTo 0 idle_pipe
idle-up = record {
  lines = λ l n e. rw (slice_get-replicate LINES no_counts l n e) (record {
    raised = omega arith;
    merged = omega arith;
    received = omega arith;
    oob = record { arrivals = omega arith; merged = omega arith; played = omega arith };
    in_band = record { arrivals = omega arith; merged = omega arith; played = omega arith };
  });
}

pub within-idle : (n : ℕ) (k : Parts) → k.pipes ≡ replicate n idle_pipe → AreWithin 0 k
within-idle n k e = record {
  are = λ c p f. rw (slice_get-replicate n idle_pipe c p (rw (← e) f)) IsPipe-idle;
  up = record { each = λ c p f. rw (slice_get-replicate n idle_pipe c p (rw (← e) f)) idle-up };
}
