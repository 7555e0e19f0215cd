-- A move that counts n raises no count by more.
use Rattle.std.proofs.Common.{◌≡◌, ℕ, ◌+◌, ◌≤◌, List, Bool, true, false, Some, inl, inr, refl, ap, sym, ◌∙◌, arith}
use Rattle.std.specs.Prelude.{slice_get}
use Rattle.evm_lines.specs.Lines.{has_line}
use Rattle.evm_model.specs.Bounds.{PassageUpTo, UpTo, PipeUpTo, PipesUpTo}
use Rattle.evm_model.specs.Lists.{change}
use Rattle.evm_model.specs.Pipes.{Pipe, raise, arrive, leave_wire, receive, play, set_stall, log_of, more_if, on_passage, count_raise, count_receipt, count_arrival, count_play}
use Rattle.evm_model.specs.State.{Parts}
use Rattle.evm_model.specs.declared.counts.Counts.{Counts}
use Rattle.evm_model.specs.declared.counts.Passage.{Passage}
use Rattle.evm_model.specs.declared.stage.Stage.{Stage}
use Rattle.evm_model.specs.declared.stage.Stage.TheVariants.{OutOfBand, InBand}
use Rattle.evm_model.proofs.Lists.{change-cases}
use Rattle.law_rules.proofs.Lift.{lift}
use Rattle.law_rules.proofs.Twice.{change-twice}
use Rattle.law_rules.proofs.Walk.{Actor, PipeMove, raises, receives, plays_timer, plays_oob, plays_in_band, stalls, ArePipes, Walk}

-- ---- one line's counts
Passage-more : (a b : ℕ) (n : Passage) → a ≤ b → PassageUpTo a n → PassageUpTo b n
Passage-more a b n h s = record { arrivals = omega arith; merged = omega arith; played = omega arith }

pub UpTo-more : (a b : ℕ) (n : Counts) → a ≤ b → UpTo a n → UpTo b n
UpTo-more a b n h s = record {
  raised = omega arith;
  merged = omega arith;
  received = omega arith;
  oob = Passage-more a b n.oob h s.oob;
  in_band = Passage-more a b n.in_band h s.in_band;
}

more_if-up : (b : Bool) (n bound : ℕ) → n ≤ bound → more_if b n ≤ bound + 1
more_if-up true n bound h = omega arith
more_if-up false n bound h = omega arith

pub raise-up : (b : ℕ) (merged : Bool) (n : Counts) → UpTo b n → UpTo (b + 1) (count_raise merged n)
raise-up b merged n s = record {
  raised = omega arith;
  merged = more_if-up merged n.merged b s.merged;
  received = omega arith;
  oob = Passage-more b (b + 1) n.oob (omega arith) s.oob;
  in_band = Passage-more b (b + 1) n.in_band (omega arith) s.in_band;
}

arrival-up : (b : ℕ) (merged : Bool) (n : Passage) → PassageUpTo b n → PassageUpTo (b + 1) (count_arrival merged n)
arrival-up b merged n s = record { arrivals = omega arith; merged = more_if-up merged n.merged b s.merged; played = omega arith }

play-up : (b : ℕ) (n : Passage) → PassageUpTo b n → PassageUpTo (b + 1) (count_play n)
play-up b n s = record { arrivals = omega arith; merged = omega arith; played = omega arith }

pub receipt-up : (b : ℕ) (stage : Stage) (merged : Bool) (n : Counts) → UpTo b n → UpTo (b + 1) (on_passage stage (count_arrival merged) (count_receipt n))
receipt-up b OutOfBand merged n s = record {
  raised = omega arith;
  merged = omega arith;
  received = omega arith;
  oob = arrival-up b merged n.oob s.oob;
  in_band = Passage-more b (b + 1) n.in_band (omega arith) s.in_band;
}
receipt-up b InBand merged n s = record {
  raised = omega arith;
  merged = omega arith;
  received = omega arith;
  oob = Passage-more b (b + 1) n.oob (omega arith) s.oob;
  in_band = arrival-up b merged n.in_band s.in_band;
}

pub oob-up : (b : ℕ) (n : Counts) → UpTo b n → UpTo (b + 1) (on_passage OutOfBand count_play n)
oob-up b n s = record {
  raised = omega arith;
  merged = omega arith;
  received = omega arith;
  oob = play-up b n.oob s.oob;
  in_band = Passage-more b (b + 1) n.in_band (omega arith) s.in_band;
}

pub in_band-up : (b : ℕ) (n : Counts) → UpTo b n → UpTo (b + 1) (on_passage InBand count_play n)
in_band-up b n s = record {
  raised = omega arith;
  merged = omega arith;
  received = omega arith;
  oob = Passage-more b (b + 1) n.oob (omega arith) s.oob;
  in_band = play-up b n.in_band s.in_band;
}

pub timer-up : (b : ℕ) (merged : Bool) (n : Counts) → UpTo b n → UpTo (b + 1) (on_passage InBand (count_arrival merged) (on_passage OutOfBand count_play n))
timer-up b merged n s = record {
  raised = omega arith;
  merged = omega arith;
  received = omega arith;
  oob = play-up b n.oob s.oob;
  in_band = arrival-up b merged n.in_band s.in_band;
}

-- ---- a pipe's
-- a pipe's counts are another's, but for those of one line
pub record Counted (l : ℕ) (f : Counts → Counts) (p q : Pipe) : Type 0 where
  pub counts : q.counts ≡ change f p.counts l

pub counted-up : (b l : ℕ) (f : Counts → Counts) (p q : Pipe) → Counted l f p q → ((n : Counts) → UpTo b n → UpTo (b + 1) (f n)) → PipeUpTo b p → PipeUpTo (b + 1) q
counted-up b l f p q c up s = record {
  lines = λ m n e. let there : slice_get (change f p.counts l) m ≡ Some n = rw c.counts at e in
      elim (change-cases f p.counts l m n there) [
        | inl g ↦ rw g.3 (up g.1 (s.lines l g.1 g.2))
        | inr g ↦ UpTo-more b (b + 1) n (omega arith) (s.lines m n g.1)
      ];
}

pub raise-counted : (l : ℕ) (p : Pipe) → Counted l (count_raise (has_line p.wire l)) p (raise l p)
unfolding raise
raise-counted l p = record { counts = refl }

pub arrive-counted : (stage : Stage) (l : ℕ) (p : Pipe) → Counted l (on_passage stage (count_arrival (has_line (log_of stage p).lines l))) p (arrive stage l p)
unfolding arrive
arrive-counted OutOfBand l p = record { counts = refl }
arrive-counted InBand l p = record { counts = refl }

pub leave-counted : (l : ℕ) (p : Pipe) → Counted l count_receipt p (leave_wire l p)
unfolding leave_wire
leave-counted l p = record { counts = refl }

pub play-counted : (stage : Stage) (l : ℕ) (p : Pipe) → Counted l (on_passage stage count_play) p (play stage l p)
unfolding play
play-counted OutOfBand l p = record { counts = refl }
play-counted InBand l p = record { counts = refl }

stall-counts : (stage : Stage) (b : Bool) (p : Pipe) → (set_stall stage b p).counts ≡ p.counts
unfolding set_stall
stall-counts OutOfBand b p = refl
stall-counts InBand b p = refl

counted-then : (l : ℕ) (f g : Counts → Counts) (x y z : Pipe) → Counted l f x y → Counted l g y z → Counted l (λ n. g (f n)) x z
counted-then l f g x y z p q = record { counts = q.counts ∙ ap (λ (ns : List Counts). change g ns l) p.counts ∙ change-twice g f x.counts l }

-- the log of a stage doesn't depend on the wire
left-log : (stage : Stage) (l : ℕ) (p : Pipe) → log_of stage (leave_wire l p) ≡ log_of stage p
unfolding leave_wire
left-log OutOfBand l p = refl
left-log InBand l p = refl

pub receive-counted : (stage : Stage) (l : ℕ) (p : Pipe) → Counted l (λ n. on_passage stage (count_arrival (has_line (log_of stage p).lines l)) (count_receipt n)) p (receive stage l p)
unfolding receive
receive-counted stage l p = rw (← left-log stage l p) (counted-then l count_receipt _ p (leave_wire l p) _ (leave-counted l p) (arrive-counted stage l (leave_wire l p)))

pub timer-counted : (p : Pipe)
    → Counted 0 (λ n. on_passage InBand (count_arrival (has_line p.in_band.lines 0)) (on_passage OutOfBand count_play n)) p (arrive InBand 0 (play OutOfBand 0 p))
unfolding play
timer-counted p = counted-then 0 (on_passage OutOfBand count_play) _ p (play OutOfBand 0 p) _ (play-counted OutOfBand 0 p) (arrive-counted InBand 0 (play OutOfBand 0 p))

pub PipeUpTo-more : (a b : ℕ) (p : Pipe) → a ≤ b → PipeUpTo a p → PipeUpTo b p
PipeUpTo-more a b p h s = record { lines = λ l n e. UpTo-more a b n h (s.lines l n e) }

pub move_counted : (may : ℕ → Bool) (n b : ℕ) (p q : Pipe) → PipeMove may n p q → PipeUpTo b p → PipeUpTo (b + n) q
move_counted may _ b _ _ (raises l p h on) s = counted-up b l _ p _ (raise-counted l p) (raise-up b (has_line p.wire l)) s
move_counted may _ b _ _ (receives stage l p fixed h) s = counted-up b l _ p _ (receive-counted stage l p) (receipt-up b stage (has_line (log_of stage p).lines l)) s
move_counted may _ b _ _ (plays_timer p h) s = counted-up b 0 _ p _ (timer-counted p) (timer-up b (has_line p.in_band.lines 0)) s
move_counted may _ b _ _ (plays_oob l p other h) s = counted-up b l _ p _ (play-counted OutOfBand l p) (oob-up b) s
move_counted may _ b _ _ (plays_in_band l p h) s = counted-up b l _ p _ (play-counted InBand l p) (in_band-up b) s
move_counted may _ b _ _ (stalls stage bit p) s = record { lines = λ m n e. UpTo-more b (b + 0) n (omega arith) (s.lines m n (sym (ap (λ (ns : List Counts). slice_get ns m) (stall-counts stage bit p)) ∙ e)) }

-- ---- all pipes
pub PipesUpTo-more : (a b : ℕ) (pipes : List Pipe) → a ≤ b → PipesUpTo a pipes → PipesUpTo b pipes
PipesUpTo-more a b pipes h s = record { each = λ c p e. PipeUpTo-more a b p h (s.each c p e) }

pub walk_counted : (a : Actor) (old : Parts) (n s b : ℕ) (k : Parts) → Walk a old n s k → ArePipes old → PipesUpTo b old.pipes → PipesUpTo (b + n) k.pipes
walk_counted a old n s b k w are h = record {
  each = λ d p e.
      (lift a old PipeUpTo d (record { more = λ x y p g. PipeUpTo-more x y p g; moved = λ x m p q. move_counted (a.may d) m x p q }) are n s b k w (record { holds = h.each d })).holds p e;
}
