-- How much each change may add to a count.
use Rattle.std.proofs.Common.{◌≡◌, ℕ, ◌+◌, ◌≤◌, List, Bool, true, false, Option, Some, None, length, inl, inr, refl, arith}
use Rattle.std.specs.Prelude.{slice_get, option_map, ◌==◌, map}
use Rattle.std.proofs.lemmas.Bool.Decides.{nat_tests}
use Rattle.std.proofs.lemmas.Option.{slice_get-map}
use Rattle.evm_lines.specs.Lines.{has_line}
use Rattle.evm_model.specs.Bounds.{PipeUpTo, PipesUpTo}
use Rattle.evm_model.specs.Lists.{change}
use Rattle.evm_model.specs.Pipes.{Pipe, raise, receive, play, log_of}
use Rattle.evm_model.specs.Settle.{play_oob, play_in_band}
use Rattle.evm_model.specs.State.{Parts, on_pipe}
use Rattle.evm_model.specs.declared.stage.Stage.{Stage}
use Rattle.evm_model.specs.declared.stage.Stage.TheVariants.{OutOfBand, InBand}
use Rattle.evm_model.proofs.Lists.{change-cases}
use Rattle.law_rules.proofs.Counted.{PipeUpTo-more, raise-up, receipt-up, oob-up, in_band-up, timer-up, counted-up, raise-counted, receive-counted, timer-counted, play-counted}
pub use Rattle.law_rules.proofs.Counted.{PipesUpTo-more}
use Rattle.law_rules.proofs.PlayingWalks.{oob_played_if, wakes-pipes}
use Rattle.law_rules.proofs.Playing.{hand_on, play_oob-pipes}

-- ---- what holds of each element, after changes
abbrev pub EachIs : {X : Type 0} → (X → Type 0) → List X → Type 0
EachIs {X = X} P xs = (i : ℕ) (x : X) → slice_get xs i ≡ Some x → P x

pub each-change : {X : Type 0} (P Q : X → Type 0) (f : X → X) (xs : List X) (i : ℕ) → ((x : X) → P x → Q x) → ((x : X) → slice_get xs i ≡ Some x → P x → Q (f x)) → EachIs P xs → EachIs Q (change f xs i)
each-change P Q f xs i same here h j z e = elim (change-cases f xs i j z e) [
  | inl w ↦ rw w.3 (here w.1 w.2 (h i w.1 w.2))
  | inr w ↦ same z (h j z w.1)
]

pub mapped : {X : Type 0} (f : X → X) (o : Option X) (z : X) → option_map f o ≡ Some z → (x : X) × (o ≡ Some x) × (f x ≡ z)
mapped f None z e = cc
mapped f (Some x) z e = (x, refl, cc)

pub each-map : {X : Type 0} (P Q : X → Type 0) (f : X → X) (xs : List X) → ((x : X) → P x → Q (f x)) → EachIs P xs → EachIs Q (map f xs)
each-map P Q f xs here h i z e = let w = mapped f (slice_get xs i) z (rw (← slice_get-map f xs i) e) in rw (← w.2) (here w.0 (h i w.0 w.1))

pub change-up : (a b c : ℕ) (f : Pipe → Pipe) (pipes : List Pipe) → a ≤ b → ((p : Pipe) → PipeUpTo a p → PipeUpTo b (f p)) → PipesUpTo a pipes → PipesUpTo b (change f pipes c)
change-up a b c f pipes h here u = record { each = each-change (PipeUpTo a) (PipeUpTo b) f pipes c (λ p. PipeUpTo-more a b p h) (λ p e. here p) u.each }

-- ---- each change of one pipe among all
pub on_raise-up : (b c l : ℕ) (k : Parts) → PipesUpTo b k.pipes → PipesUpTo (b + 1) (on_pipe c (raise l) k).pipes
on_raise-up b c l k u = change-up b (b + 1) c (raise l) k.pipes (omega arith) (λ p. counted-up b l _ p _ (raise-counted l p) (raise-up b (has_line p.wire l))) u

pub on_receive-up : (b c : ℕ) (stage : Stage) (l : ℕ) (k : Parts) → PipesUpTo b k.pipes → PipesUpTo (b + 1) (on_pipe c (receive stage l) k).pipes
on_receive-up b c stage l k u =
    change-up b (b + 1) c (receive stage l) k.pipes (omega arith) (λ p. counted-up b l _ p _ (receive-counted stage l p) (receipt-up b stage (has_line (log_of stage p).lines l))) u

play-up : (b : ℕ) (stage : Stage) (l : ℕ) (p : Pipe) → PipeUpTo b p → PipeUpTo (b + 1) (play stage l p)
play-up b OutOfBand l p u = counted-up b l _ p _ (play-counted OutOfBand l p) (oob-up b) u
play-up b InBand l p u = counted-up b l _ p _ (play-counted InBand l p) (in_band-up b) u

pub on_play-up : (b c : ℕ) (stage : Stage) (l : ℕ) (k : Parts) → PipesUpTo b k.pipes → PipesUpTo (b + 1) (on_pipe c (play stage l) k).pipes
on_play-up b c stage l k u = change-up b (b + 1) c (play stage l) k.pipes (omega arith) (play-up b stage l) u

-- ---- a play
oob_played-up : (timer : Bool) (b l : ℕ) (p : Pipe) → (l == 0) ≡ timer → PipeUpTo b p → PipeUpTo (b + 1) (oob_played_if timer l p)
oob_played-up true b l p e u = let same : l ≡ 0 = grind (arith, nat_tests) in rw same (counted-up b 0 _ p _ (timer-counted p) (timer-up b (has_line p.in_band.lines 0)) u)
oob_played-up false b l p e u = play-up b OutOfBand l p u

pub play_oob-up : (b : ℕ) (was : Option ℕ) (c l : ℕ) (k : Parts) → PipesUpTo b k.pipes → PipesUpTo (b + 2) (play_oob was c l k).pipes
play_oob-up b was c l k u =
    rw (play_oob-pipes was c l k)
    (change-up b (b + 2) c (λ p. hand_on l (play OutOfBand l p)) k.pipes (omega arith) (λ p h. PipeUpTo-more (b + 1) (b + 2) _ (omega arith) (oob_played-up (l == 0) b l p refl h)) u)

pub play_in_band-up : (b c l : ℕ) (k : Parts) → PipesUpTo b k.pipes → PipesUpTo (b + 1) (play_in_band c l k).pipes
unfolding play_in_band
play_in_band-up b c l k u = rw (wakes-pipes c l (length k.tasks) (on_pipe c (play InBand l) k)) (on_play-up b c InBand l k u)
