-- What playing a whole log makes of one pipe.
use Rattle.std.proofs.Common.{◌≡◌, ℕ, List, [], ◌∷◌, Bool, true, false, Option, length, refl, ap, sym, ◌∙◌}
use Rattle.std.specs.Prelude.{◌==◌, if◌then◌else◌}
use Rattle.evm_lines.specs.Lines.{without_line}
use Rattle.evm_lines.specs.Laws.{without_line-least}
use Rattle.evm_model.proofs.Lists.{change-same}
use Rattle.evm_model.specs.Actions.{act, action_at}
use Rattle.evm_model.specs.Deadlines.{end_waits}
use Rattle.evm_model.specs.Good.{IsPipe}
use Rattle.evm_model.specs.Lists.{change}
use Rattle.evm_model.specs.Pipes.{Pipe, arrive, play}
use Rattle.evm_model.specs.Settle.{spend, play_tick, play_oob, play_in_band, play_oob_lines, play_in_band_lines}
use Rattle.evm_model.specs.State.{Parts, on_pipe}
use Rattle.evm_model.specs.Timers.{expire_timers}
use Rattle.evm_model.specs.declared.stage.Stage.TheVariants.{OutOfBand, InBand}
use Rattle.law_rules.proofs.PlayingWalks.{wakes-pipes, watch-pipes}
use Rattle.law_rules.proofs.Places.{change_twice}
use Rattle.law_rules.proofs.Spending.{of-spends, end_waits-gives, expire_timers-gives, act-gives}
use Rattle.law_rules.proofs.Sets.{IsPipe-arrive, IsPipe-play}

-- ---- on one pipe
abbrev pub hand_on : ℕ → Pipe → Pipe
hand_on l p = if l == 0 then arrive InBand 0 p else p

unfoldable pub plays_oob : List ℕ → Pipe → Pipe
plays_oob [] p = p
plays_oob (l ∷ ls) p = plays_oob ls (hand_on l (play OutOfBand l p))

unfoldable pub plays_in_band : List ℕ → Pipe → Pipe
plays_in_band [] p = p
plays_in_band (l ∷ ls) p = plays_in_band ls (play InBand l p)

-- what an out-of-band play does beside touches no pipe
tick-pipes : (was : Option ℕ) (c : ℕ) (k : Parts) → (play_tick was c k).pipes ≡ change (arrive InBand 0) k.pipes c
unfolding play_tick
tick-pipes was c k =
    let told : Parts = on_pipe c (arrive InBand 0) k in
    watch-pipes was c (spend was (expire_timers c (end_waits c told))) ∙ (of-spends was (expire_timers c (end_waits c told))).pipes ∙ (expire_timers-gives c (end_waits c told)).pipes ∙ (end_waits-gives c told).pipes

handle-pipes : (was : Option ℕ) (c l : ℕ) (first : Bool) (k : Parts) → (if first then play_tick was c k else act (action_at l k) l k).pipes ≡ change (λ p. if first then arrive InBand 0 p else p) k.pipes c
handle-pipes was c l true k = tick-pipes was c k
handle-pipes was c l false k = (act-gives (action_at l k) l k).pipes ∙ sym (change-same (λ p. p) k.pipes c (λ p e. refl))

pub play_oob-pipes : (was : Option ℕ) (c l : ℕ) (k : Parts) → (play_oob was c l k).pipes ≡ change (λ p. hand_on l (play OutOfBand l p)) k.pipes c
unfolding play_oob
play_oob-pipes was c l k = handle-pipes was c l (l == 0) (on_pipe c (play OutOfBand l) k) ∙ change_twice (play OutOfBand l) (hand_on l) k.pipes c

pub play_oob_lines-pipes : (was : Option ℕ) (c : ℕ) (lines : List ℕ) (k : Parts) → (play_oob_lines was c lines k).pipes ≡ change (plays_oob lines) k.pipes c
unfolding play_oob_lines plays_oob
play_oob_lines-pipes was c [] k = sym (change-same (λ p. p) k.pipes c (λ p e. refl))
play_oob_lines-pipes was c (l ∷ ls) k =
    play_oob_lines-pipes was c ls (play_oob was c l k)
    ∙ ap (λ (pipes : List Pipe). change (plays_oob ls) pipes c) (play_oob-pipes was c l k)
    ∙ change_twice (λ p. hand_on l (play OutOfBand l p)) (plays_oob ls) k.pipes c

pub play_in_band-pipes : (c l : ℕ) (k : Parts) → (play_in_band c l k).pipes ≡ change (play InBand l) k.pipes c
unfolding play_in_band
play_in_band-pipes c l k = wakes-pipes c l (length k.tasks) (on_pipe c (play InBand l) k)

pub play_in_band_lines-pipes : (c : ℕ) (lines : List ℕ) (k : Parts) → (play_in_band_lines c lines k).pipes ≡ change (plays_in_band lines) k.pipes c
unfolding play_in_band_lines plays_in_band
play_in_band_lines-pipes c [] k = sym (change-same (λ p. p) k.pipes c (λ p e. refl))
play_in_band_lines-pipes c (l ∷ ls) k =
    play_in_band_lines-pipes c ls (play_in_band c l k)
    ∙ ap (λ (pipes : List Pipe). change (plays_in_band ls) pipes c) (play_in_band-pipes c l k)
    ∙ change_twice (play InBand l) (plays_in_band ls) k.pipes c

-- ---- playing leaves the stall bits
pub record HasSameStalls (p q : Pipe) : Type 0 where
  pub oob : q.oob.stalled ≡ p.oob.stalled
  pub in_band : q.in_band.stalled ≡ p.in_band.stalled

pub same_stalls-then : (p q r : Pipe) → HasSameStalls p q → HasSameStalls q r → HasSameStalls p r
same_stalls-then p q r a b = record { oob = b.oob ∙ a.oob; in_band = b.in_band ∙ a.in_band }

hand_on-stalls : (first : Bool) (p : Pipe) → HasSameStalls p (if first then arrive InBand 0 p else p)
unfolding arrive
hand_on-stalls true p = record { oob = refl; in_band = refl }
hand_on-stalls false p = record { oob = refl; in_band = refl }

play_oob-stalls : (l : ℕ) (p : Pipe) → HasSameStalls p (play OutOfBand l p)
unfolding play
play_oob-stalls l p = record { oob = refl; in_band = refl }

play_in_band-stalls : (l : ℕ) (p : Pipe) → HasSameStalls p (play InBand l p)
unfolding play
play_in_band-stalls l p = record { oob = refl; in_band = refl }

handed : (l : ℕ) (p : Pipe) → HasSameStalls p (hand_on l (play OutOfBand l p))
handed l p = same_stalls-then p (play OutOfBand l p) _ (play_oob-stalls l p) (hand_on-stalls (l == 0) (play OutOfBand l p))

pub plays_oob-stalls : (lines : List ℕ) (p : Pipe) → HasSameStalls p (plays_oob lines p)
unfolding plays_oob
plays_oob-stalls [] p = record { oob = refl; in_band = refl }
plays_oob-stalls (l ∷ ls) p = same_stalls-then p (hand_on l (play OutOfBand l p)) _ (handed l p) (plays_oob-stalls ls (hand_on l (play OutOfBand l p)))

pub plays_in_band-stalls : (lines : List ℕ) (p : Pipe) → HasSameStalls p (plays_in_band lines p)
unfolding plays_in_band
plays_in_band-stalls [] p = record { oob = refl; in_band = refl }
plays_in_band-stalls (l ∷ ls) p = same_stalls-then p (play InBand l p) _ (play_in_band-stalls l p) (plays_in_band-stalls ls (play InBand l p))

-- ---- a log that was played is empty
hand_on-oob : (first : Bool) (p : Pipe) → (if first then arrive InBand 0 p else p).oob ≡ p.oob
unfolding arrive
hand_on-oob true p = refl
hand_on-oob false p = refl

hand_on-pipe : (first : Bool) (p : Pipe) → IsPipe p → IsPipe (if first then arrive InBand 0 p else p)
hand_on-pipe true p h = IsPipe-arrive InBand 0 p h
hand_on-pipe false p h = h

played-oob : (l : ℕ) (ls : List ℕ) (p : Pipe) → IsPipe p → p.oob.lines ≡ l ∷ ls → (play OutOfBand l p).oob.lines ≡ ls
unfolding play
played-oob l ls p h e = ap (λ set. without_line set l) e ∙ without_line-least l ls (rw (← e) h.oob)

played-in_band : (l : ℕ) (ls : List ℕ) (p : Pipe) → IsPipe p → p.in_band.lines ≡ l ∷ ls → (play InBand l p).in_band.lines ≡ ls
unfolding play
played-in_band l ls p h e = ap (λ set. without_line set l) e ∙ without_line-least l ls (rw (← e) h.in_band)

pub plays_oob-empty : (lines : List ℕ) (p : Pipe) → IsPipe p → p.oob.lines ≡ lines → (plays_oob lines p).oob.lines ≡ []
unfolding plays_oob
plays_oob-empty [] p h e = e
plays_oob-empty (l ∷ ls) p h e =
    plays_oob-empty ls (hand_on l (play OutOfBand l p)) (hand_on-pipe (l == 0) (play OutOfBand l p) (IsPipe-play OutOfBand l p h))
    (ap (λ log. log.lines) (hand_on-oob (l == 0) (play OutOfBand l p)) ∙ played-oob l ls p h e)

pub plays_in_band-empty : (lines : List ℕ) (p : Pipe) → IsPipe p → p.in_band.lines ≡ lines → (plays_in_band lines p).in_band.lines ≡ []
unfolding plays_in_band
plays_in_band-empty [] p h e = e
plays_in_band-empty (l ∷ ls) p h e = plays_in_band-empty ls (play InBand l p) (IsPipe-play InBand l p h) (played-in_band l ls p h e)

-- the in-band log doesn't touch the out-of-band one
play_in_band-oob : (l : ℕ) (p : Pipe) → (play InBand l p).oob ≡ p.oob
unfolding play
play_in_band-oob l p = refl

pub plays_in_band-oob : (lines : List ℕ) (p : Pipe) → (plays_in_band lines p).oob ≡ p.oob
unfolding plays_in_band
plays_in_band-oob [] p = refl
plays_in_band-oob (l ∷ ls) p = plays_in_band-oob ls (play InBand l p) ∙ play_in_band-oob l p

-- and a pipe stays one
pub plays_oob-pipe : (lines : List ℕ) (p : Pipe) → IsPipe p → IsPipe (plays_oob lines p)
unfolding plays_oob
plays_oob-pipe [] p h = h
plays_oob-pipe (l ∷ ls) p h = plays_oob-pipe ls (hand_on l (play OutOfBand l p)) (hand_on-pipe (l == 0) (play OutOfBand l p) (IsPipe-play OutOfBand l p h))
