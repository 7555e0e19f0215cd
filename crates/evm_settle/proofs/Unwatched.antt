-- The in-band part leaves what the watchdog has counted as it is, and where that is nothing there is nothing to put back.
use Rattle.std.proofs.Common.{◌≡◌, ℕ, zero, suc, List, [], ◌∷◌, Bool, true, false, Option, Some, None, length, refl, ap, sym, ◌∙◌}
use Rattle.std.specs.Prelude.{not, ◌&&◌, slice_get, if◌then◌else◌}
use Rattle.evm_model.proofs.Lists.{change-same}
use Rattle.evm_model.specs.Current.{current, is_oob, differs}
use Rattle.evm_model.specs.Pipes.{Pipe, play}
use Rattle.evm_model.specs.Settle.{play_in_band, play_in_band_lines, play_in_band_pipe, settle_in_band, turn_in_band}
use Rattle.evm_model.specs.State.{Parts, on_pipe, on_watch}
use Rattle.evm_model.specs.Tasks.{restamp}
use Rattle.evm_model.specs.Waits.{awaits_line, wake, wake_below}
use Rattle.evm_model.specs.Watch.{or_zero, watch, rest_watch}
use Rattle.evm_model.specs.declared.stage.Stage.TheVariants.{InBand}
use Rattle.evm_settle.specs.Steps.{choose}

-- ---- the in-band part
watches-if : (b : Bool) (x y : Parts) (ws : List ℕ) → x.watches ≡ ws → y.watches ≡ ws → (if b then x else y).watches ≡ ws
watches-if true x y ws p q = p
watches-if false x y ws p q = q

watches-wake : (t : ℕ) (k : Parts) → (wake t 0 k).watches ≡ k.watches
unfolding wake restamp
watches-wake t k = refl

watches-wakes : (c l n : ℕ) (k : Parts) → (wake_below c l n k).watches ≡ k.watches
unfolding wake_below
watches-wakes c l zero k = refl
watches-wakes c l (suc t) k =
    let before : Parts = wake_below c l t k in
    watches-if (awaits_line c l (slice_get before.tasks t)) (wake t 0 before) before k.watches (watches-wake t before ∙ watches-wakes c l t k) (watches-wakes c l t k)

watches-play : (c l : ℕ) (k : Parts) → (play_in_band c l k).watches ≡ k.watches
unfolding play_in_band
watches-play c l k = watches-wakes c l (length k.tasks) (on_pipe c (play InBand l) k)

watches-lines : (c : ℕ) (ls : List ℕ) (k : Parts) → (play_in_band_lines c ls k).watches ≡ k.watches
unfolding play_in_band_lines
watches-lines c [] k = refl
watches-lines c (l ∷ ls) k = watches-lines c ls (play_in_band c l k) ∙ watches-play c l k

watches-pipe : (c : ℕ) (o : Option Pipe) (k : Parts) → (play_in_band_pipe o c k).watches ≡ k.watches
watches-pipe c None k = refl
watches-pipe c (Some pipe) k = watches-if pipe.in_band.stalled k (play_in_band_lines c pipe.in_band.lines k) k.watches refl (watches-lines c pipe.in_band.lines k)

watches-turn : (c : ℕ) (k : Parts) → (turn_in_band c k).watches ≡ k.watches
unfolding turn_in_band
watches-turn c k = watches-pipe c (slice_get k.pipes c) k

pub watches-settle_in_band : (c : ℕ) (k : Parts) → (settle_in_band c k).watches ≡ k.watches
unfolding settle_in_band
watches-settle_in_band c k = watches-if (is_oob (current c k) k.tasks) k (turn_in_band c k) k.watches refl (watches-turn c k)

pub watches-choose : (c : ℕ) (b : Bool) (k : Parts) → (choose b c k).watches ≡ k.watches
watches-choose c true k = refl
watches-choose c false k = refl

-- ---- nothing to put back
same-watch : (c : ℕ) (k : Parts) → watch c k ≡ 0 → on_watch c (λ n. 0) k ≡ k
same-watch c k none = ap (λ (watches : List ℕ). record k { watches = watches }) (change-same (λ n. 0) k.watches c (λ n there. sym none ∙ ap or_zero there))

either : (b : Bool) (x k : Parts) → x ≡ k → (if b then k else x) ≡ k
either true x k same = refl
either false x k same = same

pub unwatched : (was : Option ℕ) (c : ℕ) (k : Parts) → watch c k ≡ 0 → rest_watch was c k ≡ k
unfolding rest_watch
unwatched was c k none = either (is_oob (current c k) k.tasks && not (differs (current c k) was)) (on_watch c (λ n. 0) k) k (same-watch c k none)
