-- Settling out-of-band in two steps, and the room that each takes up.
use Rattle.std.proofs.Common.{◌≡◌, ℕ, List, ◌+◌, ◌-◌, Bool, true, false, Option, Some, None, [], refl, ap, sym, ◌∙◌, arith}
use Rattle.std.specs.Option.{is_some}
use Rattle.std.specs.Prelude.{not, ◌&&◌, slice_get, option_map, if◌then◌else◌}
use Rattle.evm_lines.specs.declared.TheConstants.{LINES}
use Rattle.evm_model.proofs.Lists.{change-here}
use Rattle.evm_model.specs.Bounds.{COUNT_LIMIT, PER_IN_BAND_LOG, PER_OOB_LOG, PER_SETTLING, HasStamps, PipesUpTo}
use Rattle.evm_model.specs.Pipes.{Pipe}
use Rattle.evm_model.specs.Ranks.{best}
use Rattle.evm_model.specs.Settle.{current, current_of, is_oob, differs, play_oob_lines, run_best, settle_oob, settle_oob_pipe, settle_in_band, settle, turn_in_band, play_in_band_lines, play_in_band_pipe, nudge, settle_and_nudge}
use Rattle.evm_model.specs.State.{Parts, on_watch}
use Rattle.evm_model.specs.Watch.{or_zero, watch, rest_watch}
use Rattle.evm_model.specs.declared.limits.TheConstants.{PROCESSOR_LIMIT}
use Rattle.evm_model.specs.declared.processor.Processor.{Processor}
use Rattle.law_rules.proofs.Bounded.{AreWithin, within-more, within-settle_oob, within-settle_in_band}
use Rattle.law_rules.proofs.Firsts.{best-is_oob}
use Rattle.law_rules.proofs.Counted.{PipesUpTo-more}
use Rattle.evm_settle.proofs.Unwatched.{unwatched, watches-choose, watches-settle_in_band}
use Rattle.evm_settle.specs.Steps.{play_oob_pipe, chooses, choose}

-- ---- the two steps
if-steps : (c : ℕ) (b : Bool) (k x : Parts) → (if b then k else run_best c x) ≡ choose (not b) c (if b then k else x)
if-steps c true k x = refl
if-steps c false k x = refl

pipe-steps : (was : Option ℕ) (c : ℕ) (o : Option Pipe) (k : Parts) → settle_oob_pipe o was c k ≡ choose (chooses o) c (play_oob_pipe o was c k)
pipe-steps was c None k = refl
pipe-steps was c (Some pipe) k = if-steps c pipe.oob.stalled k (play_oob_lines was c pipe.oob.lines k)

pub settle_oob-steps : (was : Option ℕ) (c : ℕ) (k : Parts) → settle_oob was c k ≡ choose (chooses (slice_get k.pipes c)) c (play_oob_pipe (slice_get k.pipes c) was c k)
unfolding settle_oob
settle_oob-steps was c k = pipe-steps was c (slice_get k.pipes c) k

pub settle_and_nudge-steps : (was : Option ℕ) (c : ℕ) (k : Parts)
    → nudge c (rest_watch was c (settle_in_band c (choose (chooses (slice_get k.pipes c)) c (play_oob_pipe (slice_get k.pipes c) was c k)))) ≡ settle_and_nudge was c k
unfolding settle_and_nudge settle
settle_and_nudge-steps was c k = ap (λ (x : Parts). nudge c (rest_watch was c (settle_in_band c x))) (sym (settle_oob-steps was c k))

-- ---- choosing changes only what is current
pub choose-pipes : (c : ℕ) (b : Bool) (k : Parts) → (choose b c k).pipes ≡ k.pipes
choose-pipes c true k = refl
choose-pipes c false k = refl

pub choose-stamps : (c : ℕ) (b : Bool) (k : Parts) → (choose b c k).stamps ≡ k.stamps
choose-stamps c true k = refl
choose-stamps c false k = refl

-- ---- a best task is out-of-band, so no in-band part follows it
current-at : (o : Option Processor) (now : Option ℕ) → is_some (option_map (λ (p : Processor). record p { current = now }) o) ≡ true → current_of (option_map (λ (p : Processor). record p { current = now }) o) ≡ now
current-at None now here = cc
current-at (Some p) now here = refl

current-best : (c : ℕ) (k : Parts) → is_some (slice_get (run_best c k).processors c) ≡ true → current c (run_best c k) ≡ best c k.mutexes k.tasks
current-best c k here =
    let now : Option ℕ = best c k.mutexes k.tasks in
    let there = change-here (λ (p : Processor). record p { current = now }) k.processors c in
    ap current_of there ∙ current-at (slice_get k.processors c) now (sym (ap is_some there) ∙ here)

oob-some : (c : ℕ) (o : Option ℕ) (k : Parts) → best c k.mutexes k.tasks ≡ o → is_some o ≡ true → is_oob o k.tasks ≡ true
oob-some c None k e h = cc
oob-some c (Some t) k e h = best-is_oob c t k.mutexes k.tasks e

stays : (b : Bool) (x y : Parts) → b ≡ true → x ≡ (if b then x else y)
stays true x y h = refl
stays false x y h = cc

pub chosen-stays : (c : ℕ) (k : Parts) → is_some (best c k.mutexes k.tasks) ≡ true → is_some (slice_get (run_best c k).processors c) ≡ true
    → run_best c k ≡ settle_in_band c (run_best c k)
unfolding settle_in_band
chosen-stays c k some here =
    stays (is_oob (current c (run_best c k)) k.tasks) (run_best c k) (turn_in_band c (run_best c k)) (rw (current-best c k here) (oob-some c (best c k.mutexes k.tasks) k refl some))

-- ---- room
pub room-first : (k : Parts) → AreWithin (COUNT_LIMIT - PER_SETTLING) k → PipesUpTo (COUNT_LIMIT - PER_OOB_LOG) k.pipes
room-first k w = PipesUpTo-more (COUNT_LIMIT - PER_SETTLING) (COUNT_LIMIT - PER_OOB_LOG) k.pipes (omega arith) w.up

-- the log is played
pub room-played : (was : Option ℕ) (c : ℕ) (k : Parts) → AreWithin (COUNT_LIMIT - PER_SETTLING) k → AreWithin (COUNT_LIMIT - PER_IN_BAND_LOG) (play_oob_pipe (slice_get k.pipes c) was c k)
room-played was c k w =
    let x : Parts = play_oob_pipe (slice_get k.pipes c) was c k in
    let all : AreWithin (COUNT_LIMIT - PER_IN_BAND_LOG) (settle_oob was c k) = within-more (COUNT_LIMIT - PER_SETTLING + LINES) (COUNT_LIMIT - PER_IN_BAND_LOG) (settle_oob was c k) (omega arith) (within-settle_oob (COUNT_LIMIT - PER_SETTLING) was c k w) in
    let same : x.pipes ≡ (settle_oob was c k).pipes = sym (choose-pipes c (chooses (slice_get k.pipes c)) x) ∙ ap (λ (z : Parts). z.pipes) (sym (settle_oob-steps was c k)) in
    record { are = rw same all.are; up = rw same all.up }

pub room-up : (k : Parts) → AreWithin (COUNT_LIMIT - PER_IN_BAND_LOG) k → PipesUpTo (COUNT_LIMIT - PER_IN_BAND_LOG) k.pipes
room-up k w = w.up

-- the best task is chosen
choose-within : (b c : ℕ) (chosen : Bool) (k : Parts) → AreWithin b k → AreWithin b (choose chosen c k)
choose-within b c true k w = record { are = w.are; up = w.up }
choose-within b c false k w = w

pub room-chosen : (c : ℕ) (b : Bool) (k : Parts) → AreWithin (COUNT_LIMIT - PER_IN_BAND_LOG) k → PipesUpTo (COUNT_LIMIT - PER_IN_BAND_LOG) (choose b c k).pipes
room-chosen c b k w = rw (choose-pipes c b k) w.up

pub stamps-chosen : (c : ℕ) (b : Bool) (k : Parts) → HasStamps PER_IN_BAND_LOG k → HasStamps PER_IN_BAND_LOG (choose b c k)
stamps-chosen c b k h = rw (choose-stamps c b k) h

-- the in-band part follows
rest-pipes : (oob : Bool) (c : ℕ) (k : Parts) → (if oob then k else on_watch c (λ n. 0) k).pipes ≡ k.pipes
rest-pipes true c k = refl
rest-pipes false c k = refl

-- .. and what the watchdog counts changes no pipe
pub room-settled : (was : Option ℕ) (c : ℕ) (b : Bool) (k : Parts) → AreWithin (COUNT_LIMIT - PER_IN_BAND_LOG) k → PipesUpTo (COUNT_LIMIT - PROCESSOR_LIMIT) (rest_watch was c (settle_in_band c (choose b c k))).pipes
unfolding rest_watch
room-settled was c b k w =
    let settled : Parts = settle_in_band c (choose b c k) in
    let all : AreWithin (COUNT_LIMIT - PER_IN_BAND_LOG + LINES) settled = within-settle_in_band (COUNT_LIMIT - PER_IN_BAND_LOG) c (choose b c k) (choose-within (COUNT_LIMIT - PER_IN_BAND_LOG) c b k w) in
    rw (rest-pipes (is_oob (current c settled) settled.tasks && not (differs (current c settled) was)) c settled) (PipesUpTo-more (COUNT_LIMIT - PER_IN_BAND_LOG + LINES) (COUNT_LIMIT - PROCESSOR_LIMIT) _ (omega arith) all.up)

pub room-turned : (c : ℕ) (b : Bool) (k : Parts) → AreWithin (COUNT_LIMIT - PER_IN_BAND_LOG) k → PipesUpTo (COUNT_LIMIT - PROCESSOR_LIMIT) (settle_in_band c (choose b c k)).pipes
room-turned c b k w =
    let all : AreWithin (COUNT_LIMIT - PER_IN_BAND_LOG + LINES) (settle_in_band c (choose b c k)) = within-settle_in_band (COUNT_LIMIT - PER_IN_BAND_LOG) c (choose b c k) (choose-within (COUNT_LIMIT - PER_IN_BAND_LOG) c b k w) in
    PipesUpTo-more (COUNT_LIMIT - PER_IN_BAND_LOG + LINES) (COUNT_LIMIT - PROCESSOR_LIMIT) _ (omega arith) all.up

-- ---- where nothing is played
pub settle-unplayed : (was : Option ℕ) (c : ℕ) (b : Bool) (k : Parts) → b ≡ chooses (slice_get k.pipes c) → play_oob_pipe (slice_get k.pipes c) was c k ≡ k
    → nudge c (rest_watch was c (settle_in_band c (choose b c k))) ≡ settle_and_nudge was c k
settle-unplayed was c b k chosen same = rw chosen (ap (λ (x : Parts). nudge c (rest_watch was c (settle_in_band c (choose (chooses (slice_get k.pipes c)) c x)))) (sym same) ∙ settle_and_nudge-steps was c k)

-- ---- where the watchdog has counted nothing
pub settle-unwatched : (c : ℕ) (b : Bool) (k : Parts) → watch c k ≡ 0 → (was : Option ℕ)
    → nudge c (settle_in_band c (choose b c k)) ≡ nudge c (rest_watch was c (settle_in_band c (choose b c k)))
settle-unwatched c b k none was = ap (nudge c) (sym (unwatched was c (settle_in_band c (choose b c k)) (ap (λ (ws : List ℕ). or_zero (slice_get ws c)) (watches-settle_in_band c (choose b c k) ∙ watches-choose c b k) ∙ none)))

same-if : (b : Bool) (k : Parts) → (if b then k else k) ≡ k
same-if true k = refl
same-if false k = refl

pub unplayed-oob : (was : Option ℕ) (c : ℕ) (o : Option Pipe) (pipe : Pipe) (k : Parts) → o ≡ Some pipe → pipe.oob.lines ≡ [] → play_oob_pipe o was c k ≡ k
unfolding play_oob_lines
unplayed-oob was c o pipe k here none = rw (here, none) (same-if pipe.oob.stalled k)

pub unplayed-in_band : (c : ℕ) (o : Option Pipe) (pipe : Pipe) (k : Parts) → o ≡ Some pipe → pipe.in_band.lines ≡ [] → play_in_band_pipe o c k ≡ k
unfolding play_in_band_lines
unplayed-in_band c o pipe k here none = rw (here, none) (same-if pipe.in_band.stalled k)

pub room-unplayed : (k : Parts) → AreWithin (COUNT_LIMIT - PER_SETTLING) k → AreWithin (COUNT_LIMIT - PER_IN_BAND_LOG) k
room-unplayed k w = within-more (COUNT_LIMIT - PER_SETTLING) (COUNT_LIMIT - PER_IN_BAND_LOG) k (omega arith) w

pub ruleset steps = (room-first, room-up, room-played, room-chosen, stamps-chosen, room-settled, room-turned, settle-unwatched, settle_and_nudge-steps, settle-unplayed, room-unplayed)

pub ruleset chosen = (room-up, chosen-stays)

pub ruleset unplayed = (unplayed-oob, unplayed-in_band)
