-- What the turns of ready tasks say of their places and ranks.
use Rattle.std.proofs.Common.{◌≡◌, ℕ, ◌+◌, ◌*◌, ◌<◌, ◌≤◌, List, Option, Some, None, true, length, refl, sym, ◌∙◌, arith}
use Rattle.std.proofs.lemmas.Bool.Decides.{nat_tests}
use Rattle.evm_model.specs.declared.stage.Stage.{Stage}
use Rattle.evm_model.specs.declared.stage.Stage.TheVariants.{OutOfBand, InBand}
use Rattle.evm_ready.specs.declared.place.Place.{Place}
use Rattle.evm_ready.specs.declared.place.TheConstants.{LEVELS, IN_BAND_LEVEL}
use Rattle.evm_ready.specs.ListedRanks.{listed_rank}
use Rattle.evm_ready.specs.Places.{entry, runs_oob, runs_in_band, place_stamp}
use Rattle.evm_ready.specs.Queues.{is_queue, turn_stamp}
use Rattle.evm_ready.proofs.Listed_turns.{stamp-turns}
use Rattle.evm_ready.specs.ReadyTurns.{place_turn, turn_at, turn_of, ready_turns, level}

stamp-at : (stage : Stage) (cpu stamp rank : ℕ) → (turn_at stage cpu stamp rank).stamp ≡ stamp
stamp-at OutOfBand cpu stamp rank = refl
stamp-at InBand cpu stamp rank = refl

stamp-turn : (place : Option Place) (rank : ℕ) → (turn_of place rank).stamp ≡ place_stamp place
stamp-turn None rank = refl
stamp-turn (Some place) rank = stamp-at place.stage place.cpu place.stamp rank

pub stamp-placed : (places : List (Option Place)) (ranks : List ℕ) (t : ℕ) → length ranks ≡ length places → turn_stamp (ready_turns places ranks) t ≡ place_stamp (entry places t)
stamp-placed places ranks t e = stamp-turns place_turn places ranks t e ∙ stamp-turn (entry places t) (listed_rank ranks t)

-- ---- one place
stage-oob : (stage : Stage) (cpu stamp rank c : ℕ) → runs_oob c (Some (record { stage = stage; cpu = cpu; stamp = stamp })) ≡ true
    → (is_queue (c * LEVELS + level rank) (turn_at stage cpu stamp rank).queue ≡ true) × ((turn_at stage cpu stamp rank).rank ≡ rank)
stage-oob OutOfBand cpu stamp rank c h = let same : cpu ≡ c = grind (arith, nat_tests) in (rw same (grind (arith, nat_tests)), refl)
stage-oob InBand cpu stamp rank c h = cc

-- a task that may run out-of-band there has its turn at the level of its rank
pub oob-in : (place : Option Place) (rank c : ℕ) → runs_oob c place ≡ true
    → (is_queue (c * LEVELS + level rank) (turn_of place rank).queue ≡ true) × ((turn_of place rank).rank ≡ rank)
oob-in None rank c h = cc
oob-in (Some place) rank c h = stage-oob place.stage place.cpu place.stamp rank c h

stage-in : (stage : Stage) (cpu stamp rank c q : ℕ) → is_queue q (turn_at stage cpu stamp rank).queue ≡ true → c * LEVELS ≤ q → q < c * LEVELS + IN_BAND_LEVEL
    → (runs_oob c (Some (record { stage = stage; cpu = cpu; stamp = stamp })) ≡ true) × (q ≡ c * LEVELS + level rank)
stage-in OutOfBand cpu stamp rank c q h above below =
    let at : cpu * LEVELS + level rank ≡ q = grind (arith, nat_tests) in
    let same : cpu ≡ c = omega arith in (grind (arith, nat_tests), rw (← same) (sym at))
stage-in InBand cpu stamp rank c q h above below =
    let at : cpu * LEVELS + IN_BAND_LEVEL ≡ q = grind (arith, nat_tests) in absurd (omega arith)

-- and no other task has its turn at one of these levels
pub in-oob : (place : Option Place) (rank c q : ℕ) → is_queue q (turn_of place rank).queue ≡ true → c * LEVELS ≤ q → q < c * LEVELS + IN_BAND_LEVEL
    → (runs_oob c place ≡ true) × (q ≡ c * LEVELS + level rank)
in-oob None rank c q h above below = cc
in-oob (Some place) rank c q h above below = stage-in place.stage place.cpu place.stamp rank c q h above below

stage-in_band : (stage : Stage) (cpu stamp rank c : ℕ)
    → is_queue (c * LEVELS + IN_BAND_LEVEL) (turn_at stage cpu stamp rank).queue ≡ runs_in_band c (Some (record { stage = stage; cpu = cpu; stamp = stamp }))
stage-in_band OutOfBand cpu stamp rank c = grind (arith, nat_tests)
stage-in_band InBand cpu stamp rank c = grind (arith, nat_tests)

pub in_band-in : (place : Option Place) (rank c : ℕ) → is_queue (c * LEVELS + IN_BAND_LEVEL) (turn_of place rank).queue ≡ runs_in_band c place
in_band-in None rank c = refl
in_band-in (Some place) rank c = stage-in_band place.stage place.cpu place.stamp rank c

stage-rank : (stage : Stage) (cpu stamp rank c : ℕ) → runs_in_band c (Some (record { stage = stage; cpu = cpu; stamp = stamp })) ≡ true → (turn_at stage cpu stamp rank).rank ≡ 0
stage-rank OutOfBand cpu stamp rank c h = cc
stage-rank InBand cpu stamp rank c h = refl

pub in_band-rank : (place : Option Place) (rank c : ℕ) → runs_in_band c place ≡ true → (turn_of place rank).rank ≡ 0
in_band-rank None rank c h = cc
in_band-rank (Some place) rank c h = stage-rank place.stage place.cpu place.stamp rank c h
