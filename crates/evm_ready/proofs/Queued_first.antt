-- The head of the right queue is the first of all.
use Rattle.std.proofs.Common.{◌≡◌, ℕ, ◌+◌, ◌*◌, ◌<◌, ◌≤◌, List, Option, Some, None, Bool, true, false, length, refl, sym, ◌∙◌, ◌⊎◌, inl, inr, arith}
use Rattle.std.specs.Prelude.{◌==◌}
use Rattle.std.proofs.lemmas.Bool.Decides.{nat_tests}
use Rattle.evm_model.specs.Ranks.{first}
use Rattle.evm_ready.specs.declared.place.Place.{Place}
use Rattle.evm_ready.specs.declared.place.TheConstants.{LEVELS, IN_BAND_LEVEL}
use Rattle.evm_ready.specs.declared.turn.Turn.{Turn}
use Rattle.evm_ready.specs.ListedRanks.{listed_rank}
use Rattle.evm_ready.specs.Places.{entry, runs_oob, runs_in_band, place_stamp}
use Rattle.evm_ready.specs.Queues.{is_ahead, is_in, turn_rank, turn_stamp, NoneIn}
use Rattle.evm_ready.specs.ReadyTurns.{place_turn, ready_turns, level}
use Rattle.evm_ready.proofs.Filing.{is_in-below}
use Rattle.evm_ready.proofs.Firsts.{first-below, first-member}
use Rattle.evm_ready.proofs.Leads.{first-leads, first-nobody, first-empty, first-is}
use Rattle.evm_ready.proofs.Listed_turns.{length-turns, in-turns, rank-turns}
use Rattle.evm_ready.proofs.Ready_turns.{stamp-placed, oob-in, in-oob, in_band-in, in_band-rank}

false-true : (b : Bool) → (b ≡ true → ⊥) → b ≡ false
false-true true h = absurd (h refl)
false-true false h = refl

-- ---- the same members with the same ranks and stamps choose the same
alike-case : (member others : ℕ → Bool) (rank ranks stamp stamps : ℕ → ℕ) (n : ℕ) → ((t : ℕ) → member t ≡ others t)
    → ((t : ℕ) → member t ≡ true → (rank t ≡ ranks t) × (stamp t ≡ stamps t)) → (o : Option ℕ) → first member rank stamp n ≡ o → o ≡ first others ranks stamps n
alike-case member others rank ranks stamp stamps n same at None is =
    sym (first-empty others ranks stamps n (λ u less. sym (same u) ∙ first-nobody member rank stamp n u is less))
alike-case member others rank ranks stamp stamps n same at (Some b) is =
    let is_member = first-member member rank stamp n b is in
    sym (first-is others ranks stamps n b (first-below member rank stamp n b is) (sym (same b) ∙ is_member) (λ u less in_it.
    let mine : member u ≡ true = same u ∙ in_it in
    rw (← (at u mine).0, ← (at u mine).1, ← (at b is_member).0, ← (at b is_member).1) (first-leads member rank stamp n b u is less mine)))

pub first-alike : (member others : ℕ → Bool) (rank ranks stamp stamps : ℕ → ℕ) (n : ℕ) → ((t : ℕ) → member t ≡ others t)
    → ((t : ℕ) → member t ≡ true → (rank t ≡ ranks t) × (stamp t ≡ stamps t)) → first member rank stamp n ≡ first others ranks stamps n
first-alike member others rank ranks stamp stamps n same at = alike-case member others rank ranks stamp stamps n same at (first member rank stamp n) refl

-- ---- in-band
pub in_band-head : (places : List (Option Place)) (ranks : List ℕ) (c : ℕ) → length ranks ≡ length places
    → first (is_in (ready_turns places ranks) (c * LEVELS + IN_BAND_LEVEL)) (turn_rank (ready_turns places ranks)) (turn_stamp (ready_turns places ranks)) (length (ready_turns places ranks))
    ≡ first (λ t. runs_in_band c (entry places t)) (λ _. 0) (λ t. place_stamp (entry places t)) (length places)
in_band-head places ranks c e =
    let same : (t : ℕ) → is_in (ready_turns places ranks) (c * LEVELS + IN_BAND_LEVEL) t ≡ runs_in_band c (entry places t) =
    λ t. in-turns place_turn places ranks (c * LEVELS + IN_BAND_LEVEL) t e ∙ in_band-in (entry places t) (listed_rank ranks t) c in
    rw (length-turns place_turn places ranks e)
    (first-alike (is_in (ready_turns places ranks) (c * LEVELS + IN_BAND_LEVEL)) (λ t. runs_in_band c (entry places t)) (turn_rank (ready_turns places ranks)) (λ _. 0)
    (turn_stamp (ready_turns places ranks)) (λ t. place_stamp (entry places t)) (length places) same
    (λ t h. (rank-turns place_turn places ranks t e ∙ in_band-rank (entry places t) (listed_rank ranks t) c (sym (same t) ∙ h), stamp-placed places ranks t e)))

-- ---- out-of-band
pub best-none : (places : List (Option Place)) (ranks : List ℕ) (c : ℕ) → length ranks ≡ length places → NoneIn (ready_turns places ranks) (c * LEVELS) (c * LEVELS + IN_BAND_LEVEL)
    → None ≡ first (λ t. runs_oob c (entry places t)) (listed_rank ranks) (λ t. place_stamp (entry places t)) (length places)
best-none places ranks c e none =
    sym (first-empty (λ t. runs_oob c (entry places t)) (listed_rank ranks) (λ t. place_stamp (entry places t)) (length places) (λ u less.
    false-true (runs_oob c (entry places u)) (λ h.
    let at = oob-in (entry places u) (listed_rank ranks u) c h in
    let there : is_in (ready_turns places ranks) (c * LEVELS + level (listed_rank ranks u)) u ≡ true = in-turns place_turn places ranks (c * LEVELS + level (listed_rank ranks u)) u e ∙ at.0 in
    let never = none (c * LEVELS + level (listed_rank ranks u)) u (omega arith) (omega arith) in cc)))

lesser-rank : (r s t q p u : ℕ) → r < q → is_ahead r s t q p u ≡ false
lesser-rank r s t q p u less = grind (arith, nat_tests)

test-cases : (t n : ℕ) → ((t == n) ≡ true) ⊎ ((t == n) ≡ false)
test-cases t n = elim (t == n) as (λ b. (b ≡ true) ⊎ (b ≡ false)) [ true ↦ inl refl | false ↦ inr refl ]

higher-or-same : (a b : ℕ) → (a < b → ⊥) → (b < a) ⊎ (a ≡ b)
higher-or-same a b h = elim (test-cases a b) [ inl e ↦ inr (grind (arith, nat_tests)) | inr e ↦ let other : a ≡ b → ⊥ = λ same. grind (arith, nat_tests) in inl (omega (arith, h, other)) ]

pub best-some : (places : List (Option Place)) (ranks : List ℕ) (c q : ℕ) (o : Option ℕ) → length ranks ≡ length places → c * LEVELS ≤ q → q < c * LEVELS + IN_BAND_LEVEL
    → NoneIn (ready_turns places ranks) (c * LEVELS) q → (t : ℕ) × (is_in (ready_turns places ranks) q t ≡ true)
    → first (is_in (ready_turns places ranks) q) (turn_rank (ready_turns places ranks)) (turn_stamp (ready_turns places ranks)) (length (ready_turns places ranks)) ≡ o
    → o ≡ first (λ t. runs_oob c (entry places t)) (listed_rank ranks) (λ t. place_stamp (entry places t)) (length places)
best-some places ranks c q None e above below least some is =
    let never = first-nobody (is_in (ready_turns places ranks) q) (turn_rank (ready_turns places ranks)) (turn_stamp (ready_turns places ranks)) (length (ready_turns places ranks)) some.0 is
    (is_in-below (ready_turns places ranks) q some.0 some.1) in
    let here = some.1 in cc
best-some places ranks c q (Some t) e above below least some is =
    let turns : List Turn = ready_turns places ranks in
    let there = first-member (is_in turns q) (turn_rank turns) (turn_stamp turns) (length turns) t is in
    let lower = first-below (is_in turns q) (turn_rank turns) (turn_stamp turns) (length turns) t is in
    let oob = in-oob (entry places t) (listed_rank ranks t) c q (sym (in-turns place_turn places ranks q t e) ∙ there) above below in
    let key = rank-turns place_turn places ranks t e ∙ (oob-in (entry places t) (listed_rank ranks t) c oob.0).1 in
    sym (first-is (λ t. runs_oob c (entry places t)) (listed_rank ranks) (λ t. place_stamp (entry places t)) (length places) t
    (rw (← length-turns place_turn places ranks e) lower) oob.0 (λ u less in_it.
    let at = oob-in (entry places u) (listed_rank ranks u) c in_it in
    let member : is_in turns (c * LEVELS + level (listed_rank ranks u)) u ≡ true = in-turns place_turn places ranks (c * LEVELS + level (listed_rank ranks u)) u e ∙ at.0 in
    let not_before : c * LEVELS + level (listed_rank ranks u) < q → ⊥ = λ before. let never = least (c * LEVELS + level (listed_rank ranks u)) u (omega arith) before in cc in
    elim (higher-or-same (c * LEVELS + level (listed_rank ranks u)) q not_before) [
      | inl behind ↦ lesser-rank (listed_rank ranks u) (place_stamp (entry places u)) u (listed_rank ranks t) (place_stamp (entry places t)) t
          (let where_t = oob.1 in omega (arith, where_t, behind))
      | inr same ↦
          let with_it : is_in turns q u ≡ true = rw (← same) member in
          let leads = first-leads (is_in turns q) (turn_rank turns) (turn_stamp turns) (length turns) t u is (is_in-below turns q u with_it) with_it in
          rw (← key, ← (rank-turns place_turn places ranks u e ∙ at.1), ← stamp-placed places ranks u e, ← stamp-placed places ranks t e) leads
    ]))
