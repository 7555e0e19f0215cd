-- Each step keeps the bells kept.
use Rattle.std.proofs.Common.{◌≡◌, ℕ, zero, suc, ◌+◌, ◌^◌, ◌<◌, ◌≤◌, ◌≢◌, Bool, true, false, List, [], ◌∷◌, ◌++◌, length, set, sym, refl, ap, ◌∙◌, arith, lt_of_not-le}
use Rattle.std.specs.Prelude.{bit_and, slice_index, ◌==◌, if◌then◌else◌}
use Rattle.std.specs.Int.{bit_at}
use Rattle.std.specs.Int.RustNames.{bit_or}
use Rattle.std.proofs.lemmas.Bool.Decides.{nat_tests}
use Rattle.std.proofs.lemmas.List.{get_or-set_same, get_or-set_other, length-set}
use Rattle.std.proofs.lemmas.Nat.Bits.{bit_at_or, bit_at-zero, bit_at-pow_same, bit_at-pow_other, bit_at-lt, and_pow}
use Rattle.std.proofs.lemmas.Nat.{or_lt}
use Rattle.std.proofs.Math.Pow.{pow-lt}
use native.Mathlib.Decide.{ℕ_discrete, dec_le}
use mathlib.Core.Option.{some, none, some-injective, some-ne-none}
use lib.ListN.{get_elem?}
use Rattle.atomic_table.specs.Table.{State, Me, Allows, Splits, Joins, keeps, step}
use Rattle.evm_lines.specs.declared.TheConstants.{LINES}
use Rattle.evm_bells.specs.declared.counts.TheConstants.{PROCESSOR_LIMIT}
use Rattle.evm_bells.specs.Batches.{count}
use Rattle.evm_bells.specs.Rule.{whole_weight, total, WeighsNothing, AreAccounted, view_of, first_view, rung, Rings, took, Takes, Weighs, joined, spent}
use Rattle.evm_bells.specs.declared.rule.SeatView.{SeatView}
use Rattle.evm_bells.proofs.Sums.{total_set, total_snoc, idle_set, idle_snoc, weight_below, alone, count-append}
use Rattle.evm_bells.specs.Seats.{AddsUp, AreAnswered}

-- what a step adds to the fresh batches, it adds to the taken ones and to the word
abbrev Moves : List ℕ → List ℕ → SeatView → SeatView → Type 0
Moves words new v w = (b l : ℕ) → count w.fresh b l + (count v.taken b l + bit_at (slice_index words b) l) ≡ count v.fresh b l + (count w.taken b l + bit_at (slice_index new b) l)

-- what a step adds to the batches that stood stands in the word, and no fresh batch goes
abbrev Hears : List ℕ → SeatView → SeatView → Type 0
Hears words v w = (b l : ℕ) → (count v.fresh b l ≤ count w.fresh b l) × (count w.stood b l ≤ count v.stood b l + bit_at (slice_index words b) l)

same_hears : (words : List ℕ) (v w : SeatView) → w.fresh ≡ v.fresh → w.stood ≡ v.stood → Hears words v w
same_hears words v w fresh stood b l = (rw fresh (omega arith), rw stood (omega arith))

still_heard : (fresh fresh_new stood stood_new v_fresh w_fresh v_stood w_stood taken bit : ℕ) → (0 < stood → 0 < fresh) → fresh ≡ taken + bit
    → fresh_new + v_fresh ≡ fresh + w_fresh → stood_new + v_stood ≡ stood + w_stood → v_fresh ≤ w_fresh → w_stood ≤ v_stood + bit → 0 < stood_new → 0 < fresh_new
still_heard fresh fresh_new zero stood_new v_fresh w_fresh v_stood w_stood taken bit heard balance f s grows stands found = omega arith
still_heard fresh fresh_new (suc d) stood_new v_fresh w_fresh v_stood w_stood taken bit heard balance f s grows stands found = let before : 0 < fresh = heard (omega arith) in omega arith

narrow_set : (words : List ℕ) (c n b : ℕ) → c < length words → n < 2 ^ LINES → slice_index words b < 2 ^ LINES → Dec (b ≡ c) → slice_index (set words c n) b < 2 ^ LINES
narrow_set words c n b there low old (yes same) = rw same (rw (get_or-set_same words c n 0 there) low)
narrow_set words c n b there low old (no other) = rw (get_or-set_other words c b n 0 other) old

-- one step of a seat that has weight
pub one_step : (cpus : ℕ) (words : List ℕ) (views : List SeatView) (id c n : ℕ) (v w : SeatView) → AreAccounted cpus words views → get_elem? views id ≡ some v
    → c < cpus → n < 2 ^ LINES → 0 < v.weight → w.weight ≡ v.weight → Moves words (set words c n) v w → Hears words v w → AreAccounted cpus (set words c n) (set views id w)
one_step cpus words views id c n v w kept at there low some_weight same moves hears = record {
  sized = length-set words c n ∙ kept.sized;
  narrow = λ b. narrow_set words c n b (rw kept.sized there) low (kept.narrow b) (ℕ_discrete b c);
  weighs = omega (arith, kept.weighs, total_set (λ u. u.weight) views id v w at);
  balance = λ b l. omega (
    arith,
    kept.balance b l,
    moves b l,
    total_set (λ u. count u.fresh b l) views id v w at,
    total_set (λ u. count u.taken b l) views id v w at,
  );
  heard = λ b l. still_heard
      (total (λ u. count u.fresh b l) views)
      (total (λ u. count u.fresh b l) (set views id w))
      (total (λ u. count u.stood b l) views)
      (total (λ u. count u.stood b l) (set views id w))
      (count v.fresh b l)
      (count w.fresh b l)
      (count v.stood b l)
      (count w.stood b l)
      (total (λ u. count u.taken b l) views)
      (bit_at (slice_index words b) l)
      (kept.heard b l)
      (kept.balance b l)
      (total_set (λ u. count u.fresh b l) views id v w at)
      (total_set (λ u. count u.stood b l) views id v w at)
      (hears b l).0
      (hears b l).1;
  idle = idle_set views id w (λ none. absurd (omega arith)) kept.idle;
}

-- ---- a ring
pub mark_here : (c bit l : ℕ) → count ((c, bit) ∷ []) c l ≡ bit_at bit l
mark_here c bit l = let same : (c == c) ≡ true = grind (arith, nat_tests) in rw same (omega arith)

pub mark_elsewhere : (b c bit l : ℕ) → b ≢ c → count ((c, bit) ∷ []) b l ≡ 0
mark_elsewhere b c bit l other = let e : (c == b) ≡ false = grind (arith, nat_tests) in rw e (omega arith)

-- a bit that is off is put on
off_or : (n line l : ℕ) → bit_at n line ≡ 0 → Dec (l ≡ line) → bit_at (bit_or n (2 ^ line)) l ≡ bit_at n l + bit_at (2 ^ line) l
off_or n line l off (yes same) = rw same (omega (arith, bit_at_or n (2 ^ line) line, bit_at-pow_same line, off))
off_or n line l off (no other) = omega (arith, bit_at_or n (2 ^ line) l, bit_at-pow_other line l other)

-- a bit that is on stays
on_or : (n line l : ℕ) → bit_at n line ≡ 1 → Dec (l ≡ line) → bit_at (bit_or n (2 ^ line)) l ≡ bit_at n l
on_or n line l on (yes same) = rw same (omega (arith, bit_at_or n (2 ^ line) line, bit_at-pow_same line, on))
on_or n line l on (no other) = omega (arith, bit_at_or n (2 ^ line) l, bit_at-pow_other line l other)

at_set_here : (words : List ℕ) (c n l : ℕ) → c < length words → bit_at (slice_index (set words c n) c) l ≡ bit_at n l
at_set_here words c n l there = ap (λ (x : ℕ). bit_at x l) (get_or-set_same words c n 0 there)

at_set_there : (words : List ℕ) (b c n l : ℕ) → b ≢ c → bit_at (slice_index (set words c n) b) l ≡ bit_at (slice_index words b) l
at_set_there words b c n l other = ap (λ (x : ℕ). bit_at x l) (get_or-set_other words c b n 0 other)

fresh_moves : (words : List ℕ) (c line : ℕ) (v : SeatView) → c < length words → bit_at (slice_index words c) line ≡ 0
    → Moves words (set words c (bit_or (slice_index words c) (2 ^ line))) v (view_of v.weight (v.fresh ++ (c, 2 ^ line) ∷ []) v.stood v.taken)
fresh_moves words c line v there off b l = by_place (ℕ_discrete b c)
  where
    by_place : Dec (b ≡ c) → count (v.fresh ++ (c, 2 ^ line) ∷ []) b l + (count v.taken b l + bit_at (slice_index words b) l) ≡ count v.fresh b l + (count v.taken b l + bit_at (slice_index (set words c (bit_or (slice_index words c) (2 ^ line))) b) l)
    by_place (yes same) = rw same (omega (arith, count-append v.fresh ((c, 2 ^ line) ∷ []) c l, mark_here c (2 ^ line) l, at_set_here words c (bit_or (slice_index words c) (2 ^ line)) l there, off_or (slice_index words c) line l off (ℕ_discrete l line)))
    by_place (no other) = omega (arith, count-append v.fresh ((c, 2 ^ line) ∷ []) b l, mark_elsewhere b c (2 ^ line) l other, at_set_there words b c (bit_or (slice_index words c) (2 ^ line)) l other)

stale_moves : (words : List ℕ) (c line : ℕ) (v : SeatView) → c < length words → bit_at (slice_index words c) line ≡ 1
    → Moves words (set words c (bit_or (slice_index words c) (2 ^ line))) v (view_of v.weight v.fresh (v.stood ++ (c, 2 ^ line) ∷ []) v.taken)
stale_moves words c line v there on b l = by_place (ℕ_discrete b c)
  where
    by_place : Dec (b ≡ c) → count v.fresh b l + (count v.taken b l + bit_at (slice_index words b) l) ≡ count v.fresh b l + (count v.taken b l + bit_at (slice_index (set words c (bit_or (slice_index words c) (2 ^ line))) b) l)
    by_place (yes same) = rw same (omega (arith, at_set_here words c (bit_or (slice_index words c) (2 ^ line)) l there, on_or (slice_index words c) line l on (ℕ_discrete l line)))
    by_place (no other) = omega (arith, at_set_there words b c (bit_or (slice_index words c) (2 ^ line)) l other)

ring_moves : (words : List ℕ) (c line : ℕ) (v : SeatView) (d : ℕ) → c < length words → bit_at (slice_index words c) line ≡ d → d < 2
    → Moves words (set words c (bit_or (slice_index words c) (2 ^ line))) v (rung c (2 ^ line) (slice_index words c) v)
ring_moves words c line v zero there off small =
    let clear : bit_and (slice_index words c) (2 ^ line) ≡ 0 = and_pow (slice_index words c) line ∙ rw off (omega arith) in
    let test : (bit_and (slice_index words c) (2 ^ line) == 0) ≡ true = grind (arith, nat_tests) in
    rw test (fresh_moves words c line v there off)
ring_moves words c line v (suc zero) there on small =
    let set_there : bit_and (slice_index words c) (2 ^ line) ≡ 2 ^ line = and_pow (slice_index words c) line ∙ rw on (omega arith) in
    let test : (bit_and (slice_index words c) (2 ^ line) == 0) ≡ false = grind (arith, nat_tests) in
    rw test (stale_moves words c line v there on)
ring_moves words c line v (suc (suc d)) there on small = absurd (omega arith)

-- only a line that stands is found standing
bit_stands : (n line l : ℕ) → bit_at n line ≡ 1 → Dec (l ≡ line) → bit_at (2 ^ line) l ≤ bit_at n l
bit_stands n line l on (yes same) = rw same (omega (arith, bit_at-pow_same line, on))
bit_stands n line l on (no other) = omega (arith, bit_at-pow_other line l other)

stale_hears : (words : List ℕ) (c line : ℕ) (v : SeatView) → bit_at (slice_index words c) line ≡ 1
    → Hears words v (view_of v.weight v.fresh (v.stood ++ (c, 2 ^ line) ∷ []) v.taken)
stale_hears words c line v on b l = (omega arith, by_place (ℕ_discrete b c))
  where
    by_place : Dec (b ≡ c) → count (v.stood ++ (c, 2 ^ line) ∷ []) b l ≤ count v.stood b l + bit_at (slice_index words b) l
    by_place (yes same) = rw same (omega (arith, count-append v.stood ((c, 2 ^ line) ∷ []) c l, mark_here c (2 ^ line) l, bit_stands (slice_index words c) line l on (ℕ_discrete l line)))
    by_place (no other) = omega (arith, count-append v.stood ((c, 2 ^ line) ∷ []) b l, mark_elsewhere b c (2 ^ line) l other)

fresh_hears : (words : List ℕ) (c line : ℕ) (v : SeatView) → Hears words v (view_of v.weight (v.fresh ++ (c, 2 ^ line) ∷ []) v.stood v.taken)
fresh_hears words c line v b l = (omega (arith, count-append v.fresh ((c, 2 ^ line) ∷ []) b l), omega arith)

ring_hears : (words : List ℕ) (c line : ℕ) (v : SeatView) (d : ℕ) → bit_at (slice_index words c) line ≡ d → d < 2 → Hears words v (rung c (2 ^ line) (slice_index words c) v)
ring_hears words c line v zero off small =
    let clear : bit_and (slice_index words c) (2 ^ line) ≡ 0 = and_pow (slice_index words c) line ∙ rw off (omega arith) in
    let test : (bit_and (slice_index words c) (2 ^ line) == 0) ≡ true = grind (arith, nat_tests) in
    rw test (fresh_hears words c line v)
ring_hears words c line v (suc zero) on small =
    let set_there : bit_and (slice_index words c) (2 ^ line) ≡ 2 ^ line = and_pow (slice_index words c) line ∙ rw on (omega arith) in
    let test : (bit_and (slice_index words c) (2 ^ line) == 0) ≡ false = grind (arith, nat_tests) in
    rw test (stale_hears words c line v on)
ring_hears words c line v (suc (suc d)) on small = absurd (omega arith)

rung_weight : (c bit n : ℕ) (v : SeatView) → (rung c bit n v).weight ≡ v.weight
rung_weight c bit n v = by_test (bit_and n bit == 0)
  where
    by_test : (b : Bool) → (if b then view_of v.weight (v.fresh ++ (c, bit) ∷ []) v.stood v.taken else view_of v.weight v.fresh (v.stood ++ (c, bit) ∷ []) v.taken).weight ≡ v.weight
    by_test true = refl
    by_test false = refl

or_below : (n line : ℕ) → n < 2 ^ LINES → line < LINES → bit_or n (2 ^ line) < 2 ^ LINES
or_below n line low small = or_lt LINES n (2 ^ line) low (pow-lt small)

pub rings : (cpus slots id c line bit : ℕ) (me : Me (Unit {0}) SeatView) → bit ≡ 2 ^ line → c < cpus → line < LINES → 0 < me.0.weight
    → Allows (λ (s : State (Unit {0}) SeatView). AreAccounted cpus s.words s.views) slots id me c (λ n. bit_or n bit) (Rings (step slots c bit 0 none) me)
rings cpus slots id c line bit me is there small weighty s kept homes at word =
    let n = slice_index s.words c in
    let v = me.0 in
    let here : c < length s.words = rw kept.sized there in
    let moves = ring_moves s.words c line v (bit_at n line) here refl (bit_at-lt n line) in (
      rung c bit n v,
      keeps,
      tt,
      rw is (one_step cpus s.words s.views id c (bit_or n (2 ^ line)) v (rung c (2 ^ line) n v) kept at there (or_below n line (kept.narrow c) small) weighty (rung_weight c (2 ^ line) n v) moves (ring_hears s.words c line v (bit_at n line) refl (bit_at-lt n line))),
      refl,
    )

-- ---- a take
take_moves : (words : List ℕ) (c : ℕ) (v : SeatView) → c < length words → Moves words (set words c 0) v (took c (slice_index words c) v)
take_moves words c v there b l = by_place (ℕ_discrete b c)
  where
    by_place : Dec (b ≡ c) → count v.fresh b l + (count v.taken b l + bit_at (slice_index words b) l) ≡ count v.fresh b l + (count (v.taken ++ (c, slice_index words c) ∷ []) b l + bit_at (slice_index (set words c 0) b) l)
    by_place (yes same) = rw same (omega (arith, count-append v.taken ((c, slice_index words c) ∷ []) c l, mark_here c (slice_index words c) l, at_set_here words c 0 l there, bit_at-zero l))
    by_place (no other) = omega (arith, count-append v.taken ((c, slice_index words c) ∷ []) b l, mark_elsewhere b c (slice_index words c) l other, at_set_there words b c 0 l other)

pub takes : (cpus slots id c : ℕ) (me : Me (Unit {0}) SeatView) → c < cpus → 0 < me.0.weight
    → Allows (λ (s : State (Unit {0}) SeatView). AreAccounted cpus s.words s.views) slots id me c (λ n. 0) (Takes (step slots c 0 0 none) me)
takes cpus slots id c me there weighty s kept homes at word =
    let n = slice_index s.words c in
    let v = me.0 in
    let here : c < length s.words = rw kept.sized there in (
      took c n v,
      keeps,
      tt,
      one_step cpus s.words s.views id c 0 v (took c n v) kept at there (omega arith) weighty refl (take_moves s.words c v here) (same_hears s.words v (took c n v) refl refl),
      (refl, kept.narrow c),
    )

-- ---- a look at the weight
same_moves : (words : List ℕ) (c : ℕ) (v : SeatView) → c < length words → Moves words (set words c (slice_index words c)) v v
same_moves words c v there b l = by_place (ℕ_discrete b c)
  where
    by_place : Dec (b ≡ c) → count v.fresh b l + (count v.taken b l + bit_at (slice_index words b) l) ≡ count v.fresh b l + (count v.taken b l + bit_at (slice_index (set words c (slice_index words c)) b) l)
    by_place (yes same) = rw same (omega (arith, at_set_here words c (slice_index words c) l there))
    by_place (no other) = omega (arith, at_set_there words b c (slice_index words c) l other)

pub weighs : (cpus slots id : ℕ) (me : Me (Unit {0}) SeatView) → 0 < cpus → cpus ≤ PROCESSOR_LIMIT → 0 < me.0.weight
    → Allows (λ (s : State (Unit {0}) SeatView). AreAccounted cpus s.words s.views) slots id me 0 (λ n. n) (Weighs (step slots 0 0 0 none) me)
weighs cpus slots id me any few weighty s kept homes at word =
    let v = me.0 in
    let here : 0 < length s.words = rw kept.sized any in (
      v,
      keeps,
      tt,
      one_step cpus s.words s.views id 0 (slice_index s.words 0) v v kept at any (kept.narrow 0) weighty refl (same_moves s.words 0 v here) (same_hears s.words v v refl refl),
      (refl, omega (arith, kept.weighs, weight_below s.views id v at)),
    )

-- ---- seats part and meet
as_heard : (fresh fresh_new stood stood_new : ℕ) → (0 < stood → 0 < fresh) → fresh_new ≡ fresh → stood_new ≡ stood → 0 < stood_new → 0 < fresh_new
as_heard fresh fresh_new stood stood_new heard f s found = let before : 0 < fresh = heard (omega arith) in omega arith

pub parts : (cpus id : ℕ) (v : SeatView) (left given : SeatView) → 0 < left.weight → 0 < given.weight → left.weight + given.weight ≡ v.weight
    → ((c l : ℕ) → count left.fresh c l + count given.fresh c l ≡ count v.fresh c l) → ((c l : ℕ) → count left.stood c l + count given.stood c l ≡ count v.stood c l) → ((c l : ℕ) → count left.taken c l + count given.taken c l ≡ count v.taken c l)
    → Splits (λ (s : State (Unit {0}) SeatView). AreAccounted cpus s.words s.views) id v left given
parts cpus id v left given some_left some_given weights fresh stood taken s kept at =
    let after = set s.views id left in record {
      sized = kept.sized;
      narrow = kept.narrow;
      weighs = omega (arith, weights, kept.weighs, total_snoc (λ u. u.weight) after given, total_set (λ u. u.weight) s.views id v left at);
      balance = λ c l. omega (
        arith,
        fresh c l,
        taken c l,
        kept.balance c l,
        total_snoc (λ u. count u.fresh c l) after given,
        total_set (λ u. count u.fresh c l) s.views id v left at,
        total_snoc (λ u. count u.taken c l) after given,
        total_set (λ u. count u.taken c l) s.views id v left at,
      );
      heard = λ c l. as_heard
          (total (λ u. count u.fresh c l) s.views)
          (total (λ u. count u.fresh c l) (after ++ given ∷ []))
          (total (λ u. count u.stood c l) s.views)
          (total (λ u. count u.stood c l) (after ++ given ∷ []))
          (kept.heard c l)
          (omega (arith, fresh c l, total_snoc (λ u. count u.fresh c l) after given, total_set (λ u. count u.fresh c l) s.views id v left at))
          (omega (arith, stood c l, total_snoc (λ u. count u.stood c l) after given, total_set (λ u. count u.stood c l) s.views id v left at));
      idle = idle_snoc after given (λ none. absurd (omega arith)) (idle_set s.views id left (λ none. absurd (omega arith)) kept.idle);
    }

pub meets : (cpus id other : ℕ) (v w : SeatView) → 0 < v.weight
    → Joins (λ (s : State (Unit {0}) SeatView). AreAccounted cpus s.words s.views) id v other w (joined v w) spent
meets cpus id other v w some_weight s kept at apart there =
    let both = joined v w in
    let once = set s.views id both in record {
      sized = kept.sized;
      narrow = kept.narrow;
      weighs = omega (arith, kept.weighs, total_set (λ u. u.weight) once other w spent there, total_set (λ u. u.weight) s.views id v both at);
      balance = λ c l. omega (
        arith,
        kept.balance c l,
        count-append v.fresh w.fresh c l,
        count-append w.taken v.taken c l,
        total_set (λ u. count u.fresh c l) once other w spent there,
        total_set (λ u. count u.fresh c l) s.views id v both at,
        total_set (λ u. count u.taken c l) once other w spent there,
        total_set (λ u. count u.taken c l) s.views id v both at,
      );
      heard = λ c l. as_heard
          (total (λ u. count u.fresh c l) s.views)
          (total (λ u. count u.fresh c l) (set once other spent))
          (total (λ u. count u.stood c l) s.views)
          (total (λ u. count u.stood c l) (set once other spent))
          (kept.heard c l)
          (omega (arith, count-append v.fresh w.fresh c l, total_set (λ u. count u.fresh c l) once other w spent there, total_set (λ u. count u.fresh c l) s.views id v both at))
          (omega (arith, count-append v.stood w.stood c l, total_set (λ u. count u.stood c l) once other w spent there, total_set (λ u. count u.stood c l) s.views id v both at));
      idle = idle_set once other spent (λ none. (refl, refl, refl)) (idle_set s.views id both (λ none. absurd (omega arith)) kept.idle);
    }

-- ---- the beginning
index_zeros : (words : List ℕ) → ((c : ℕ) → slice_index words c ≡ 0) → (c l : ℕ) → bit_at (slice_index words c) l ≡ 0
index_zeros words zeros c l = ap (λ (x : ℕ). bit_at x l) (zeros c) ∙ bit_at-zero l

pub begins : (cpus : ℕ) (words : List ℕ) → length words ≡ cpus → ((c : ℕ) → slice_index words c ≡ 0) → AreAccounted cpus words (first_view cpus ∷ [])
begins cpus words long zeros = record {
  sized = long;
  narrow = λ c. rw (zeros c) (omega arith);
  weighs = omega arith;
  balance = λ c l. omega (arith, index_zeros words zeros c l);
  heard = λ c l found. absurd (omega arith);
  idle = ((λ none. (refl, refl, refl)), tt);
}

-- ---- the end
pub elem_index : (words : List ℕ) (c x : ℕ) → get_elem? words c ≡ some x → slice_index words c ≡ x
elem_index [] c x at = absurd (some-ne-none x (sym at))
elem_index (w ∷ words) zero x at = some-injective w x at
elem_index (w ∷ words) (suc c) x at = elem_index words c x at

past_end : (words : List ℕ) (c : ℕ) → length words ≤ c → slice_index words c ≡ 0
past_end [] c past = refl
past_end (w ∷ words) zero past = absurd (omega arith)
past_end (w ∷ words) (suc c) past = past_end words c (omega arith)

-- the words that were read are the words
pub read_words : (words left : List ℕ) (cpus : ℕ) → length words ≡ cpus → ((c : ℕ) → c < cpus → get_elem? words c ≡ some (slice_index left c))
    → ((c : ℕ) → cpus ≤ c → slice_index left c ≡ 0) → (c : ℕ) → slice_index words c ≡ slice_index left c
read_words words left cpus long low high c = by_place (dec_le cpus c)
  where
    by_place : Dec (cpus ≤ c) → slice_index words c ≡ slice_index left c
    by_place (yes past) = past_end words c (rw long past) ∙ sym (high c past)
    by_place (no below) = elem_index words c (slice_index left c) (low c (lt_of_not-le below))

nothing_fresh : (c l : ℕ) (v : SeatView) → WeighsNothing v → v.weight ≡ 0 → count v.fresh c l ≡ 0
nothing_fresh c l v idle light = ap (λ m. count m c l) (idle light).0

nothing_taken : (c l : ℕ) (v : SeatView) → WeighsNothing v → v.weight ≡ 0 → count v.taken c l ≡ 0
nothing_taken c l v idle light = ap (λ m. count m c l) (idle light).2

nothing_stood : (c l : ℕ) (v : SeatView) → WeighsNothing v → v.weight ≡ 0 → count v.stood c l ≡ 0
nothing_stood c l v idle light = ap (λ m. count m c l) (idle light).1

-- a view with all the weight knows that the bells balance
pub settles : (cpus : ℕ) (words left : List ℕ) (views : List SeatView) (id : ℕ) (v : SeatView) → AreAccounted cpus words views → get_elem? views id ≡ some v → v.weight ≡ whole_weight cpus
    → ((c : ℕ) → slice_index words c ≡ slice_index left c) → AddsUp v.fresh v.taken left
settles cpus words left views id v kept at all same c l =
    let weights : total (λ u. u.weight) views ≡ v.weight = kept.weighs ∙ sym all in
    omega (
      arith,
      kept.balance c l,
      alone (λ u. count u.fresh c l) (nothing_fresh c l) views id v kept.idle at weights,
      alone (λ u. count u.taken c l) (nothing_taken c l) views id v kept.idle at weights,
      ap (λ (x : ℕ). bit_at x l) (same c),
    )

-- .. and that what was found standing is answered
pub answers : (cpus : ℕ) (words left : List ℕ) (views : List SeatView) (id : ℕ) (v : SeatView) → AreAccounted cpus words views → get_elem? views id ≡ some v → v.weight ≡ whole_weight cpus
    → ((c : ℕ) → slice_index words c ≡ slice_index left c) → AreAnswered v.stood v.taken left
answers cpus words left views id v kept at all same c l found =
    let weights : total (λ u. u.weight) views ≡ v.weight = kept.weighs ∙ sym all in
    let stood = alone (λ u. count u.stood c l) (nothing_stood c l) views id v kept.idle at weights in
    let fresh = alone (λ u. count u.fresh c l) (nothing_fresh c l) views id v kept.idle at weights in
    let before : 0 < total (λ u. count u.fresh c l) views = kept.heard c l (omega (arith, stood)) in
    omega (arith, before, fresh, settles cpus words left views id v kept at all same c l)
