-- A tally that follows a machine, processor by processor.
use Rattle.std.proofs.Common.{◌≡◌, ◌≢◌, inl, inr, ℕ, zero, suc, ◌+◌, ◌<◌, List, [], ◌∷◌, length, Bool, true, false, Option, Some, None, refl, sym, ap, subst, ◌∙◌, arith}
use Rattle.std.specs.Prelude.{nat_lt, slice_get, if◌then◌else◌}
use Rattle.std.proofs.lemmas.Bool.{cases_eq, ltb-true, ltb-false}
use Rattle.std.proofs.lemmas.Bool.Decides.{nat_tests}
use Rattle.evm_journal.specs.evm_core.Views.{line_counts_at, line_counts_of}
use Rattle.evm_model.specs.Pipes.{Pipe}
use Rattle.evm_model.specs.State.{Parts}
use Rattle.evm_model.specs.declared.counts.Counts.{Counts}
use Rattle.run_marks.specs.Lists.{below}
use Rattle.run_marks.specs.Marks.{counted_marks, line_marks, lines_marks, pipe_marks}
use Rattle.run_marks.specs.Tallies.{IsTallyOf, IsTallyUpTo, IsWithinReach}
use Rattle.run_marks.specs.declared.mark.Mark.{Mark}
use Rattle.run_marks.specs.declared.tally.Reach.{Reach}

-- ---- counts that stand have no marks
not_less : (n : ℕ) → nat_lt n n ≡ false
not_less n = grind (arith, nat_tests)

same_counted : (c l : ℕ) (n : Counts) → counted_marks c l n n ≡ []
same_counted c l n = rw (not_less n.raised, not_less n.received, not_less n.oob.played, not_less n.in_band.played) refl

pub same_line : (c l : ℕ) (o : Option Counts) → line_marks c l o o ≡ []
unfolding line_marks
same_line c l None = refl
same_line c l (Some n) = same_counted c l n

below_none : (f : ℕ → List Mark) (n : ℕ) → ((l : ℕ) → f l ≡ []) → below f n ≡ []
unfolding below
below_none f zero h = refl
below_none f (suc n) h = rw (below_none f n h, h n) refl

pub same_lines : (c : ℕ) (x : List Counts) → lines_marks c x x ≡ []
unfolding lines_marks
same_lines c x = below_none (λ l. line_marks c l (slice_get x l) (slice_get x l)) _ (λ l. same_line c l (slice_get x l))

pub none_after : (c : ℕ) (o : Option (List Counts)) → pipe_marks c o None ≡ []
none_after c None = refl
none_after c (Some x) = refl

-- ---- one processor more
less_more : (n : ℕ) → nat_lt n (n + 1) ≡ true
less_more n = grind (arith, nat_tests)

none_less : (n : ℕ) → nat_lt n 0 ≡ false
none_less n = grind (arith, nat_tests)

chosen : (b bb : Bool) (n c : ℕ) (was now : Parts) → c ≢ n → nat_lt c n ≡ b → nat_lt c (n + 1) ≡ bb → (if bb then now else was) ≡ (if b then now else was)
chosen true true n c was now other e f = refl
chosen false false n c was now other e f = refl
chosen true false n c was now other e f = let a = ltb-true c n e in let b = ltb-false c (n + 1) f in absurd (omega (arith, a, b))
chosen false true n c was now other e f = let a = ltb-false c n e in let b = ltb-true c (n + 1) f in absurd (other (omega (arith, a, b)))

advance : (n : ℕ) (rows after : List (List Counts)) (was now : Parts) → IsTallyUpTo n rows was now → ((d : ℕ) → d ≢ n → slice_get after d ≡ slice_get rows d)
    → ((pipe : Pipe) → slice_get now.pipes n ≡ Some pipe → slice_get after n ≡ Some pipe.counts) → IsTallyUpTo (n + 1) after was now
advance n rows after was now is others here c pipe at = elim (cases_eq c n) [
  | inl same ↦
      let there : slice_get (if nat_lt n (n + 1) then now else was).pipes n ≡ Some pipe = subst (λ k. slice_get (if nat_lt k (n + 1) then now else was).pipes k ≡ Some pipe) same at in
      let of_now : slice_get now.pipes n ≡ Some pipe = subst (λ b. slice_get (if b then now else was).pipes n ≡ Some pipe) (less_more n) there in
      subst (λ k. slice_get after k ≡ Some pipe.counts) (sym same) (here pipe of_now)
  | inr other ↦
      let e = chosen (nat_lt c n) (nat_lt c (n + 1)) n c was now other refl refl in
      others c other ∙ is c pipe (subst (λ (k : Parts). slice_get k.pipes c ≡ Some pipe) e at)
]

row_at : (n : ℕ) (rows : List (List Counts)) (was now : Parts) (pipe : Pipe) → IsTallyUpTo n rows was now → slice_get was.pipes n ≡ Some pipe → slice_get rows n ≡ Some pipe.counts
row_at n rows was now pipe is at = is n pipe (subst (λ b. slice_get (if b then now else was).pipes n ≡ Some pipe) (sym (not_less n)) at)

-- ---- a pipe that is there now was there before
within : {X : Type 0} (xs : List X) (i : ℕ) (x : X) → slice_get xs i ≡ Some x → i < length xs
within [] i x e = absurd cc
within (y ∷ xs) zero x e = omega arith
within (y ∷ xs) (suc i) x e = let h = within xs i x e in omega (arith, h)

has : {X : Type 0} (xs : List X) (i : ℕ) → i < length xs → (x : X) × (slice_get xs i ≡ Some x)
has [] i h = absurd (omega (arith, h))
has (x ∷ xs) zero h = (x, refl)
has (x ∷ xs) (suc i) h = has xs i (omega (arith, h))

there_was : (n : ℕ) (was now : Parts) (q : Pipe) → length now.pipes ≡ length was.pipes → slice_get now.pipes n ≡ Some q → (p : Pipe) × (slice_get was.pipes n ≡ Some p)
there_was n was now q e at = let h = within now.pipes n q at in has was.pipes n (omega (arith, h, e))

pipe_of : (o : Option Pipe) (counts : List Counts) → line_counts_of o ≡ Some counts → (q : Pipe) × ((o ≡ Some q) × (q.counts ≡ counts))
pipe_of None counts e = absurd cc
pipe_of (Some q) counts e = (q, (refl, cc))

-- ---- what a processor adds
pub absent : (n : ℕ) (rows : List (List Counts)) (was now : Parts) → line_counts_at n now ≡ None → IsTallyUpTo n rows was now
    → (pipe_marks n (line_counts_at n was) (line_counts_at n now) ≡ []) × IsTallyUpTo (n + 1) rows was now
absent n rows was now none is = (
  ap (λ o. pipe_marks n (line_counts_at n was) o) none ∙ none_after n (line_counts_at n was),
  advance n rows rows was now is (λ d other. refl) (λ pipe at. let no : Some pipe.counts ≡ None = ap line_counts_of (sym at) ∙ none in absurd cc),
)

-- the counts before and after
seen : (n : ℕ) (rows : List (List Counts)) (row counts : List Counts) (was now : Parts) (reach : Reach) → IsTallyUpTo n rows was now → IsWithinReach reach was now → slice_get rows n ≡ Some row
    → line_counts_at n now ≡ Some counts → (p : Pipe) × ((q : Pipe) × ((slice_get was.pipes n ≡ Some p) × ((slice_get now.pipes n ≡ Some q) × ((p.counts ≡ row) × (q.counts ≡ counts)))))
seen n rows row counts was now reach is far at after =
    let q = pipe_of (slice_get now.pipes n) counts after in
    let p = there_was n was now q.0 far.pipes q.1.0 in
    let e : Some p.0.counts ≡ Some row = sym (row_at n rows was now p.0 is p.1) ∙ at in
    let same : p.0.counts ≡ row = cc in
    (p.0, (q.0, (p.1, (q.1.0, (same, q.1.1)))))

marked : (n : ℕ) (row counts : List Counts) (was now : Parts) (p q : Pipe) → slice_get was.pipes n ≡ Some p → slice_get now.pipes n ≡ Some q → p.counts ≡ row → q.counts ≡ counts
    → pipe_marks n (line_counts_at n was) (line_counts_at n now) ≡ lines_marks n row counts
marked n row counts was now p q before after a b = rw (before, after, a, b) refl

-- what follows from how the counts of its pipe differ
pub differ : (n : ℕ) (rows : List (List Counts)) (row counts : List Counts) (was now : Parts) (reach : Reach) (P : Type 0) → IsTallyUpTo n rows was now → IsWithinReach reach was now → slice_get rows n ≡ Some row
    → line_counts_at n now ≡ Some counts → ((p q : Pipe) → slice_get was.pipes n ≡ Some p → slice_get now.pipes n ≡ Some q → p.counts ≡ row → q.counts ≡ counts → P) → P
differ n rows row counts was now reach P is far at after f =
    let s = seen n rows row counts was now reach is far at after in f s.0 s.1.0 s.1.1.0 s.1.1.1.0 s.1.1.1.1.0 s.1.1.1.1.1

pub kept : (n : ℕ) (rows later : List (List Counts)) (row counts : List Counts) (was now : Parts) (reach : Reach) → IsTallyUpTo n rows was now → IsWithinReach reach was now → slice_get rows n ≡ Some row
    → line_counts_at n now ≡ Some counts → slice_get later n ≡ Some counts → ((d : ℕ) → d ≢ n → slice_get later d ≡ slice_get rows d)
    → (pipe_marks n (line_counts_at n was) (line_counts_at n now) ≡ lines_marks n row counts) × IsTallyUpTo (n + 1) later was now
kept n rows later row counts was now reach is far at after here others =
    let s = seen n rows row counts was now reach is far at after in
    let p = s.0 in let q = s.1.0 in let before = s.1.1.0 in let there = s.1.1.1.0 in let a = s.1.1.1.1.0 in let b = s.1.1.1.1.1 in (
      marked n row counts was now p q before there a b,
      advance n rows later was now is others
          (λ pipe k. let e : Some pipe ≡ Some q = sym k ∙ there in let alike : pipe ≡ q = cc in here ∙ ap Some (sym b) ∙ ap (λ (x : Pipe). Some x.counts) (sym alike)),
    )

-- ---- before the first and behind the last processor
pub at_first : (rows : List (List Counts)) (was now : Parts) → IsTallyOf rows was → IsTallyUpTo 0 rows was now
at_first rows was now is c pipe at = is c pipe (subst (λ b. slice_get (if b then now else was).pipes c ≡ Some pipe) (none_less c) at)

pub at_last : (n : ℕ) (rows : List (List Counts)) (was now : Parts) → IsTallyUpTo n rows was now → length now.pipes ≡ n → IsTallyOf rows now
at_last n rows was now is all c pipe at =
    let h = within now.pipes c pipe at in
    let less : nat_lt c n ≡ true = by (nat_lt c n) refl (omega (arith, h, all)) in
    is c pipe (subst (λ b. slice_get (if b then now else was).pipes c ≡ Some pipe) (sym less) at)
  where
    by : (b : Bool) → nat_lt c n ≡ b → c < n → nat_lt c n ≡ true
    by true e k = e
    by false e k = let no = ltb-false c n e in absurd (omega (arith, no, k))
