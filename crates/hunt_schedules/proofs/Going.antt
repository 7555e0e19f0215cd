-- A branch that goes on with its processor, step by step, up to a state that is covered.
use Rattle.std.proofs.Common.{◌≡◌, ℕ, zero, suc, ◌+◌, ◌<◌, ◌≤◌, ◌⊎◌, inl, inr, List, [], ◌∷◌, ◌++◌, Some, true, length, refl, sym, ap, subst, ◌∙◌, arith}
use Rattle.std.specs.Prelude.{slice_get, ◌==◌}
use Rattle.std.proofs.lemmas.Bool.Decides.{nat_tests}
use Rattle.evm_model.specs.State.{State}
use Rattle.evm_model.specs.declared.event.Event.TheVariants.{Step}
use Rattle.hunt_schedules.proofs.Closing.{GoesFarther, done-still}
use Rattle.hunt_schedules.proofs.Covering.{covered-more, covers-itself, same-answers}
use Rattle.hunt_schedules.proofs.Searching.{Allows, Failing}
use Rattle.hunt_schedules.proofs.Walking.{reached-step}
use Rattle.hunt_schedules.specs.Branches.{events_of_turns, KeepsBranches}
use Rattle.hunt_schedules.specs.Covering.{Subsumes, IsCovered, StaysCovered}
use Rattle.hunt_schedules.specs.Schedules.{switches, stepped}
use Rattle.hunt_schedules.specs.Searches.{HasWalked, IsDone, IsPassed, IsSearched, IsWalked}
use Rattle.hunt_schedules.specs.Walks.{AreForked, CantStep, HasPassed, HasStepped, IsReached}
use Rattle.hunt_schedules.specs.declared.branch.Branch.{Branch}

-- ---- a number behind a list
pub front-still : (xs ys : List ℕ) (j n : ℕ) → slice_get xs j ≡ Some n → slice_get (xs ++ ys) j ≡ Some n
front-still [] ys j n h = cc
front-still (x ∷ xs) ys zero n h = h
front-still (x ∷ xs) ys (suc j) n h = front-still xs ys j n h

pub at-last : (xs : List ℕ) (n : ℕ) → slice_get (xs ++ n ∷ []) (length xs) ≡ Some n
at-last [] n = refl
at-last (x ∷ xs) n = at-last xs n

last-or-before : (xs : List ℕ) (n j m : ℕ) → slice_get (xs ++ n ∷ []) j ≡ Some m → (slice_get xs j ≡ Some m) ⊎ ((j ≡ length xs) × (n ≡ m))
last-or-before [] n zero m h = inr (refl, cc)
last-or-before [] n (suc j) m h = cc
last-or-before (x ∷ xs) n zero m h = inl h
last-or-before (x ∷ xs) n (suc j) m h = elim (last-or-before xs n j m h) [
  | inl old ↦ inl old
  | inr new ↦ inr (ap suc new.0, new.1)
]

pub longer-goes : (walked : List ℕ) (n m : ℕ) → n ≤ m → GoesFarther (walked ++ n ∷ []) (walked ++ m ∷ [])
longer-goes walked n m less j k h = elim (last-or-before walked n j k h) [
  | inl old ↦ (k, (omega arith), front-still walked (m ∷ []) j k old)
  | inr new ↦
      let same : n ≡ k = new.1 in
      (m, (omega arith), subst (λ (i : ℕ). slice_get (walked ++ m ∷ []) i ≡ Some m) (sym new.0) (at-last walked m))
]

pub more-goes : (walked : List ℕ) (n : ℕ) → GoesFarther walked (walked ++ n ∷ [])
more-goes walked n j k h = (k, (omega arith), front-still walked (n ∷ []) j k h)

before-or-at : (i n : ℕ) → i < n + 1 → (i < n) ⊎ (i ≡ n)
before-or-at zero zero h = inr refl
before-or-at zero (suc n) h = inl (omega arith)
before-or-at (suc i) zero h = absurd (omega arith)
before-or-at (suc i) (suc n) h = elim (before-or-at i n (omega arith)) [
  | inl less ↦ inl (omega arith)
  | inr same ↦ inr (ap suc same)
]

-- ---- a branch among the positions
-- a state that the branch reaches is a position, if it goes on behind it
pub passed-here : (first : State) (branches : List Branch) (walked : List ℕ) (branch : Branch) (steps count : ℕ) (s : State) → slice_get branches (length walked) ≡ Some branch → steps < count → IsReached first branch steps s
    → IsPassed first branches (walked ++ count ∷ []) s branch.cpu (length branch.turns.items)
passed-here first branches walked branch steps count s there less reached =
    record { place = length walked; branch = branch; steps = steps; count = count; there = there; far = at-last walked count; before = less; reached = reached; cpu = refl; made = refl }

covered-here : (first : State) (branches : List Branch) (walked : List ℕ) (branch : Branch) (steps count : ℕ) (s : State) → slice_get branches (length walked) ≡ Some branch → steps < count → IsReached first branch steps s
    → IsCovered (IsPassed first branches (walked ++ count ∷ [])) s branch.cpu (length branch.turns.items)
covered-here first branches walked branch steps count s there less reached =
    (s, length branch.turns.items, passed-here first branches walked branch steps count s there less reached, (omega arith), covers-itself s)

same-branch : (branches : List Branch) (i j : ℕ) (a b : Branch) → slice_get branches i ≡ Some a → slice_get branches j ≡ Some b → j ≡ i → a ≡ b
same-branch branches i j a b h g e = let there : slice_get branches i ≡ Some b = subst (λ (k : ℕ). slice_get branches k ≡ Some b) e g in let both : Some a ≡ Some b = sym h ∙ there in cc

-- what is covered where the last state of the branch is a position, is covered without it, if that state is
covered-less : (first : State) (branches : List Branch) (walked : List ℕ) (branch : Branch) (n : ℕ) (s x : State) (c k : ℕ) → slice_get branches (length walked) ≡ Some branch → IsReached first branch n s
    → IsCovered (IsPassed first branches (walked ++ n ∷ [])) s branch.cpu (length branch.turns.items)
    → IsCovered (IsPassed first branches (walked ++ (n + 1) ∷ [])) x c k → IsCovered (IsPassed first branches (walked ++ n ∷ [])) x c k
covered-less first branches walked branch n s x c k there reached here h =
    let p = h.2 in
    elim (last-or-before walked (n + 1) p.place p.count p.far) [
      | inl old ↦
          let still : IsPassed first branches (walked ++ n ∷ []) h.0 c h.1 =
          record { place = p.place; branch = p.branch; steps = p.steps; count = p.count; there = p.there; far = front-still walked (n ∷ []) p.place p.count old; before = p.before; reached = p.reached; cpu = p.cpu; made = p.made } in
          (h.0, h.1, still, h.3, h.4)
      | inr last ↦
          let before = p.before in
          let count : n + 1 ≡ p.count = last.1 in
          let same : branch ≡ p.branch = same-branch branches (length walked) p.place branch p.branch there p.there last.0 in
          elim (before-or-at p.steps n (omega arith)) [
            | inl less ↦
                let far : slice_get (walked ++ n ∷ []) p.place ≡ Some n = subst (λ (i : ℕ). slice_get (walked ++ n ∷ []) i ≡ Some n) (sym last.0) (at-last walked n) in
                let still : IsPassed first branches (walked ++ n ∷ []) h.0 c h.1 =
                record { place = p.place; branch = p.branch; steps = p.steps; count = n; there = p.there; far = far; before = less; reached = p.reached; cpu = p.cpu; made = p.made } in
                (h.0, h.1, still, h.3, h.4)
            | inr equal ↦
                let there' : IsReached first branch n h.0 = subst (λ (i : ℕ). IsReached first branch i h.0) equal (subst (λ (b : Branch). IsReached first b p.steps h.0) (sym same) p.reached) in
                let state : h.0 ≡ s = there' ∙ sym reached in
                let covers : Subsumes s x = subst (λ (t : State). Subsumes t x) state h.4 in
                let cpu : branch.cpu ≡ c = ap (λ (b : Branch). b.cpu) same ∙ p.cpu in
                let made : length branch.turns.items ≡ h.1 = ap (λ (b : Branch). length b.turns.items) same ∙ p.made in
                let few = h.3 in
                let fewer : length branch.turns.items ≤ k = omega arith in
                subst (λ (d : ℕ). IsCovered (IsPassed first branches (walked ++ n ∷ [])) x d k) cpu
                (covered-more (IsPassed first branches (walked ++ n ∷ [])) s x branch.cpu (length branch.turns.items) k here fewer covers)
          ]
    ]

-- ---- step by step
pub walked-none : (May : Allows) (Fails : Failing) (first : State) (most : ℕ) (branches : List Branch) (walked : List ℕ) (branch : Branch) (s : State) → IsReached first branch 0 s
    → IsWalked May Fails first most branches walked branch 0 s
walked-none May Fails first most branches walked branch s reached = record { reached = reached; done = λ i t less h. absurd (omega arith) }

same-step : (c : ℕ) → switches c (Step c) ≡ 0
same-step c = let e : (c == c) ≡ true = grind (arith, nat_tests) in rw e refl

-- a step that was made is harmless, and leads to the next state of the branch
step-stays : (Fails : Failing) (first : State) (branches : List Branch) (walked : List ℕ) (branch : Branch) (steps count : ℕ) (s after : State) → slice_get branches (length walked) ≡ Some branch → steps + 1 < count
    → IsReached first branch steps s → HasStepped Fails branch s after → StaysCovered Fails (IsPassed first branches (walked ++ count ∷ [])) s branch.cpu (length branch.turns.items) (Step branch.cpu)
step-stays Fails first branches walked branch steps count s after there less reached made t answer done =
    let one : suc steps ≡ steps + 1 = omega arith in
    let next : IsReached first branch (steps + 1) t = subst (λ (n : ℕ). IsReached first branch n t) one (reached-step first s t branch steps answer reached done) in
    let covered = covered-here first branches walked branch (steps + 1) count t there less next in
    let none : length branch.turns.items ≡ length branch.turns.items + switches branch.cpu (Step branch.cpu) = let zero' = same-step branch.cpu in omega arith in (
      (λ fails. made.2 (same-answers (λ u a. Fails s (Step branch.cpu) a u) s after t (Step branch.cpu) made.0 answer made.1 done fails)),
      subst (λ (k : ℕ). IsCovered (IsPassed first branches (walked ++ count ∷ [])) t branch.cpu k) none covered,
    )

pub walked-more : (May : Allows) (Fails : Failing) (first : State) (most : ℕ) (before branches : List Branch) (walked : List ℕ) (branch : Branch) (steps : ℕ) (s after : State) → slice_get before (length walked) ≡ Some branch
    → KeepsBranches before branches → AreForked May most branches branch steps s → HasStepped Fails branch s after
    → IsWalked May Fails first most before walked branch steps s → IsWalked May Fails first most branches walked branch (steps + 1) after
walked-more May Fails first most before branches walked branch steps s after there keeps forks made h = record {
  reached = subst (λ (n : ℕ). IsReached first branch n after) (let one : suc steps ≡ steps + 1 = omega arith in one) (reached-step first s after branch steps made.0 h.reached made.1);
  done = λ i t less reached. elim (before-or-at i steps less) [
    | inl old ↦ done-still May Fails first most before branches (walked ++ (steps + 1) ∷ []) (walked ++ (steps + 1 + 1) ∷ []) branch i t keeps (longer-goes walked (steps + 1) (steps + 1 + 1) (omega arith)) (h.done i t old reached)
    | inr same ↦
        let here : s ≡ t = h.reached ∙ sym (subst (λ (n : ℕ). IsReached first branch n t) same reached) in
        let now : IsDone May Fails most branches (IsPassed first branches (walked ++ (steps + 1 + 1) ∷ [])) branch steps s = record {
          forks = forks;
          next = λ may. step-stays Fails first branches walked branch steps (steps + 1 + 1) s after (keeps (length walked) branch there) (omega arith) h.reached made;
        } in
        subst (λ (u : State). IsDone May Fails most branches (IsPassed first branches (walked ++ (steps + 1 + 1) ∷ [])) branch i u) here
        (subst (λ (n : ℕ). IsDone May Fails most branches (IsPassed first branches (walked ++ (steps + 1 + 1) ∷ [])) branch n s) (sym same) now)
  ];
}

-- a branch whose processor can't step any more
pub walked-out : (May : Allows) (Fails : Failing) (first : State) (most : ℕ) (before branches : List Branch) (walked : List ℕ) (branch : Branch) (steps : ℕ) (start s : State) → slice_get before (length walked) ≡ Some branch
    → KeepsBranches before branches → AreForked May most branches branch steps s → CantStep May branch s → IsReached first branch 0 start
    → IsWalked May Fails first most before walked branch steps s → HasWalked May Fails first most branches walked branch (steps + 1) start
walked-out May Fails first most before branches walked branch steps start s there keeps forks cant begins h = record {
  covered = covered-here first branches walked branch 0 (steps + 1) start (keeps (length walked) branch there) (omega arith) begins;
  done = λ i t less reached. elim (before-or-at i steps less) [
    | inl old ↦ done-still May Fails first most before branches (walked ++ (steps + 1) ∷ []) (walked ++ (steps + 1) ∷ []) branch i t keeps (longer-goes walked (steps + 1) (steps + 1) (omega arith)) (h.done i t old reached)
    | inr same ↦
        let here : s ≡ t = h.reached ∙ sym (subst (λ (n : ℕ). IsReached first branch n t) same reached) in
        let now : IsDone May Fails most branches (IsPassed first branches (walked ++ (steps + 1) ∷ [])) branch steps s = record {
          forks = forks;
          next = λ may u answer done. absurd (cant may u answer done);
        } in
        subst (λ (u : State). IsDone May Fails most branches (IsPassed first branches (walked ++ (steps + 1) ∷ [])) branch i u) here
        (subst (λ (n : ℕ). IsDone May Fails most branches (IsPassed first branches (walked ++ (steps + 1) ∷ [])) branch n s) (sym same) now)
  ];
}

-- a branch that has come to a state that is covered without it
pub walked-into : (May : Allows) (Fails : Failing) (first : State) (most : ℕ) (branches : List Branch) (walked : List ℕ) (branch : Branch) (steps : ℕ) (start s : State) → slice_get branches (length walked) ≡ Some branch
    → IsCovered (IsPassed first branches (walked ++ steps ∷ [])) s branch.cpu (length branch.turns.items) → IsReached first branch 0 start
    → IsWalked May Fails first most branches walked branch steps s → HasWalked May Fails first most branches walked branch steps start
walked-into May Fails first most branches walked branch steps start s there here begins h = record {
  covered = covered-less first branches walked branch steps s start branch.cpu (length branch.turns.items) there h.reached here
      (covered-here first branches walked branch 0 (steps + 1) start there (omega arith) begins);
  done = λ i t less reached.
      let old = h.done i t less reached in record {
        forks = old.forks;
        next = λ may u answer done.
            let all = old.next may u answer done in
            (all.0, covered-less first branches walked branch steps s u (stepped branch.cpu (Step branch.cpu)) (length branch.turns.items + switches branch.cpu (Step branch.cpu)) there h.reached here all.1);
      };
}

-- a branch that has passed its beginning and gone on is looked at
pub searched-by : (May : Allows) (Fails : Failing) (first : State) (most : ℕ) (branches : List Branch) (walked : List ℕ) (branch : Branch) (count : ℕ) (start : State)
    → HasPassed Fails first (events_of_turns branch.turns.items) start → HasWalked May Fails first most branches walked branch count start
    → IsSearched May Fails first most branches (IsPassed first branches (walked ++ count ∷ [])) branch count
searched-by May Fails first most branches walked branch count start passed h = record {
  harmless = passed.harmless;
  covered = subst (λ (s : State). IsCovered (IsPassed first branches (walked ++ count ∷ [])) s branch.cpu (length branch.turns.items)) passed.reached h.covered;
  done = h.done;
}
