-- Turns of two workers, and the events that their ports made.
use Rattle.std.proofs.Common.{◌≡◌, ℕ, zero, suc, ◌+◌, ◌*◌, ◌<◌, ◌≤◌, ◌↔◌, Bool, true, false, IsTrue, List, [], ◌∷◌, ◌++◌, length, take, Option, Some, None, inl, inr, ⊎_elim, refl, sym, ap, subst, ◌∙◌, arith}
use Rattle.std.specs.Prelude.{◌⊎◌, All, IfSome, slice_index_or}
use Rattle.std.proofs.lemmas.List.Elements.{All-cons, All-nil}
use Rattle.evm_model.specs.Kinds.{AStep, ABell, kind_count}
use Rattle.evm_model.specs.State.{State}
use Rattle.evm_model.specs.declared.refusal.Refusal.{Refusal}
use Rattle.evm_shared.specs.EventCounts.{kind_counts, plus}
use Rattle.evm_shared.specs.Ports.{PortValue, made_by}
use Rattle.evm_shared.specs.Workers.{HasTurned, WorkerValue}
use Rattle.evm_shared.specs.declared.event_counts.EventCounts.{EventCounts}
use Rattle.evm_command.specs.Workers.{HaveMade, HaveTurned, KeepSteps, RefusesWorker, bells_after}

-- a worker made its turns, or was refused one
turned_one : (first : State) (turns : ℕ) (old new : WorkerValue) (r : Option Refusal) → new.refused ≡ r → HasTurned first 2 turns old new → (turns ≤ new.port.share.steps) ⊎ RefusesWorker first turns
turned_one first turns old new (Some why) e h = inr (old, new, why, h, e)
turned_one first turns old new None e h = let made = rw e at h.2 in inl (omega (arith, made.1))

-- each worker made its turns, or one was refused one
pub turned : (first : State) (turns : ℕ) (old new : List WorkerValue) → length new ≡ length old
    → ((i : ℕ) (d : WorkerValue) → i < length old → HasTurned first 2 turns (slice_index_or old i d) (slice_index_or new i d))
    → All (λ (w : WorkerValue). turns ≤ w.port.share.steps) new ⊎ RefusesWorker first turns
turned first turns old [] e h = inl (All-nil (λ (v : WorkerValue). turns ≤ v.port.share.steps))
turned first turns [] (w ∷ ws) e h = absurd (omega arith)
turned first turns (o ∷ os) (w ∷ ws) e h =
    ⊎_elim
    (λ (made : turns ≤ w.port.share.steps).
    ⊎_elim
    (λ (rest : All (λ (v : WorkerValue). turns ≤ v.port.share.steps) ws). inl (All-cons (λ (v : WorkerValue). turns ≤ v.port.share.steps) w ws made rest))
    (λ (lacks : RefusesWorker first turns). inr lacks)
    (turned first turns os ws (omega arith) (λ i d below. h (suc i) d (omega arith))))
    (λ (lacks : RefusesWorker first turns). inr lacks)
    (turned_one first turns o w w.refused refl (h 0 o (omega arith)))

-- two ports that made so many Steps each
pub made_twice : (n : ℕ) (ports : List PortValue) → length ports ≡ 2 → All (λ (p : PortValue). n ≤ p.share.steps) ports → 2 * n ≤ (made_by ports).steps
made_twice n [] e h = absurd (omega arith)
made_twice n (a ∷ []) e h = absurd (omega arith)
made_twice n (a ∷ b ∷ c ∷ ports) e h = absurd (omega arith)
made_twice n (a ∷ b ∷ []) e h = omega (arith, h 0 a (omega arith), h 1 a (omega arith))

-- the ports of workers of which each made its turns, or one was refused one
pub have_turned : {X : Type 0} (r : Option X) (f : X → List PortValue) (first : State) (turns : ℕ) (workers kept : List WorkerValue)
    → IfSome r (λ x. length (f x) ≡ length kept) → IfSome r (λ x. KeepSteps kept (f x)) → kept ≡ workers → length workers ≡ 2
    → All (λ (w : WorkerValue). turns ≤ w.port.share.steps) workers ⊎ RefusesWorker first turns → IfSome r (λ x. HaveTurned first turns (f x))
have_turned None f first turns workers kept all steps same two h = tt
have_turned (Some x) f first turns workers kept all steps same two h =
    ⊎_elim
    (λ (made : All (λ (w : WorkerValue). turns ≤ w.port.share.steps) workers).
    inl (made_twice turns (f x) (all ∙ ap length same ∙ two) (steps turns (subst (λ (ws : List WorkerValue). All (λ (w : WorkerValue). turns ≤ w.port.share.steps) ws) (sym same) made))))
    (λ (refused : RefusesWorker first turns). inr refused)
    h

-- a list into which a slice of the same length is written back
pub written_back : (n : ℕ) (xs ys : List WorkerValue) → length xs ≡ n → take n (xs ++ ys) ≡ xs
written_back zero [] ys e = refl
written_back (suc n) [] ys e = absurd (omega arith)
written_back zero (x ∷ xs) ys e = absurd (omega arith)
written_back (suc n) (x ∷ xs) ys e = ap (λ (t : List WorkerValue). x ∷ t) (written_back n xs ys (omega arith))

-- what is counted behind a state is what its journal has more; where not all turns were made, a worker was refused one or a ring is no Bell
pub loses : (turns : ℕ) (first machine : State) (base made : EventCounts) (ports : List PortValue) → kind_counts first.journal ≡ base → kind_counts machine.journal ≡ plus base made
    → made ≡ made_by ports → (HaveMade turns made → ⊥) → HaveTurned first turns ports
    → RefusesWorker first turns ⊎ ((kind_count AStep first.journal + 2 * turns ≤ kind_count AStep machine.journal) × (kind_count ABell machine.journal ≡ kind_count ABell first.journal + bells_after turns → ⊥))
loses turns first machine base made ports before after total lacks h =
    let had : kind_count AStep first.journal ≡ base.steps = ap (λ (n : EventCounts). n.steps) before in
    let has : kind_count AStep machine.journal ≡ base.steps + made.steps = ap (λ (n : EventCounts). n.steps) after in
    let rung : kind_count ABell first.journal ≡ base.bells = ap (λ (n : EventCounts). n.bells) before in
    let rings : kind_count ABell machine.journal ≡ base.bells + made.bells = ap (λ (n : EventCounts). n.bells) after in
    let all : made.steps ≡ (made_by ports).steps = ap (λ (n : EventCounts). n.steps) total in
    ⊎_elim
    (λ (steps : 2 * turns ≤ (made_by ports).steps).
    inr (omega (arith, had, has, all, steps), λ bells. lacks (record { steps = omega (arith, all, steps); bells = omega (arith, rung, rings, bells) })))
    (λ (refused : RefusesWorker first turns). inl refused)
    h

pub not_made : (r : Bool) (turns : ℕ) (made : EventCounts) → (IsTrue r ↔ HaveMade turns made) → r ≡ false → HaveMade turns made → ⊥
not_made true turns made e f h = absurd cc
not_made false turns made e f h = let wrong : false ≡ true = e.1 h in absurd cc
