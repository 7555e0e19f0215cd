-- Turns of a worker, one after the other.
use Rattle.std.proofs.Common.{◌≡◌, ℕ, suc, ◌+◌, ◌<◌, ◌≤◌, Some, Bool, true, false, inl, inr, List, [], ◌∷◌, ◌++◌, length, refl, ap, subst, sym, ◌∙◌, ⊎_elim, arith}
use Rattle.std.specs.Prelude.{◌==◌, Ok}
use Rattle.evm_model.specs.State.{State}
use Rattle.evm_model.specs.declared.refusal.Refusal.{Refusal}
use Rattle.evm_model.specs.declared.refusal.Refusal.TheVariants.{Full}
use Rattle.evm_shared.specs.EventCounts.{counts, plus}
use Rattle.evm_shared.specs.Ports.{Delivers, IsMarked, MakesBells, PortValue, RefusesCpu, RefusesEither, marked, marked_short, recorded, with_log}
use Rattle.evm_shared.specs.Receipts.{made_events}
use Rattle.evm_shared.specs.Workers.{HasTurned, LacksCommit, LacksDeliver, MakesTurn, MakesTurns, RefusesTurn, WorkerValue}
use Rattle.evm_shared.specs.declared.event_counts.EventCounts.{EventCounts}
use Rattle.evm_shared.specs.declared.receipt.Made.{Made}
use Rattle.evm_shared.specs.declared.receipt.Made.TheVariants.{Bells}

-- one turn more
pub turns_more : (start : State) (cpus n : ℕ) (old between new : WorkerValue) → MakesTurns start cpus n old between → MakesTurn start cpus between new → MakesTurns start cpus (n + 1) old new
turns_more start cpus n old between new before turn =
    let next : suc n ≡ n + 1 = omega arith in
    subst (λ k. MakesTurns start cpus k old new) next (between, before, turn)

-- ---- what a turn that was refused leaves of its port

marked_share : (why : Refusal) (p : PortValue) → (marked why p).share ≡ p.share
marked_share Full p = refl
marked_share _ p = refl

short_share : (why : Refusal) (p : PortValue) → (marked_short why p).share ≡ p.share
short_share Full p = refl
short_share _ p = refl

full_mark : (why : Refusal) (p : PortValue) → IsMarked why (marked why p)
full_mark Full p = inl refl
full_mark _ p = tt

short_mark : (why : Refusal) (p : PortValue) → IsMarked why (marked_short why p)
short_mark Full p = inr refl
short_mark _ p = tt

recorded_share : (b : Bool) (position : ℕ) (made : Made) (p : PortValue) → (p.room == 0) ≡ b → (recorded position made p).share ≡ p.share
recorded_share true position made p test = rw test refl
recorded_share false position made p test = rw test refl

-- a deliver makes no Step
delivered_tested : (b : Bool) (log : List Made) (before : State) (c word : ℕ) (old new : PortValue) → (word == 0) ≡ b → Delivers log before c word old new → new.share.steps ≡ old.share.steps
delivered_tested true log before c word old new test h = let same : new ≡ with_log log old = rw test at h in ap (λ (p : PortValue). p.share.steps) same
delivered_tested false log before c word old new test h =
    let counted : PortValue = record old { share = plus old.share (counts 0 (length (made_events (Bells c word))) 0); log = log ++ Bells c word ∷ [] } in
    let records : new ≡ recorded (length before.journal) (Bells c word) counted = rw test at h in
    let share : new.share ≡ counted.share = ap (λ (p : PortValue). p.share) records ∙ recorded_share (counted.room == 0) (length before.journal) (Bells c word) counted refl in
    omega (arith, ap (λ (n : EventCounts). n.steps) share)

delivered_steps : (start : State) (cpus c word : ℕ) (old new : PortValue) → MakesBells start cpus c (Ok word) old new → new.share.steps ≡ old.share.steps
delivered_steps start cpus c word old new h = delivered_tested (word == 0) h.0 h.1 c word old new refl (h.4).1

-- .. the Steps that it had
refused_steps : (start : State) (cpus : ℕ) (old new : WorkerValue) (why : Refusal) → RefusesTurn start cpus old new why → new.port.share.steps ≡ old.port.share.steps
refused_steps start cpus old new why refused =
    ⊎_elim
    (λ (h : LacksDeliver start cpus old new why). ap (λ (p : PortValue). p.share.steps) (h.0.4).1 ∙ ap (λ (n : EventCounts). n.steps) (short_share why (with_log h.0.0 old.port)))
    (λ (h : LacksCommit start cpus old new why).
    ap (λ (p : PortValue). p.share.steps) (h.7.4).1 ∙ ap (λ (n : EventCounts). n.steps) (marked_share why (with_log h.7.0 h.1)) ∙ delivered_steps start cpus old.cpu h.0 old.port h.1 h.4)
    refused

-- .. and the mark of a Full
refused_mark : (start : State) (cpus : ℕ) (old new : WorkerValue) (why : Refusal) → RefusesTurn start cpus old new why → IsMarked why new.port
refused_mark start cpus old new why refused =
    ⊎_elim
    (λ (h : LacksDeliver start cpus old new why). subst (IsMarked why) (sym (h.0.4).1) (short_mark why (with_log h.0.0 old.port)))
    (λ (h : LacksCommit start cpus old new why). subst (IsMarked why) (sym (h.7.4).1) (full_mark why (with_log h.7.0 h.1)))
    refused

-- a commit is refused for a processor that the machine lacks
pub lacks_either : (start : State) (cpus c : ℕ) (why : Refusal) → RefusesCpu start c why → RefusesEither start cpus c why
lacks_either start cpus c why refused = ⊎_elim (λ full. inl full) (λ lacks. inr (lacks.0, inl lacks.1)) refused

-- a turn that was refused, and the run that ends there
pub run_stops : (start : State) (cpus turns made : ℕ) (old between after new : WorkerValue) (why : Refusal)
    → between.cpu ≡ old.cpu → between.taker.bells ≡ old.taker.bells → after.cpu ≡ between.cpu → after.taker.bells ≡ between.taker.bells
    → made < turns → MakesTurns start cpus made old between → old.port.share.steps + made ≤ between.port.share.steps → RefusesTurn start cpus between after why
    → RefusesEither start cpus between.cpu why → new ≡ (record after { refused = Some why })
    → HasTurned start cpus turns old new
run_stops start cpus turns made old between after new why cpu bells same_cpu same_bells fewer before steps refused reason is =
    let more : old.port.share.steps + made ≤ after.port.share.steps = omega (arith, steps, refused_steps start cpus between after why refused) in
    let same : RefusesEither start cpus old.cpu why = subst (λ c. RefusesEither start cpus c why) cpu reason in
    let mark = refused_mark start cpus between after why refused in
    subst (λ (w : WorkerValue). HasTurned start cpus turns old w) (sym is) (same_cpu ∙ cpu, same_bells ∙ bells, (made, between, fewer, before, more, refused, same, mark))
