-- What a call tells of the history of all calls.
use Rattle.std.proofs.Common.{◌≡◌, ℕ, ◌+◌, ◌<◌, ◌≤◌, List, [], ◌∷◌, ◌++◌, Bool, true, false, Err, append_assoc, length, length-append, refl, sym, ap, subst, ◌∙◌, ◌⊎◌, inl, inr, arith}
use Rattle.std.specs.Prelude.{◌==◌, MatchBool, Ok, Result, IfErr, IfOk, None}
use mathlib.Core.List.{IsPrefix}
use Rattle.evm_core.proofs.Outcomes.{same_boot, step_refusals, tick_refusals}
use Rattle.evm_core.specs.Laws.{IsAbsent, IsFull}
use Rattle.evm_core.specs.Steps.{steps}
use Rattle.evm_core.specs.declared.committing.Committed.{Committed}
use Rattle.evm_exec.specs.Burst.{Speculated}
use Rattle.evm_lines.specs.declared.TheConstants.{LINES}
use Rattle.evm_model.specs.Replay.{replay}
use Rattle.evm_model.specs.State.{State}
use Rattle.evm_model.specs.declared.boot.Boot.{Boot}
use Rattle.evm_model.specs.declared.event.Answer.{Answer}
use Rattle.evm_model.specs.declared.event.Event.TheVariants as event
use Rattle.evm_model.specs.declared.refusal.Refusal.{Refusal}
use Rattle.evm_model.specs.declared.refusal.Refusal.TheVariants as refusals
use Rattle.evm_shared.specs.EventCounts.{plus}
use Rattle.evm_shared.specs.Histories.{IsMadeBy, log_events}
use Rattle.evm_shared.specs.Ports.{Delivers, MakesBells, MakesOne, MakesSteps, PortValue, Records, RefusesBells, marked, marked_short, recorded, with_log}
use Rattle.evm_shared.specs.declared.event_counts.EventCounts.{EventCounts}
use Rattle.evm_shared.specs.declared.receipt.Made.{Made}
use Rattle.evm_shared.specs.declared.receipt.Made.TheVariants.{Steps, Bells, One}

-- ---- the machine that was found

boot_found : (start before : State) (log : List Made) → IsMadeBy start log before → before.boot ≡ start.boot
boot_found start before log made = sym (ap (λ (s : State). s.boot) made.replayed) ∙ same_boot start (log_events log)

length_found : (start before : State) (log : List Made) → IsMadeBy start log before → length before.journal ≡ length start.journal + length (log_events log)
length_found start before log made = ap length made.journaled ∙ length-append start.journal (log_events log)

full_found : (start before : State) (log seen : List Made) → IsMadeBy start log before → seen ≡ log → before.boot.capacity ≤ length before.journal → start.boot.capacity ≤ length start.journal + length (log_events seen)
full_found start before log seen made same full =
    omega (arith, full, ap (λ (b : Boot). b.capacity) (boot_found start before log made), length_found start before log made, ap (λ l. length (log_events l)) same)

-- ---- the port that is left

recorded_log : (b : Bool) (position : ℕ) (made : Made) (p : PortValue) → (p.room == 0) ≡ b → (recorded position made p).log ≡ p.log
recorded_log true position made p test = rw test refl
recorded_log false position made p test = rw test refl

goes_on : (log : List Made) (before : State) (made : Made) (more : EventCounts) (old new : PortValue) → Records log before made more old new → new.log ≡ log ++ made ∷ []
goes_on log before made more old new records =
    let counted : PortValue = record old { share = plus old.share more; log = log ++ made ∷ [] } in
    ap (λ (p : PortValue). p.log) records ∙ recorded_log (old.room == 0) (length before.journal) made counted refl

marked_log : (why : Refusal) (p : PortValue) → (marked why p).log ≡ p.log
marked_log refusals.Full p = refl
marked_log _ p = refl

short_log : (why : Refusal) (p : PortValue) → (marked_short why p).log ≡ p.log
short_log refusals.Full p = refl
short_log _ p = refl

stays : (why : Refusal) (log : List Made) (old new : PortValue) → new ≡ marked why (with_log log old) → new.log ≡ log
stays why log old new is = ap (λ (p : PortValue). p.log) is ∙ marked_log why (with_log log old)

short_stays : (why : Refusal) (log : List Made) (old new : PortValue) → new ≡ marked_short why (with_log log old) → new.log ≡ log
short_stays why log old new is = ap (λ (p : PortValue). p.log) is ∙ short_log why (with_log log old)

-- one entry more begins with what began
append_more : (known rest log : List Made) (made : Made) → known ++ rest ≡ log → known ++ (rest ++ made ∷ []) ≡ log ++ made ∷ []
append_more known rest log made is = sym (append_assoc known rest (made ∷ [])) ∙ ap (λ l. l ++ made ∷ []) is

prefix_more : (known log new : List Made) (made : Made) → IsPrefix known log → new ≡ log ++ made ∷ [] → IsPrefix known new
prefix_more known log new made p is = (p.0 ++ made ∷ [], append_more known p.0 log made p.1 ∙ sym is)

-- ---- a commit

pub commit_seen : (start : State) (c : ℕ) (burst : Speculated) (result : Result Committed Refusal) (old new : PortValue) → MakesSteps start c burst result old new → IsPrefix old.log new.log
commit_seen start c burst (Ok done) old new h = prefix_more old.log h.0 new.log (Steps c done.steps) h.2 (goes_on h.0 h.1 (Steps c done.steps) _ old new (h.4).1)
commit_seen start c burst (Err why) old new h = subst (IsPrefix old.log) (sym (stays why h.0 old new (h.4).1)) h.2

pub commit_made : (start : State) (c : ℕ) (burst : Speculated) (result : Result Committed Refusal) (old new : PortValue) → MakesSteps start c burst result old new
    → IfOk result (λ done. (log : List Made) × (after : State) × IsPrefix old.log log × (new.log ≡ log ++ Steps c done.steps ∷ []) × (steps c done.steps (replay start (log_events log)) ≡ (after, None)))
commit_made start c burst (Ok done) old new h = (
  h.0,
  (h.4).0.0,
  h.2,
  goes_on h.0 h.1 (Steps c done.steps) _ old new (h.4).1,
  ap (steps c done.steps) (h.3).replayed ∙ (h.4).0.3,
)
commit_made start c burst (Err why) old new h = tt

step_full : (start before : State) (c : ℕ) (why : Refusal) (log seen : List Made) → IsMadeBy start log before → seen ≡ log → why ≡ refusals.Full → IsFull before why ⊎ IsAbsent c before why
    → start.boot.capacity ≤ length start.journal + length (log_events seen)
step_full start before c why log seen made same full (inl h) = full_found start before log seen made same h.1
step_full start before c why log seen made same full (inr h) = absurd (cc (full, h.0))

pub commit_full : (start : State) (c : ℕ) (burst : Speculated) (result : Result Committed Refusal) (old new : PortValue) → MakesSteps start c burst result old new
    → IfErr result (λ why. why ≡ refusals.Full → start.boot.capacity ≤ length start.journal + length (log_events new.log))
commit_full start c burst (Ok done) old new h = tt
commit_full start c burst (Err why) old new h = λ full. step_full start h.1 c why h.0 new.log h.3 (stays why h.0 old new (h.4).1) full (step_refusals h.1 c why (h.4).0)

-- ---- a deliver

delivers_log : (b : Bool) (log : List Made) (before : State) (c word : ℕ) (old new : PortValue) → (word == 0) ≡ b → Delivers log before c word old new
    → MatchBool b (new.log ≡ log) (new.log ≡ log ++ Bells c word ∷ [])
delivers_log true log before c word old new test h = let same : new ≡ with_log log old = rw test at h in ap (λ (p : PortValue). p.log) same
delivers_log false log before c word old new test h = let records = rw test at h in goes_on log before (Bells c word) _ old new records

either_seen : (b : Bool) (known log new : List Made) (made : Made) → IsPrefix known log → MatchBool b (new ≡ log) (new ≡ log ++ made ∷ []) → IsPrefix known new
either_seen true known log new made p is = subst (IsPrefix known) (sym is) p
either_seen false known log new made p is = prefix_more known log new made p is

pub deliver_seen : (start : State) (cpus c : ℕ) (result : Result ℕ Refusal) (old new : PortValue) → MakesBells start cpus c result old new → IsPrefix old.log new.log
deliver_seen start cpus c (Ok word) old new h = either_seen (word == 0) old.log h.0 new.log (Bells c word) h.2 (delivers_log (word == 0) h.0 h.1 c word old new refl (h.4).1)
deliver_seen start cpus c (Err why) old new h = subst (IsPrefix old.log) (sym (short_stays why h.0 old new (h.4).1)) h.2

pub deliver_made : (start : State) (cpus c : ℕ) (result : Result ℕ Refusal) (old new : PortValue) → MakesBells start cpus c result old new
    → IfOk result (λ word. (log : List Made) × IsPrefix old.log log × MatchBool (word == 0) (new.log ≡ log) (new.log ≡ log ++ Bells c word ∷ []))
deliver_made start cpus c (Ok word) old new h = (h.0, h.2, delivers_log (word == 0) h.0 h.1 c word old new refl (h.4).1)
deliver_made start cpus c (Err why) old new h = tt

bells_full : (start before : State) (cpus c : ℕ) (why : Refusal) (log seen : List Made) → IsMadeBy start log before → seen ≡ log → why ≡ refusals.Full → RefusesBells before cpus c why
    → start.boot.capacity < length start.journal + length (log_events seen) + LINES
bells_full start before cpus c why log seen made same full (inl h) =
    omega (arith, h.1, ap (λ (b : Boot). b.capacity) (boot_found start before log made), length_found start before log made, ap (λ l. length (log_events l)) same)
bells_full start before cpus c why log seen made same full (inr h) = absurd (cc (full, h.0))

pub deliver_full : (start : State) (cpus c : ℕ) (result : Result ℕ Refusal) (old new : PortValue) → MakesBells start cpus c result old new
    → IfErr result (λ why. why ≡ refusals.Full → start.boot.capacity < length start.journal + length (log_events new.log) + LINES)
deliver_full start cpus c (Ok word) old new h = tt
deliver_full start cpus c (Err why) old new h = λ full. bells_full start h.1 cpus c why h.0 new.log h.3 (short_stays why h.0 old new (h.4).1) full (h.4).0

-- ---- a tick

pub tick_seen : (start : State) (result : Result Answer Refusal) (old new : PortValue) → MakesOne start event.Tick result old new → IsPrefix old.log new.log
tick_seen start (Ok answer) old new h = prefix_more old.log h.0 new.log (One event.Tick) h.2 (goes_on h.0 h.1 (One event.Tick) _ old new (h.4).1)
tick_seen start (Err why) old new h = subst (IsPrefix old.log) (sym (stays why h.0 old new (h.4).1)) h.2

pub tick_made : (start : State) (result : Result Answer Refusal) (old new : PortValue) → MakesOne start event.Tick result old new
    → IfOk result (λ answer. (log : List Made) × IsPrefix old.log log × (new.log ≡ log ++ One event.Tick ∷ []))
tick_made start (Ok answer) old new h = (h.0, h.2, goes_on h.0 h.1 (One event.Tick) _ old new (h.4).1)
tick_made start (Err why) old new h = tt

pub tick_full : (start : State) (result : Result Answer Refusal) (old new : PortValue) → MakesOne start event.Tick result old new
    → IfErr result (λ why. start.boot.capacity ≤ length start.journal + length (log_events new.log))
tick_full start (Ok answer) old new h = tt
tick_full start (Err why) old new h = full_found start h.1 h.0 new.log h.3 (stays why h.0 old new (h.4).1) (tick_refusals h.1 why (h.4).0).1
