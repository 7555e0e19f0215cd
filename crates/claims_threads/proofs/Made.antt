-- As many Bells are made through a port as its taker takes lines.
use Rattle.std.proofs.Common.{◌≡◌, ℕ, zero, suc, ◌+◌, ◌<◌, List, [], ◌∷◌, ◌++◌, get_or, Bool, true, false, cond, length, length-append, refl, sym, ap, subst, ◌∙◌, ◌⊎◌, inl, inr, arith, ◌≤◌}
use Rattle.std.proofs.lemmas.Bool.{eqb-true}
use Rattle.std.proofs.lemmas.List.Sums.{sum_by-append, sum_by-cons}
use Rattle.std.proofs.lemmas.Nat.Bits.{bit_at-lt, bit_at-zero}
use Rattle.std.specs.Prelude.{◌==◌, count_by, sum_by, Ok, Err, MatchOption, MatchResult, Result, Option, Some, None}
use Rattle.std.specs.Int.{bit_at}
use Rattle.evm_bells.specs.Batches.{Batch}
use Rattle.evm_bells.specs.Seats.{TakerValue, taken_by}
use Rattle.evm_lines.specs.declared.TheConstants.{LINES}
use Rattle.evm_model.specs.State.{State}
use Rattle.evm_model.specs.declared.refusal.Refusal.{Refusal}
use Rattle.evm_shared.specs.Ports.{Delivers, MakesBells, MakesSteps, PortValue, with_log}
use Rattle.evm_shared.specs.Receipts.{bells_below}
use Rattle.evm_shared.specs.Workers.{HasTurned, LacksCommit, LacksDeliver, MakesTurn, MakesTurns, RefusesTurn, StopsTurns, WorkerValue}
use Rattle.evm_shared.specs.declared.event_counts.EventCounts.{EventCounts}
use Rattle.evm_shared.specs.declared.receipt.Made.{Made}
use Rattle.evm_shared.specs.declared.receipt.Made.TheVariants.{Bells}
use Rattle.claims_threads.proofs.Said.{bell_if, bit_tested, shares_more}
use Rattle.claims_threads.proofs.Taken.{committed, short_same}
use Rattle.claims_threads.specs.Lines.{lines_below, line_total}
use Rattle.claims_threads.specs.Said.{MakesTaken, MakeTaken}

-- ---- a word

one_long : (d n : ℕ) (b : Bool) → length (bell_if b d n) ≡ cond b 1 0
one_long d n true = refl
one_long d n false = refl

bells_long : (d word n : ℕ) → length (bells_below d word n) ≡ lines_below word n
unfolding bells_below lines_below
bells_long d word zero = refl
bells_long d word (suc n) =
    let test = bit_at word n == 1 in
    omega (arith, bells_long d word n, length-append (bells_below d word n) (bell_if test d n), one_long d n test, bit_tested test (bit_at word n) (bit_at-lt word n) refl)

no_lines : (n : ℕ) → lines_below 0 n ≡ 0
unfolding lines_below
no_lines zero = refl
no_lines (suc n) = omega (arith, no_lines n, bit_at-zero n)

lines_more : (d word : ℕ) (old new : List Batch) → new ≡ old ++ (d, word) ∷ [] → line_total new ≡ line_total old + lines_below word LINES
lines_more d word old new is =
    let last : List Batch = (d, word) ∷ [] in
    omega (arith, ap line_total is, sum_by-append (λ (b : Batch). lines_below b.1 LINES) old last, sum_by-cons (λ (b : Batch). lines_below b.1 LINES) (d, word) [])

-- ---- a deliver

delivers_tested : (b : Bool) (log : List Made) (before : State) (d word : ℕ) (old new : PortValue) → (word == 0) ≡ b → Delivers log before d word old new → new.share.bells ≡ old.share.bells + lines_below word LINES
delivers_tested true log before d word old new test h =
    let same : new ≡ with_log log old = rw test at h in
    let none : word ≡ 0 = eqb-true word 0 test in
    omega (arith, ap (λ (p : PortValue). p.share.bells) same, ap (λ n. lines_below n LINES) none, no_lines LINES)
delivers_tested false log before d word old new test h =
    let records = rw test at h in
    let share = shares_more log before (Bells d word) _ old new records in
    omega (arith, ap (λ (n : EventCounts). n.bells) share, bells_long d word LINES)

delivered : (start : State) (cpus d word : ℕ) (old new : PortValue) → MakesBells start cpus d (Ok word) old new → new.share.bells ≡ old.share.bells + lines_below word LINES
delivered start cpus d word old new h = delivers_tested (word == 0) h.0 h.1 d word old new refl (h.4).1

refused : (start : State) (cpus d : ℕ) (why : Refusal) (old new : PortValue) → MakesBells start cpus d (Err why) old new → new.share.bells ≡ old.share.bells
refused start cpus d why old new h = ap (λ (p : PortValue). p.share.bells) (h.4).1 ∙ ap (λ (n : EventCounts). n.bells) (short_same why (with_log h.0 old)).1

pub deliver_made : (start : State) (cpus d : ℕ) (result : Result ℕ Refusal) (old new : PortValue) (taker left : TakerValue) → MakesBells start cpus d result old new
    → MatchResult result (λ word. left.taken ≡ taker.taken ++ (d, word) ∷ []) (λ why. left ≡ taker) → MakesTaken old taker → MakesTaken new left
deliver_made start cpus d (Ok word) old new taker left h taken made = omega (arith, delivered start cpus d word old new h, lines_more d word taker.taken left.taken taken, made)
deliver_made start cpus d (Err why) old new taker left h taken made = omega (arith, refused start cpus d why old new h, ap (λ (t : TakerValue). line_total t.taken) taken, made)

-- ---- turns

turn_made : (start : State) (cpus : ℕ) (old new : WorkerValue) → MakesTurn start cpus old new → MakesTaken old.port old.taker → MakesTaken new.port new.taker
turn_made start cpus old new turn made =
    let steps = committed start old.cpu turn.burst (Ok turn.done) turn.delivered new.port turn.commits in
    omega (arith, delivered start cpus old.cpu turn.word old.port turn.delivered turn.bells, lines_more old.cpu turn.word old.taker.taken new.taker.taken turn.taken, steps.1, made)

turns_made : (start : State) (cpus n : ℕ) (old new : WorkerValue) → MakesTurns start cpus n old new → MakesTaken old.port old.taker → MakesTaken new.port new.taker
turns_made start cpus zero old new turns made = subst (λ (w : WorkerValue). MakesTaken w.port w.taker) (sym turns) made
turns_made start cpus (suc n) old new turns made = turn_made start cpus turns.0 new turns.2 (turns_made start cpus n old turns.0 turns.1 made)

lacks_deliver : (start : State) (cpus : ℕ) (old new : WorkerValue) (why : Refusal) → LacksDeliver start cpus old new why → MakesTaken old.port old.taker → MakesTaken new.port new.taker
lacks_deliver start cpus old new why h made = omega (arith, refused start cpus old.cpu why old.port new.port h.0, ap (λ (t : TakerValue). line_total t.taken) h.1, made)

lacks_commit : (start : State) (cpus : ℕ) (old new : WorkerValue) (why : Refusal) → LacksCommit start cpus old new why → MakesTaken old.port old.taker → MakesTaken new.port new.taker
lacks_commit start cpus old new why h made =
    let steps = committed start old.cpu h.2 (Err why) h.1 new.port h.7 in
    omega (arith, delivered start cpus old.cpu h.0 old.port h.1 h.4, lines_more old.cpu h.0 old.taker.taken new.taker.taken h.3, steps.1, made)

refusal_made : (start : State) (cpus : ℕ) (old new : WorkerValue) (why : Refusal) → RefusesTurn start cpus old new why → MakesTaken old.port old.taker → MakesTaken new.port new.taker
refusal_made start cpus old new why (inl h) made = lacks_deliver start cpus old new why h made
refusal_made start cpus old new why (inr h) made = lacks_commit start cpus old new why h made

ended_made : (start : State) (cpus n : ℕ) (old new : WorkerValue) (ended : Option Refusal)
    → MatchOption ended (MakesTurns start cpus n old new × (old.port.share.steps + n ≤ new.port.share.steps)) (λ why. StopsTurns start cpus n old new why)
    → MakesTaken old.port old.taker → MakesTaken new.port new.taker
ended_made start cpus n old new None h made = turns_made start cpus n old new h.0 made
ended_made start cpus n old new (Some why) h made = refusal_made start cpus h.1 new why h.5 (turns_made start cpus h.0 old h.1 h.3 made)

pub run_made : (start : State) (cpus n : ℕ) (olds news : List WorkerValue) → ((i : ℕ) (d : WorkerValue) → i < length olds → HasTurned start cpus n (get_or olds i d) (get_or news i d))
    → (i : ℕ) (d : WorkerValue) → i < length olds → MakesTaken (get_or olds i d).port (get_or olds i d).taker → MakesTaken (get_or news i d).port (get_or news i d).taker
run_made start cpus n olds news turned i d lt made = ended_made start cpus n (get_or olds i d) (get_or news i d) (get_or news i d).refused (turned i d lt).2 made

-- ---- ports beside takers

pub paired_made : (ports : List PortValue) (takers : List TakerValue) → MakeTaken ports takers → sum_by (λ (p : PortValue). p.share.bells) ports ≡ line_total (taken_by takers)
paired_made [] [] h = refl
paired_made (p ∷ ports) (t ∷ takers) h =
    omega (arith, h.0, paired_made ports takers h.1, sum_by-cons (λ (q : PortValue). q.share.bells) p ports, sum_by-append (λ (b : Batch). lines_below b.1 LINES) t.taken (taken_by takers))
paired_made [] (t ∷ takers) h = absurd h
paired_made (p ∷ ports) [] h = absurd h
