-- What a port says of the lines that were taken, over calls and runs.
use Rattle.std.proofs.Common.{◌≡◌, ℕ, zero, suc, ◌+◌, ◌*◌, ◌^◌, ◌<◌, ◌≤◌, List, [], ◌∷◌, ◌++◌, get_or, Bool, true, false, cond, length, replicate, refl, sym, ap, subst, ◌∙◌, arith}
use Rattle.std.proofs.lemmas.Bool.{eqb-true}
use Rattle.std.proofs.lemmas.List.Sums.{sum_by-cons}
use Rattle.std.proofs.lemmas.Nat.Bits.{bit_at-zero}
use Rattle.std.specs.Prelude.{◌==◌, count_by, sum_by, if◌then◌else◌, Ok, Err, IfOk, MatchOption, MatchResult, Result, Option, Some, None, nat_le}
use Rattle.std.specs.Int.{bit_at}
use Rattle.evm_bells.proofs.Sums.{count-append}
use Rattle.evm_bells.specs.Batches.{Batch, count}
use Rattle.evm_bells.specs.Seats.{TakerValue, taken_by}
use Rattle.evm_core.specs.declared.committing.Committed.{Committed}
use Rattle.evm_exec.specs.Burst.{Speculated}
use Rattle.evm_lines.specs.declared.TheConstants.{LINES}
use Rattle.evm_model.specs.Event.{Event}
use Rattle.evm_model.specs.State.{State}
use Rattle.evm_model.specs.declared.event.Answer.{Answer}
use Rattle.evm_model.specs.declared.event.Event.TheVariants as event
use Rattle.evm_model.specs.Refusals.{number_of}
use Rattle.evm_model.specs.declared.refusal.Refusal.{Refusal}
use Rattle.evm_model.specs.declared.refusal.Refusal.TheVariants as refusals
use Rattle.evm_shared.specs.Ports.{Delivers, MakesBells, MakesOne, MakesSteps, PortValue, Records, marked, marked_short, with_log}
use Rattle.evm_shared.specs.Receipts.{bells_below, made_events}
use Rattle.evm_shared.specs.Workers.{HasTurned, MakesTurn, MakesTurns, StopsTurns, WorkerValue, least_refusal, lesser_refusal}
use Rattle.evm_shared.specs.declared.event_counts.EventCounts.{EventCounts}
use Rattle.evm_shared.specs.declared.receipt.Made.{Made}
use Rattle.evm_shared.specs.declared.receipt.Made.TheVariants.{Steps, Bells, One}
use Rattle.claims_threads.proofs.Said.{room_left, same_since, says_bells, says_lines, says_more, says_none, shares_more}
use Rattle.claims_threads.specs.Lines.{in_ports, in_receipts, is_bell, rings}
use Rattle.claims_threads.specs.Said.{SaysTaken, SayTaken}

-- ---- a deliver

-- what one batch counts
one_tested : (b : Bool) (d word c l : ℕ) → (d == c) ≡ b → count ((d, word) ∷ []) c l ≡ cond b (bit_at word l) 0
one_tested true d word c l test = rw test (omega arith)
one_tested false d word c l test = rw test (omega arith)

one_batch : (d word c l : ℕ) → count ((d, word) ∷ []) c l ≡ cond (d == c) (bit_at word l) 0
one_batch d word c l = one_tested (d == c) d word c l refl

choose_none : (b : Bool) (word l : ℕ) → word ≡ 0 → cond b (bit_at word l) 0 ≡ 0
choose_none true word l none = ap (λ n. bit_at n l) none ∙ bit_at-zero l
choose_none false word l none = refl

-- what a taken word of a processor adds of a line
abbrev pub Says : ℕ → ℕ → PortValue → PortValue → Type 0
Says d word old new = ((c l : ℕ) → l < LINES → in_receipts (rings c l) new.receipts ≡ in_receipts (rings c l) old.receipts + cond (d == c) (bit_at word l) 0)
    × (new.share.bells + in_receipts is_bell old.receipts ≡ old.share.bells + in_receipts is_bell new.receipts) × (old.room ≤ new.room + 1)

delivers_tested : (b : Bool) (log : List Made) (before : State) (d word : ℕ) (old new : PortValue) → (word == 0) ≡ b → 0 < old.room → Delivers log before d word old new → Says d word old new
delivers_tested true log before d word old new test some h =
    let same : new ≡ with_log log old = rw test at h in
    let none : word ≡ 0 = eqb-true word 0 test in (
      λ c l low. omega (arith, ap (λ (p : PortValue). in_receipts (rings c l) p.receipts) same, choose_none (d == c) word l none),
      omega (arith, ap (λ (p : PortValue). in_receipts is_bell p.receipts) same, ap (λ (p : PortValue). p.share.bells) same),
      omega (arith, ap (λ (p : PortValue). p.room) same),
    )
delivers_tested false log before d word old new test some h =
    let records = rw test at h in
    let share = shares_more log before (Bells d word) _ old new records in (
      λ c l low. says_more (rings c l) log before (Bells d word) _ old new some records ∙ ap (λ n. in_receipts (rings c l) old.receipts + n) (says_lines c l d word low),
      omega (arith, ap (λ (n : EventCounts). n.bells) share, says_more is_bell log before (Bells d word) _ old new some records, says_bells d word),
      room_left log before (Bells d word) _ old new records,
    )

pub delivered : (start : State) (cpus d word : ℕ) (old new : PortValue) → 0 < old.room → MakesBells start cpus d (Ok word) old new → Says d word old new
delivered start cpus d word old new some h = delivers_tested (word == 0) h.0 h.1 d word old new refl some (h.4).1

pub taken_more : (d word c l : ℕ) (old new : List Batch) → new ≡ old ++ (d, word) ∷ [] → count new c l ≡ count old c l + cond (d == c) (bit_at word l) 0
taken_more d word c l old new is = ap (λ bs. count bs c l) is ∙ count-append old ((d, word) ∷ []) c l ∙ ap (λ n. count old c l + n) (one_batch d word c l)

-- a refused deliver leaves receipts and shares
pub short_same : (why : Refusal) (p : PortValue) → ((marked_short why p).receipts ≡ p.receipts) × ((marked_short why p).share ≡ p.share)
short_same refusals.Full p = (refl, refl)
short_same _ p = (refl, refl)

pub marked_same : (why : Refusal) (p : PortValue) → ((marked why p).receipts ≡ p.receipts) × ((marked why p).share ≡ p.share) × ((marked why p).room ≡ p.room)
marked_same refusals.Full p = (refl, refl, refl)
marked_same _ p = (refl, refl, refl)

-- a deliver, accepted or refused
pub says_taken : (start : State) (cpus d : ℕ) (result : Result ℕ Refusal) (old new : PortValue) (taker left : TakerValue) → MakesBells start cpus d result old new
    → MatchResult result (λ word. left.taken ≡ taker.taken ++ (d, word) ∷ []) (λ why. left ≡ taker) → 0 < old.room
    → (c l : ℕ) → l < LINES → count left.taken c l + in_receipts (rings c l) old.receipts ≡ count taker.taken c l + in_receipts (rings c l) new.receipts
says_taken start cpus d (Ok word) old new taker left h taken some c l low =
    omega (arith, taken_more d word c l taker.taken left.taken taken, (delivered start cpus d word old new some h).0 c l low)
says_taken start cpus d (Err why) old new taker left h taken some c l low =
    let same = (h.4).1 in
    omega (arith, ap (λ (t : TakerValue). count t.taken c l) taken, ap (λ (p : PortValue). in_receipts (rings c l) p.receipts) same, ap (in_receipts (rings c l)) (short_same why (with_log h.0 old)).0)

pub says_made : (start : State) (cpus d : ℕ) (result : Result ℕ Refusal) (old new : PortValue) → MakesBells start cpus d result old new → 0 < old.room
    → new.share.bells + in_receipts is_bell old.receipts ≡ old.share.bells + in_receipts is_bell new.receipts
says_made start cpus d (Ok word) old new h some = (delivered start cpus d word old new some h).1
says_made start cpus d (Err why) old new h some =
    let same = (h.4).1 in
    omega (arith, ap (λ (p : PortValue). p.share.bells) same, ap (λ (n : EventCounts). n.bells) (short_same why (with_log h.0 old)).1, ap (λ (p : PortValue). in_receipts is_bell p.receipts) same, ap (in_receipts is_bell) (short_same why (with_log h.0 old)).0)

-- ---- calls that make no Bell

abbrev pub Quiet : PortValue → PortValue → Type 0
Quiet old new = ((c l : ℕ) → in_receipts (rings c l) new.receipts ≡ in_receipts (rings c l) old.receipts) × (new.share.bells ≡ old.share.bells) × (in_receipts is_bell new.receipts ≡ in_receipts is_bell old.receipts) × (old.room ≤ new.room + 1)

steps_ring_nothing : (c l d n : ℕ) → count_by (rings c l) (replicate n (event.Step d)) ≡ 0
steps_ring_nothing c l d zero = refl
steps_ring_nothing c l d (suc n) = steps_ring_nothing c l d n

steps_are_no_bells : (d n : ℕ) → count_by is_bell (replicate n (event.Step d)) ≡ 0
steps_are_no_bells d zero = refl
steps_are_no_bells d (suc n) = steps_are_no_bells d n

refused_quiet : (why : Refusal) (log : List Made) (old new : PortValue) → new ≡ marked why (with_log log old) → Quiet old new
refused_quiet why log old new is =
    let same = marked_same why (with_log log old) in (
      λ c l. ap (λ (p : PortValue). in_receipts (rings c l) p.receipts) is ∙ ap (in_receipts (rings c l)) same.0,
      ap (λ (p : PortValue). p.share.bells) is ∙ ap (λ (n : EventCounts). n.bells) same.1,
      ap (λ (p : PortValue). in_receipts is_bell p.receipts) is ∙ ap (in_receipts is_bell) same.0,
      omega (arith, ap (λ (p : PortValue). p.room) is, same.2),
    )

pub committed : (start : State) (d : ℕ) (burst : Speculated) (result : Result Committed Refusal) (old new : PortValue) → MakesSteps start d burst result old new → Quiet old new
committed start d burst (Ok done) old new h =
    let records = (h.4).1 in
    let made = Steps d done.steps in (
      λ c l. says_none (rings c l) h.0 h.1 made _ old new (steps_ring_nothing c l d done.steps) records,
      omega (arith, ap (λ (n : EventCounts). n.bells) (shares_more h.0 h.1 made _ old new records)),
      says_none is_bell h.0 h.1 made _ old new (steps_are_no_bells d done.steps) records,
      room_left h.0 h.1 made _ old new records,
    )
committed start d burst (Err why) old new h = refused_quiet why h.0 old new (h.4).1

-- an event that is no Bell rings nothing
rings_nothing : (c l : ℕ) (e : Event) → is_bell e ≡ false → count_by (rings c l) (e ∷ []) ≡ 0
rings_nothing c l (event.Bell d m) no_bell = absurd cc
rings_nothing c l _ no_bell = refl

one_tested_bell : (b : Bool) (e : Event) → is_bell e ≡ b → b ≡ false → count_by is_bell (e ∷ []) ≡ 0
one_tested_bell true e is off = absurd cc
one_tested_bell false e is off = rw is refl

pub commanded : (start : State) (e : Event) (result : Result Answer Refusal) (old new : PortValue) → is_bell e ≡ false → MakesOne start e result old new → Quiet old new
commanded start e (Ok answer) old new no_bell h =
    let records = (h.4).1 in
    let none = one_tested_bell (is_bell e) e refl no_bell in (
      λ c l. says_none (rings c l) h.0 h.1 (One e) _ old new (rings_nothing c l e no_bell) records,
      omega (arith, ap (λ (n : EventCounts). n.bells) (shares_more h.0 h.1 (One e) _ old new records), none),
      says_none is_bell h.0 h.1 (One e) _ old new none records,
      room_left h.0 h.1 (One e) _ old new records,
    )
commanded start e (Err why) old new no_bell h = refused_quiet why h.0 old new (h.4).1

-- ---- turns

turned : (start : State) (cpus : ℕ) (old new : WorkerValue) → MakesTurn start cpus old new → 0 < old.port.room → SaysTaken old.port old.taker → SaysTaken new.port new.taker × (old.port.room ≤ new.port.room + 2)
turned start cpus old new turn some says =
    let bells = delivered start cpus old.cpu turn.word old.port turn.delivered some turn.bells in
    let steps = committed start old.cpu turn.burst (Ok turn.done) turn.delivered new.port turn.commits in (
      record {
        lines = λ c l low. omega (arith, taken_more old.cpu turn.word c l old.taker.taken new.taker.taken turn.taken, says.lines c l low, bells.0 c l low, steps.0 c l);
        bells = omega (arith, bells.1, steps.1, steps.2, says.bells);
      },
      omega (arith, bells.2, steps.3),
    )

all_turned : (start : State) (cpus n : ℕ) (old new : WorkerValue) → MakesTurns start cpus n old new → 2 * n ≤ old.port.room → SaysTaken old.port old.taker → SaysTaken new.port new.taker × (old.port.room ≤ new.port.room + 2 * n)
all_turned start cpus zero old new made enough says =
    (subst (λ (w : WorkerValue). SaysTaken w.port w.taker) (sym made) says, omega (arith, ap (λ (w : WorkerValue). w.port.room) made))
all_turned start cpus (suc n) old new made enough says =
    let before = all_turned start cpus n old made.0 made.1 (omega arith) says in
    let last = turned start cpus made.0 new made.2 (omega (arith, before.1)) before.0 in
    (last.0, omega (arith, before.1, last.1))

-- ---- a run in which no worker was refused

lesser_some : (first : Bool) (a b : Refusal) → (if first then Some a else Some b) ≡ None → (Some a ≡ None) × (Some b ≡ None)
lesser_some true a b none = absurd cc
lesser_some false a b none = absurd cc

lesser_none : (a b : Option Refusal) → lesser_refusal a b ≡ None → (a ≡ None) × (b ≡ None)
lesser_none None b none = (refl, none)
lesser_none (Some a) None none = absurd cc
lesser_none (Some a) (Some b) none = lesser_some (nat_le (number_of a) (number_of b)) a b none

none_refused : (workers : List WorkerValue) (i : ℕ) (d : WorkerValue) → least_refusal workers ≡ None → i < length workers → (get_or workers i d).refused ≡ None
none_refused [] i d none lt = absurd (omega arith)
none_refused (w ∷ workers) zero d none lt = (lesser_none w.refused (least_refusal workers) none).0
none_refused (w ∷ workers) (suc i) d none lt = none_refused workers i d (lesser_none w.refused (least_refusal workers) none).1 (omega arith)

matched_none : (A : Type 0) (B : Refusal → Type 0) (o : Option Refusal) → MatchOption o A B → o ≡ None → A
matched_none A B None h none = h
matched_none A B (Some why) h none = absurd cc

made_all : (start : State) (cpus n : ℕ) (old new : WorkerValue) → HasTurned start cpus n old new → new.refused ≡ None → MakesTurns start cpus n old new
made_all start cpus n old new h none = (matched_none (MakesTurns start cpus n old new × (old.port.share.steps + n ≤ new.port.share.steps)) (λ why. StopsTurns start cpus n old new why) new.refused h.2 none).0

pub run_says : (start : State) (cpus n : ℕ) (result : Result (Unit {0}) Refusal) (olds news : List WorkerValue) → length news ≡ length olds
    → ((i : ℕ) (d : WorkerValue) → i < length olds → HasTurned start cpus n (get_or olds i d) (get_or news i d))
    → MatchResult result (λ _. least_refusal news ≡ None) (λ why. least_refusal news ≡ Some why)
    → IfOk result (λ _. (i : ℕ) (d : WorkerValue) → i < length olds → 2 * n ≤ (get_or olds i d).port.room → SaysTaken (get_or olds i d).port (get_or olds i d).taker → SaysTaken (get_or news i d).port (get_or news i d).taker)
run_says start cpus n (Ok done) olds news same turned_all least = λ i d lt enough says.
    (all_turned start cpus n (get_or olds i d) (get_or news i d) (made_all start cpus n (get_or olds i d) (get_or news i d) (turned_all i d lt) (none_refused news i d least (omega arith))) enough says).0
run_says start cpus n (Err why) olds news same turned_all least = tt

-- ---- when the ports were made

delivered_since : (b : Bool) (log : List Made) (before : State) (d word : ℕ) (old new : PortValue) → (word == 0) ≡ b → Delivers log before d word old new → new.since ≡ old.since
delivered_since true log before d word old new test h =
    let same : new ≡ with_log log old = rw test at h in
    ap (λ (p : PortValue). p.since) same
delivered_since false log before d word old new test h =
    let records = rw test at h in
    same_since log before (Bells d word) _ old new records

bells_since : (start : State) (cpus d word : ℕ) (old new : PortValue) → MakesBells start cpus d (Ok word) old new → new.since ≡ old.since
bells_since start cpus d word old new h = delivered_since (word == 0) h.0 h.1 d word old new refl (h.4).1

steps_since : (start : State) (d : ℕ) (burst : Speculated) (done : Committed) (old new : PortValue) → MakesSteps start d burst (Ok done) old new → new.since ≡ old.since
steps_since start d burst done old new h = same_since h.0 h.1 (Steps d done.steps) _ old new (h.4).1

turns_since : (start : State) (cpus n : ℕ) (old new : WorkerValue) → MakesTurns start cpus n old new → new.port.since ≡ old.port.since
turns_since start cpus zero old new made = ap (λ (w : WorkerValue). w.port.since) made
turns_since start cpus (suc n) old new made =
    let before = turns_since start cpus n old made.0 made.1 in
    let turn = made.2 in
    steps_since start made.0.cpu turn.burst turn.done turn.delivered new.port turn.commits ∙ bells_since start cpus made.0.cpu turn.word made.0.port turn.delivered turn.bells ∙ before

pub run_since : (start : State) (cpus n : ℕ) (result : Result (Unit {0}) Refusal) (olds news : List WorkerValue) → length news ≡ length olds
    → ((i : ℕ) (d : WorkerValue) → i < length olds → HasTurned start cpus n (get_or olds i d) (get_or news i d))
    → MatchResult result (λ _. least_refusal news ≡ None) (λ why. least_refusal news ≡ Some why)
    → IfOk result (λ _. (i : ℕ) (d : WorkerValue) → i < length olds → (m : ℕ) → m ≤ (get_or olds i d).port.since → m ≤ (get_or news i d).port.since)
run_since start cpus n (Ok done) olds news same turned_all least = λ i d lt m low.
    let kept = turns_since start cpus n (get_or olds i d) (get_or news i d) (made_all start cpus n (get_or olds i d) (get_or news i d) (turned_all i d lt) (none_refused news i d least (omega arith))) in
    omega (arith, low, kept)
run_since start cpus n (Err why) olds news same turned_all least = tt

-- ---- ports beside takers

pub paired_bells : (ports : List PortValue) (takers : List TakerValue) → SayTaken ports takers → in_ports is_bell ports ≡ sum_by (λ (p : PortValue). p.share.bells) ports
paired_bells [] [] h = refl
paired_bells (p ∷ ports) (t ∷ takers) h = omega (arith, h.0.bells, paired_bells ports takers h.1, sum_by-cons (λ (q : PortValue). in_receipts is_bell q.receipts) p ports, sum_by-cons (λ (q : PortValue). q.share.bells) p ports)
paired_bells [] (t ∷ takers) h = absurd h
paired_bells (p ∷ ports) [] h = absurd h

pub paired_lines : (c l : ℕ) (ports : List PortValue) (takers : List TakerValue) → l < LINES → SayTaken ports takers → count (taken_by takers) c l ≡ in_ports (rings c l) ports
paired_lines c l [] [] low h = refl
paired_lines c l (p ∷ ports) (t ∷ takers) low h = omega (arith, count-append t.taken (taken_by takers) c l, h.0.lines c l low, paired_lines c l ports takers low h.1, sum_by-cons (λ (q : PortValue). in_receipts (rings c l) q.receipts) p ports)
paired_lines c l [] (t ∷ takers) low h = absurd h
paired_lines c l (p ∷ ports) [] low h = absurd h
