-- What checked receipts say of Bells.
use Rattle.std.proofs.Common.{◌≡◌, ℕ, zero, suc, ◌+◌, ◌≤◌, List, [], ◌∷◌, ◌++◌, length, get_or, take, drop, refl, sym, ap, ◌∙◌, arith, cond, Bool, true, false}
use Rattle.std.proofs.lemmas.List.{take-append-drop}
use Rattle.std.proofs.lemmas.List.Sums.{sum_by-append, sum_by-cons}
use Rattle.std.specs.Prelude.{All, ◌==◌, ◌&&◌, count_by, not, slice_get, sum_by}
use Rattle.evm_model.proofs.Counting.{kinds_add_up}
use Rattle.evm_model.specs.Event.{Event}
use Rattle.evm_model.specs.State.{State}
use Rattle.evm_model.specs.declared.event.Event.TheVariants.{Bell, Raise, Tick}
use Rattle.claims_machine.specs.Raising.{raises}
use Rattle.evm_model.specs.Kinds.{ABell}
use Rattle.evm_shared.specs.Checks.{PortsHold}
use Rattle.evm_shared.specs.EventCounts.{BeginsWith, event_total, events_since}
use Rattle.evm_shared.specs.declared.event_counts.EventCounts.{EventCounts}
use Rattle.evm_shared.specs.Ports.{PortValue}
use Rattle.evm_shared.specs.Receipts.{made_events}
use Rattle.evm_shared.specs.declared.receipt.Receipt.{Receipt}
use Rattle.claims_threads.proofs.Covering.{AllFit, no_more_than}
use Rattle.claims_threads.proofs.Sums.{sum_by_both}
use Rattle.claims_threads.specs.Lines.{in_ports, in_receipts, is_bell, raises_otherwise, rings}

-- ---- a journal whose first n events are hidden: a Tick stands for each
abbrev hidden : ℕ → List Event → List Event
hidden zero events = events
hidden (suc n) [] = []
hidden (suc n) (e ∷ events) = Tick ∷ hidden n events

hidden_get : (n k : ℕ) (events : List Event) → n ≤ k → slice_get (hidden n events) k ≡ slice_get events k
hidden_get zero k events le = refl
hidden_get (suc n) zero events le = absurd (omega arith)
hidden_get (suc n) (suc k) [] le = refl
hidden_get (suc n) (suc k) (e ∷ events) le = hidden_get n k events (omega arith)

-- 1 if so
abbrev one_if : Bool → ℕ
one_if b = cond b 1 0

hidden_count : (such : Event → Bool) → such Tick ≡ false → (n : ℕ) (events : List Event) → count_by such (hidden n events) ≡ count_by such (drop n events)
hidden_count such off zero events = refl
hidden_count such off (suc n) [] = refl
hidden_count such off (suc n) (e ∷ events) =
    let none : one_if (such Tick) ≡ 0 = ap one_if off in
    let more : count_by such (Tick ∷ hidden n events) ≡ one_if (such Tick) + count_by such (hidden n events) = sum_by-cons (λ x. one_if (such x)) Tick (hidden n events) in
    omega (arith, more, none, hidden_count such off n events)

-- no port was made before the journal had n events
abbrev AreSince : ℕ → List PortValue → Type 0
AreSince n ports = All (λ (p : PortValue). n ≤ p.since) ports

fits : (such : Event → Bool) (s : State) (n : ℕ) (ports : List PortValue) → PortsHold s ports (length ports) → AreSince n ports
    → AllFit (λ (r : Receipt). r.position) (λ (r : Receipt). made_events r.made) (λ (p : PortValue). p.receipts) such (hidden n s.journal) ports
fits such s n ports holds late i d lt j e l =
    let h = (holds i d lt).receipts j e l in
    let r : Receipt = get_or (get_or ports i d).receipts j e in
    let since : n ≤ (get_or ports i d).since = late i d lt in
    let later : (get_or ports i d).since ≤ r.position = h.correct.later in (
      λ k low. hidden_get n (r.position + k) s.journal (omega (arith, since, later)) ∙ h.correct.journaled k low,
      λ x b y k before its. let no = h.rising x b y k k before its in absurd (omega (arith, no)),
      h.apart,
    )

-- checked receipts say no more events of a kind, which a Tick is not, than the journal has behind its first n
pub within : (such : Event → Bool) → such Tick ≡ false → (s : State) (n : ℕ) (ports : List PortValue) → PortsHold s ports (length ports) → AreSince n ports → in_ports such ports ≤ count_by such (drop n s.journal)
within such off s n ports holds late =
    let below : in_ports such ports ≤ count_by such (hidden n s.journal) = no_more_than (λ (r : Receipt). r.position) (λ (r : Receipt). made_events r.made) (λ (p : PortValue). p.receipts) such (hidden n s.journal) ports (fits such s n ports holds late) in
    omega (arith, below, hidden_count such off n s.journal)

-- ---- kinds that make up another
abbrev Splits : (Event → Bool) → (Event → Bool) → (Event → Bool) → Type 0
Splits p q r = (e : Event) → cond (p e) 1 0 ≡ cond (q e) 1 0 + cond (r e) 1 0

pub split_events : (p q r : Event → Bool) → Splits p q r → (events : List Event) → count_by p events ≡ count_by q events + count_by r events
split_events p q r splits events = (λ i. sum_by (λ e. splits e i) events) ∙ sum_by_both (λ e. cond (q e) 1 0) (λ e. cond (r e) 1 0) events

split_receipts : (p q r : Event → Bool) → Splits p q r → (receipts : List Receipt) → in_receipts p receipts ≡ in_receipts q receipts + in_receipts r receipts
split_receipts p q r splits receipts =
    (λ i. sum_by (λ (x : Receipt). split_events p q r splits (made_events x.made) i) receipts)
    ∙ sum_by_both (λ (x : Receipt). count_by q (made_events x.made)) (λ (x : Receipt). count_by r (made_events x.made)) receipts

split_ports : (p q r : Event → Bool) → Splits p q r → (ports : List PortValue) → in_ports p ports ≡ in_ports q ports + in_ports r ports
split_ports p q r splits ports =
    (λ i. sum_by (λ (x : PortValue). split_receipts p q r splits x.receipts i) ports)
    ∙ sum_by_both (λ (x : PortValue). in_receipts q x.receipts) (λ (x : PortValue). in_receipts r x.receipts) ports

-- a Bell that is not of this line
abbrev rings_other : ℕ → ℕ → Event → Bool
rings_other c l (Bell d m) = not (d == c && m == l)
rings_other c l _ = false

one_or_other : (b : Bool) → 1 ≡ cond b 1 0 + cond (not b) 1 0
one_or_other true = refl
one_or_other false = refl

by_line : (c l : ℕ) → Splits is_bell (rings c l) (rings_other c l)
by_line c l (Bell d m) = one_or_other (d == c && m == l)
by_line c l _ = refl

pub by_cause : (c l : ℕ) → Splits (raises c l) (rings c l) (raises_otherwise c l)
by_cause c l (Bell d m) = omega arith
by_cause c l (Raise d m) = omega arith
by_cause c l Tick = omega arith
by_cause c l _ = refl

-- receipts that say all Bells behind the first n events say of each line as many as there are
pub each_since : (s : State) (n : ℕ) (ports : List PortValue) → PortsHold s ports (length ports) → AreSince n ports → in_ports is_bell ports ≡ count_by is_bell (drop n s.journal)
    → (c l : ℕ) → in_ports (rings c l) ports ≡ count_by (rings c l) (drop n s.journal)
each_since s n ports holds late all c l =
    let told = split_ports is_bell (rings c l) (rings_other c l) (by_line c l) ports in
    let there = split_events is_bell (rings c l) (rings_other c l) (by_line c l) (drop n s.journal) in
    omega (arith, all, told, there, within (rings c l) refl s n ports holds late, within (rings_other c l) refl s n ports holds late)

-- .. and of the whole journal
pub each_bell : (s : State) (ports : List PortValue) → PortsHold s ports (length ports) → in_ports is_bell ports ≡ count_by is_bell s.journal → (c l : ℕ) → in_ports (rings c l) ports ≡ count_by (rings c l) s.journal
each_bell s ports holds all c l = each_since s 0 ports holds (λ i d lt. omega arith) all c l

-- the first n events, and the others
pub first_and_others : (such : Event → Bool) (n : ℕ) (events : List Event) → count_by such events ≡ count_by such (take n events) + count_by such (drop n events)
first_and_others such n events =
    sym (ap (count_by such) (take-append-drop n events)) ∙ sum_by-append (λ e. cond (such e) 1 0) (take n events) (drop n events)

-- the Bells behind those that a journal begins with
pub bells_since : (base : EventCounts) (journal : List Event) (made : ℕ) → BeginsWith base journal → count_by is_bell journal ≡ base.bells + made → count_by is_bell (events_since base journal) ≡ made
bells_since base journal made begins total =
    let n = event_total base in
    let whole : count_by is_bell (take n journal ++ drop n journal) ≡ count_by is_bell journal = ap (count_by is_bell) (take-append-drop n journal) in
    let both : count_by is_bell (take n journal ++ drop n journal) ≡ count_by is_bell (take n journal) + count_by is_bell (drop n journal) = kinds_add_up ABell (take n journal) (drop n journal) in
    let first : count_by is_bell (take n journal) ≡ base.bells = ap (λ (x : EventCounts). x.bells) begins in
    omega (arith, whole, both, first, total)
