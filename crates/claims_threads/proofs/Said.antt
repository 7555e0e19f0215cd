-- What the receipt of a call says of Bells.
use Rattle.std.proofs.Common.{◌≡◌, ℕ, zero, suc, ◌+◌, ◌-◌, ◌*◌, ◌^◌, ◌<◌, ◌≤◌, List, [], ◌∷◌, ◌++◌, Bool, true, false, cond, length, replicate, refl, sym, ap, subst, ◌⊎◌, inl, inr, ⊎_elim, ◌∙◌, arith}
use Rattle.std.proofs.lemmas.Bool.{eq-eqb, eqb-true, eqb-false}
use Rattle.std.proofs.lemmas.List.Sums.{sum_by-append, sum_by-cons}
use Rattle.std.proofs.lemmas.Nat.Bits.{bit_at-lt}
use Rattle.std.specs.Prelude.{◌==◌, ◌&&◌, count_by, sum_by, if◌then◌else◌, Ok, Err, Result}
use Rattle.std.specs.Int.{bit_at}
use Rattle.evm_bells.proofs.Sums.{count-append}
use Rattle.evm_bells.specs.Batches.{Batch, count}
use Rattle.evm_lines.specs.declared.TheConstants.{LINES}
use Rattle.evm_model.specs.Event.{Event}
use Rattle.evm_model.specs.declared.event.Event.TheVariants as event
use Rattle.evm_model.specs.declared.refusal.Refusal.{Refusal}
use Rattle.evm_model.specs.State.{State}
use Rattle.evm_shared.proofs.Bells.{counts_bells}
use Rattle.evm_shared.specs.EventCounts.{counts, plus}
use Rattle.evm_shared.specs.Ports.{Delivers, MakesBells, PortValue, Records, recorded}
use Rattle.evm_shared.specs.Receipts.{bells_below, made_events, receipt}
use Rattle.evm_shared.specs.declared.event_counts.EventCounts.{EventCounts}
use Rattle.evm_shared.specs.declared.receipt.Made.{Made}
use Rattle.evm_shared.specs.declared.receipt.Made.TheVariants.{Steps, Bells, One}
use Rattle.evm_shared.specs.declared.receipt.Receipt.{Receipt}
use Rattle.claims_threads.specs.Lines.{in_receipts, is_bell, rings}

-- ---- the Bells of a word

abbrev pub bell_if : Bool → ℕ → ℕ → List Event
bell_if b c n = if b then event.Bell c n ∷ [] else []

abbrev ticked : (Event → Bool) → Event → ℕ
ticked such e = cond (such e) 1 0

other_line : (b on : Bool) (c l d n : ℕ) → (n == l) ≡ false → (d == c) ≡ b → count_by (rings c l) (bell_if on d n) ≡ 0
other_line b false c l d n apart same = refl
other_line true true c l d n apart same = rw (same, apart) refl
other_line false true c l d n apart same = rw same refl

own_line : (b on : Bool) (c l d n : ℕ) → (n == l) ≡ true → (d == c) ≡ b → count_by (rings c l) (bell_if on d n) ≡ cond b (cond on 1 0) 0
own_line true false c l d n here same = refl
own_line false false c l d n here same = refl
own_line true true c l d n here same = rw (same, here) refl
own_line false true c l d n here same = rw same refl

apart_tested : (b : Bool) (n l : ℕ) → (n == l) ≡ b → n < l → b ≡ false
apart_tested true n l test lt = let same = eqb-true n l test in absurd (omega arith)
apart_tested false n l test lt = refl

not_yet : (c l d word n : ℕ) → n ≤ l → count_by (rings c l) (bells_below d word n) ≡ 0
unfolding bells_below
not_yet c l d word zero le = refl
not_yet c l d word (suc n) le =
    let apart : (n == l) ≡ false = apart_tested (n == l) n l refl (omega arith) in
    let last = other_line (d == c) (bit_at word n == 1) c l d n apart refl in
    omega (arith, not_yet c l d word n (omega arith), last, sum_by-append (ticked (rings c l)) (bells_below d word n) (bell_if (bit_at word n == 1) d n))

pub bit_tested : (b : Bool) (n : ℕ) → n < 2 → (n == 1) ≡ b → cond b 1 0 ≡ n
bit_tested true n low test = sym (eqb-true n 1 test)
bit_tested false n low test = let no = eqb-false n 1 test in omega arith

last_or_before : (b : Bool) (c l d word n : ℕ) → (n == l) ≡ b → l < suc n → (l < n → count_by (rings c l) (bells_below d word n) ≡ cond (d == c) (bit_at word l) 0)
    → count_by (rings c l) (bells_below d word n ++ bell_if (bit_at word n == 1) d n) ≡ cond (d == c) (bit_at word l) 0
last_or_before true c l d word n here lt before =
    let same : n ≡ l = eqb-true n l here in
    let none = not_yet c l d word n (omega (arith, same)) in
    let last = own_line (d == c) (bit_at word n == 1) c l d n here refl in
    let bit : cond (bit_at word n == 1) 1 0 ≡ bit_at word l = bit_tested (bit_at word n == 1) (bit_at word n) (bit_at-lt word n) refl ∙ ap (bit_at word) same in
    let sum = sum_by-append (ticked (rings c l)) (bells_below d word n) (bell_if (bit_at word n == 1) d n) in
    omega (arith, sum, none, last, ap (λ k. cond (d == c) k 0) bit)
last_or_before false c l d word n apart lt before =
    let differs = eqb-false n l apart in
    let last = other_line (d == c) (bit_at word n == 1) c l d n apart refl in
    let sum = sum_by-append (ticked (rings c l)) (bells_below d word n) (bell_if (bit_at word n == 1) d n) in
    omega (arith, sum, before (omega (arith, lt, differs)), last)

-- of line l of processor c there is a Bell if the word is of that processor and has the line
here_or_before : (c l d word n : ℕ) → l < n → count_by (rings c l) (bells_below d word n) ≡ cond (d == c) (bit_at word l) 0
unfolding bells_below
here_or_before c l d word zero lt = absurd (omega arith)
here_or_before c l d word (suc n) lt = last_or_before (n == l) c l d word n refl lt (here_or_before c l d word n)

-- what a word says of a line
pub says_lines : (c l d word : ℕ) → l < LINES → count_by (rings c l) (bells_below d word LINES) ≡ cond (d == c) (bit_at word l) 0
says_lines c l d word low = here_or_before c l d word LINES low

pub says_bells : (d word : ℕ) → count_by is_bell (bells_below d word LINES) ≡ length (bells_below d word LINES)
says_bells d word = ap (λ (n : EventCounts). n.bells) (counts_bells d word LINES)

-- ---- a receipt

kept_tested : (b : Bool) (position : ℕ) (made : Made) (p : PortValue) → (p.room == 0) ≡ b → 0 < p.room
    → (recorded position made p).receipts ≡ p.receipts ++ receipt position made ∷ []
kept_tested true position made p test some = let none = eqb-true p.room 0 test in absurd (omega arith)
kept_tested false position made p test some = rw test refl

share_tested : (b : Bool) (position : ℕ) (made : Made) (p : PortValue) → (p.room == 0) ≡ b → (recorded position made p).share ≡ p.share
share_tested true position made p test = rw test refl
share_tested false position made p test = rw test refl

said_more : (such : Event → Bool) (receipts : List Receipt) (position : ℕ) (made : Made) → in_receipts such (receipts ++ receipt position made ∷ []) ≡ in_receipts such receipts + count_by such (made_events made)
said_more such receipts position made =
    let one = sum_by-append (λ (r : Receipt). count_by such (made_events r.made)) receipts (receipt position made ∷ []) in
    let last = sum_by-cons (λ (r : Receipt). count_by such (made_events r.made)) (receipt position made) [] in
    omega (arith, one, last)

-- after an accepted call through a port with room
pub says_more : (such : Event → Bool) (log : List Made) (before : State) (made : Made) (more : EventCounts) (old new : PortValue) → 0 < old.room → Records log before made more old new → in_receipts such new.receipts ≡ in_receipts such old.receipts + count_by such (made_events made)
says_more such log before made more old new some records =
    let counted : PortValue = record old { share = plus old.share more; log = log ++ made ∷ [] } in
    ap (λ (p : PortValue). in_receipts such p.receipts) records ∙ ap (in_receipts such) (kept_tested (old.room == 0) (length before.journal) made counted refl some) ∙ said_more such old.receipts (length before.journal) made

pub shares_more : (log : List Made) (before : State) (made : Made) (more : EventCounts) (old new : PortValue) → Records log before made more old new → new.share ≡ plus old.share more
shares_more log before made more old new records =
    let counted : PortValue = record old { share = plus old.share more; log = log ++ made ∷ [] } in
    ap (λ (p : PortValue). p.share) records ∙ share_tested (old.room == 0) (length before.journal) made counted refl

-- a call that makes no such event says none, whether its receipt is kept or not
none_tested : (b : Bool) (such : Event → Bool) (position : ℕ) (made : Made) (p : PortValue) → (p.room == 0) ≡ b → count_by such (made_events made) ≡ 0 → in_receipts such (recorded position made p).receipts ≡ in_receipts such p.receipts
none_tested true such position made p test none = rw test refl
none_tested false such position made p test none = rw test (omega (arith, said_more such p.receipts position made, none))

pub says_none : (such : Event → Bool) (log : List Made) (before : State) (made : Made) (more : EventCounts) (old new : PortValue) → count_by such (made_events made) ≡ 0 → Records log before made more old new → in_receipts such new.receipts ≡ in_receipts such old.receipts
says_none such log before made more old new none records =
    let counted : PortValue = record old { share = plus old.share more; log = log ++ made ∷ [] } in
    ap (λ (p : PortValue). in_receipts such p.receipts) records ∙ none_tested (old.room == 0) such (length before.journal) made counted refl none

-- a call takes one place for a receipt at most
room_tested : (b : Bool) (position : ℕ) (made : Made) (p : PortValue) → (p.room == 0) ≡ b → p.room ≤ (recorded position made p).room + 1
room_tested true position made p test = rw test (omega arith)
room_tested false position made p test = rw test (omega arith)

pub room_left : (log : List Made) (before : State) (made : Made) (more : EventCounts) (old new : PortValue) → Records log before made more old new → old.room ≤ new.room + 1
room_left log before made more old new records =
    let counted : PortValue = record old { share = plus old.share more; log = log ++ made ∷ [] } in
    let left = room_tested (old.room == 0) (length before.journal) made counted refl in
    omega (arith, left, ap (λ (p : PortValue). p.room) records)

-- the port stays one that was made when it was
since_tested : (b : Bool) (position : ℕ) (made : Made) (p : PortValue) → (p.room == 0) ≡ b → (recorded position made p).since ≡ p.since
since_tested true position made p test = rw test refl
since_tested false position made p test = rw test refl

pub same_since : (log : List Made) (before : State) (made : Made) (more : EventCounts) (old new : PortValue) → Records log before made more old new → new.since ≡ old.since
same_since log before made more old new records =
    let counted : PortValue = record old { share = plus old.share more; log = log ++ made ∷ [] } in
    ap (λ (p : PortValue). p.since) records ∙ since_tested (old.room == 0) (length before.journal) made counted refl
