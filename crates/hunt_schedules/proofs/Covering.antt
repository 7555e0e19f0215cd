-- That nothing fails from a position of a closed set.
use Rattle.std.proofs.Common.{◌≡◌, ℕ, ◌+◌, ◌-◌, ◌≤◌, List, [], ◌∷◌, ◌++◌, Option, Some, None, Result, Ok, Err, Bool, true, false, length, refl, sym, ap, subst, ◌∙◌, arith}
use Rattle.std.specs.Prelude.{if◌then◌else◌, nat_le}
use Rattle.std.proofs.lemmas.Bool.Decides.{nat_tests}
use Rattle.std.proofs.lemmas.List.{length-append}
use Rattle.evm_model.specs.Event.{Event}
use Rattle.evm_model.specs.Refusals.{board_refusal, is_full}
use Rattle.evm_model.specs.Replay.{accept, apply, apply_unless, left_by}
use Rattle.evm_model.specs.Rows.{row}
use Rattle.evm_model.specs.State.{Board, State}
use Rattle.evm_model.specs.declared.event.Answer.{Answer}
use Rattle.evm_model.specs.declared.refusal.Refusal.{Refusal}
use Rattle.evm_model.specs.declared.refusal.Refusal.TheVariants.{Full}
use Rattle.hunt_schedules.proofs.Searching.{Allows, Failing}
use Rattle.hunt_schedules.specs.Covering.{Subsumes, Positions, IsCovered, StaysCovered, AreClosed, LookAtBoards}
use Rattle.hunt_schedules.specs.Schedules.{switches, stepped, Behind, IsSchedule, IsHarmless, NoneFails}

-- ---- the same event at a state that covers another
-- an event that is accepted found room, and nothing against it on the board
record IsTaken (event : Event) (s after : State) (answer : Answer) : Type 0 where
  pub room : is_full s ≡ false
  pub none : board_refusal event s.board ≡ None
  pub same : accept event (row event s.board) s ≡ (after, answer)

taken-by : (event : Event) (s after : State) (answer : Answer) (full : Bool) (why : Option Refusal)
    → apply_unless (if full then Some Full else why) event s ≡ Ok (after, answer) → (full ≡ false) × (why ≡ None) × (accept event (row event s.board) s ≡ (after, answer))
taken-by event s after answer true why h = cc
taken-by event s after answer false (Some refusal) h = cc
taken-by event s after answer false None h = (refl, refl, cc)

taken : (event : Event) (s after : State) (answer : Answer) → apply s event ≡ Ok (after, answer) → IsTaken event s after answer
unfolding apply
taken event s after answer h =
    let all = taken-by event s after answer (is_full s) (board_refusal event s.board) h in
    record { room = all.0; none = all.1; same = all.2 }

accepted-by : (event : Event) (s : State) (full : Bool) (why : Option Refusal) → full ≡ false → why ≡ None
    → apply_unless (if full then Some Full else why) event s ≡ Ok (accept event (row event s.board) s)
accepted-by event s true why h g = cc
accepted-by event s false (Some refusal) h g = cc
accepted-by event s false None h g = refl

accepted : (event : Event) (s : State) → is_full s ≡ false → board_refusal event s.board ≡ None → apply s event ≡ Ok (accept event (row event s.board) s)
unfolding apply
accepted event s room none = accepted-by event s (is_full s) (board_refusal event s.board) room none

room-still : (seen s : State) → Subsumes seen s → is_full s ≡ false → is_full seen ≡ false
room-still seen s covers room =
    let capacity : seen.boot.capacity ≡ s.boot.capacity = ap (λ boot. boot.capacity) covers.boot in
    let fewer = covers.room in
    let full : nat_le s.boot.capacity (length s.journal) ≡ false = room in
    let goal : nat_le seen.boot.capacity (length seen.journal) ≡ false = grind (arith, nat_tests) in
    goal

-- the state behind an event, where the event is accepted
abbrev next_of : Event → State → State
next_of event s = (accept event (row event s.board) s).0

covers-next : (event : Event) (seen s after : State) (answer : Answer) → Subsumes seen s → accept event (row event s.board) s ≡ (after, answer) → Subsumes (next_of event seen) after
covers-next event seen s after answer covers same =
    let there : next_of event s ≡ after = ap (λ (p : State × Answer). p.0) same in
    let longer : (xs : List Event) → length (xs ++ event ∷ []) ≡ length xs + 1 = λ xs. length-append xs (event ∷ []) in
    let fewer = covers.room in
    let a = longer seen.journal in
    let b = longer s.journal in
    let least : length (seen.journal ++ event ∷ []) ≤ length (s.journal ++ event ∷ []) = omega arith in
    let here : Subsumes (next_of event seen) (next_of event s) = record {
      boot = covers.boot;
      board = ap (λ (board : Board). (row event board).0) covers.board;
      room = least;
    } in
    subst (λ (t : State). Subsumes (next_of event seen) t) there here

-- an event that is accepted at a state is accepted where another covers it, with the same answer, and leads to one that covers
pub covers-apply : (event : Event) (seen s after : State) (answer : Answer) → Subsumes seen s → apply s event ≡ Ok (after, answer)
    → (behind : State) × (apply seen event ≡ Ok (behind, answer)) × Subsumes behind after
covers-apply event seen s after answer covers done =
    let all = taken event s after answer done in
    let none : board_refusal event seen.board ≡ None = ap (board_refusal event) covers.board ∙ all.none in
    let word : (row event seen.board).1 ≡ answer = ap (λ (board : Board). (row event board).1) covers.board ∙ ap (λ (p : State × Answer). p.1) all.same in
    let ok : apply seen event ≡ Ok (accept event (row event seen.board) seen) = accepted event seen (room-still seen s covers all.room) none in
    let pair : (accept event (row event seen.board) seen) ≡ (next_of event seen, answer) = ap (λ (a : Answer). (next_of event seen, a)) word in
    (next_of event seen, ok ∙ ap (λ (p : State × Answer). let r : Result (State × Answer) Refusal = Ok p in r) pair, covers-next event seen s after answer covers all.same)

pub covers-itself : (s : State) → Subsumes s s
covers-itself s = record { boot = refl; board = refl; room = omega arith }

pub covers-more : (a b c : State) → Subsumes a b → Subsumes b c → Subsumes a c
covers-more a b c h g = let x = h.room in let y = g.room in record { boot = h.boot ∙ g.boot; board = h.board ∙ g.board; room = omega arith }

-- a position whose state is covered by one that is covered
pub covered-more : (Seen : Positions) (s t : State) (c j k : ℕ) → IsCovered Seen s c j → j ≤ k → Subsumes s t → IsCovered Seen t c k
covered-more Seen s t c j k h less covers = (h.0, h.1, h.2, (let few = h.3 in omega arith), covers-more h.0 s t h.4 covers)

-- ---- a schedule by its first event
-- two answers of one event
pub same-answers : (P : State → Answer → Type 0) (s after t : State) (event : Event) (answer word : Answer) → apply s event ≡ Ok (after, answer) → apply s event ≡ Ok (t, word) → P t word → P after answer
same-answers P s after t event answer word h g holds =
    let both : Ok (after, answer) ≡ Ok (t, word) = sym h ∙ g in
    let pair : (after, answer) ≡ (t, word) = cc in
    let state : after ≡ t = ap (λ (p : State × Answer). p.0) pair in
    let words : answer ≡ word = ap (λ (p : State × Answer). p.1) pair in
    subst (λ (u : State). P u answer) (sym state) (subst (λ (a : Answer). P t a) (sym words) holds)

-- an event at a position that is covered stays so
stays : (May : Allows) (Fails : Failing) (most : ℕ) (Seen : Positions) → LookAtBoards May Fails → AreClosed May Fails most Seen
    → (s : State) (c k : ℕ) (event : Event) → IsCovered Seen s c k → May s event → k + switches c event ≤ most → StaysCovered Fails Seen s c k event
stays May Fails most Seen look closed s c k event covered may few after answer done =
    let seen = covered.0 in
    let least = covered.3 in
    let covers = covered.4 in
    let there = covers-apply event seen s after answer covers done in
    let fits : covered.1 + switches c event ≤ most = omega arith in
    let all = closed seen c covered.1 event covered.2 (look.may s seen event (sym covers.board) may) fits there.0 answer there.1 in
    let fewer : covered.1 + switches c event ≤ k + switches c event = omega arith in (
      (λ fails. all.0 (look.fails s seen after there.0 event answer (sym covers.board) (sym there.2.board) fails)),
      covered-more Seen there.0 after (stepped c event) (covered.1 + switches c event) (k + switches c event) all.1 fewer there.2,
    )

behind-first : (May : Allows) (Fails : Failing) (Seen : Positions) (most c k b : ℕ) (s : State) (event : Event) (events : List Event) (r : Result (State × Answer) Refusal) → apply s event ≡ r
    → k + b ≤ most → switches c event ≤ b → StaysCovered Fails Seen s c k event
    → ((t : State) (d j m : ℕ) → IsCovered Seen t d j → j + m ≤ most → IsSchedule May d m t events → NoneFails Fails t events)
    → Behind r (λ after. IsSchedule May (stepped c event) (b - switches c event) after events)
    → IsHarmless Fails s event × NoneFails Fails (left_by r s) events
behind-first May Fails Seen most c k b s event events (Err refusal) e few less here others h = absurd h
behind-first May Fails Seen most c k b s event events (Ok after) e few less here others h =
    let pair : apply s event ≡ Ok (after.0, after.1) = e in
    let all = here after.0 after.1 pair in
    let fits : (k + switches c event) + (b - switches c event) ≤ most = omega arith in (
      (λ t answer same fails. all.0 (same-answers (λ u a. Fails s event a u) s after.0 t event after.1 answer pair same fails)),
      others after.0 (stepped c event) (k + switches c event) (b - switches c event) all.1 fits h,
    )

-- no schedule from a position that is covered fails
pub none-from : (May : Allows) (Fails : Failing) (most : ℕ) (Seen : Positions) → LookAtBoards May Fails → AreClosed May Fails most Seen
    → (events : List Event) (s : State) (c k b : ℕ) → IsCovered Seen s c k → k + b ≤ most → IsSchedule May c b s events → NoneFails Fails s events
none-from May Fails most Seen look closed [] s c k b covered few h = tt
none-from May Fails most Seen look closed (event ∷ events) s c k b covered few h =
    let least = h.1 in
    behind-first May Fails Seen most c k b s event events (apply s event) refl few h.1
    (stays May Fails most Seen look closed s c k event covered h.0 (omega arith))
    (none-from May Fails most Seen look closed events) h.2
