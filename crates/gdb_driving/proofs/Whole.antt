-- What the events of a write make of a machine: none of them is refused, and RAM has all the bytes.
use Rattle.std.proofs.Common.{◌≡◌, ℕ, zero, suc, ◌+◌, ◌-◌, ◌<◌, ◌≤◌, inl, inr, true, false, nat_le, List, [], ◌∷◌, ◌++◌, length, take, drop, refl, sym, ap, subst, ◌∙◌, arith, append_assoc, length-drop, length-take, length-append, drop-drop}
use Rattle.std.proofs.lemmas.Bool.Decides.{nat_tests}
use Rattle.std.proofs.lemmas.List.{take_at, drop_at, length-take-le, take-append-drop, append-nil, nil_from_length}
use Rattle.std.specs.Prelude.{Result, Ok, Err, Some, MatchResult, nat_lt, ◌==◌}
use Rattle.evm_ram.specs.Laws.{inside, overwritten-nothing, length-overwritten, bytes_at-inside, bytes_at-poke_at}
use Rattle.evm_ram.specs.Ram.{is_inside, overwritten, bytes_at, poke_at}
use Rattle.evm_ram.specs.declared.ram.TheConstants.{BASE}
use Rattle.evm_model.specs.Event.{Block, Event}
use Rattle.evm_model.specs.Memory.{poke}
use Rattle.evm_model.specs.Refusals.{bad_bytes, board_refusal}
use Rattle.evm_model.specs.Replay.{apply}
use Rattle.evm_model.specs.Rows.{row}
use Rattle.evm_model.specs.State.{State, Memory, on_memory}
use Rattle.evm_model.specs.declared.event.Answer.{Answer}
use Rattle.evm_model.specs.declared.event.Answer.TheVariants.{Done}
use Rattle.evm_model.specs.declared.event.Event.TheVariants.{Poke}
use Rattle.evm_model.specs.declared.limits.TheConstants.{POKE_LIMIT}
use Rattle.evm_model.specs.declared.refusal.Refusal.{Refusal}
use Rattle.gdb_driving.specs.Setting.{MakesEach}
use Rattle.gdb_driving.specs.Writing.{blocks_of, pokes, written}
use Rattle.gdb_driving.proofs.Writing.{pokes_nothing, block-first, pokes_cut, block_written}

-- ---- the same events make the same

same-then : (o : Result (State × Answer) Refusal) (a b : Result (Unit {0}) Refusal) (events : List Event) (s t u : State)
    → ((from : State) → MakesEach events a from t → MakesEach events b from u → (a ≡ b) × (t ≡ u))
    → MatchResult o (λ after. MakesEach events a after.0 t) (λ refusal. (a ≡ Err refusal) × (t ≡ s))
    → MatchResult o (λ after. MakesEach events b after.0 u) (λ refusal. (b ≡ Err refusal) × (u ≡ s))
    → (a ≡ b) × (t ≡ u)
same-then (Ok after) a b events s t u more m n = more after.0 m n
same-then (Err refusal) a b events s t u more m n = (m.0 ∙ sym n.0, m.1 ∙ sym n.1)

pub makes_same : (events : List Event) (a b : Result (Unit {0}) Refusal) (s t u : State) → MakesEach events a s t → MakesEach events b s u → (a ≡ b) × (t ≡ u)
makes_same [] a b s t u m n = (m.0 ∙ sym n.0, m.1 ∙ sym n.1)
makes_same (event ∷ events) a b s t u m n = same-then (apply s event) a b events s t u (λ from p q. makes_same events a b from t u p q) m n

-- ---- bytes behind bytes in RAM

overwritten-on : (ram : List ℕ) (place : ℕ) (xs ys : List ℕ) → place + length xs ≤ length ram
    → overwritten (overwritten ram place xs) (place + length xs) ys ≡ overwritten ram place (xs ++ ys)
overwritten-on ram place xs ys h =
    let front : length (take place ram ++ xs) ≡ place + length xs = simp length-append (let n = length-take-le place ram (omega arith) in omega arith) in
    let behind = drop (place + length xs) ram in
    let first : take (place + length xs) ((take place ram ++ xs) ++ behind) ≡ take place ram ++ xs = take_at (take place ram ++ xs) behind (place + length xs) front in
    let last : drop (place + length xs + length ys) ((take place ram ++ xs) ++ behind) ≡ drop (place + length (xs ++ ys)) ram =
    sym (drop-drop (length ys) (place + length xs) ((take place ram ++ xs) ++ behind))
    ∙ ap (drop (length ys)) (drop_at (take place ram ++ xs) behind (place + length xs) front)
    ∙ drop-drop (length ys) (place + length xs) ram
    ∙ ap (λ (n : ℕ). drop n ram) (let n = length-append xs ys in omega arith) in
    ap (λ (zs : List ℕ). (zs ++ ys) ++ drop (place + length xs + length ys) ((take place ram ++ xs) ++ behind)) first
    ∙ ap (λ (zs : List ℕ). ((take place ram ++ xs) ++ ys) ++ zs) last
    ∙ ap (λ (zs : List ℕ). zs ++ drop (place + length (xs ++ ys)) ram) (append_assoc (take place ram) xs ys)

inside-by : (ram : List ℕ) (address count : ℕ) → BASE ≤ address → address + count ≤ BASE + length ram → is_inside ram address count ≡ true
inside-by ram address count low high = grind (arith, nat_tests)

-- no bytes are inside at every address
inside-if : (ram : List ℕ) (address count : ℕ) → (0 < count → (BASE ≤ address) × (address + count ≤ BASE + length ram)) → is_inside ram address count ≡ true
inside-if ram address zero h = refl
inside-if ram address (suc count) h = let bounds = h (omega arith) in inside-by ram address (suc count) bounds.0 bounds.1

bounds-of : (ram : List ℕ) (address count : ℕ) → is_inside ram address count ≡ true → 0 < count → (BASE ≤ address) × (address + count ≤ BASE + length ram)
bounds-of ram address count h some = elim (inside ram address count h) [ inl none ↦ absurd (omega arith) | inr bounds ↦ bounds ]

poke-inside : (m : Memory) (address : ℕ) (bytes : List ℕ) → is_inside m.ram address (length bytes) ≡ true
    → poke address bytes m ≡ record m { ram = overwritten m.ram (address - BASE) bytes }
unfolding poke poke_at
poke-inside m address bytes h = rw h refl

poke_at-found : (ram : List ℕ) (address : ℕ) (bytes : List ℕ) → is_inside ram address (length bytes) ≡ true → poke_at ram address bytes ≡ Some (overwritten ram (address - BASE) bytes)
unfolding poke_at
poke_at-found ram address bytes h = rw h refl

poke-nothing : (m : Memory) (address : ℕ) → poke address [] m ≡ m
poke-nothing m address = poke-inside m address [] refl ∙ ap (λ (ram : List ℕ). record m { ram = ram }) (overwritten-nothing m.ram (address - BASE))

-- bytes written behind bytes are written as one
poke-behind : (m : Memory) (address next : ℕ) (xs ys : List ℕ) → is_inside m.ram address (length (xs ++ ys)) ≡ true → 0 < length xs → (0 < length ys → next ≡ address + length xs)
    → poke next ys (poke address xs m) ≡ poke address (xs ++ ys) m
poke-behind m address next xs [] h some e = poke-nothing (poke address xs m) next ∙ ap (λ (bytes : List ℕ). poke address bytes m) (sym (append-nil xs))
poke-behind m address next xs (y ∷ ys) h some e =
    let long = length-append xs (y ∷ ys) in
    let bounds = bounds-of m.ram address (length (xs ++ y ∷ ys)) h (omega arith) in
    let at = e (omega arith) in
    let ram = overwritten m.ram (address - BASE) xs in
    let same : length ram ≡ length m.ram = length-overwritten m.ram (address - BASE) xs (omega arith) in
    let place : next - BASE ≡ (address - BASE) + length xs = omega arith in
    ap (poke next (y ∷ ys)) (poke-inside m address xs (inside-by m.ram address (length xs) bounds.0 (omega arith)))
    ∙ poke-inside (record m { ram = ram }) next (y ∷ ys) (inside-by ram next (length (y ∷ ys)) (omega arith) (omega arith))
    ∙ ap (λ (n : ℕ). record m { ram = overwritten ram n (y ∷ ys) }) place
    ∙ ap (λ (zs : List ℕ). record m { ram = zs }) (overwritten-on m.ram (address - BASE) xs (y ∷ ys) (omega arith))
    ∙ sym (poke-inside m address (xs ++ y ∷ ys) h)

-- ---- one block

-- what the event of one block makes of a machine
abbrev one_written : ℕ → Block → State → State
one_written address block s = record s { journal = s.journal ++ Poke address block ∷ []; board = on_memory (poke address block.items) s.board }

-- a block that is inside RAM, and room for it
record IsFree (address : ℕ) (block : List ℕ) (s : State) : Type 0 where
  some : 0 < length block
  few : length block ≤ POKE_LIMIT
  there : is_inside s.board.memory.ram address (length block) ≡ true
  room : length s.journal < s.boot.capacity

good-bytes : (address : ℕ) (block : List ℕ) (s : State) → IsFree address block s → bad_bytes address (length block) s.board ≡ false
good-bytes address block s free =
    let none : (length block == 0) ≡ false = let h = free.some in grind (arith, nat_tests) in
    let more : nat_lt POKE_LIMIT (length block) ≡ false = let h = free.few in grind (arith, nat_tests) in
    rw (none, more, bytes_at-inside s.board.memory.ram address (length block) free.there) refl

accepted : (address : ℕ) (block : Block) (s : State) → nat_le s.boot.capacity (length s.journal) ≡ false → bad_bytes address (length block.items) s.board ≡ false
    → apply s (Poke address block) ≡ Ok (one_written address block s, Done)
unfolding apply row board_refusal
accepted address block s room good = rw (room, good) refl

block-accepted : (address : ℕ) (block : Block) (s : State) → IsFree address block.items s → apply s (Poke address block) ≡ Ok (one_written address block s, Done)
block-accepted address block s free =
    accepted address block s (let h = free.room in grind (arith, nat_tests)) (good-bytes address block.items s free)

-- ---- all blocks

written-by : (s : State) (a b : List Event) (m n : Memory) → a ≡ b → m ≡ n
    → record s { journal = a; board = record s.board { memory = m } } ≡ record s { journal = b; board = record s.board { memory = n } }
written-by s a b m n e f =
    ap (λ (events : List Event). record s { journal = events; board = record s.board { memory = m } }) e
    ∙ ap (λ (memory : Memory). record s { journal = b; board = record s.board { memory = memory } }) f

nothing-written : (address : ℕ) (s : State) → written address [] s ≡ s
nothing-written address s =
    written-by s (s.journal ++ pokes address []) s.journal (poke address [] s.board.memory) s.board.memory
    (ap (λ (events : List Event). s.journal ++ events) (pokes_nothing address) ∙ append-nil s.journal) (poke-nothing s.board.memory address)

-- the others of some bytes, behind the first block
first-written : (address : ℕ) (bytes : List ℕ) (block : Block) (s : State) → 0 < length bytes → block.items ≡ take POKE_LIMIT bytes
    → is_inside s.board.memory.ram address (length bytes) ≡ true
    → written (address + POKE_LIMIT) (drop POKE_LIMIT bytes) (one_written address block s) ≡ written address bytes s
first-written address bytes block s some e there =
    let front = length-take POKE_LIMIT bytes in
    let behind = length-drop POKE_LIMIT bytes in
    let split : take POKE_LIMIT bytes ++ drop POKE_LIMIT bytes ≡ bytes = take-append-drop POKE_LIMIT bytes in
    let inside_too = subst (λ (xs : List ℕ). is_inside s.board.memory.ram address (length xs) ≡ true) (sym split) there in
    let events : pokes address bytes ≡ Poke address block ∷ pokes (address + POKE_LIMIT) (drop POKE_LIMIT bytes) =
    pokes_cut address (address + POKE_LIMIT) bytes block (drop POKE_LIMIT bytes) (record { some = some; first = e; behind = refl }) (λ _. refl) in
    written-by s _ _ _ _
    (append_assoc s.journal (Poke address block ∷ []) (pokes (address + POKE_LIMIT) (drop POKE_LIMIT bytes)) ∙ ap (λ (more : List Event). s.journal ++ more) (sym events))
    (ap (λ (xs : List ℕ). poke (address + POKE_LIMIT) (drop POKE_LIMIT bytes) (poke address xs s.board.memory)) e
    ∙ poke-behind s.board.memory address (address + POKE_LIMIT) (take POKE_LIMIT bytes) (drop POKE_LIMIT bytes) inside_too (omega arith) (λ more. omega arith)
    ∙ ap (λ (xs : List ℕ). poke address xs s.board.memory) split)

-- the first block is accepted
first-free : (address : ℕ) (bytes : List ℕ) (s : State) → 0 < length bytes → is_inside s.board.memory.ram address (length bytes) ≡ true → length s.journal < s.boot.capacity
    → IsFree address (take POKE_LIMIT bytes) s
first-free address bytes s some there room =
    let front = length-take POKE_LIMIT bytes in
    let bounds = bounds-of s.board.memory.ram address (length bytes) there some in
    record {
      some = omega arith;
      few = omega arith;
      there = inside-by s.board.memory.ram address (length (take POKE_LIMIT bytes)) bounds.0 (omega arith);
      room = room;
    }

-- the others are inside RAM when it was written
others-inside : (address : ℕ) (bytes : List ℕ) (block : Block) (s : State) → 0 < length bytes → block.items ≡ take POKE_LIMIT bytes
    → is_inside s.board.memory.ram address (length bytes) ≡ true
    → is_inside (one_written address block s).board.memory.ram (address + POKE_LIMIT) (length (drop POKE_LIMIT bytes)) ≡ true
others-inside address bytes block s some e there =
    let front = ap length e ∙ length-take POKE_LIMIT bytes in
    let behind = length-drop POKE_LIMIT bytes in
    let bounds = bounds-of s.board.memory.ram address (length bytes) there some in
    let put = ap (λ (m : Memory). m.ram) (poke-inside s.board.memory address block.items (inside-by s.board.memory.ram address (length block.items) bounds.0 (omega arith))) in
    let long = ap length put ∙ length-overwritten s.board.memory.ram (address - BASE) block.items (omega arith) in
    inside-if (one_written address block s).board.memory.ram (address + POKE_LIMIT) (length (drop POKE_LIMIT bytes)) (λ more. (omega arith, omega arith))

none-written : (address : ℕ) (s : State) → MakesEach (pokes address []) (Ok tt) s (written address [] s)
none-written address s =
    subst (λ (events : List Event). MakesEach events (Ok tt) s (written address [] s)) (sym (pokes_nothing address)) (refl, nothing-written address s)

-- no event is refused, and they make what one write of all the bytes does
pub all_written : (n address : ℕ) (bytes : List ℕ) (s : State) → blocks_of bytes ≡ n → is_inside s.board.memory.ram address (length bytes) ≡ true
    → length s.journal + n ≤ s.boot.capacity → MakesEach (pokes address bytes) (Ok tt) s (written address bytes s)
all_written zero address bytes s e there room =
    let none : bytes ≡ [] = nil_from_length bytes (omega arith) in
    subst (λ (xs : List ℕ). MakesEach (pokes address xs) (Ok tt) s (written address xs s)) (sym none) (none-written address s)
all_written (suc n) address bytes s e there room =
    let some : 0 < length bytes = omega arith in
    let others = drop POKE_LIMIT bytes in
    let block : Block = record { items = take POKE_LIMIT bytes } in
    let next : State = one_written address block s in
    let fewer : blocks_of others ≡ n = let more = block-first (length bytes) (length others) some (length-drop POKE_LIMIT bytes) in omega arith in
    let longer = length-append s.journal (Poke address block ∷ []) in
    let rest : MakesEach (pokes (address + POKE_LIMIT) others) (Ok tt) next (written (address + POKE_LIMIT) others next) =
    all_written n (address + POKE_LIMIT) others next fewer (others-inside address bytes block s some refl there) (omega arith) in
    subst (λ (new : State). MakesEach (pokes address bytes) (Ok tt) s new) (first-written address bytes block s some refl there)
    (block_written address (address + POKE_LIMIT) bytes block others Done (Ok tt) s next (written (address + POKE_LIMIT) others next)
    (record { some = some; first = refl; behind = refl }) (λ _. refl) (block-accepted address block s (first-free address bytes s some there (omega arith))) rest)

-- so what the events of a write make is determined
pub write_ends : (address : ℕ) (bytes : List ℕ) (result : Result (Unit {0}) Refusal) (old new : State)
    → is_inside old.board.memory.ram address (length bytes) ≡ true → length old.journal + blocks_of bytes ≤ old.boot.capacity → MakesEach (pokes address bytes) result old new
    → (result ≡ Ok tt) × (new ≡ written address bytes old)
write_ends address bytes result old new there room made =
    makes_same (pokes address bytes) result (Ok tt) old new (written address bytes old) made (all_written (blocks_of bytes) address bytes old refl there room)

-- and the bytes are in RAM then
pub read_back : (address : ℕ) (bytes : List ℕ) (s : State) → is_inside s.board.memory.ram address (length bytes) ≡ true
    → bytes_at (written address bytes s).board.memory.ram address (length bytes) ≡ Some bytes
read_back address bytes s there =
    let put = ap (λ (m : Memory). m.ram) (poke-inside s.board.memory address bytes there) in
    bytes_at-poke_at s.board.memory.ram address bytes (written address bytes s).board.memory.ram (poke_at-found s.board.memory.ram address bytes there ∙ ap Some (sym put))
