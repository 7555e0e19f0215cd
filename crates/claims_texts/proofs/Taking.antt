-- A machine that was booted takes a program where RAM has room for it, and its first Step does the first line.
use Rattle.std.proofs.Common.{◌≡◌, ℕ, zero, suc, ◌+◌, ◌<◌, ◌≤◌, Bool, true, false, not, nat_eq, cond, List, Some, None, Ok, Err, Result, All, length, replicate, inl, inr, refl, sym, ap, ◌∙◌, subst, arith}
use Rattle.std.specs.Prelude.{slice_get, slice_set, slice_index, nat_lt}
use Rattle.std.proofs.lemmas.Bool.{cases_lt, and_right, le-ltb, lt-ltb}
use Rattle.std.proofs.lemmas.Bool.Decides.{nat_tests}
use Rattle.std.proofs.lemmas.List.{length-replicate}
use Rattle.std.proofs.lemmas.Option.{same_Some}
use Rattle.evm_elf.specs.evm_asm.Assembled.{Assembled, IsWorded, StandsIn}
use Rattle.evm_elf.specs.evm_asm.declared.output.ProgramLine.{ProgramLine}
use Rattle.evm_elf.specs.Files.{image_of_bytes}
use Rattle.evm_ram.specs.Images.{Loaded, byte_at, range_start}
use Rattle.evm_ram.specs.Ram.{bytes_at}
use Rattle.evm_ram.specs.declared.ram.TheConstants.{BASE}
use Rattle.evm_model.specs.declared.refusal.Refusal.{Refusal}
use Rattle.evm_model.specs.declared.refusal.Refusal.TheVariants.{BadAddress}
use Rattle.evm_core.specs.evm_board.Room.{passes_ram}
use Rattle.evm_core.specs.Load.{load}
use Rattle.evm_model.specs.Devices.{Attached}
use Rattle.evm_model.specs.Harts.{first_hart}
use Rattle.evm_model.specs.Load.{load_board, bytes_from}
use Rattle.evm_model.specs.Pipes.{idle_pipe}
use Rattle.evm_model.specs.Replay.{bad_boot, bad_profile, bad_watchdog, bad_cpus, bad_ram, bad_capacity, start, accept, apply}
use Rattle.evm_model.specs.Settle.{settle_and_nudge}
use Rattle.evm_model.specs.State.{State, Board, Memory, Parts, booted, booted_parts, first_processor, on_parts}
use Rattle.evm_model.specs.declared.boot.Boot.{Boot}
use Rattle.evm_model.specs.declared.event.Answer.TheVariants.{Ran}
use Rattle.evm_model.specs.declared.event.Event.TheVariants.{Step}
use Rattle.evm_model.specs.declared.limits.TheConstants.{PROCESSOR_LIMIT, CAPACITY_LIMIT}
use Rattle.evm_model.specs.declared.processor.Processor.{Processor}
use Rattle.evm_model.proofs.Lists.{change-same}
use Rattle.claims_texts.specs.Running.{HasLine, IsAtLine, Proceeds, AcceptsStep, line_done, line_stepped, skip_off}
use Rattle.claims_texts.specs.Loading.{HoldsProgram, booted_with, BeginsWithLine}
use Rattle.claims_texts.proofs.Standing.{all_bytes, line_stands}

-- the one segment of a program
segment : List ℕ → Loaded
segment bytes = record { address = range_start; bytes = bytes; memsz = length bytes }

-- the machine after the program's bytes were loaded
unfoldable pub after : List Attached → Boot → List ℕ → State
after devices boot bytes = record (start devices boot) { board = load_board (byte_at (image_of_bytes bytes)) range_start (booted devices boot) }

zeros : (n : ℕ) → length {A = ℕ} (replicate n 0) ≡ n
zeros n = length-replicate {A = ℕ} n 0

fits : (size : ℕ) (bytes : List ℕ) → length bytes ≤ size → passes_ram size (segment bytes) ≡ false
unfolding segment
fits size bytes h = and_right (not (nat_eq (length bytes) 0)) (nat_lt (BASE + size) (range_start + length bytes)) (le-ltb (BASE + size) (range_start + length bytes) (omega arith))

passes : (size : ℕ) (bytes : List ℕ) → size < length bytes → passes_ram size (segment bytes) ≡ true
unfolding segment
passes size bytes h =
    let some : nat_eq (length bytes) 0 ≡ false = grind (arith, nat_tests) in
    let past : nat_lt (BASE + size) (range_start + length bytes) ≡ true = lt-ltb (BASE + size) (range_start + length bytes) (omega arith) in
    rw (some, past) refl

pub takes : (devices : List Attached) (boot : Boot) (bytes : List ℕ) → length bytes ≤ boot.ram → load (image_of_bytes bytes) (start devices boot) ≡ Ok (after devices boot bytes)
unfolding load booted after segment
takes devices boot bytes h =
    let same = zeros boot.ram in
    let no : passes_ram (length {A = ℕ} (replicate boot.ram 0)) (segment bytes) ≡ false = fits (length {A = ℕ} (replicate boot.ram 0)) bytes (omega arith) in
    rw no refl

pub refuses : (devices : List Attached) (boot : Boot) (bytes : List ℕ) → boot.ram < length bytes → load (image_of_bytes bytes) (start devices boot) ≡ Err BadAddress
unfolding load booted segment
refuses devices boot bytes h =
    let same = zeros boot.ram in
    let yes : passes_ram (length {A = ℕ} (replicate boot.ram 0)) (segment bytes) ≡ true = passes (length {A = ℕ} (replicate boot.ram 0)) bytes (omega arith) in
    rw yes refl

memory_after : (devices : List Attached) (boot : Boot) (bytes : List ℕ) → (after devices boot bytes).board.memory ≡ record { ram = bytes_from (byte_at (image_of_bytes bytes)) BASE boot.ram; devices = devices }
unfolding after load_board booted
memory_after devices boot bytes = ap (λ (n : ℕ). record { ram = bytes_from (byte_at (image_of_bytes bytes)) BASE n; devices = devices }) (zeros boot.ram)

same_state : (s t : State) → ◌≡◌ {A = Result State Refusal} (Ok s) (Ok t) → s ≡ t
same_state s t e = cc

-- where it was loaded, RAM had room
taken : (devices : List Attached) (boot : Boot) (bytes : List ℕ) (s : State) → load (image_of_bytes bytes) (start devices boot) ≡ Ok s → (length bytes ≤ boot.ram) × (after devices boot bytes ≡ s)
taken devices boot bytes s e = elim (cases_lt boot.ram (length bytes)) [
  | inl short ↦ let no = refuses devices boot bytes short in cc
  | inr room ↦ (room, same_state _ s (sym (takes devices boot bytes room) ∙ e))
]

-- ---- the numbers of a boot that isn't bad
none_true : (a b c : Bool) → cond a true (cond b true c) ≡ false → (a ≡ false) × (b ≡ false) × (c ≡ false)
none_true true b c e = cc
none_true false true c e = cc
none_true false false c e = (refl, refl, e)

-- the sizes are good where a profile and its watchdog are
bad_sizes : (profile watchdog rest : Bool) → cond profile true (cond watchdog true rest) ≡ false → rest ≡ false
bad_sizes true watchdog rest e = cc
bad_sizes false true rest e = cc
bad_sizes false false rest e = e

good_sizes : (boot : Boot) → bad_boot boot ≡ false → (bad_cpus boot.cpus ≡ false) × (bad_ram boot.ram ≡ false) × (bad_capacity boot.capacity ≡ false)
good_sizes boot good =
    none_true (bad_cpus boot.cpus) (bad_ram boot.ram) (bad_capacity boot.capacity)
    (bad_sizes (bad_profile boot.profile) (bad_watchdog boot.profile boot.watchdog) _ good)

not_zero : (n : ℕ) (rest : Bool) → cond (nat_eq n 0) true rest ≡ false → 0 < n
not_zero zero rest e = cc
not_zero (suc n) rest e = omega arith

has_cpu : (boot : Boot) → bad_boot boot ≡ false → 0 < boot.cpus
has_cpu boot good = not_zero boot.cpus (nat_lt PROCESSOR_LIMIT boot.cpus) (good_sizes boot good).0

has_room : (boot : Boot) → bad_boot boot ≡ false → 0 < boot.capacity
has_room boot good = not_zero boot.capacity (nat_lt CAPACITY_LIMIT boot.capacity) (good_sizes boot good).2

first_set : {X : Type 0} (n : ℕ) (x y : X) → 0 < n → slice_get (slice_set (replicate n x) 0 y) 0 ≡ Some y
first_set zero x y h = absurd (omega arith)
first_set (suc n) x y h = refl

first_of_many : {X : Type 0} (n : ℕ) (x : X) → 0 < n → slice_get (replicate n x) 0 ≡ Some x
first_of_many zero x h = absurd (omega arith)
first_of_many (suc n) x h = refl

-- ---- after boot and loading
is_at : (devices : List Attached) (boot : Boot) (bytes : List ℕ) (l : ProgramLine) → l.address ≡ range_start → HasLine (after devices boot bytes).board.memory l
    → IsAtLine l 0 (first_hart boot.ram) (after devices boot bytes).board
unfolding after load_board booted booted_parts
is_at devices boot bytes l first has = record { there = refl; pc = sym first; word = has }

proceeds : (devices : List Attached) (boot : Boot) (bytes : List ℕ) (address : ℕ) → bad_boot boot ≡ false
    → Proceeds address 0 0 (first_processor (Some 0)) idle_pipe (after devices boot bytes).board
unfolding after load_board booted booted_parts
proceeds devices boot bytes address good = record {
  there = first_set boot.cpus (first_processor None) (first_processor (Some 0)) (has_cpu boot good);
  its_pipe = first_of_many boot.cpus idle_pipe (has_cpu boot good);
  goes = refl;
  wire = refl;
  current = refl;
  passes = inl refl;
}

-- no breakpoint was to be passed
not_skipped : (devices : List Attached) (boot : Boot) (bytes : List ℕ) → bad_boot boot ≡ false → skip_off 0 (after devices boot bytes).board ≡ (after devices boot bytes).board
not_skipped devices boot bytes good =
    let b = (after devices boot bytes).board in
    let first = (proceeds devices boot bytes 0 good).there in
    ap (λ (processors : List Processor). on_parts (λ (k : Parts). record k { processors = processors }) b)
    (change-same (λ (p : Processor). record p { skip = false }) b.parts.processors 0
    (λ p e. let is : p ≡ first_processor (Some 0) = same_Some p (first_processor (Some 0)) (sym e ∙ first) in rw is refl))

first_stepped : (devices : List Attached) (boot : Boot) (bytes : List ℕ) (l : ProgramLine) → AcceptsStep l → bad_boot boot ≡ false → HasLine (after devices boot bytes).board.memory l → l.address ≡ range_start
    → apply (after devices boot bytes) (Step 0) ≡ Ok (accept (Step 0) (line_stepped l (first_hart boot.ram) 0 0 (after devices boot bytes).board, Ran 0) (after devices boot bytes))
unfolding after
first_stepped devices boot bytes l accepts good has first =
    accepts 0 0 (first_processor (Some 0)) idle_pipe (first_hart boot.ram) (after devices boot bytes)
    (has_room boot good) (proceeds devices boot bytes l.address good) (is_at devices boot bytes l first has)

first_line : (devices : List Attached) (boot : Boot) (bytes : List ℕ) (l : ProgramLine) → AcceptsStep l → bad_boot boot ≡ false → HasLine (after devices boot bytes).board.memory l
    → BeginsWithLine boot (after devices boot bytes) l
first_line devices boot bytes l accepts good has first =
    first_stepped devices boot bytes l accepts good has first
    ∙ ap (λ (b : Board). Ok (accept (Step 0) (on_parts (settle_and_nudge (Some 0) 0) (line_done l (first_hart boot.ram) 0 0 b), Ran 0) (after devices boot bytes)))
    (not_skipped devices boot bytes good)

module _ (fill : (bytes : List ℕ) (i : ℕ) → byte_at (image_of_bytes bytes) (range_start + i) ≡ slice_index bytes i) where
  line_after : (devices : List Attached) (boot : Boot) (bytes : List ℕ) (l : ProgramLine) → length bytes ≤ boot.ram → IsWorded l → StandsIn bytes l
      → HasLine (after devices boot bytes).board.memory l
  line_after devices boot bytes l room w h =
      subst (λ (m : Memory). HasLine m l) (sym (memory_after devices boot bytes))
      (line_stands (byte_at (image_of_bytes bytes)) bytes boot.ram (fill bytes) room devices l w h)

  bytes_after : (devices : List Attached) (boot : Boot) (bytes : List ℕ) → length bytes ≤ boot.ram → bytes_at (after devices boot bytes).board.memory.ram range_start (length bytes) ≡ Some bytes
  bytes_after devices boot bytes room =
      subst (λ (m : Memory). bytes_at m.ram range_start (length bytes) ≡ Some bytes) (sym (memory_after devices boot bytes))
      (all_bytes (byte_at (image_of_bytes bytes)) bytes boot.ram (fill bytes) room)

  pub holds : (devices : List Attached) (boot : Boot) (p : Assembled) → length p.bytes ≤ boot.ram → All IsWorded p.lines → All (StandsIn p.bytes) p.lines
      → HoldsProgram p (after devices boot p.bytes).board
  unfolding after load_board booted booted_parts
  holds devices boot p room words stand = record {
    bytes = bytes_after devices boot p.bytes room;
    lines = λ k d less. line_after devices boot p.bytes _ room (words k d less) (stand k d less);
    begins = refl;
  }

  pub all_begin : (devices : List Attached) (boot : Boot) (p : Assembled) (s : State) → bad_boot boot ≡ false → booted_with devices boot p ≡ Ok s
      → All IsWorded p.lines → All (StandsIn p.bytes) p.lines → All AcceptsStep p.lines → All (BeginsWithLine boot s) p.lines
  all_begin devices boot p s good e words stand accept =
      let is = taken devices boot p.bytes s e in
      let all = holds devices boot p is.0 words stand in
      subst (λ (t : State). All (BeginsWithLine boot t) p.lines) is.1
      (λ k d less. first_line devices boot p.bytes _ (accept k d less) good (all.lines k d less))

  -- so each line's word stands where the program was loaded
  pub all_hold : (devices : List Attached) (boot : Boot) (p : Assembled) (s : State) → booted_with devices boot p ≡ Ok s → All IsWorded p.lines → All (StandsIn p.bytes) p.lines
      → All (HasLine s.board.memory) p.lines
  all_hold devices boot p s e words stand =
      let is = taken devices boot p.bytes s e in
      subst (λ (t : State). All (HasLine t.board.memory) p.lines) is.1 (holds devices boot p is.0 words stand).lines
