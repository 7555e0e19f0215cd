-- A private row makes no call.
use Rattle.std.proofs.Common.{◌≡◌, ℕ, zero, suc, List, [], ◌∷◌, Bool, true, false, ◌&&◌, Option, Some, None, length, ◌<◌, refl, sym, ap, subst, ◌∙◌, eqb-true, arith}
use Rattle.std.specs.Prelude.{if◌then◌else◌, nat_le, nat_lt, option_map, slice_get, ◌==◌}
use Rattle.std.proofs.lemmas.Bool.Decides.{nat_tests}
use Rattle.evm_exec.specs.Does.{does}
use Rattle.evm_exec.specs.declared.hart.Hart.{Hart}
use Rattle.evm_isa.specs.Decoded.{decoded, system_at}
use Rattle.evm_isa.specs.declared.inst.Inst.{Inst}
use Rattle.evm_isa.specs.declared.inst.Inst.TheVariants.{Ecall}
use Rattle.evm_model.proofs.Lists.{slice_get-within, slice_get-below}
use Rattle.evm_model.specs.Current.{current, current_of}
use Rattle.evm_model.specs.Memory.{fetch}
use Rattle.evm_model.specs.State.{Board, Memory, State}
use Rattle.evm_model.specs.declared.event.Event.TheVariants.{Step}
use Rattle.evm_model.specs.declared.task.Task.{Task}
use Rattle.evm_ram.specs.Bytes.{little_endian}
use Rattle.evm_ram.specs.Ram.{bytes_at, read_at}
use Rattle.hunt_failures.specs.Failures.{IsAtCall, is_at_pc, is_ecall}
use Rattle.law_runs.proofs.Alike.AheadChanging.{goes-none}
use Rattle.law_runs.proofs.Alike.AheadPrivate.{acts, fetched}
use Rattle.law_runs.proofs.Alike.AheadReading.{task_count-same}
use Rattle.law_runs.specs.Ahead.{TasksAhead, actor, goes, has_ready_state, private_hart, private_inst, private_word, text}
use Rattle.law_runs.specs.Timeless.{hart_at, is_ecall_inst, is_ecall_word, makes_timed_call}
use Rattle.hunt_space.specs.Space.{CallsNone}
use Rattle.hunt_space.specs.declared.bounds.Bound.{Bound}
use Rattle.hunt_space.specs.declared.bounds.Bound.TheVariants.{AtMost, Free}

-- ---- the word of an ECALL
four : (w x y z : Bool) → (w && x && y && z) ≡ true → (w ≡ true) × (x ≡ true) × (y ≡ true) × (z ≡ true)
four true true true true e = (refl, refl, refl, refl)
four true true true false e = cc
four true true false z e = cc
four true false y z e = cc
four false x y z e = cc

ecall-read : (o : Option (List ℕ)) → is_ecall o ≡ true → option_map little_endian o ≡ Some 115
ecall-read None e = cc
ecall-read (Some []) e = cc
ecall-read (Some (a ∷ [])) e = cc
ecall-read (Some (a ∷ b ∷ [])) e = cc
ecall-read (Some (a ∷ b ∷ c ∷ [])) e = cc
ecall-read (Some (a ∷ b ∷ c ∷ d ∷ x ∷ xs)) e = cc
ecall-read (Some (a ∷ b ∷ c ∷ d ∷ [])) e =
    let each = four (a == 115) (b == 0) (c == 0) (d == 0) e in
    rw (eqb-true a 115 each.0, eqb-true b 0 each.1, eqb-true c 0 each.2, eqb-true d 0 each.3) refl

ecall-fetched : (m : Memory) (pc : ℕ) → is_ecall (bytes_at m.ram pc 4) ≡ true → fetch pc m ≡ Some 115
unfolding read_at
ecall-fetched m pc h = ecall-read (bytes_at m.ram pc 4) h

ecall-decoded : decoded 115 ≡ Some Ecall
unfolding decoded system_at
ecall-decoded = refl

one-inst : (inst : Inst) (hart next : Hart) → private_inst (Some inst) hart ≡ Some next → is_ecall_inst (Some inst) ≡ false
unfolding does
one-inst Ecall hart next e = cc
one-inst _ hart next e = refl

inst-no-ecall : (o : Option Inst) (hart next : Hart) → private_inst o hart ≡ Some next → is_ecall_inst o ≡ false
inst-no-ecall None hart next e = refl
inst-no-ecall (Some inst) hart next e = one-inst inst hart next e

word-no-ecall : (o : Option ℕ) (hart next : Hart) → private_word o hart ≡ Some next → is_ecall_word o ≡ false
word-no-ecall None hart next e = refl
word-no-ecall (Some word) hart next e = inst-no-ecall (decoded word) hart next e

pub no-call : (low high : ℕ) (m : Memory) (o : Option Hart) (next : Hart) (pc : ℕ) → private_hart (text low high m) o ≡ Some next → is_at_pc pc o ≡ true → is_ecall (bytes_at m.ram pc 4) ≡ true → ⊥
no-call low high m None next pc p at call = cc
no-call low high m (Some hart) next pc p at call =
    let same : hart.pc ≡ pc = eqb-true hart.pc pc at in
    let word : fetch hart.pc m ≡ Some 115 = ecall-fetched m hart.pc (subst (λ (n : ℕ). is_ecall (bytes_at m.ram n 4) ≡ true) (sym same) call) in
    let none : is_ecall_word (fetch hart.pc m) ≡ false = word-no-ecall (fetch hart.pc m) hart next (fetched low high m hart next p) in
    let is : is_ecall_word (fetch hart.pc m) ≡ true = ap is_ecall_word word ∙ ap is_ecall_inst ecall-decoded in
    cc

-- ---- it reads no clock
pub actor-runs : (c t : ℕ) (b : Board) → actor c b ≡ Some t → current c b.parts ≡ Some t
actor-runs c t b e = let now = acts c t b e in ap current_of now.at ∙ now.runs

hart-untimed : (low high : ℕ) (m : Memory) (o : Option Hart) (next : Hart) → private_hart (text low high m) o ≡ Some next → makes_timed_call o m ≡ false
hart-untimed low high m None next p = refl
hart-untimed low high m (Some hart) next p = rw (word-no-ecall (fetch hart.pc m) hart next (fetched low high m hart next p)) refl

pub calls-private : (clock : Bound) (low high c t : ℕ) (next : Hart) (s : State) → actor c s.board ≡ Some t
    → private_hart (text low high s.board.memory) (slice_get s.board.parts.harts t) ≡ Some next → CallsNone clock (Step c) s
calls-private (AtMost most) low high c t next s e p = tt
calls-private Free low high c t next s e p =
    ap (λ (o : Option ℕ). makes_timed_call (hart_at o s.board.parts.harts) s.board.memory) (actor-runs c t s.board e) ∙ hart-untimed low high s.board.memory (slice_get s.board.parts.harts t) next p

-- ---- a task that is ahead is at a private row
next-is : (code : ℕ → Option ℕ) (n : ℕ) (o : Option Hart) (last : Hart) → goes code n o ≡ Some last → (next : Hart) × (o ≡ Some next)
next-is code n None last e = let no : None ≡ Some last = sym (goes-none code n) ∙ e in cc
next-is code n (Some next) last e = (next, refl)

pub task-below : (tasks : List Task) (t : ℕ) → has_ready_state (slice_get tasks t) ≡ true → t < length tasks
task-below tasks t e = elim (slice_get tasks t) as (λ o. slice_get tasks t ≡ o → has_ready_state o ≡ true → t < length tasks) [
  | None ↦ λ f g. cc
  | Some x ↦ λ f g. slice_get-below tasks t x f
] refl e

pub private-of : (low high : ℕ) (rows : ℕ → ℕ) (a b : Board) (t n : ℕ) → TasksAhead low high rows a b → rows t ≡ suc n
    → (next : Hart) × (private_hart (text low high a.memory) (slice_get a.parts.harts t) ≡ Some next)
private-of low high rows a b t n s more =
    let code : ℕ → Option ℕ = text low high a.memory in
    let there = task-below a.parts.tasks t (s.parts.ready t n more) in
    let last = slice_get-within b.parts.harts t (omega (arith, there, task_count-same s.parts, s.parts.other_count)) in
    let e : slice_get b.parts.harts t ≡ goes code (suc n) (slice_get a.parts.harts t) = let f = s.parts.ahead t in rw more at f in
    next-is code n (private_hart code (slice_get a.parts.harts t)) last.0 (sym e ∙ last.1)

pub called-still : (low high : ℕ) (rows : ℕ → ℕ) (s : State) (b : Board) (t pc n : ℕ) → TasksAhead low high rows s.board b → IsAtCall t pc s → rows t ≡ n → n ≡ 0
called-still low high rows s b t pc zero ahead at e = refl
called-still low high rows s b t pc (suc n) ahead at e =
    let p = private-of low high rows s.board b t n ahead e in absurd (no-call low high s.board.memory (slice_get s.board.parts.harts t) p.0 pc p.1 at.0 at.1)

-- ---- a text that isn't empty
within-text : (low high pc : ℕ) (o : Option ℕ) (hart next : Hart) → private_word (if nat_le low pc && nat_lt pc high then o else None) hart ≡ Some next → 0 < high
within-text low high pc o hart next p = inside (nat_le low pc) (nat_lt pc high) refl p
  where
    inside : (b d : Bool) → nat_lt pc high ≡ d → private_word (if b && d then o else None) hart ≡ Some next → 0 < high
    inside true true e p = let less : pc < high = grind (arith, nat_tests) in omega (arith, less)
    inside true false e p = cc
    inside false d e p = cc

private-within : (low high : ℕ) (m : Memory) (o : Option Hart) (next : Hart) → private_hart (text low high m) o ≡ Some next → 0 < high
private-within low high m None next p = cc
private-within low high m (Some hart) next p = within-text low high hart.pc (fetch hart.pc m) hart next p

pub private-below : (low high : ℕ) (rows : ℕ → ℕ) (a b : Board) (t n : ℕ) → TasksAhead low high rows a b → rows t ≡ suc n → 0 < high
private-below low high rows a b t n s more =
    let p = private-of low high rows a b t n s more in private-within low high a.memory (slice_get a.parts.harts t) p.0 p.1
