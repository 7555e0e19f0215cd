-- What is found in RAM, and whether a task waits in-band.
use Rattle.std.proofs.Common.{◌≡◌, ◌+◌, ◌*◌, ◌<◌, ◌≤◌, ℕ, zero, suc, List, [], ◌∷◌, Bool, true, false, Option, Some, None, Bor, get_or, refl, sym, ap, ◌∙◌, inl, inr, arith}
use Rattle.std.proofs.lemmas.List.{length-drop, length-take}
use Rattle.std.specs.Prelude.{◌-◌, cond, drop, is_ok, is_some, length, option_copied, option_map, take}
use Rattle.evm_board.proofs.law_rules.Firsts.{first-none}
use Rattle.evm_exec.specs.Does.{does}
use Rattle.evm_exec.specs.Memory.{width_of_load}
use Rattle.evm_exec.specs.declared.hart.Hart.{Hart}
use Rattle.evm_exec.specs.declared.outcome.Effect.TheVariants.{Load, Store}
use Rattle.evm_isa.specs.Decoded.{decoded, system_at}
use Rattle.evm_isa.specs.declared.inst.LoadOp.{LoadOp}
use Rattle.evm_model.specs.Ranks.{first, may_run_in_band, next_in_band, stamp}
use Rattle.evm_model.specs.declared.task.Task.{Task}
use Rattle.evm_quiet.specs.Quiet.{quiet_effect, quiet_inst, quiet_load, quiet_store}
use Rattle.evm_ram.specs.Bytes.{little_endian, low_bytes}
use Rattle.evm_ram.specs.Laws.{cond_some, inside, length-low_bytes}
use Rattle.evm_ram.specs.Ram.{bytes_at, is_inside, overwritten, poke_at, read_at, write_at}
use Rattle.evm_ram.specs.Width.{bytes_of}
use Rattle.evm_ram.specs.declared.ram.TheConstants.{BASE}
use Rattle.evm_ram.specs.declared.width.Width.{Width}
use Rattle.evm_ram.specs.declared.width.Width.TheVariants.{Word}

-- ---- a call is not quiet
loud-ecall : (hart : Hart) (ram : List ℕ) → false ≡ is_ok (quiet_inst None (decoded 0x73) hart ram)
unfolding decoded system_at does quiet_effect
loud-ecall hart ram = refl

pub loud_call : (word : ℕ) (hart : Hart) (ram : List ℕ) → word ≡ 0x73 → false ≡ is_ok (quiet_inst None (decoded word) hart ram)
loud_call word hart ram is = rw is (loud-ecall hart ram)

-- ---- RAM
loads-if : (inside : Bool) (bytes : List ℕ) (op : LoadOp) (rd address : ℕ) (hart : Hart) (ram : List ℕ) → inside ≡ is_ok (quiet_load (option_map little_endian (cond inside (Some bytes) None)) op rd address hart ram)
loads-if true bytes op rd address hart ram = refl
loads-if false bytes op rd address hart ram = refl

-- a load is quiet inside RAM
pub inside-loads : (ram : List ℕ) (address : ℕ) (op : LoadOp) (rd : ℕ) (hart : Hart) → is_inside ram address (bytes_of (width_of_load op)) ≡ is_ok (quiet_effect None (Load op rd address) hart ram)
unfolding read_at bytes_at quiet_effect
inside-loads ram address op rd hart =
    loads-if (is_inside ram address (bytes_of (width_of_load op))) (take (bytes_of (width_of_load op)) (drop (address - BASE) ram)) op rd address hart ram

stores-if : (inside : Bool) (after : List ℕ) (width : Width) (address value : ℕ) (hart : Hart) → inside ≡ is_ok (quiet_store (cond inside (Some after) None) width address value hart)
stores-if true after width address value hart = refl
stores-if false after width address value hart = refl

-- so is a store
pub inside-stores : (ram : List ℕ) (width : Width) (address value : ℕ) (hart : Hart) → is_inside ram address (bytes_of width) ≡ is_ok (quiet_effect None (Store width address value) hart ram)
unfolding write_at poke_at quiet_effect
inside-stores ram width address value hart =
    let bytes : List ℕ = low_bytes (bytes_of width) value in
    ap (is_inside ram address) (sym (length-low_bytes (bytes_of width) value))
    ∙ stores-if (is_inside ram address (length bytes)) (overwritten ram (address - BASE) bytes) width address value hart

some-if : {X : Type 0} (inside : Bool) (bytes : X) (o : Option (Bor X)) → option_copied o ≡ cond inside (Some bytes) None → is_some o ≡ inside
some-if true bytes None e = cc
some-if true bytes (Some x) e = refl
some-if false bytes None e = refl
some-if false bytes (Some x) e = cc

-- bytes are found inside RAM
pub found-inside : (ram : List ℕ) (address count : ℕ) (o : Option (Bor (List ℕ))) → option_copied o ≡ bytes_at ram address count → is_some o ≡ is_inside ram address count
unfolding bytes_at
found-inside ram address count o e = some-if (is_inside ram address count) (take count (drop (address - BASE) ram)) o e

-- as many as were asked for
pub found-length : (ram : List ℕ) (address count : ℕ) (bytes : List ℕ) → bytes_at ram address count ≡ Some bytes → length bytes ≡ count
unfolding bytes_at
found-length ram address count bytes e =
    let two = cond_some (is_inside ram address count) (take count (drop (address - BASE) ram)) bytes e in
    elim (inside ram address count two.0) [
      | inl none ↦ sym (ap length two.1) ∙ simp (length-take, length-drop) (omega arith)
      | inr bounds ↦ sym (ap length two.1) ∙ simp (length-take, length-drop) (omega arith)
    ]

-- a word is 4 of them
pub no-word : (ram : List ℕ) (pc : ℕ) → bytes_at ram pc 4 ≡ None → read_at ram pc Word ≡ None
unfolding read_at
no-word ram pc e = ap (option_map little_endian) e

pub word-is : (ram : List ℕ) (pc : ℕ) (bytes : List ℕ) (word : ℕ) → bytes_at ram pc 4 ≡ Some bytes → word ≡ little_endian bytes → Some word ≡ read_at ram pc Word
unfolding read_at
word-is ram pc bytes word e f = ap Some f ∙ sym (ap (option_map little_endian) e)

pub spells : (bytes : List ℕ) (word : ℕ) → 4 ≤ length bytes → length bytes < 5 → word ≡ get_or bytes 0 0 + get_or bytes 1 0 * 256 + get_or bytes 2 0 * 65536 + get_or bytes 3 0 * 16777216 → word ≡ little_endian bytes
spells [] word h k e = absurd (omega arith)
spells (a ∷ []) word h k e = absurd (omega arith)
spells (a ∷ b ∷ []) word h k e = absurd (omega arith)
spells (a ∷ b ∷ c ∷ []) word h k e = absurd (omega arith)
spells (a ∷ b ∷ c ∷ d ∷ []) word h k e = omega arith
spells (a ∷ b ∷ c ∷ d ∷ x ∷ rest) word h k e = absurd (omega arith)

pub ruleset ram_rules = (inside-loads, inside-stores, found-inside, found-length, no-word)

-- ---- a task that waits in-band
first-missing : (m : ℕ → Bool) (r s : ℕ → ℕ) (n : ℕ) → ((t : ℕ) → t < n → m t ≡ false) → first m r s n ≡ None
unfolding first
first-missing m r s zero h = refl
first-missing m r s (suc n) h = rw (h n (omega arith)) (first-missing m r s n (λ t k. h t (omega arith)))

pub none-awaits : (c : ℕ) (tasks : List Task) → ((t : ℕ) → t < length tasks → may_run_in_band c tasks t ≡ false) → is_some (next_in_band c tasks) ≡ false
unfolding next_in_band
none-awaits c tasks h = ap (λ (o : Option ℕ). is_some o) (first-missing (may_run_in_band c tasks) (λ _. 0) (stamp tasks) (length tasks) h)

some-or : (o : Option ℕ) → (o ≡ None → ⊥) → is_some o ≡ true
some-or None h = absurd (h refl)
some-or (Some t) h = refl

pub one-awaits : (c t : ℕ) (tasks : List Task) → t < length tasks → may_run_in_band c tasks t ≡ true → is_some (next_in_band c tasks) ≡ true
unfolding next_in_band
one-awaits c t tasks within h =
    some-or (first (may_run_in_band c tasks) (λ _. 0) (stamp tasks) (length tasks))
    (λ e. let none = first-none (may_run_in_band c tasks) (λ _. 0) (stamp tasks) (length tasks) t e within in let no : true ≡ false = sym h ∙ none in cc)

pub ruleset awaiting = (none-awaits, one-awaits)
