-- Bytes that are written block by block.
use Rattle.std.proofs.Common.{◌≡◌, ℕ, suc, ◌+◌, ◌-◌, ◌<◌, List, [], ◌∷◌, length, take, drop, refl, sym, ap, subst, ◌∙◌, arith, length-drop}
use Rattle.std.proofs.lemmas.List.{nil_from_length}
use Rattle.std.specs.Prelude.{Result, Ok, Err}
use Rattle.std.specs.Int.{div_ceil}
use Rattle.evm_model.specs.Event.{Block, Event}
use Rattle.evm_model.specs.Replay.{apply}
use Rattle.evm_model.specs.State.{State}
use Rattle.evm_model.specs.declared.event.Answer.{Answer}
use Rattle.evm_model.specs.declared.event.Event.TheVariants.{Poke}
use Rattle.evm_model.specs.declared.limits.TheConstants.{POKE_LIMIT}
use Rattle.evm_model.specs.declared.refusal.Refusal.{Refusal}
use Rattle.gdb_driving.specs.Setting.{MakesEach}
use Rattle.gdb_driving.specs.Writing.{poking, blocks_of, block_pokes, pokes}

-- ---- the first event of several

pub makes_first : (event : Event) (events : List Event) (answer : Answer) (result : Result (Unit {0}) Refusal) (old mid new : State)
    → apply old event ≡ Ok (mid, answer) → MakesEach events result mid new → MakesEach (event ∷ events) result old new
makes_first event events answer result old mid new accepted more = rw accepted more

pub makes_none : (event : Event) (events : List Event) (refusal : Refusal) (old : State)
    → apply old event ≡ Err refusal → MakesEach (event ∷ events) (Err refusal) old old
makes_none event events refusal old refused = rw refused (refl, refl)

-- ---- the first block of several

pub pokes_nothing : (address : ℕ) → pokes address [] ≡ []
unfolding block_pokes
pokes_nothing address = refl

-- no bytes are written nowhere
pokes_from : (a b : ℕ) (bytes : List ℕ) → (0 < length bytes → b ≡ a) → pokes a bytes ≡ pokes b bytes
pokes_from a b [] e = pokes_nothing a ∙ sym (pokes_nothing b)
pokes_from a b (byte ∷ bytes) e = ap (λ (n : ℕ). pokes n (byte ∷ bytes)) (sym (e (omega arith)))

-- one block, and those of the bytes behind it
pub block-first : (count rest : ℕ) → 0 < count → rest ≡ count - POKE_LIMIT → div_ceil count POKE_LIMIT ≡ suc (div_ceil rest POKE_LIMIT)
block-first count rest some e = omega arith

block_pokes-suc : (blocks address : ℕ) (bytes : List ℕ)
    → block_pokes (suc blocks) address bytes ≡ poking address (take POKE_LIMIT bytes) ∷ block_pokes blocks (address + POKE_LIMIT) (drop POKE_LIMIT bytes)
unfolding block_pokes
block_pokes-suc blocks address bytes = refl

pub pokes_more : (address next : ℕ) (bytes : List ℕ) → 0 < length bytes → (0 < length (drop POKE_LIMIT bytes) → next ≡ address + POKE_LIMIT)
    → pokes address bytes ≡ poking address (take POKE_LIMIT bytes) ∷ pokes next (drop POKE_LIMIT bytes)
pokes_more address next bytes some e =
    ap (λ (n : ℕ). block_pokes n address bytes) (block-first (length bytes) (length (drop POKE_LIMIT bytes)) some (length-drop POKE_LIMIT bytes))
    ∙ block_pokes-suc (blocks_of (drop POKE_LIMIT bytes)) address bytes
    ∙ ap (λ (events : List Event). poking address (take POKE_LIMIT bytes) ∷ events) (pokes_from (address + POKE_LIMIT) next (drop POKE_LIMIT bytes) e)

-- ---- a block that is written

-- some bytes are a block and others behind it
pub record IsCut (bytes : List ℕ) (block : Block) (others : List ℕ) : Type 0 where
  pub some : 0 < length bytes
  pub first : block.items ≡ take POKE_LIMIT bytes
  pub behind : others ≡ drop POKE_LIMIT bytes

pub pokes_cut : (address next : ℕ) (bytes : List ℕ) (block : Block) (others : List ℕ) → IsCut bytes block others → (0 < length others → next ≡ address + POKE_LIMIT)
    → pokes address bytes ≡ Poke address block ∷ pokes next others
pokes_cut address next bytes block others cut e =
    let same : poking address (take POKE_LIMIT bytes) ≡ Poke address block = ap (poking address) (sym cut.first) in
    let behind : 0 < length (drop POKE_LIMIT bytes) → next ≡ address + POKE_LIMIT = subst (λ (ys : List ℕ). 0 < length ys → next ≡ address + POKE_LIMIT) cut.behind e in
    pokes_more address next bytes cut.some behind
    ∙ ap (λ (event : Event). event ∷ pokes next (drop POKE_LIMIT bytes)) same
    ∙ ap (λ (ys : List ℕ). Poke address block ∷ pokes next ys) (sym cut.behind)

-- its event is accepted, and those of the bytes behind it are made
pub block_written : (address next : ℕ) (bytes : List ℕ) (block : Block) (others : List ℕ) (answer : Answer) (result : Result (Unit {0}) Refusal) (old mid new : State)
    → IsCut bytes block others → (0 < length others → next ≡ address + POKE_LIMIT) → apply old (Poke address block) ≡ Ok (mid, answer)
    → MakesEach (pokes next others) result mid new → MakesEach (pokes address bytes) result old new
block_written address next bytes block others answer result old mid new cut e accepted made =
    subst (λ (events : List Event). MakesEach events result old new) (sym (pokes_cut address next bytes block others cut e))
    (makes_first (Poke address block) (pokes next others) answer result old mid new accepted made)

-- its event is refused
pub block_refused : (address : ℕ) (bytes : List ℕ) (block : Block) (others : List ℕ) (refusal : Refusal) (old : State)
    → IsCut bytes block others → apply old (Poke address block) ≡ Err refusal → MakesEach (pokes address bytes) (Err refusal) old old
block_refused address bytes block others refusal old cut refused =
    subst (λ (events : List Event). MakesEach events (Err refusal) old old) (sym (pokes_cut address (address + POKE_LIMIT) bytes block others cut (λ _. refl)))
    (makes_none (Poke address block) (pokes (address + POKE_LIMIT) others) refusal old refused)

pub nothing_written : (address : ℕ) (bytes : List ℕ) (s : State) → length bytes ≡ 0 → MakesEach (pokes address bytes) (Ok tt) s s
nothing_written address bytes s none =
    subst (λ (events : List Event). MakesEach events (Ok tt) s s) (sym (ap (pokes address) (nil_from_length bytes none) ∙ pokes_nothing address)) (refl, refl)
