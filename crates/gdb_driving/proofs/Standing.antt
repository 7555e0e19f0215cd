-- Which processors are stopped behind a stop or a go.
use Rattle.std.proofs.Common.{◌≡◌, ℕ, ◌+◌, ◌<◌, Bool, true, false, List, Option, Some, None, inl, inr, length, refl, sym, ap, subst, ◌∙◌, arith, ⊎_elim, below_more}
use Rattle.std.specs.Prelude.{◌≢◌, option_map, slice_get}
use Rattle.evm_model.specs.Commands.{set_bits}
use Rattle.evm_model.specs.Instructions.{stop}
use Rattle.evm_model.specs.Lists.{change}
use Rattle.evm_model.specs.Rows.{row}
use Rattle.evm_model.specs.State.{State}
use Rattle.evm_model.specs.declared.event.Answer.{Answer}
use Rattle.evm_model.specs.declared.event.Event.TheVariants.{Go, Stop}
use Rattle.evm_model.specs.declared.processor.Processor.{Processor}
use Rattle.evm_model.proofs.Lists.{change-here, change-elsewhere, length-change, slice_get-within}
use Rattle.law_rules.proofs.Replays.{accepted}
use Rattle.gdb_driving.specs.Driving.{ChangesBy, GoesBy, IsStopped, stop_bit}

-- ---- one processor of a list is changed

abbrev stopped_in : List Processor → ℕ → Option Bool
stopped_in xs c = option_map (λ (p : Processor). p.stopped) (slice_get xs c)

here : (b : Bool) (f : Processor → Processor) (xs : List Processor) (c : ℕ) → ((p : Processor) → (f p).stopped ≡ b) → c < length xs → stopped_in (change f xs c) c ≡ Some b
here b f xs c is below =
    let found = slice_get-within xs c below in
    let changed : slice_get (change f xs c) c ≡ Some (f found.0) = change-here f xs c ∙ ap (option_map f) found.1 in
    ap (option_map (λ (p : Processor). p.stopped)) changed ∙ ap Some (is found.0)

elsewhere : (f : Processor → Processor) (xs : List Processor) (c k : ℕ) → k < c → stopped_in (change f xs c) k ≡ stopped_in xs k
elsewhere f xs c k below = ap (option_map (λ (p : Processor). p.stopped)) (change-elsewhere f xs c k (λ e. absurd (omega arith)))

-- all below the next, where the changed one is so
abbrev AreSo : Bool → ℕ → ℕ → State → Type 0
AreSo b n count s = ((k : ℕ) → k < n → stop_bit k s ≡ Some b) × (length s.board.parts.processors ≡ count)

changed : (b : Bool) (f : Processor → Processor) (c : ℕ) (s t : State) → ((p : Processor) → (f p).stopped ≡ b) → c < length s.board.parts.processors
    → t.board.parts.processors ≡ change f s.board.parts.processors c → ((k : ℕ) → k < c → stop_bit k s ≡ Some b) → AreSo b (c + 1) (length s.board.parts.processors) t
changed b f c s t is below e before =
    let xs = s.board.parts.processors in (
      below_more (λ k. stop_bit k t ≡ Some b) c
          (λ k less. ap (λ (ys : List Processor). stopped_in ys k) e ∙ elsewhere f xs c k less ∙ before k less)
          (ap (λ (ys : List Processor). stopped_in ys c) e ∙ here b f xs c is below),
      ap (λ (ys : List Processor). length ys) e ∙ length-change f xs c,
    )

same : (b : Bool) (c : ℕ) (s t : State) → t ≡ s → stop_bit c s ≡ Some b → ((k : ℕ) → k < c → stop_bit k s ≡ Some b) → AreSo b (c + 1) (length s.board.parts.processors) t
same b c s t e is before =
    subst (λ (x : State). AreSo b (c + 1) (length s.board.parts.processors) x) (sym e) (below_more (λ k. stop_bit k s ≡ Some b) c before is, refl)

-- ---- by its event

stop_processors : (c : ℕ) (s t : State) → ChangesBy (Stop c) s t → t.board.parts.processors ≡ change (λ (p : Processor). record p { stopped = true }) s.board.parts.processors c
unfolding row stop
stop_processors c s t h = ap (λ (x : State × Answer). x.0.board.parts.processors) (accepted s t (Stop c) h.0 h.1).1

go_processors : (c : ℕ) (s t : State) → ChangesBy (Go c) s t → t.board.parts.processors ≡ change (λ (p : Processor). record p { stopped = false; skip = true }) s.board.parts.processors c
unfolding row set_bits
go_processors c s t h = ap (λ (x : State × Answer). x.0.board.parts.processors) (accepted s t (Go c) h.0 h.1).1

pub stopped_next : (c : ℕ) (s t : State) → c < length s.board.parts.processors → IsStopped c s t → ((k : ℕ) → k < c → stop_bit k s ≡ Some true) → AreSo true (c + 1) (length s.board.parts.processors) t
stopped_next c s t below h before =
    ⊎_elim
    (λ (was : (stop_bit c s ≡ Some true) × (t ≡ s)). same true c s t was.1 was.0 before)
    (λ (event : ChangesBy (Stop c) s t). changed true (λ (p : Processor). record p { stopped = true }) c s t (λ p. refl) below (stop_processors c s t event) before)
    h

is_false : (c : ℕ) (s : State) (b : Bool) → stop_bit c s ≡ Some b → (stop_bit c s ≡ Some true → ⊥) → stop_bit c s ≡ Some false
is_false c s true is not = absurd (not is)
is_false c s false is not = is

-- where it isn't stopped, it goes
goes : (c : ℕ) (s : State) → c < length s.board.parts.processors → (stop_bit c s ≡ Some true → ⊥) → stop_bit c s ≡ Some false
goes c s below not =
    let found = slice_get-within s.board.parts.processors c below in
    let is : stop_bit c s ≡ Some (found.0).stopped = ap (option_map (λ (p : Processor). p.stopped)) found.1 in
    is_false c s (found.0).stopped is not

pub goes_next : (c : ℕ) (s t : State) → c < length s.board.parts.processors → GoesBy c s t → ((k : ℕ) → k < c → stop_bit k s ≡ Some false) → AreSo false (c + 1) (length s.board.parts.processors) t
goes_next c s t below h before =
    ⊎_elim
    (λ (was : (stop_bit c s ≡ Some true → ⊥) × (t ≡ s)). same false c s t was.1 (goes c s below was.0) before)
    (λ (event : ChangesBy (Go c) s t). changed false (λ (p : Processor). record p { stopped = false; skip = true }) c s t (λ p. refl) below (go_processors c s t event) before)
    h
