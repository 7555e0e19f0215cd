-- A change of the parts of boards where tasks are ahead.
use Rattle.std.proofs.Common.{◌≡◌, Bool, true, false}
use Rattle.std.specs.Prelude.{if◌then◌else◌}
use Rattle.evm_model.specs.State.{Board, Parts, on_parts}
use Rattle.evm_model.specs.declared.event.Answer.{Answer}
use Rattle.law_runs.specs.Ahead.{HeadStart, Ahead, BoardsAhead}

pub boards_by : {lead : HeadStart} {a b : Board} → BoardsAhead lead a b → (f : Parts → Parts) → Ahead lead (f a.parts) (f b.parts) → BoardsAhead lead (on_parts f a) (on_parts f b)
boards_by s f e = record { memory = s.memory; breakpoints = s.breakpoints; parts = e }

-- such boards, with the same answer
abbrev pub AnsweredAhead : HeadStart → Board × Answer → Board × Answer → Type 0
AnsweredAhead lead x y = BoardsAhead lead x.0 y.0 × (x.1 ≡ y.1)

pub answered_if : {lead : HeadStart} {b c : Bool} {p q x y : Board × Answer} → b ≡ c → AnsweredAhead lead p q → AnsweredAhead lead x y → AnsweredAhead lead (if b then p else x) (if c then q else y)
answered_if {lead = lead} {b = b} {c = c} {p = p} {q = q} {x = x} {y = y} e s d =
    rw e (elim c as (λ c. AnsweredAhead lead (if c then p else x) (if c then q else y)) [ true ↦ s | false ↦ d ])
