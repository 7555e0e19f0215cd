-- A change of the parts of alike boards.
use Rattle.std.proofs.Common.{◌≡◌, Bool, true, false}
use Rattle.std.specs.Prelude.{if◌then◌else◌}
use Rattle.evm_model.specs.State.{Board, Parts, on_parts}
use Rattle.evm_model.specs.declared.event.Answer.{Answer}
use Rattle.law_runs.specs.Alike.{Alike, AlikeBoards}

pub boards_by : {a b : Board} → AlikeBoards a b → (f : Parts → Parts) → Alike (f a.parts) (f b.parts) → AlikeBoards (on_parts f a) (on_parts f b)
boards_by s f e = record { memory = s.memory; breakpoints = s.breakpoints; parts = e }

-- alike boards, with the same answer
abbrev pub AlikeAnswered : Board × Answer → Board × Answer → Type 0
AlikeAnswered x y = AlikeBoards x.0 y.0 × (x.1 ≡ y.1)

pub answered_if : {b c : Bool} {p q x y : Board × Answer} → b ≡ c → AlikeAnswered p q → AlikeAnswered x y → AlikeAnswered (if b then p else x) (if c then q else y)
answered_if {b = b} {c = c} {p = p} {q = q} {x = x} {y = y} e s d = rw e (elim c as (λ c. AlikeAnswered (if c then p else x) (if c then q else y)) [ true ↦ s | false ↦ d ])
