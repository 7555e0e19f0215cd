-- Boards that differ in what no row reads, and in numbers that rows only compare.
use Rattle.std.specs.Prelude.{◌≡◌, ℕ, ◌<◌, List, [], map, length, nat_lt}
use Rattle.evm_model.specs.Event.{Event}
use Rattle.evm_model.specs.Pipes.{Pipe}
use Rattle.evm_model.specs.Ranks.{stamp}
use Rattle.evm_model.specs.Rows.{row}
use Rattle.evm_model.specs.State.{Board, Parts}
use Rattle.evm_model.specs.declared.task.Task.{Task}

-- a task without its stamp
abbrev pub unstamped : Task → Task
unstamped task = record task { stamp = 0 }

-- a pipe without its counts
abbrev pub uncounted : Pipe → Pipe
uncounted pipe = record pipe { counts = [] }

-- parts without stamps, counts and the console's text
abbrev pub erased : Parts → Parts
erased p = record p { tasks = map unstamped p.tasks; pipes = map uncounted p.pipes; stamps = 0; console = [] }

-- of each two tasks the stamps compare alike
abbrev pub SameOrder : List Task → List Task → Type 0
SameOrder xs ys = (t u : ℕ) → t < length xs → u < length xs → nat_lt (stamp xs t) (stamp xs u) ≡ nat_lt (stamp ys t) (stamp ys u)

-- the stamp that is given next is above those that were given
abbrev pub StampsBelow : Parts → Type 0
StampsBelow p = (t : ℕ) → t < length p.tasks → stamp p.tasks t < p.stamps

-- parts that differ in counts, the console's text and stamps alone, and whose stamps compare alike
pub record Alike (p q : Parts) : Type 0 where
  pub same : erased p ≡ erased q
  pub order : SameOrder p.tasks q.tasks
  pub below : StampsBelow p
  pub other_below : StampsBelow q

-- boards with alike parts, and all else the same
pub record AlikeBoards (a b : Board) : Type 0 where
  pub memory : a.memory ≡ b.memory
  pub breakpoints : a.breakpoints ≡ b.breakpoints
  pub parts : Alike a.parts b.parts

-- an event leaves alike boards alike, and answers the same
abbrev pub RowsKeepAlike : Type 0
RowsKeepAlike = (e : Event) (a b : Board) → AlikeBoards a b → AlikeBoards (row e a).0 (row e b).0 × ((row e a).1 ≡ (row e b).1)
