-- Boards where nothing follows a private row.
use Rattle.std.specs.Prelude.{◌≡◌, ℕ, Some}
use Rattle.evm_model.specs.Good.{Good}
use Rattle.evm_model.specs.State.{Board}
use Rattle.law_runs.specs.Ahead.{SettlesNothing, actor}

-- where the rules hold nothing follows a change of harts
abbrev pub GoodBoardsRest : Type 0
GoodBoardsRest = (c t : ℕ) (b : Board) → Good b.parts → actor c b ≡ Some t → SettlesNothing c t b.parts
