use Rattle.std.proofs.Common.{◌≡◌, ◌<◌, ℕ, List, length}
use Rattle.std.specs.Prelude.{slice_get}
use Rattle.evm_ready.specs.declared.turn.Turn.{Turn}
use Rattle.evm_ready.specs.Queues.{Queued}
use Rattle.evm_ready.proofs.turns.Turns.copy_from.Given as goal

-- the first tasks have these turns, and there are as many, in as many queues
pub record Follow (first kept : ℕ) (others : List Turn) (here : Queued) : Type 0 where
  pub tasks : length here.turns ≡ length others
  pub turns : (i : ℕ) → i < first → slice_get here.turns i ≡ slice_get others i
  pub count : here.count ≡ kept

abbrev pub invariant-loop-t : goal.invariant-loop-t
invariant-loop-t l = Follow l.t l.initial.self.count l.turns l.self
