use Rattle.std.proofs.Common.{◌≡◌, ℕ, List, take}
use Rattle.evm_ready.specs.declared.turn.Turn.{Turn}
use Rattle.evm_ready.specs.Queues.{Queued}
use Rattle.evm_ready.proofs.turns.Turns.fill.Given as goal

-- the turns of the first tasks, in as many queues
pub record AreFirst (first kept : ℕ) (others : List Turn) (here : Queued) : Type 0 where
  pub turns : here.turns ≡ take first others
  pub count : here.count ≡ kept

abbrev pub invariant-loop-turn : goal.invariant-loop-turn
invariant-loop-turn l = AreFirst l.turn-index l.initial.self.count l.turns l.self
