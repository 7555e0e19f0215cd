use Rattle.std.proofs.Common.{◌≡◌, ◌<◌, ◌∙◌, ℕ, List, Option, Some, None, length, refl}
use Rattle.std.specs.Prelude.{slice_get, option_and_then}
use Rattle.evm_model.proofs.Lists.{slice_get-within}
use Rattle.evm_model.specs.Ranks.{first}
use Rattle.evm_ready.specs.declared.turn.Turn.{Turn}
use Rattle.evm_ready.specs.Queues.{is_in, turn_rank, turn_stamp, AreQueued}
use Rattle.evm_ready.proofs.Leads.{head-first}
use Rattle.evm_ready.proofs.turns.Turns.head.Goals as goal

head-at : (turns : List Turn) (queues : List (List ℕ)) (q : ℕ) (o : Option (List ℕ)) → AreQueued turns queues → q < length queues → slice_get queues q ≡ o
    → option_and_then (λ queue. slice_get queue 0) o ≡ first (is_in turns q) (turn_rank turns) (turn_stamp turns) (length turns)
head-at turns queues q None are less e = let there = slice_get-within queues q less in let at = there.1 in cc
head-at turns queues q (Some queue) are less e = head-first turns q queue (are.queued q queue e)

pub returns : goal.returns
returns c =
    let less : c.args.q < length c.self.inside.queues = rw (← c.self.view_is) at c.requires in
    c.head.ensures ∙ rw (← c.self.view_is) (head-at c.self.inside.turns.items c.self.inside.queues c.args.q (slice_get c.self.inside.queues c.args.q) c.self.invariant less refl)
