use Rattle.std.proofs.Common.{◌≡◌, ℕ, List, Some, refl, sym, ap, ◌∙◌}
use Rattle.std.proofs.lemmas.List.{length-set}
use Rattle.std.proofs.lemmas.Option.{slice_get_read}
use Rattle.std.specs.Prelude.{slice_get}
use Rattle.evm_model.specs.Lists.{change}
use Rattle.evm_wait.specs.Waiters.{WaitingTasks}
use Rattle.evm_wait.specs.WaitTurns.{waiter_turn, wait_turns}
use Rattle.evm_ready.proofs.Counts.{set-there}
use Rattle.evm_ready.proofs.Listed_turns.{turns-rank}
use Rattle.evm_wait.proofs.waiting.Waiting.set_rank.Goals as goal

pub invariant_of-self : goal.invariant_of-self
invariant_of-self c =
    let there : slice_get c.self.inside.ranks.items c.args.t ≡ Some c.in-Some.entry.now =
    slice_get_read _ _ c.args.t _ refl c.in-Some.ensures.item.3.0 c.in-Some.ensures.item.1 in
    record {
      ranked = length-set c.self.inside.ranks.items c.args.t c.args.rank ∙ c.self.invariant.ranked;
      turns = c.set.ensures.turns
          ∙ rw (c.turn_of.ensures, c.get-waiter.ensures, ← c.self.view_is, c.self.invariant.turns)
          (turns-rank waiter_turn c.self.inside.waiters.items c.self.inside.ranks.items c.args.t c.args.rank c.self.invariant.ranked)
          ∙ ap (λ (ranks : List ℕ). wait_turns c.self.inside.waiters.items ranks)
          (sym (set-there c.self.inside.ranks.items c.args.t c.in-Some.entry.now c.args.rank there));
      queues = c.set.ensures.count ∙ c.self.invariant.queues;
    }

pub returns-in-Some-clause-ranks : goal.returns-in-Some-clause-ranks
returns-in-Some-clause-ranks c =
    let there = slice_get_read _ _ c.args.t _ refl c.in-Some.ensures.item.3.0 c.in-Some.ensures.item.1 in
    set-there _ _ _ _ there ∙ ap (λ (v : WaitingTasks). change (λ _. c.args.rank) v.ranks c.args.t) c.self.view_is
