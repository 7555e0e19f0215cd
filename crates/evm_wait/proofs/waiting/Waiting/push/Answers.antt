use Rattle.std.proofs.Common.{◌<◌, ◌∙◌, ◌∷◌, [], length, sym, ap, arith, length-append}
use Rattle.evm_model.specs.declared.limits.TheConstants.{TASK_LIMIT}
use Rattle.evm_ready.proofs.Listed_turns.{length-turns, turns-push}
use Rattle.evm_wait.specs.WaitTurns.{waiter_turn}
use Rattle.evm_wait.proofs.waiting.Waiting.push.Goals as goal

pub push-requires-3 : goal.push-requires-3
push-requires-3 c =
    let less : length c.self.inside.waiters.items < TASK_LIMIT = rw (← c.self.view_is) at c.requires in
    rw (c.self.invariant.turns, length-turns waiter_turn c.self.inside.waiters.items c.self.inside.ranks.items c.self.invariant.ranked) less

pub invariant_of-self : goal.invariant_of-self
invariant_of-self c =
    let waiters = ap length c.push.ensures.items ∙ length-append c.self.inside.waiters.items (c.args.waiter ∷ []) in
    let ranks = ap length c.push-2.ensures.items ∙ length-append c.self.inside.ranks.items (c.args.rank ∷ []) in
    record {
      ranked = omega (arith, waiters, ranks, c.self.invariant.ranked);
      turns = c.push-3.ensures.turns
          ∙ rw (c.turn_of.ensures, c.self.invariant.turns, c.push.ensures.items, c.push-2.ensures.items)
          (sym (turns-push waiter_turn c.self.inside.waiters.items c.self.inside.ranks.items c.args.waiter c.args.rank c.self.invariant.ranked));
      queues = c.push-3.ensures.count ∙ c.self.invariant.queues;
    }
