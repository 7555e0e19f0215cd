use Rattle.std.proofs.Common.{◌<◌, ◌∙◌, ◌∷◌, [], length, refl, sym, ap, arith, length-append}
use Rattle.evm_model.specs.declared.limits.TheConstants.{TASK_LIMIT}
use Rattle.evm_ready.proofs.Counts.{count-push}
use Rattle.evm_ready.specs.ReadyTurns.{place_turn}
use Rattle.evm_ready.proofs.Listed_turns.{length-turns, turns-push}
use Rattle.evm_ready.proofs.ready.Ready.push.Goals as goal

pub push-requires-3 : goal.push-requires-3
push-requires-3 c =
    let less : length c.self.inside.places.items < TASK_LIMIT = rw (← c.self.view_is) at c.requires in
    rw (c.self.invariant.turns, length-turns place_turn c.self.inside.places.items c.self.inside.ranks.items c.self.invariant.ranked) less

pub invariant_of-self : goal.invariant_of-self
invariant_of-self c =
    let less : length c.self.inside.places.items < TASK_LIMIT = rw (← c.self.view_is) at c.requires in
    let places = ap length c.push.ensures.items ∙ length-append c.self.inside.places.items (c.args.place ∷ []) in
    let ranks = ap length c.push-2.ensures.items ∙ length-append c.self.inside.ranks.items (c.args.rank ∷ []) in
    record {
      counted = record {
        oob = rw (c.push.ensures.items, count-push c.self.inside.places.items c.args.place, c.oob_bit.ensures, c.self.invariant.counted.oob) refl;
        room = omega (arith, places, less);
      };
      ranked = omega (arith, places, ranks, c.self.invariant.ranked);
      turns = c.push-3.ensures.turns
          ∙ rw (c.turn_of.ensures, c.self.invariant.turns, c.push.ensures.items, c.push-2.ensures.items)
          (sym (turns-push place_turn c.self.inside.places.items c.self.inside.ranks.items c.args.place c.args.rank c.self.invariant.ranked));
      queues = c.push-3.ensures.count ∙ c.self.invariant.queues;
      limit = c.self.invariant.limit;
    }
