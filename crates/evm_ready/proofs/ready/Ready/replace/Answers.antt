use Rattle.std.proofs.Common.{◌≡◌, ◌≤◌, List, Option, Some, refl, sym, ap, ◌∙◌, arith}
use Rattle.std.proofs.lemmas.List.{length-set}
use Rattle.std.proofs.lemmas.Option.{slice_get_read}
use Rattle.std.specs.Prelude.{slice_get}
use Rattle.evm_model.specs.Lists.{change}
use Rattle.evm_ready.specs.Places.{oob_bit, oob_count, ReadyTasks}
use Rattle.evm_ready.specs.declared.place.Place.{Place}
use Rattle.evm_ready.specs.ReadyTurns.{place_turn, ready_turns}
use Rattle.evm_ready.proofs.Listed_turns.{turns-entry}
use Rattle.evm_ready.proofs.Counts.{bit-least, count-has, count-least, count-set, set-there}
use Rattle.evm_ready.proofs.ready.Ready.replace.Goals as goal

pub overflow_sub-self : goal.overflow_sub-self
overflow_sub-self c =
    let there = slice_get_read _ _ c.args.t _ refl c.in-Some.ensures.item.3.0 c.in-Some.ensures.item.1 in
    rw (c.oob_bit.ensures, c.self.invariant.counted.oob) (count-has _ _ _ there)

pub overflow_add-self : goal.overflow_add-self
overflow_add-self c =
    omega (arith, c.oob_bit-in-Some.ensures, c.self.invariant.counted.oob, c.self.invariant.counted.room, count-least c.self.inside.places.items, bit-least c.args.place)

pub invariant_of-self : goal.invariant_of-self
invariant_of-self c =
    let there : slice_get c.self.inside.places.items c.args.t ≡ Some c.in-Some.entry.now =
    slice_get_read _ _ c.args.t _ refl c.in-Some.ensures.item.3.0 c.in-Some.ensures.item.1 in
    let has : oob_bit c.in-Some.entry.now ≤ oob_count c.self.inside.places.items = count-has _ _ _ there in
    let set = count-set c.self.inside.places.items c.args.t c.in-Some.entry.now c.args.place there in
    record {
      counted = record {
        oob = omega (arith, c.oob_bit.ensures, c.oob_bit-in-Some.ensures, c.self.invariant.counted.oob, has, set);
        room = rw (length-set c.self.inside.places.items c.args.t c.args.place) c.self.invariant.counted.room;
      };
      ranked = rw (length-set c.self.inside.places.items c.args.t c.args.place) c.self.invariant.ranked;
      turns = c.set.ensures.turns
          ∙ rw (c.turn_of.ensures, c.rank-rank.ensures, ← c.self.view_is, c.self.invariant.turns)
          (turns-entry place_turn c.self.inside.places.items c.self.inside.ranks.items c.args.t c.args.place c.self.invariant.ranked)
          ∙ ap (λ (places : List (Option Place)). ready_turns places c.self.inside.ranks.items)
          (sym (set-there c.self.inside.places.items c.args.t c.in-Some.entry.now c.args.place there));
      queues = c.set.ensures.count ∙ c.self.invariant.queues;
      limit = c.self.invariant.limit;
    }

pub returns-in-Some-clause-places : goal.returns-in-Some-clause-places
returns-in-Some-clause-places c =
    let there = slice_get_read _ _ c.args.t _ refl c.in-Some.ensures.item.3.0 c.in-Some.ensures.item.1 in
    set-there _ _ _ _ there ∙ ap (λ (v : ReadyTasks). change (λ _. c.args.place) v.places c.args.t) c.self.view_is
