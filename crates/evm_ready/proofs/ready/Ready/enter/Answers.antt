use Rattle.std.proofs.Common.{◌≡◌, List, Option, Some, None, refl, sym, ap, ◌∙◌, arith}
use Rattle.std.proofs.lemmas.List.{length-set}
use Rattle.std.proofs.lemmas.Option.{slice_get_read}
use Rattle.std.specs.Prelude.{slice_get}
use Rattle.evm_model.specs.Lists.{change}
use Rattle.evm_ready.specs.Places.{entry, oob_bit, ReadyTasks}
use Rattle.evm_ready.specs.declared.place.Place.{Place}
use Rattle.evm_ready.specs.ReadyTurns.{place_turn, ready_turns}
use Rattle.evm_ready.proofs.Listed_turns.{turn-away, turns-entry}
use Rattle.evm_ready.proofs.Counts.{bit-least, count-least, count-set, set-there}
use Rattle.evm_ready.proofs.ready.Ready.enter.Goals as goal

pub overflow_add-self : goal.overflow_add-self
overflow_add-self c =
    omega (arith, c.oob_bit.ensures, c.self.invariant.counted.oob, c.self.invariant.counted.room, count-least c.self.inside.places.items, bit-least (Some c.args.place))

pub enter-requires : goal.enter-requires
enter-requires c =
    let away : entry c.self.inside.places.items c.args.t ≡ None = ap (λ (v : ReadyTasks). entry v.places c.args.t) c.self.view_is ∙ c.requires in
    rw c.self.invariant.turns (turn-away place_turn c.self.inside.places.items c.self.inside.ranks.items c.args.t away)

pub invariant_of-self : goal.invariant_of-self
invariant_of-self c =
    let there : slice_get c.self.inside.places.items c.args.t ≡ Some c.in-Some.entry.now =
    slice_get_read _ _ c.args.t _ refl c.in-Some.ensures.item.3.0 c.in-Some.ensures.item.1 in
    let away : entry c.self.inside.places.items c.args.t ≡ None = ap (λ (v : ReadyTasks). entry v.places c.args.t) c.self.view_is ∙ c.requires in
    let none : c.in-Some.entry.now ≡ None = cc in
    let bare : oob_bit c.in-Some.entry.now ≡ 0 = ap oob_bit none in
    let set = count-set c.self.inside.places.items c.args.t c.in-Some.entry.now (Some c.args.place) there in
    record {
      counted = record {
        oob = omega (arith, c.oob_bit.ensures, c.self.invariant.counted.oob, bare, set);
        room = rw (length-set c.self.inside.places.items c.args.t (Some c.args.place)) c.self.invariant.counted.room;
      };
      ranked = rw (length-set c.self.inside.places.items c.args.t (Some c.args.place)) c.self.invariant.ranked;
      turns = c.enter.ensures.turns
          ∙ rw (c.turn_of.ensures, c.rank-rank.ensures, ← c.self.view_is, c.self.invariant.turns)
          (turns-entry place_turn c.self.inside.places.items c.self.inside.ranks.items c.args.t (Some c.args.place) c.self.invariant.ranked)
          ∙ ap (λ (places : List (Option Place)). ready_turns places c.self.inside.ranks.items)
          (sym (set-there c.self.inside.places.items c.args.t c.in-Some.entry.now (Some c.args.place) there));
      queues = c.enter.ensures.count ∙ c.self.invariant.queues;
      limit = c.self.invariant.limit;
    }

pub returns-in-Some-clause-places : goal.returns-in-Some-clause-places
returns-in-Some-clause-places c =
    let there = slice_get_read _ _ c.args.t _ refl c.in-Some.ensures.item.3.0 c.in-Some.ensures.item.1 in
    set-there _ _ _ _ there ∙ ap (λ (v : ReadyTasks). change (λ _. Some c.args.place) v.places c.args.t) c.self.view_is
