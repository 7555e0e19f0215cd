use Rattle.std.proofs.Common.{◌≡◌, ◌+◌, ◌∙◌, ℕ, List, Option, Some, refl, sym, ap, arith}
use Rattle.std.proofs.lemmas.List.{length-set}
use Rattle.std.specs.Prelude.{slice_get, slice_set}
use Rattle.evm_model.specs.declared.stage.Stage.{Stage}
use Rattle.evm_model.specs.declared.stage.Stage.TheVariants.{OutOfBand, InBand}
use Rattle.evm_ready.specs.Places.{entry, oob_bit, oob_count, stamped_place, ReadyTasks}
use Rattle.evm_ready.specs.Queues.{restamped}
use Rattle.evm_ready.specs.declared.place.Place.{Place}
use Rattle.evm_ready.specs.ReadyTurns.{place_turn, turn_at, ready_turns}
use Rattle.evm_ready.proofs.Counts.{count-set, set-there}
use Rattle.evm_ready.proofs.Restamping.{entry-there, turns-stamp, unstamped}
use Rattle.evm_ready.proofs.ready.Ready.restamp.Goals as goal

turn-stamped : (stage : Stage) (cpu old stamp rank : ℕ) → turn_at stage cpu stamp rank ≡ restamped stamp (turn_at stage cpu old rank)
turn-stamped OutOfBand cpu old stamp rank = refl
turn-stamped InBand cpu old stamp rank = refl

pub returns-in_default-clause-places : goal.returns-in_default-clause-places
returns-in_default-clause-places c = unstamped (stamped_place c.args.stamp) c.args.self.now.places c.args.t (sym c.in_default.ensures)

pub invariant_of-self : goal.invariant_of-self
invariant_of-self c =
    let places = c.self.inside.places.items in
    let place = c.in-Some.place in
    let says : entry places c.args.t ≡ Some place = ap (λ (v : ReadyTasks). entry v.places c.args.t) c.self.view_is ∙ sym c.in-Some.ensures in
    let there : slice_get places c.args.t ≡ Some (Some place) = entry-there places c.args.t place says in
    let stamped = Some (stamped_place c.args.stamp place) in
    let set : oob_count (slice_set places c.args.t stamped) + oob_bit (Some place) ≡ oob_count places + oob_bit (Some place) =
    count-set places c.args.t (Some place) stamped there in
    record {
      counted = record {
        oob = omega (arith, c.self.invariant.counted.oob, set);
        room = rw (length-set places c.args.t stamped) c.self.invariant.counted.room;
      };
      ranked = rw (length-set places c.args.t stamped) c.self.invariant.ranked;
      turns = c.restamp.ensures.turns
          ∙ rw c.self.invariant.turns
          (turns-stamp place_turn (stamped_place c.args.stamp) c.args.stamp places c.self.inside.ranks.items c.args.t place c.self.invariant.ranked
          (λ y rank. turn-stamped y.stage y.cpu y.stamp c.args.stamp rank) there)
          ∙ ap (λ (ps : List (Option Place)). ready_turns ps c.self.inside.ranks.items) (sym (set-there places c.args.t (Some place) stamped there));
      queues = c.restamp.ensures.count ∙ c.self.invariant.queues;
      limit = c.self.invariant.limit;
    }
