use Rattle.std.proofs.Common.{◌≡◌, List, Option, Some, None, refl, sym, ap, ◌∙◌}
use Rattle.std.proofs.lemmas.List.{length-set}
use Rattle.std.proofs.lemmas.Option.{slice_get_read}
use Rattle.std.specs.Prelude.{slice_get}
use Rattle.evm_model.specs.Lists.{change}
use Rattle.evm_ready.specs.Places.{entry}
use Rattle.evm_ready.proofs.Counts.{set-there}
use Rattle.evm_ready.proofs.Listed_turns.{turn-away, turns-entry}
use Rattle.evm_wait.specs.declared.waiter.Waiter.{Waiter}
use Rattle.evm_wait.specs.Waiters.{WaitingTasks}
use Rattle.evm_wait.specs.WaitTurns.{wait_turns, waiter_turn}
use Rattle.evm_wait.proofs.waiting.Waiting.enter.Goals as goal

pub enter-requires : goal.enter-requires
enter-requires c =
    let away : entry c.self.inside.waiters.items c.args.t ≡ None = ap (λ (v : WaitingTasks). entry v.waiters c.args.t) c.self.view_is ∙ c.requires in
    rw c.self.invariant.turns (turn-away waiter_turn c.self.inside.waiters.items c.self.inside.ranks.items c.args.t away)

pub invariant_of-self : goal.invariant_of-self
invariant_of-self c =
    let there : slice_get c.self.inside.waiters.items c.args.t ≡ Some c.in-Some.entry.now =
    slice_get_read _ _ c.args.t _ refl c.in-Some.ensures.item.3.0 c.in-Some.ensures.item.1 in
    record {
      ranked = c.self.invariant.ranked ∙ sym (length-set c.self.inside.waiters.items c.args.t (Some c.args.waiter));
      turns = c.enter.ensures.turns
          ∙ rw (c.turn_of.ensures, c.rank-rank.ensures, ← c.self.view_is, c.self.invariant.turns)
          (turns-entry waiter_turn c.self.inside.waiters.items c.self.inside.ranks.items c.args.t (Some c.args.waiter) c.self.invariant.ranked)
          ∙ ap (λ (waiters : List (Option Waiter)). wait_turns waiters c.self.inside.ranks.items)
          (sym (set-there c.self.inside.waiters.items c.args.t c.in-Some.entry.now (Some c.args.waiter) there));
      queues = c.enter.ensures.count ∙ c.self.invariant.queues;
    }

pub returns-in-Some-clause-waiters : goal.returns-in-Some-clause-waiters
returns-in-Some-clause-waiters c =
    let there = slice_get_read _ _ c.args.t _ refl c.in-Some.ensures.item.3.0 c.in-Some.ensures.item.1 in
    set-there _ _ _ _ there ∙ ap (λ (v : WaitingTasks). change (λ _. Some c.args.waiter) v.waiters c.args.t) c.self.view_is
