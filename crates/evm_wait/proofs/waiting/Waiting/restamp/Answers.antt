use Rattle.std.proofs.Common.{◌≡◌, ◌∙◌, List, Option, Some, refl, sym, ap}
use Rattle.std.proofs.lemmas.List.{length-set}
use Rattle.std.specs.Prelude.{slice_get}
use Rattle.evm_ready.specs.Places.{entry}
use Rattle.evm_ready.proofs.Counts.{set-there}
use Rattle.evm_ready.proofs.Restamping.{entry-there, turns-stamp, unstamped}
use Rattle.evm_wait.specs.Waiters.{stamped_waiter, WaitingTasks}
use Rattle.evm_wait.specs.WaitTurns.{waiter_turn, wait_turns}
use Rattle.evm_wait.specs.declared.waiter.Waiter.{Waiter}
use Rattle.evm_wait.proofs.waiting.Waiting.restamp.Goals as goal

pub returns-in_default-clause-waiters : goal.returns-in_default-clause-waiters
returns-in_default-clause-waiters c = unstamped (stamped_waiter c.args.stamp) c.args.self.now.waiters c.args.t (sym c.in_default.ensures)

pub invariant_of-self : goal.invariant_of-self
invariant_of-self c =
    let waiters = c.self.inside.waiters.items in
    let waiter = c.in-Some.waiter in
    let says : entry waiters c.args.t ≡ Some waiter = ap (λ (v : WaitingTasks). entry v.waiters c.args.t) c.self.view_is ∙ sym c.in-Some.ensures in
    let there : slice_get waiters c.args.t ≡ Some (Some waiter) = entry-there waiters c.args.t waiter says in
    let stamped = Some (stamped_waiter c.args.stamp waiter) in
    record {
      ranked = rw (length-set waiters c.args.t stamped) c.self.invariant.ranked;
      turns = c.restamp.ensures.turns
          ∙ rw c.self.invariant.turns
          (turns-stamp waiter_turn (stamped_waiter c.args.stamp) c.args.stamp waiters c.self.inside.ranks.items c.args.t waiter c.self.invariant.ranked (λ y rank. refl) there)
          ∙ ap (λ (ws : List (Option Waiter)). wait_turns ws c.self.inside.ranks.items) (sym (set-there waiters c.args.t (Some waiter) stamped there));
      queues = c.restamp.ensures.count ∙ c.self.invariant.queues;
    }
