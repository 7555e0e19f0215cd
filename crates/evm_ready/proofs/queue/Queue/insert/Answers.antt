use Rattle.std.proofs.Common.{◌≡◌, ◌+◌, ℕ, Some, false, length, refl, arith}
use Rattle.std.specs.Prelude.{slice_get}
use Rattle.std.proofs.lemmas.List.Edits.{insert_end}
use Rattle.evm_model.proofs.Lists.{slice_get-below}
use Rattle.evm_ready.specs.Queues.{precedes}
use Rattle.evm_ready.proofs.Members.{has-insert, in_order-insert}
use Rattle.evm_ready.proofs.Shifts.{leads-all}
use Rattle.evm_ready.proofs.queue.Queue.insert.Goals as goal

pub returns-then-is_behind-clause-order : goal.returns-then-is_behind-clause-order
returns-then-is_behind-clause-order c =
    let queue = c.args.self.now in
    let last : (i u : ℕ) → i + 1 ≡ length queue → slice_get queue i ≡ Some u → precedes c.args.turns.now c.args.t u ≡ false =
    c.if-is_behind.ensures refl in
    rw (c.push.ensures, ← insert_end queue c.args.t)
    (in_order-insert c.args.turns.now queue (length queue) c.args.t (omega arith) c.requires.order c.requires.new
    (λ i u h e. let below = slice_get-below queue i u e in absurd (omega arith)) last)

pub returns-then-is_behind-clause-members : goal.returns-then-is_behind-clause-members
returns-then-is_behind-clause-members c =
    let queue = c.args.self.now in
    λ u. rw (c.push.ensures, ← insert_end queue c.args.t) (has-insert queue (length queue) c.args.t u (omega arith))

pub returns-then-leads-clause-order : goal.returns-then-leads-clause-order
returns-then-leads-clause-order c =
    let queue = c.args.self.now in
    rw c.push_head.ensures
    (in_order-insert c.args.turns.now queue 0 c.args.t (omega arith) c.requires.order c.requires.new
    (λ i u _ is. leads-all c.args.turns.now queue c.args.t c.requires.order (c.if-leads.ensures refl) i u is) (λ i u e. absurd (omega arith)))

pub returns-then-leads-clause-members : goal.returns-then-leads-clause-members
returns-then-leads-clause-members c = λ u. rw c.push_head.ensures refl
