use Rattle.std.proofs.Common.{◌≡◌, ◌+◌, ◌-◌, ℕ, List, Some, true, false, ◌∙◌, arith, length-set}
use Rattle.std.specs.Prelude.{slice_get}
use Rattle.evm_ready.specs.Queues.{precedes}
use Rattle.evm_ready.specs.declared.turn.Turn.{Turn}
use Rattle.evm_ready.proofs.Members.{has-insert, in_order-insert}
use Rattle.evm_ready.proofs.Shifts.{insert-shift, shift-before, behind-shift}
use Rattle.evm_ready.proofs.queue.Queue.insert_between.Invariants.{Comes}
use Rattle.evm_ready.proofs.queue.Queue.insert_between.Goals as goal
use Rattle.evm_ready.proofs.queue.Queue.insert_between.Goals.{then-loop-place-test+else-precedes, else-loop-place-test}

pub loop-place-preserved : goal.loop-place-preserved
loop-place-preserved c =
    let queue = c.args.self.now in
    let moved = c.loop-place.self in
    let place = c.loop-place.place in
    let u = c.get-behind.result in
    let was = c.loop-place.invariant in
    let there = shift-before moved queue place c.args.t u (omega arith) was.within c.get-behind.ensures was.shifted in
    let goes : precedes c.args.turns.now c.args.t u ≡ true = cc (c.get.ensures, c.get-behind.ensures, c.precedes.ensures, c.if-precedes.true) in
    rw c.put.ensures (record {
      within = omega (arith, was.within);
      longer = length-set moved place u ∙ was.longer;
      shifted = insert-shift moved queue place c.args.t u (omega arith) was.within c.get-behind.ensures was.shifted;
      behind = behind-shift c.args.turns.now queue c.args.t u place there goes was.behind;
    })

-- the loop ends at the head, or behind a task that isn't preceded
before-place : (turns : List Turn) (queue moved : List ℕ) (t place u : ℕ) → Comes turns queue moved t place → slice_get moved (place - 1) ≡ Some u → precedes turns t u ≡ false
    → (i v : ℕ) → i + 1 ≡ place → slice_get queue i ≡ Some v → precedes turns t v ≡ false
before-place turns queue moved t place u was at never i v is e =
    let there = shift-before moved queue place t u (omega arith) was.within at was.shifted in
    let here : i ≡ place - 1 = omega arith in
    let one : slice_get queue i ≡ Some u = rw here there in
    let same : v ≡ u = cc in
    rw same never

pub returns-clause-order : goal.returns-clause-order
returns-clause-order c =
    let queue = c.args.self.now in
    let place = c.loop-place.place in
    let was = c.loop-place.invariant in
    let before : (i v : ℕ) → i + 1 ≡ place → slice_get queue i ≡ Some v → precedes c.args.turns.now c.args.t v ≡ false = elim c.loop-place-test.branch [
      | then-loop-place-test+else-precedes w ↦
          before-place c.args.turns.now queue c.loop-place.self c.args.t place w.get.result was w.get.ensures (cc (w.precedes.ensures, w.if-precedes.false))
      | else-loop-place-test w ↦ λ i v is e. absurd (omega (arith, w.loop-place-test.false))
    ] in
    rw (c.put-2.ensures, was.shifted)
    (in_order-insert c.args.turns.now queue place c.args.t was.within c.requires.order c.requires.new was.behind before)

pub returns-clause-members : goal.returns-clause-members
returns-clause-members c =
    let was = c.loop-place.invariant in
    λ u. rw (c.put-2.ensures, was.shifted) (has-insert c.args.self.now c.loop-place.place c.args.t u was.within)
