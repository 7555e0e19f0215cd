use Rattle.std.proofs.Common.{sym, subst, ◌∙◌}
use Rattle.std.specs.Prelude.{OnOk}
use Rattle.run_walk.proofs.Observing.{applied-within, both, still-seen, then}
use Rattle.run_marks.specs.Tallies.{IsWithinReach}
use Rattle.run_walk.specs.Walks.{IsMarkedAs}
use Rattle.run_walk.proofs.observer.Observer.tell.Goals as goal

pub returns-then-item-clause-ok : goal.returns-then-item-clause-ok
returns-then-item-clause-ok g c =
    λ was good is before leads.
    let runs = leads.quiet c.if-item.true in
    (still-seen c.args.self.now was.board c.args.machine.now.board runs is, subst (λ b. IsMarkedAs b was c.args.machine.now c.args.found.now.items) (sym c.if-item.true) (c.requires, runs))

pub returns-in-Some-clause-ok : goal.returns-in-Some-clause-ok
returns-in-Some-clause-ok g c =
    λ was good is before leads.
    let far = applied-within c.args.item.now.event c.args.waiting was c.args.machine.now good before (leads.applied c.if-item.false) in
    let reach = subst (λ r. IsWithinReach r was.board.parts c.args.machine.now.board.parts) (sym c.reach_of-reach.ensures ∙ c.in-Some.ensures.0) far in
    then _ _ c.follow_line.result (λ done. (done.0, subst (λ b. IsMarkedAs b was c.args.machine.now c.follow_line.new.found.items) (sym c.if-item.false) done.1)) (c.follow_line.ensures.ok was.board.parts is reach.leaves)

pub returns-clause-ok : goal.returns-clause-ok
returns-clause-ok g c =
    λ was good is before leads.
    let far : IsWithinReach c.reach_of-reach.result was.board.parts c.args.machine.now.board.parts =
    subst (λ r. IsWithinReach r was.board.parts c.args.machine.now.board.parts) (sym c.reach_of-reach.ensures)
    (applied-within c.args.item.now.event c.args.waiting was c.args.machine.now good before (leads.applied c.if-item.false)) in
    both _ _ c.follow.result (c.follow.ensures.seen was.board.parts is far)
    (subst (λ b. OnOk c.follow.result (IsMarkedAs b was c.args.machine.now c.follow.new.found.items)) (sym c.if-item.false) (c.follow.ensures.marks was.board.parts is far))
