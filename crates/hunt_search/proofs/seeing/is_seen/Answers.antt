use Rattle.std.proofs.Common.{◌≡◌, ◌++◌, Some, rules, true, length, refl, sym, ap, subst, ◌∙◌}
use Rattle.std.specs.Prelude.{replicate, slice_get}
use Rattle.evm_model.specs.State.{State}
use Rattle.hunt_schedules.specs.Walks.{IsReached}
use Rattle.hunt_search.proofs.Branching.{one-first, same-kinds}
use Rattle.hunt_search.proofs.seeing.is_seen.Goals as goal

pub returns : goal.returns
returns c same first begins =
    let one = one-first c.args.trial.now.target.image.now c.args.trial.now.target.boot.now c.in-Ok.machine first c.in-Ok.ensures.begins begins in
    let gone : c.goes.result ≡ true = search rules in
    let reached = subst (λ (s : State). IsReached s c.in-Some.other c.args.mark.steps c.goes.new.machine) one (c.goes.ensures gone) in
    let kinds = same-kinds c.device_kinds_never_change.ensures first c.goes.new.machine c.args.position.now.machine.now c.in-Some.other c.args.trial.now.branch.now c.args.mark.steps c.args.position.now.steps reached (c.requires first begins) in
    let passed' : c.has_passed.result ≡ true = search rules in
    let passed = c.has_passed.ensures passed' in
    let fewer : c.has_no_more.result ≡ true = search rules in
    let there : slice_get c.args.queue.now.branches.items c.args.mark.place ≡ Some c.in-Some.other = sym c.in-Some.ensures in (
      c.goes.new.machine,
      length c.in-Some.other.turns.items,
      record { place = c.args.mark.place; branch = c.in-Some.other; steps = c.args.mark.steps; count = passed.0; there = there; far = passed.1; before = passed.2; reached = reached; cpu = c.has_no_more.ensures.cpu fewer; made = refl },
      c.has_no_more.ensures.switches fewer,
      c.covers.ensures same kinds,
    )
