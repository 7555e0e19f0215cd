use Rattle.std.proofs.Common.{◌≡◌, List, Some, refl, sym, subst}
use Rattle.std.specs.Prelude.{slice_get}
use Rattle.evm_model.specs.State.{State}
use Rattle.hunt_schedules.specs.declared.branch.CpuTurn.{CpuTurn}
use Rattle.hunt_space.specs.Space.{IsAt}
use Rattle.hunt_space.specs.declared.path.Path.{Path}
use Rattle.hunt_space.proofs.Progress.{item-there}
use Rattle.hunt_space.proofs.Reaching.{one-boot, same-kinds}
use Rattle.hunt_space.proofs.seeing.covers.Goals as goal

pub returns-clause-alike : goal.returns-clause-alike
returns-clause-alike c same first begins =
    let going = c.args.going.now in
    let seen = c.deref-2.result.now in
    let path = c.in-Some.path.now in
    let one = one-boot going.target.image.now going.target.boot.now going.first.now first c.requires.first.begins begins in
    let taken = subst (λ (turns : List CpuTurn). IsAt going.first.now turns path.cpu c.args.place.steps c.take_to.new.self.machine.value) c.as_slice.ensures.value c.in-Ok.ensures.at in
    let at = subst (λ (s : State). IsAt going.first.now path.turns.items path.cpu c.args.place.steps s) (sym c.deref-2.ensures) taken in
    let reached = subst (λ (s : State). IsAt s path.turns.items path.cpu c.args.place.steps seen) one at in
    let there = item-there c.deref.result.now c.args.place.path path c.in-Some.ensures.lookup.0 c.in-Some.ensures.lookup.1 in
    let kinds = same-kinds first seen c.args.position.now.machine.now _ _ reached (c.requires.at first begins) in record {
      turns = path.turns.items;
      cpu = path.cpu;
      seen = seen;
      path = (path, subst (λ (paths : List Path). slice_get paths c.args.place.path ≡ Some path) c.deref.ensures.value there, refl, refl);
      reached = reached;
      alike = (c.compare.ensures same kinds).0;
      raised = (c.compare.ensures same kinds).1;
    }
