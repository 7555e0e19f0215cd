use Rattle.std.proofs.Common.{◌≡◌, ℕ, ◌<◌, Some}
use Rattle.std.specs.Prelude.{slice_get}
use Rattle.evm_model.specs.declared.event.Event.TheVariants.{Step}
use Rattle.hunt_space.specs.Space.{CallsNone}
use Rattle.hunt_space.proofs.bounds.EventBounds.caller.Given as goal

abbrev pub invariant-cpus : goal.invariant-cpus
invariant-cpus l = (i cpu : ℕ) → i < l.cpu-index → slice_get l.cpus i ≡ Some cpu → CallsNone l.self.ticks (Step cpu) l.machine
