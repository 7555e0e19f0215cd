use Rattle.std.proofs.Common.{◌≡◌, ℕ, Some, false, below_more, rules, subst, arith}
use Rattle.std.specs.Prelude.{slice_get}
use Rattle.std.proofs.lemmas.Option.{slice_get_within, get_or_from_slice_get}
use Rattle.evm_model.specs.declared.event.Event.TheVariants.{Step}
use Rattle.hunt_space.specs.Space.{CallsNone}
use Rattle.hunt_space.proofs.bounds.EventBounds.caller.Goals as goal

pub cpus-preserved : goal.cpus-preserved
cpus-preserved c =
    let Q : ℕ → Type 0 = λ n. CallsNone c.args.self.ticks (Step n) c.args.machine.now in
    let P : ℕ → Type 0 = λ i. (d : ℕ) → slice_get c.args.cpus.now i ≡ Some d → Q d in
    let none : c.is_called.result ≡ false = search rules in
    let here : P c.cpus.cpu-index = λ d there. subst Q (get_or_from_slice_get c.args.cpus.now c.cpus.cpu-index d 0 there) (c.is_called.ensures none) in
    λ i d less there. below_more P c.cpus.cpu-index (λ e h f is. c.cpus.invariant e f h is) here i less d there

pub returns : goal.returns
returns c none i cpu there = c.cpus.invariant i cpu (let h = slice_get_within c.args.cpus.now i cpu there in omega arith) there
