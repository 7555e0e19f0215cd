use Rattle.std.proofs.lemmas.Bool.{eqb-true}
use Rattle.evm_ram.proofs.SameBytes.{none_differ}
use Rattle.evm_ram.proofs.same.same_lanes.Goals as goal

pub returns : goal.returns
returns c zero k less = none_differ c.args.a.now c.args.b.now c.args.i c.requires.a c.requires.b (eqb-true _ 0 zero) k less
