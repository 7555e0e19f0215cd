use Rattle.std.proofs.Common.{sym, ◌∙◌, rules, arith}
use Rattle.std.proofs.lemmas.Bool.Decides.{nat_tests}
use Rattle.hunt_space.proofs.standing.Stand.is_on_the_way.Goals as goal

pub returns : goal.returns
returns c same = record {
  turned = sym c.as_slice.ensures.value ∙ c.are_same.ensures same;
  goes = search rules;
  before = grind (arith, nat_tests);
}
