use Rattle.std.proofs.Common.{subst, arith}
use Rattle.std.specs.Prelude.{All}
use Rattle.std.proofs.lemmas.List.{take_all}
use Rattle.std.proofs.lemmas.List.Elements.{All-more}
use Rattle.trace_records.specs.Placed.{FitsPlace}
use Rattle.trace_records.proofs.writing.fit_places.Goals as goal

pub loop-place-preserved : goal.loop-place-preserved
loop-place-preserved c = All-more FitsPlace c.args.places.now c.loop-place.place-index _ c.loop-place-test.true c.loop-place.invariant c.fit_place.ensures

pub returns : goal.returns
returns c = subst (λ xs. All FitsPlace xs) (take_all c.loop-place.place-index c.args.places.now (omega (arith, c.loop-place-test.false))) c.loop-place.invariant
