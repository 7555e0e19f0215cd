use Rattle.std.proofs.Common.{◌≡◌, refl, ◌∙◌}
use Rattle.hunt_space.proofs.Walks.{leads-past, passes-more, passes-none, passes-still}
use Rattle.hunt_space.proofs.passing.pass_rows.Goals as goal

pub rows-init : goal.rows-init
rows-init c = record {
  keeps = λ i place h. h;
  seen = refl;
  leads = c.requires;
  passes = passes-none c.args.going.now c.args.visited.now.places.items c.args.from c.args.machine.now;
  replays = λ first h. h;
}

pub rows-preserved : goal.rows-preserved
rows-preserved c =
    let all = c.rows.invariant in
    let row = rw c.in-Ok-true.field-0-test at c.in-Ok-true.ensures.comes in
    let places = c.args.visited.now.places.items in
    let after = c.pass_row.new.visited.places.items in record {
      keeps = λ i place h. c.pass_row.ensures.keeps i place (all.keeps i place h);
      seen = c.pass_row.ensures.seen ∙ all.seen;
      leads = leads-past c.args.going.now c.rows.steps c.rows.machine c.pass_row.new.machine c.rows.visited.places.items after all.leads row;
      passes = passes-more c.args.going.now places c.rows.visited.places.items after c.args.from c.rows.steps c.args.machine.now c.rows.machine c.pass_row.new.machine all.passes c.pass_row.ensures.keeps row;
      replays = λ first h. c.pass_row.ensures.replays first (all.replays first h);
    }

pub returns-in-Ok-false-clause-passes : goal.returns-in-Ok-false-clause-passes
returns-in-Ok-false-clause-passes c =
    let row = rw c.in-Ok-false.field-0-test at c.in-Ok-false.ensures.comes in
    passes-still c.args.going.now c.args.visited.now.places.items c.rows.visited.places.items c.pass_row.new.visited.places.items c.args.from c.rows.steps c.args.machine.now c.rows.machine c.pass_row.new.machine c.rows.invariant.passes row
