use Rattle.std.proofs.Common.{◌≡◌, false, subst, sym}
use Rattle.evm_model.specs.State.{State}
use Rattle.hunt_search.specs.Searches.{is_failed}
use Rattle.hunt_space.specs.Going.{BeginsSearch, HasGone, HasGoneOn}
use Rattle.hunt_space.proofs.Walks.{no-turns, root-gone, root-leads, turn-gone, turn-leads, went-on}
use Rattle.hunt_space.proofs.turning.go.Goals as goal

pub go_on-requires-clause-at : goal.go_on-requires-clause-at
go_on-requires-clause-at c =
    let g = c.args.going.now in
    let starts = subst (λ (s : State). BeginsSearch g s) (sym c.in-Ok.ensures) c.requires.first.begins in
    root-leads g c.go_back.new.machine (no-turns c.as_slice.result.now g.path.now.turns.items c.in_default.ensures.cases c.as_slice.ensures.value) starts

pub go_on-requires-in-Ok-Harmless-clause-at : goal.go_on-requires-in-Ok-Harmless-clause-at
go_on-requires-in-Ok-Harmless-clause-at c = turn-leads c.args.going.now c.turn.new.machine (rw c.in-Ok-Harmless.field-0-is at c.in-Ok-Harmless.ensures.comes)

pub returns-in-Ok-Harmless-clause-goes : goal.returns-in-Ok-Harmless-clause-goes
returns-in-Ok-Harmless-clause-goes c =
    let g = c.args.going.now in
    let before = c.args.frontier.now.paths.items in
    let seen = c.args.visited.now.places.items in
    let paths = c.go_on-in-Ok-Harmless.new.frontier.paths.items in
    let places = c.go_on-in-Ok-Harmless.new.visited.places.items in
    let cut = c.go_on-in-Ok-Harmless.new.frontier.cut in
    let s = c.turn.new.machine in
    let comes = rw c.in-Ok-Harmless.field-0-is at c.in-Ok-Harmless.ensures.comes in
    went-on (λ outcome. is_failed outcome ≡ false → cut ≡ false → HasGoneOn g before paths seen places s) (λ outcome. is_failed outcome ≡ false → cut ≡ false → HasGone g before paths seen places) c.go_on-in-Ok-Harmless.result
    (λ outcome on alive none. turn-gone g before paths seen places s comes (on alive none)) c.go_on-in-Ok-Harmless.ensures.goes

pub returns-in-Ok-clause-goes : goal.returns-in-Ok-clause-goes
returns-in-Ok-clause-goes c =
    let g = c.args.going.now in
    let before = c.args.frontier.now.paths.items in
    let seen = c.args.visited.now.places.items in
    let paths = c.go_on.new.frontier.paths.items in
    let places = c.go_on.new.visited.places.items in
    let cut = c.go_on.new.frontier.cut in
    let s = c.go_back.new.machine in
    let none = no-turns c.as_slice.result.now g.path.now.turns.items c.in_default.ensures.cases c.as_slice.ensures.value in
    let starts = subst (λ (s : State). BeginsSearch g s) (sym c.in-Ok.ensures) c.requires.first.begins in
    went-on (λ outcome. is_failed outcome ≡ false → cut ≡ false → HasGoneOn g before paths seen places s) (λ outcome. is_failed outcome ≡ false → cut ≡ false → HasGone g before paths seen places) c.go_on.result
    (λ outcome on alive uncut. root-gone g before paths seen places s none starts (on alive uncut)) c.go_on.ensures.goes
