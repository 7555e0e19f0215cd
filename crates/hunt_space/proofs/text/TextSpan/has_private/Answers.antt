use Rattle.std.proofs.Common.{◌<◌, ◌≤◌, ap, rules, sym, ◌∙◌}
use Rattle.std.specs.Prelude.{slice_get}
use Rattle.hunt_space.specs.Effects.{is_private}
use Rattle.hunt_space.proofs.Actors.{by-hart}
use Rattle.hunt_space.proofs.text.TextSpan.has_private.Goals as goal

pub returns : goal.returns
returns c private =
    let hart = c.in-Some.hart in
    let behind : c.args.self.low ≤ hart.pc = search rules in
    let before : hart.pc < c.args.self.high = search rules in
    by-hart c.args.self.low c.args.self.high c.args.machine.now.board.memory (slice_get c.args.machine.now.board.parts.harts c.args.t) hart (sym c.hart.ensures ∙ c.in-Some.is) behind before
    (ap is_private (sym c.next_effect.ensures) ∙ (sym c.is_private.ensures ∙ private))
