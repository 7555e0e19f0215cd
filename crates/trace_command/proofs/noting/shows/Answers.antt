use Rattle.std.proofs.Common.{ap, ◌∙◌}
use Rattle.trace_command.specs.Instants.{instants_in}
use Rattle.trace_command.proofs.Told.{instants_shown}
use Rattle.trace_command.proofs.noting.shows.Goals as goal

pub returns : goal.returns
returns c = ap instants_in c.in_ok-push.ensures ∙ instants_shown c.args.list.now.items c.args.track c.args.state c.args.at
