use Rattle.std.proofs.Common.{ap, ◌∙◌}
use Rattle.trace_command.specs.Flows.{flows_in}
use Rattle.trace_command.specs.Instants.{instants_in}
use Rattle.trace_command.proofs.Told.{flows_noted, instants_noted}
use Rattle.trace_command.proofs.noting.note.Goals as goal

pub returns-clause-instants : goal.returns-clause-instants
returns-clause-instants c = ap instants_in c.in_ok-push.ensures ∙ instants_noted c.args.list.now.items (record { track = c.args.track; at = c.args.at; detail = c.args.detail })

pub returns-clause-flows : goal.returns-clause-flows
returns-clause-flows c = ap flows_in c.in_ok-push.ensures ∙ flows_noted c.args.list.now.items (record { track = c.args.track; at = c.args.at; detail = c.args.detail })
