use Rattle.std.proofs.Common.{◌≡◌, sym, ap, subst, ◌∙◌}
use Rattle.trace_command.proofs.Told.{no_instants}
use Rattle.trace_command.specs.Instants.{instants_in}
use Rattle.trace_command.specs.Tellings.{TellsCall}
use Rattle.trace_command.proofs.tracing.Telling.go_on.Goals as goal

pub returns-in-Begins-clause-tells : goal.returns-in-Begins-clause-tells
returns-in-Begins-clause-tells g c =
    λ empty changes.
    subst (λ phase. TellsCall c.args.self.now.clock phase c.args.self.now.walk c.args.self.now.at c.begin.new.list.items c.begin.new.self.phase c.begin.new.self.walk c.begin.new.self.at) (sym c.in-Begins.is)
    (c.begin.ensures.phase, (c.begin.ensures.walk, (c.begin.ensures.time, c.begin.ensures.instants changes ∙ ap instants_in empty ∙ no_instants)))

pub returns-in-Ends-clause-tells : goal.returns-in-Ends-clause-tells
returns-in-Ends-clause-tells g c =
    λ empty changes.
    subst (λ phase. TellsCall c.args.self.now.clock phase c.args.self.now.walk c.args.self.now.at c.end.new.list.items c.end.new.self.phase c.end.new.self.walk c.end.new.self.at) (sym c.in-Ends.is)
    (c.end.ensures.phase, (c.end.ensures.walk, (c.end.ensures.time, c.end.ensures.instants changes ∙ ap instants_in empty ∙ no_instants)))
