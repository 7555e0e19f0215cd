use Rattle.std.proofs.Common.{◌∙◌, ap}
use Rattle.evm_asm_lexer.specs.Names.{named}
use Rattle.evm_asm_parser.proofs.Entries.{lookup-named}
use Rattle.evm_asm_parser.proofs.labels.Labels.find.Goals as goal

pub returns : goal.returns
returns c =
    c.copied.ensures ∙ c.get.ensures.value ∙ lookup-named c.self.inside.spots.entries c.args.name.now
    ∙ ap (λ l. named l c.args.name.now) c.self.view_is
