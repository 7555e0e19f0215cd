use Rattle.std.proofs.Common.{◌∙◌, sym, ap, Option, Some}
use Rattle.std.specs.Option.{option_map}
use Rattle.evm_asm_parser.specs.declared.spot.Spot.{Spot}
use Rattle.evm_asm.specs.Items.{address}
use Rattle.evm_asm_parser.specs.evm_asm_lexer.Names.{named}
use Rattle.evm_asm.specs.Assembled.{Assembled, addressed}
use Rattle.evm_asm.proofs.Line_by_line.{named-addressed}
use Rattle.evm_asm.proofs.program.Program.address_of.Goals as goal

pub returns-in-Some : goal.returns-in-Some
returns-in-Some c =
    let size = c.self.inside.text_size in
    let labels = c.self.inside.labels in
    ap Some c.address.ensures.value
    ∙ ap (λ (o : Option Spot). option_map (address size) o) c.in-Some.ensures
    ∙ sym (named-addressed (address size) labels c.as_bytes.result.now)
    ∙ ap (λ q. named (addressed size labels) q) c.as_bytes.ensures.value
    ∙ ap (λ (p : Assembled). named p.labels c.args.name.now) c.self.view_is

pub returns-in-None : goal.returns-in-None
returns-in-None c =
    let size = c.self.inside.text_size in
    let labels = c.self.inside.labels in
    ap (λ (o : Option Spot). option_map (address size) o) c.in-None.ensures
    ∙ sym (named-addressed (address size) labels c.as_bytes.result.now)
    ∙ ap (λ q. named (addressed size labels) q) c.as_bytes.ensures.value
    ∙ ap (λ (p : Assembled). named p.labels c.args.name.now) c.self.view_is
