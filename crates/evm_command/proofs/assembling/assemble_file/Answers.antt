use Rattle.std.proofs.Common.{Ok, Err, subst, List, ℕ}
use Rattle.std.specs.String.{string_bytes}
use Rattle.evm_command.specs.Jobs.{Creates}
use Rattle.evm_command.proofs.assembling.assemble_file.Goals as goal

pub returns-in-Ok-read_utf8 : goal.returns-in-Ok-read_utf8
returns-in-Ok-read_utf8 g c =
    let P : List ℕ → Type 0 = λ text. Creates g.S.System.creates g.S.Created.Sink.takes g.S.Output.Sink.takes g.S.Errors.Sink.takes
    c.args.source.now c.args.out.now text (record c.args.world.now { files = c.open.new.self }) c.assemble_text.new.world c.assemble_text.result in
    let created : P (string_bytes c.in-Ok-read_utf8.text) = subst P c.as_str.ensures.value c.assemble_text.ensures in
    (Ok c.in-Ok.file, c.open.new.self, rw (← c.in-Ok.is) c.open.ensures, (Ok (string_bytes c.in-Ok-read_utf8.text), c.read_utf8.new.source, c.in-Ok-read_utf8.ensures, created))

pub returns : goal.returns
returns g c = (Ok c.in-Ok.file, c.open.new.self, rw (← c.in-Ok.is) c.open.ensures, (Err c.in-Err-read_utf8.stop, c.read_utf8.new.source, c.in-Err-read_utf8.ensures, c.not_read.ensures))
