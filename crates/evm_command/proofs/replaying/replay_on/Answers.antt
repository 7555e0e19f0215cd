use Rattle.std.proofs.Common.{Ok, Err, subst, List, ℕ}
use Rattle.std.specs.String.{string_bytes}
use Rattle.evm_command.specs.Jobs.{ReplaysText}
use Rattle.evm_command.proofs.replaying.replay_on.Goals as goal

pub returns-in-Ok-read_utf8 : goal.returns-in-Ok-read_utf8
returns-in-Ok-read_utf8 g c =
    let P : List ℕ → Type 0 = λ text. ReplaysText g.S.Output.Sink.takes g.S.Errors.Sink.takes
    c.args.devices c.args.journal.now c.args.image.now text (record c.args.world.now { files = c.open.new.self }) c.replay_read.new.world c.replay_read.result in
    let replayed : P (string_bytes c.in-Ok-read_utf8.text) = subst P c.as_str.ensures.value c.replay_read.ensures in
    (Ok c.in-Ok.file, c.open.new.self, rw (← c.in-Ok.is) c.open.ensures, (Ok (string_bytes c.in-Ok-read_utf8.text), c.read_utf8.new.source, c.in-Ok-read_utf8.ensures, replayed))

pub returns-in-Err-read_utf8 : goal.returns-in-Err-read_utf8
returns-in-Err-read_utf8 g c = (Ok c.in-Ok.file, c.open.new.self, rw (← c.in-Ok.is) c.open.ensures, (Err c.in-Err-read_utf8.stop, c.read_utf8.new.source, c.in-Err-read_utf8.ensures, c.not_read.ensures))
