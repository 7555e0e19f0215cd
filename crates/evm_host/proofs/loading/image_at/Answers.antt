use Rattle.std.proofs.Common.{Ok, Err, subst, List, ℕ}
use Rattle.evm_host.specs.Asks.{ImportsBytes}
use Rattle.evm_host.proofs.loading.image_at.Goals as goal

pub returns-in-Ok-read_all : goal.returns-in-Ok-read_all
returns-in-Ok-read_all g c =
    let P : List ℕ → Type 0 = λ file. ImportsBytes g.S.Output.Sink.takes g.S.Errors.Sink.takes
    c.args.path.now file (record c.args.world.now { files = c.open.new.self }) c.image_in.new.world c.image_in.result in
    let imported : P c.in-Ok-read_all.bytes.items = subst P c.as_slice.ensures.value c.image_in.ensures in
    (Ok c.in-Ok.file, c.open.new.self, rw (← c.in-Ok.is) c.open.ensures, (Ok c.in-Ok-read_all.bytes.items, c.read_all.new.source, c.in-Ok-read_all.ensures, imported))

pub returns : goal.returns
returns g c = (Ok c.in-Ok.file, c.open.new.self, rw (← c.in-Ok.is) c.open.ensures, (Err c.in-Err-read_all.stop, c.read_all.new.source, c.in-Err-read_all.ensures, c.not_read.ensures))
