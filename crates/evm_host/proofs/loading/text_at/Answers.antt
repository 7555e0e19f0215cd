use Rattle.std.proofs.Common.{Ok, Err, refl}
use Rattle.evm_host.proofs.loading.text_at.Goals as goal

pub returns-in-Ok-read_utf8 : goal.returns-in-Ok-read_utf8
returns-in-Ok-read_utf8 g c = (Ok c.in-Ok.file, c.open.new.self, rw (← c.in-Ok.is) c.open.ensures, (Ok _, c.read_utf8.new.source, c.in-Ok-read_utf8.ensures, (refl, refl)))

pub returns : goal.returns
returns g c = (Ok c.in-Ok.file, c.open.new.self, rw (← c.in-Ok.is) c.open.ensures, (Err c.in-Err-read_utf8.stop, c.read_utf8.new.source, c.in-Err-read_utf8.ensures, c.not_read.ensures))
