use Rattle.std.proofs.Common.{Ok, Err}
use Rattle.evm_serve.proofs.importing.import.Goals as goal

pub returns-in-Ok : goal.returns-in-Ok
returns-in-Ok g c = (Ok c.in-Ok.file.items, c.in-Ok.ensures, rw (← c.as_slice.ensures.value) c.import_bytes.ensures)

pub returns-in-Err : goal.returns-in-Err
returns-in-Err g c = (Err c.in-Err.stop, c.in-Err.ensures, c.unread.ensures)
