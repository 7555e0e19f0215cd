use Rattle.law_runs.proofs.Replays.{loads_so_many_bytes, loads_each_byte}
use Rattle.law_runs.proofs.loads_each_byte.Goals as goal

pub returns : goal.returns
returns c = record { count = loads_so_many_bytes; each = loads_each_byte }
