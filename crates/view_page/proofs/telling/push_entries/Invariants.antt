use Rattle.std.specs.String.{string_bytes}
use Rattle.view_page.proofs.Runs.{Comes}
use Rattle.view_page.proofs.telling.push_entries.Given as goal

-- the items so far were told
abbrev pub invariant-loop-item : goal.invariant-loop-item
invariant-loop-item g l = Comes l.fn.walk l.walk (string_bytes l.fn.out) (string_bytes l.out) l._item
