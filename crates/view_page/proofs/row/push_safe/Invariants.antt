use Rattle.std.proofs.Common.{◌≡◌, ◌++◌, take}
use Rattle.std.specs.String.{string_bytes}
use Rattle.view_page.specs.Texts.{safe_text}
use Rattle.view_page.proofs.row.push_safe.Given as goal

-- the bytes so far were appended
abbrev pub invariant-loop-byte : goal.invariant-loop-byte
invariant-loop-byte l = string_bytes l.out ≡ string_bytes l.fn.out ++ safe_text (take l.byte-index l.content)
