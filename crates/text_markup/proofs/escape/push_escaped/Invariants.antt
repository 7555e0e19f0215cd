use Rattle.std.proofs.Common.{◌≡◌, ◌++◌, take}
use Rattle.text_markup.specs.Xml.{escaped_text}
use Rattle.text_markup.proofs.escape.push_escaped.Given as goal

-- the bytes so far were appended
abbrev pub invariant-loop-byte : goal.invariant-loop-byte
invariant-loop-byte l = l.out.items ≡ l.fn.out.items ++ escaped_text (take l.byte-index l.byte-items)
