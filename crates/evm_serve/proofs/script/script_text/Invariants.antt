-- the text so far, and that of the lines from here on
use Rattle.std.proofs.Common.{◌≡◌, ◌++◌, drop}
use Rattle.evm_serve.specs.Scripted.{script_of}
use Rattle.evm_serve.proofs.script.script_text.Given as goal

abbrev pub invariant-loop-line : goal.invariant-loop-line
invariant-loop-line l = script_of l.lines ≡ l.text.items ++ script_of (drop l.line-index l.lines)
