-- the headers from here on decide
use Rattle.std.proofs.Common.{◌≡◌, drop}
use Rattle.evm_elf.specs.Rising.{rise_from}
use Rattle.evm_elf.proofs.overlap.rise.Given as goal

abbrev pub invariant-loop-header : goal.invariant-loop-header
invariant-loop-header l = rise_from 0 l.headers ≡ rise_from l.end (drop l.header-index l.headers)
