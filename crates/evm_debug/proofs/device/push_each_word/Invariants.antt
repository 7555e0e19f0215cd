use Rattle.std.proofs.Common.{◌≤◌, ◌-◌, Ok, length}
use Rattle.std.specs.Prelude.{slice_get}
use Rattle.evm_journal.specs.evm_text.Appending.{Appends}
use Rattle.evm_debug.specs.Pieces.{words_in}
use Rattle.evm_debug.specs.Views.{words_below}
use Rattle.evm_debug.proofs.device.push_each_word.Given as goal

-- the words below k were appended
abbrev pub invariant-words : goal.invariant-words
invariant-words g l = record {
  appended : Appends (words_below l.k (words_in (slice_get l.machine.board.memory.devices l.i))) l.fn.out l.out (Ok tt);
  within : l.k ≤ length (words_in (slice_get l.machine.board.memory.devices l.i));
}

abbrev pub decreases-words : goal.decreases-words
decreases-words g l = length (words_in (slice_get l.machine.board.memory.devices l.i)) - l.k
