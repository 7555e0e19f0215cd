use Rattle.std.proofs.Common.{◌≡◌, ◌<◌, ℕ}
use Rattle.evm_core.specs.Views.{device_word}
use Rattle.hunt_states.proofs.memory.same_words.Given as goal

abbrev pub invariant-words : goal.invariant-words
invariant-words g l = (j : ℕ) → j < l.k → device_word l.i j l.a.board.memory.devices ≡ device_word l.i j l.b.board.memory.devices
