use Rattle.std.proofs.Common.{◌≡◌, ◌+◌, ◌-◌}
use Rattle.evm_model.specs.Bounds.{COUNT_LIMIT, STAMPS_PER_EVENT, PipesUpTo}
use Rattle.evm_model.specs.Devices.{raise_by_ticks}
use Rattle.evm_settle.proofs.Nudges.{changed_below}
use Rattle.evm_board.proofs.TickedDevices.{left_to_raise, one_ticked}
use Rattle.evm_board.proofs.board.Board.tick_devices.Given as goal

-- the devices below i have ticked, and what is left to raise is raised behind what they raised
abbrev pub invariant-loop-i : goal.invariant-loop-i
invariant-loop-i g l = record {
  board : l.self ≡ record l.fn.self { memory = record l.fn.self.memory { devices = changed_below one_ticked l.i l.fn.self.memory.devices }; parts = l.self.parts };
  raised : raise_by_ticks 0 l.fn.self.memory.devices l.fn.self.parts ≡ left_to_raise l.i l.fn.self.memory.devices l.self.parts;
  room : PipesUpTo (COUNT_LIMIT - STAMPS_PER_EVENT + l.i) l.self.parts.pipes;
  clock : l.self.parts.ticks ≡ l.fn.self.parts.ticks;
}
