use Rattle.std.proofs.Common.{◌-◌, ◌∙◌, refl, arith}
use Rattle.evm_model.specs.Bounds.{COUNT_LIMIT, STAMPS_PER_EVENT}
use Rattle.law_rules.proofs.Counted.{PipesUpTo-more}
use Rattle.evm_board.proofs.TickedDevices.{all-ticked, clock-more, lines-more, room-more, seen-more, seen-none}
use Rattle.evm_board.proofs.board.Board.tick_devices.Goals as goal

pub loop-i-init : goal.loop-i-init
loop-i-init g c = record { board = seen-none c.args.self.now; raised = refl; room = PipesUpTo-more _ _ _ (omega arith) c.requires; clock = refl }

pub tick_device-requires-clause-room : goal.tick_device-requires-clause-room
tick_device-requires-clause-room g c κs within = PipesUpTo-more _ _ _ (omega (arith, c.active_devices-i-end.ensures.limit, c.loop-i-test.true)) c.loop-i.invariant.room

pub loop-i-preserved : goal.loop-i-preserved
loop-i-preserved g c = record {
  board = seen-more c.loop-i.i c.args.self.now c.loop-i.self c.tick_device.new.self c.loop-i.invariant.board c.tick_device.ensures;
  raised = lines-more c.loop-i.i c.args.self.now c.loop-i.self c.tick_device.new.self c.loop-i.invariant.board c.tick_device.ensures c.loop-i.invariant.raised;
  room = room-more (COUNT_LIMIT - STAMPS_PER_EVENT) c.loop-i.i c.args.self.now c.loop-i.self c.tick_device.new.self c.loop-i.invariant.board c.tick_device.ensures c.loop-i.invariant.room;
  clock = clock-more c.loop-i.i c.args.self.now c.loop-i.self c.tick_device.new.self c.loop-i.invariant.board c.tick_device.ensures ∙ c.loop-i.invariant.clock;
}

pub returns-clause-done : goal.returns-clause-done
returns-clause-done g c =
    all-ticked c.loop-i.i c.args.self.now c.loop-i.self (λ i device past there. c.active_devices-i-end.ensures.idle i device (omega (arith, past, c.loop-i-test.false)) there) c.loop-i.invariant.board c.loop-i.invariant.raised

pub returns-clause-room : goal.returns-clause-room
returns-clause-room g c = PipesUpTo-more _ _ _ (omega (arith, c.loop-i.auto.i-end, c.active_devices-i-end.ensures.limit)) c.loop-i.invariant.room
