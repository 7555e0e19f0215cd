use Rattle.std.proofs.Common.{take}
use Rattle.evm_shared.specs.Cursors.{AreInTurn, IsEnd, IsWalk}
use Rattle.evm_shared.proofs.checking.first_untrue.Given as goal

abbrev pub invariant-loop-index : goal.invariant-loop-index
invariant-loop-index g l = record {
  turn : AreInTurn l.machine.journal l.port l.index;
  walk : IsWalk l.machine.journal l.walk;
  end : IsEnd (take l.index l.port.receipts) l.walk.end;
}
