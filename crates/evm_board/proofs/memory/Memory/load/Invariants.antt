use Rattle.std.proofs.Common.{◌≡◌, drop, length}
use Rattle.std.specs.Prelude.{replicate}
use Rattle.evm_board.proofs.Loads.{all_poked}
use Rattle.evm_board.proofs.memory.Memory.load.Given as goal

-- what the segments that are left do is what all of them do to a RAM of zeros
abbrev pub invariant-loop-segment : goal.invariant-loop-segment
invariant-loop-segment g l =
    all_poked (drop l.segment-index l.segment-items) l.self ≡ all_poked l.segment-items (record l.fn.self { ram = replicate (length l.fn.self.ram) 0 })
