use Rattle.std.proofs.Common.{◌≡◌}
use Rattle.std.proofs.Math.ListN.{drop}
use Rattle.evm_isa.specs.Decoded.{first_with}
use Rattle.evm_isa.proofs.mnemonics.first_with.Given as goal

-- none of the mnemonics so far has the bits
abbrev pub invariant-loop-op : goal.invariant-loop-op
invariant-loop-op g l = first_with g.O.Mnemonic.bits_of l.bits (drop l.op-index l.ops) ≡ first_with g.O.Mnemonic.bits_of l.bits l.ops
