-- Why a run ends with the line `memory`.
use Rattle.std.specs.Prelude.{ℕ}
use Rattle.evm_room.specs.Growth.{RefusedWithin}

-- Memory was refused to a call that asked for it: no proof has this of anything else.
pub record MemoryRefused : Type 0 where
  pub most : ℕ
  pub refused : RefusedWithin most
