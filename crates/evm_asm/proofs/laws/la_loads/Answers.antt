use Rattle.std.proofs.Common.{◌+◌, ◌-◌, ◌%◌, refl}
use Rattle.evm_asm.proofs.Li_and_la_load.{address_again}
use Rattle.evm_asm.proofs.laws.la_loads.Goals as goal

pub returns : goal.returns
returns c = λ rd at target p q r s. address_again at target p q r s ((target + 4294967296 - at) % 4294967296) refl
