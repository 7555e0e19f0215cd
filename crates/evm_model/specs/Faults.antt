-- The faults and their numbers.
use Rattle.std.specs.Prelude.{ℕ}
use Rattle.evm_model.specs.declared.fault.Fault.{Fault}
use Rattle.evm_model.specs.declared.fault.Fault.TheVariants.{Misaligned, Fetch, Illegal, Load, Store}

abbrev pub fault_number : Fault → ℕ
fault_number Misaligned = 0
fault_number Fetch = 1
fault_number Illegal = 2
fault_number Load = 5
fault_number Store = 7
