-- Law: which addresses are those of registers.
use Rattle.std.specs.Prelude.{◌≡◌, ◌↔◌, ℕ, Some}
use Rattle.evm_model.specs.Devices.{IsRegisterAt, register_at}

-- the register found at an address is the one that is there, so there is one at most
abbrev pub RegistersAreFound : Type 0
RegistersAreFound = (i r address : ℕ) → (register_at address ≡ Some (i, r)) ↔ IsRegisterAt i r address
