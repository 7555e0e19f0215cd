use Rattle.std.proofs.Common.{◌+◌, ◌*◌, refl}
use Rattle.claims_machine.proofs.devices.a_register_has_one_address.Goals as goal

pub returns-clause-found : goal.returns-clause-found
returns-clause-found c i r address e = let is = (c.registers_are_found.ensures i r address).0 e in (is.number, is.place)

pub returns-clause-there : goal.returns-clause-there
returns-clause-there c i r few = (c.registers_are_found.ensures i r (0x10000000 + 0x1000 * i + 8 * r)).1 (record { number = few; place = refl })
