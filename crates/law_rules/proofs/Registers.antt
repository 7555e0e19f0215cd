-- The register found at an address is the one that is there.
use Rattle.std.proofs.Common.{◌≡◌, ℕ, ◌+◌, ◌-◌, ◌*◌, ◌/◌, ◌%◌, ◌<◌, ◌≤◌, Bool, true, false, Option, Some, None, refl, ap, arith}
use Rattle.std.specs.Prelude.{◌==◌, ◌&&◌, nat_le, nat_lt, if◌then◌else◌}
use Rattle.std.proofs.lemmas.Bool.Decides.{nat_tests}
use Rattle.evm_model.specs.Devices.{IsRegisterAt, register_of_offset, register_at}
use Rattle.evm_model.specs.declared.limits.TheConstants.{DEVICE_BASE, DEVICE_SPAN, REGISTERS_PER_DEVICE}
use Rattle.law_rules.specs.Devices.{RegistersAreFound}

both : (p q : Bool) → (p && q) ≡ true → (p ≡ true) × (q ≡ true)
both true q h = (refl, h)
both false q h = cc

some_if : (b : Bool) (o : Option (ℕ × ℕ)) (i r : ℕ) → (if b then o else None) ≡ Some (i, r) → (b ≡ true) × (o ≡ Some (i, r))
some_if true o i r e = (refl, e)
some_if false o i r e = cc

-- ---- at an offset
found_of : (offset i r : ℕ) → register_of_offset offset ≡ Some (i, r) → (offset % 8 ≡ 0) × (offset % DEVICE_SPAN / 8 < REGISTERS_PER_DEVICE) × (offset / DEVICE_SPAN ≡ i) × (offset % DEVICE_SPAN / 8 ≡ r)
found_of offset i r e =
    let its = some_if (offset % 8 == 0 && nat_lt (offset % DEVICE_SPAN / 8) REGISTERS_PER_DEVICE) _ i r e in
    let tests = both (offset % 8 == 0) (nat_lt (offset % DEVICE_SPAN / 8) REGISTERS_PER_DEVICE) its.0 in
    let whole : offset % 8 ≡ 0 = (let t : (offset % 8 == 0) ≡ true = tests.0 in grind (arith, nat_tests)) in
    let few : offset % DEVICE_SPAN / 8 < REGISTERS_PER_DEVICE = (let t : nat_lt (offset % DEVICE_SPAN / 8) REGISTERS_PER_DEVICE ≡ true = tests.1 in grind (arith, nat_tests)) in
    let pair : (offset / DEVICE_SPAN, offset % DEVICE_SPAN / 8) ≡ (i, r) = cc in
    (whole, few, ap (λ (x : ℕ × ℕ). x.0) pair, ap (λ (x : ℕ × ℕ). x.1) pair)

offset_finds : (i r : ℕ) → r < REGISTERS_PER_DEVICE → register_of_offset (DEVICE_SPAN * i + 8 * r) ≡ Some (i, r)
offset_finds i r few =
    let offset : ℕ = DEVICE_SPAN * i + 8 * r in
    let whole : offset % 8 ≡ 0 = omega arith in
    let device : offset / DEVICE_SPAN ≡ i = omega (arith, few) in
    let register : offset % DEVICE_SPAN / 8 ≡ r = omega (arith, few) in
    let test : (offset % 8 == 0) ≡ true = rw whole refl in
    let room : nat_lt r REGISTERS_PER_DEVICE ≡ true = grind (arith, nat_tests) in
    rw (register, device, test, room) refl

-- ---- at an address
found_at : (i r address : ℕ) → register_at address ≡ Some (i, r) → IsRegisterAt i r address
found_at i r address e =
    let its = some_if (nat_le DEVICE_BASE address) (register_of_offset (address - DEVICE_BASE)) i r e in
    let from : DEVICE_BASE ≤ address = (let t : nat_le DEVICE_BASE address ≡ true = its.0 in grind (arith, nat_tests)) in
    let found = found_of (address - DEVICE_BASE) i r its.1 in
    record { number = omega (arith, found.1, found.3); place = omega (arith, from, found.0, found.1, found.2, found.3) }

address_finds : (i r address : ℕ) → IsRegisterAt i r address → register_at address ≡ Some (i, r)
address_finds i r address at =
    let from : nat_le DEVICE_BASE address ≡ true = (let least : DEVICE_BASE ≤ address = omega (arith, at.place) in grind (arith, nat_tests)) in
    let offset : address - DEVICE_BASE ≡ DEVICE_SPAN * i + 8 * r = omega (arith, at.place) in
    rw (from, offset) (offset_finds i r at.number)

pub registers_are_found : RegistersAreFound
registers_are_found i r address = (found_at i r address, address_finds i r address)
