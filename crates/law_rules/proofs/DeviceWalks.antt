-- What devices raise by accesses and by ticks is a walk.
use Rattle.std.proofs.Common.{◌≡◌, ℕ, suc, ◌+◌, ◌<◌, ◌≤◌, List, [], ◌∷◌, Bool, true, false, Option, Some, None, length, ◌⊎◌, inl, inr, refl, ap, sym, ◌∙◌, arith}
use Rattle.std.specs.Prelude.{slice_get, option_map, ◌==◌, if◌then◌else◌}
use Rattle.std.proofs.lemmas.Bool.{cases_eq}
use Rattle.std.proofs.lemmas.Bool.Decides.{nat_tests}
use Rattle.evm_lines.specs.declared.TheConstants.{LINES}
use Rattle.evm_dev.specs.Rows.{ticked, touched}
use Rattle.evm_dev.specs.Touched.{Touched}
use Rattle.evm_dev.specs.declared.touch.Op.{Op}
use Rattle.evm_dev.specs.declared.touch.Op.TheVariants.{Fetch, Put}
use Rattle.evm_ram.specs.Ram.{read_at, write_at}
use Rattle.evm_ram.specs.declared.width.Width.{Width}
use Rattle.evm_ram.specs.declared.width.Width.TheVariants.{Double}
use Rattle.evm_exec.specs.Memory.{width_of_load}
use Rattle.evm_exec.specs.declared.outcome.Effect.{Effect}
use Rattle.evm_exec.specs.declared.outcome.Effect.TheVariants.{Load, Store}
use Rattle.evm_model.specs.Devices.{Attached, Accessed, register_at, line_if, answered_by, touch_device, touch_register, touch, raise_line, raise_by_ticks}
use Rattle.evm_model.specs.Lists.{change, each}
use Rattle.evm_model.specs.Memory.{access_device, read_ram, write_ram}
use Rattle.evm_model.specs.Pipes.{Pipe, raise}
use Rattle.evm_model.specs.State.{Memory, Parts, on_pipe}
use Rattle.evm_model.specs.declared.limits.TheConstants.{DEVICE_LIMIT, DEVICE_LINE}
use Rattle.evm_model.proofs.Lists.{change-here, change-elsewhere, same_elements, slice_get-below, slice_get-each}
use Rattle.law_rules.proofs.Walk.{Actor, tells, Walk, counted, slack}
use Rattle.law_rules.specs.Raising.{line_of, access_of}

-- ---- a line of processor 0
abbrev first_only : (Pipe → Pipe) → ℕ → Pipe → Pipe
first_only f d p = if d == 0 then f p else p

same_map : (o : Option Pipe) → o ≡ option_map (λ p. p) o
same_map None = refl
same_map (Some p) = refl

pub first_changed : (f : Pipe → Pipe) (xs : List Pipe) → change f xs 0 ≡ each (first_only f) xs
first_changed f xs = same_elements (change f xs 0) (each (first_only f) xs) (λ i. elim (cases_eq i 0) [
  | inl same ↦ rw same (change-here f xs 0 ∙ sym (slice_get-each (first_only f) xs 0))
  | inr other ↦
      let off : (i == 0) ≡ false = grind (arith, nat_tests) in
      change-elsewhere f xs 0 i other ∙ same_map (slice_get xs i) ∙ ap (λ (b : Bool). option_map (λ p. if b then f p else p) (slice_get xs i)) (sym off) ∙ sym (slice_get-each (first_only f) xs i)
])

first_told : (a : Actor) (l d : ℕ) (b : Bool) (p : Pipe) → (d == 0) ≡ b → a.may 0 l ≡ true → ((if b then raise l p else p) ≡ p) ⊎ (((if b then raise l p else p) ≡ raise l p) × (a.may d l ≡ true))
first_told a l d true p e may = let same : d ≡ 0 = grind (arith, nat_tests) in inr (refl, rw same may)
first_told a l d false p e may = inl refl

-- lines that processor 0 has, and may raise
pub record AreRaised (a : Actor) (o : Option ℕ) : Type 0 where
  pub small : (l : ℕ) → o ≡ Some l → l < LINES
  pub may : (l : ℕ) → o ≡ Some l → a.may 0 l ≡ true

module _ (a : Actor) (old : Parts) (n s : ℕ) (k : Parts) (w : Walk a old n s k) where
  raises_first : (l : ℕ) → l < LINES → a.may 0 l ≡ true → Walk a old (n + 1) s (on_pipe 0 (raise l) k)
  raises_first l small may = rw (first_changed (raise l) k.pipes) (counted a old n s k _ 1 (tells l (first_only (raise l)) k small (λ d p. first_told a l d (d == 0) p refl may)) w)

  pub raises_line : (o : Option ℕ) → AreRaised a o → Walk a old (n + 1) s (raise_line o k)
  raises_line None are = slack a old n (n + 1) s s k (λ g. omega arith) (λ g. omega arith) w
  raises_line (Some l) are = raises_first l (are.small l refl) (are.may l refl)

-- ---- a tick
line_some : (b : Bool) (i l : ℕ) → line_if b i ≡ Some l → (b ≡ true) × (l ≡ DEVICE_LINE + i)
line_some true i l e = (refl, cc)
line_some false i l e = cc

-- what the devices, of which the first is device i, raise by their ticks may be raised
pub record MayTick (a : Actor) (i : ℕ) (devices : List Attached) : Type 0 where
  pub few : i + length devices ≤ DEVICE_LIMIT
  pub may : (j : ℕ) (device : Attached) → slice_get devices j ≡ Some device → (ticked device.kind device.words).raise ≡ true → a.may 0 (DEVICE_LINE + (i + j)) ≡ true

tick_raised : (a : Actor) (i : ℕ) (device : Attached) (devices : List Attached) → MayTick a i (device ∷ devices) → AreRaised a (line_if (ticked device.kind device.words).raise i)
tick_raised a i device devices m = record {
  small = λ l e. let its = line_some (ticked device.kind device.words).raise i l e in omega (arith, its.1, m.few);
  may = λ l e. let its = line_some (ticked device.kind device.words).raise i l e in let same : l ≡ DEVICE_LINE + (i + 0) = omega (arith, its.1) in rw same (m.may 0 device refl its.0);
}

tick_rest : (a : Actor) (i : ℕ) (device : Attached) (devices : List Attached) → MayTick a i (device ∷ devices) → MayTick a (suc i) devices
tick_rest a i device devices m = record {
  few = omega (arith, m.few);
  may = λ j other e raised. let same : DEVICE_LINE + (suc i + j) ≡ DEVICE_LINE + (i + suc j) = omega arith in rw same (m.may (suc j) other e raised);
}

module _ (a : Actor) (old : Parts) where
  pub ticks_devices : (i n s : ℕ) (devices : List Attached) (k : Parts) → MayTick a i devices → Walk a old n s k → Walk a old (n + length devices) s (raise_by_ticks i devices k)
  unfolding raise_by_ticks
  ticks_devices i n s [] k m w = slack a old n (n + 0) s s k (λ g. omega arith) (λ g. omega arith) w
  ticks_devices i n s (device ∷ devices) k m w =
      let counts : n + suc (length devices) ≡ n + 1 + length devices = omega arith in
      rw counts (ticks_devices (suc i) (n + 1) s devices _ (tick_rest a i device devices m) (raises_line a old n s k w _ (tick_raised a i device devices m)))

-- ---- an access
-- a device's line
pub record AreOfDevices (o : Option ℕ) : Type 0 where
  pub least : (l : ℕ) → o ≡ Some l → DEVICE_LINE ≤ l
  pub small : (l : ℕ) → o ≡ Some l → l < LINES

none_of : AreOfDevices None
none_of = record { least = λ l e. cc; small = λ l e. cc }

line_of_if : (b : Bool) (i : ℕ) → i < DEVICE_LIMIT → AreOfDevices (line_if b i)
line_of_if b i few = record {
  least = λ l e. let its = line_some b i l e in omega (arith, its.1);
  small = λ l e. let its = line_some b i l e in omega (arith, its.1, few);
}

module _ (m : Memory) (few : length m.devices ≤ DEVICE_LIMIT) where
  answered_line : (o : Option ℕ) (i : ℕ) (after : Touched) → i < DEVICE_LIMIT → AreOfDevices (line_of (answered_by o i after m))
  answered_line None i after small = none_of
  answered_line (Some answer) i after small = line_of_if after.touch.raise i small

  device_line : (o : Option Attached) (i : ℕ) (op : Op) (r value : ℕ) → slice_get m.devices i ≡ o → AreOfDevices (line_of (touch_device o i op r value m))
  device_line None i op r value e = none_of
  device_line (Some device) i op r value e = answered_line _ i (touched device.kind op r value device.words) (omega (arith, few, slice_get-below m.devices i device e))

  register_line : (o : Option (ℕ × ℕ)) (op : Op) (value : ℕ) → AreOfDevices (line_of (touch_register o op value m))
  register_line None op value = none_of
  register_line (Some place) op value = device_line (slice_get m.devices place.0) place.0 op place.1 value refl

  touch_line : (op : Op) (address value : ℕ) → AreOfDevices (line_of (touch op address value m))
  unfolding touch
  touch_line op address value = register_line (register_at address) op value

  access_line : (op : Op) (width : Width) (address value : ℕ) → AreOfDevices (line_of (access_device op width address value m))
  access_line op Double address value = touch_line op address value
  access_line op _ address value = none_of

  ram_read_line : (o : Option ℕ) (device : Option Accessed) → AreOfDevices (line_of device) → AreOfDevices (line_of (read_ram o device m))
  ram_read_line None device are = are
  ram_read_line (Some number) device are = none_of

  ram_write_line : (o : Option (List ℕ)) (device : Option Accessed) → AreOfDevices (line_of device) → AreOfDevices (line_of (write_ram o device m))
  ram_write_line None device are = are
  ram_write_line (Some ram) device are = none_of

  pub effect_line : (effect : Effect) → AreOfDevices (line_of (access_of effect m))
  effect_line (Load op rd address) = ram_read_line (read_at m.ram address (width_of_load op)) _ (access_line Fetch (width_of_load op) address 0)
  effect_line (Store width address value) = ram_write_line (write_at m.ram address width value) _ (access_line Put width address value)
  effect_line _ = none_of
