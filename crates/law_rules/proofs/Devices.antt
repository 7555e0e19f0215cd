-- What an access and a tick leave of memory: RAM keeps its size, and the devices stay such as there may be.
use Rattle.std.proofs.Common.{◌≡◌, ℕ, List, Option, Some, None, length, map, refl, sym, ◌∙◌, inl, inr}
use Rattle.std.specs.Prelude.{slice_get, option_map}
use Rattle.std.proofs.lemmas.List.{length-map}
use Rattle.std.proofs.lemmas.Option.{slice_get-map}
use Rattle.evm_dev.proofs.ByKind.{stay-touched, stay-ticked}
use Rattle.evm_dev.specs.Rows.{touched}
use Rattle.evm_dev.specs.Touched.{Touched}
use Rattle.evm_dev.specs.declared.touch.Op.{Op}
use Rattle.evm_dev.specs.declared.touch.Op.TheVariants.{Fetch, Put}
use Rattle.evm_ram.specs.Ram.{read_at, write_at}
use Rattle.evm_ram.specs.Laws.{length-write_at}
use Rattle.evm_ram.specs.declared.width.Width.{Width}
use Rattle.evm_ram.specs.declared.width.Width.TheVariants.{Double}
use Rattle.evm_model.specs.Devices.{Attached, IsDevice, Accessed, answered_by, register_at, touch_device, touch_register, touch, tick_device}
use Rattle.evm_model.specs.Good.{AreDevices}
use Rattle.evm_model.specs.Lists.{change}
use Rattle.evm_model.specs.Memory.{access_device, read_ram, read, write_ram, write}
use Rattle.evm_model.specs.State.{Memory}
use Rattle.evm_model.proofs.Lists.{change-cases, length-change}

pub record KeepsMemory (m n : Memory) : Type 0 where
  pub ram : length n.ram ≡ length m.ram
  pub devices : AreDevices m.devices → AreDevices n.devices

pub keeps : (m : Memory) → KeepsMemory m m
keeps m = record { ram = refl; devices = λ are. are }

-- what an access leaves
pub record KeepsAccess (m : Memory) (o : Option Accessed) : Type 0 where
  pub after : (access : Accessed) → o ≡ Some access → KeepsMemory m access.memory

no_access : (m : Memory) → KeepsAccess m None
no_access m = record { after = λ access e. cc }

some_access : (m : Memory) (access : Accessed) → KeepsMemory m access.memory → KeepsAccess m (Some access)
some_access m access kept = record { after = λ other e. let same : access ≡ other = cc in rw (← same) kept }

-- ---- a device
worded : (i : ℕ) (words : List ℕ) (devices : List Attached) → ((device : Attached) → slice_get devices i ≡ Some device → IsDevice device → IsDevice (record device { words = words }))
    → AreDevices devices → AreDevices (change (λ device. record device { words = words }) devices i)
worded i words devices fits are = record {
  few = rw (length-change (λ (device : Attached). record device { words = words }) devices i) are.few;
  each = λ j device e. elim (change-cases (λ (device : Attached). record device { words = words }) devices i j device e) [
    | inl w ↦ rw w.3 (fits w.1 w.2 (are.each i w.1 w.2))
    | inr w ↦ are.each j device w.1
  ];
}

module _ (m : Memory) where
  answered-keeps : (o : Option ℕ) (i : ℕ) (after : Touched) → ((device : Attached) → slice_get m.devices i ≡ Some device → IsDevice device → IsDevice (record device { words = after.words })) → KeepsAccess m (answered_by o i after m)
  answered-keeps None i after fits = no_access m
  answered-keeps (Some answer) i after fits = some_access m _ (record { ram = refl; devices = λ are. worded i after.words m.devices fits are })

  device-keeps : (o : Option Attached) (i : ℕ) (op : Op) (r value : ℕ) → slice_get m.devices i ≡ o → KeepsAccess m (touch_device o i op r value m)
  device-keeps None i op r value e = no_access m
  device-keeps (Some device) i op r value e = answered-keeps _ i (touched device.kind op r value device.words) (λ other f is.
      let same : device ≡ other = (let two : Some device ≡ Some other = sym e ∙ f in cc) in
      rw (← same) (stay-touched device.kind op r value device.words (rw same is)))

  register-keeps : (o : Option (ℕ × ℕ)) (op : Op) (value : ℕ) → KeepsAccess m (touch_register o op value m)
  register-keeps None op value = no_access m
  register-keeps (Some place) op value = device-keeps (slice_get m.devices place.0) place.0 op place.1 value refl

  touch-keeps : (op : Op) (address value : ℕ) → KeepsAccess m (touch op address value m)
  unfolding touch
  touch-keeps op address value = register-keeps (register_at address) op value

  access-keeps : (op : Op) (width : Width) (address value : ℕ) → KeepsAccess m (access_device op width address value m)
  access-keeps op Double address value = touch-keeps op address value
  access-keeps op _ address value = no_access m

  -- ---- a load and a store
  read_ram-keeps : (o : Option ℕ) (device : Option Accessed) → KeepsAccess m device → KeepsAccess m (read_ram o device m)
  read_ram-keeps None device kept = kept
  read_ram-keeps (Some number) device kept = some_access m _ (keeps m)

  pub read-keeps : (address : ℕ) (width : Width) → KeepsAccess m (read address width m)
  read-keeps address width = read_ram-keeps (read_at m.ram address width) _ (access-keeps Fetch width address 0)

  write_ram-keeps : (o : Option (List ℕ)) (device : Option Accessed) → ((ram : List ℕ) → o ≡ Some ram → length ram ≡ length m.ram) → KeepsAccess m device → KeepsAccess m (write_ram o device m)
  write_ram-keeps None device size kept = kept
  write_ram-keeps (Some ram) device size kept = some_access m _ (record { ram = size ram refl; devices = λ are. are })

  pub write-keeps : (address : ℕ) (width : Width) (value : ℕ) → KeepsAccess m (write address width value m)
  write-keeps address width value =
      write_ram-keeps (write_at m.ram address width value) _ (λ ram e. length-write_at m.ram address width value ram e) (access-keeps Put width address value)

-- ---- a tick
ticked_of : (o : Option Attached) (device : Attached) → option_map tick_device o ≡ Some device → ((old : Attached) → o ≡ Some old → IsDevice old) → IsDevice device
ticked_of None device e are = cc
ticked_of (Some old) device e are = let same : tick_device old ≡ device = cc in rw (← same) (stay-ticked old.kind old.words (are old refl))

pub devices-ticked : (devices : List Attached) → AreDevices devices → AreDevices (map tick_device devices)
devices-ticked devices are = record {
  few = rw (length-map devices tick_device) are.few;
  each = λ i device e. ticked_of (slice_get devices i) device (sym (slice_get-map tick_device devices i) ∙ e) (are.each i);
}
