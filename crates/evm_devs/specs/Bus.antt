-- What a touch and a tick of one device make of a list of devices.
use Rattle.std.specs.Prelude.{◌≡◌, ◌≤◌, ℕ, Bool, false, List, Option, Some, None, map, slice_get}
use Rattle.evm_dev.specs.Attached.{Attached}
use Rattle.evm_dev.specs.Rows.{touched, ticked}
use Rattle.evm_dev.specs.Touched.{no_answer, unmoved}
use Rattle.evm_dev.specs.declared.kind.Kind.{Kind}
use Rattle.evm_dev.specs.declared.touch.Op.{Op}
use Rattle.evm_dev.specs.declared.touch.Touch.{Touch}
use Rattle.evm_model.specs.Lists.{change}

-- the kinds of devices
abbrev pub kinds_of : List Attached → List Kind
kinds_of devices = map (λ device. device.kind) devices

-- device i has these words, and others have what they had
abbrev pub bus_with_words : ℕ → List ℕ → List Attached → List Attached
bus_with_words i words devices = change (λ device. record device { words = words }) devices i

abbrev pub touch_bus_device : Option Attached → ℕ → Op → ℕ → ℕ → List Attached → List Attached × Touch
touch_bus_device None i op register value devices = (devices, no_answer)
touch_bus_device (Some device) i op register value devices =
    (bus_with_words i (touched device.kind op register value device.words).words devices, (touched device.kind op register value device.words).touch)

-- device i is touched; if there is none, nothing answers
abbrev pub touch_bus : ℕ → Op → ℕ → ℕ → List Attached → List Attached × Touch
touch_bus i op register value devices = touch_bus_device (slice_get devices i) i op register value devices

abbrev pub tick_bus_device : Option Attached → ℕ → List Attached → List Attached × Bool
tick_bus_device None i devices = (devices, false)
tick_bus_device (Some device) i devices = (bus_with_words i (ticked device.kind device.words).words devices, (ticked device.kind device.words).raise)

-- device i ticks, if there is one: whether it raises
abbrev pub tick_bus : ℕ → List Attached → List Attached × Bool
tick_bus i devices = tick_bus_device (slice_get devices i) i devices

-- a tick neither changes the device nor raises its line
abbrev pub IsIdle : Attached → Type 0
IsIdle device = ticked device.kind device.words ≡ unmoved device.words

-- each device from number n on is idle
abbrev pub AreIdleFrom : ℕ → List Attached → Type 0
AreIdleFrom n devices = (i : ℕ) (device : Attached) → n ≤ i → slice_get devices i ≡ Some device → IsIdle device

abbrev pub word_of_device : Option Attached → ℕ → Option ℕ
word_of_device None k = None
word_of_device (Some device) k = slice_get device.words k

-- word k of device i
abbrev pub bus_word : ℕ → ℕ → List Attached → Option ℕ
bus_word i k devices = word_of_device (slice_get devices i) k
