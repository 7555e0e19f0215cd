-- What an instruction's access does to memory.
use Rattle.std.proofs.Common.{◌≡◌, ℕ, List, ◌∷◌, [], zero, suc, Option, Some, None, refl, ap, sym}
use Rattle.std.specs.Prelude.{slice_get}
use Rattle.evm_dev.specs.Rows.{touched}
use Rattle.evm_dev.specs.Touched.{Touched}
use Rattle.evm_dev.specs.declared.touch.Op.{Op}
use Rattle.evm_dev.specs.declared.touch.Op.TheVariants.{Fetch, Put}
use Rattle.evm_isa.specs.declared.inst.LoadOp.{LoadOp}
use Rattle.evm_exec.specs.Memory.{width_of_load}
use Rattle.evm_exec.specs.declared.outcome.Effect.{Effect}
use Rattle.evm_exec.specs.declared.outcome.Effect.TheVariants.{Load, Store}
use Rattle.evm_ram.specs.Ram.{read_at, write_at}
use Rattle.evm_ram.specs.declared.width.Width.{Width}
use Rattle.evm_ram.specs.declared.width.Width.TheVariants.{Double}
use Rattle.evm_model.specs.Devices.{Attached, Accessed, line_if, register_at, answered_by, touch_device, touch_register, touch, with_words}
use Rattle.evm_model.specs.Lists.{change, change_some}
use Rattle.evm_model.specs.Memory.{access_device, read_ram, write_ram}
use Rattle.evm_model.specs.State.{Memory}
use Rattle.law_rules.specs.Raising.{access_of, line_of}
use Rattle.law_runs.specs.Touching.{Accesses, loads, stores}
use Rattle.law_runs.specs.Kept.{kinds}

-- ---- kinds
kinds_some : (words : List ℕ) (o : Option Attached) (devices : List Attached) (i : ℕ) → slice_get devices i ≡ o
    → kinds (change_some o (λ device. record device { words = words }) devices i) ≡ kinds devices
kinds_some words None devices i e = refl
kinds_some words (Some device) [] i e = cc
kinds_some words (Some device) (first ∷ devices) zero e = let same : first ≡ device = cc in ap (λ (x : Attached). x.kind ∷ kinds devices) (sym same)
kinds_some words (Some device) (first ∷ devices) (suc i) e = ap (λ ks. first.kind ∷ ks) (kinds_some words (Some device) devices i e)

pub kinds_stay : (words : List ℕ) (devices : List Attached) (i : ℕ) → kinds (change (λ device. record device { words = words }) devices i) ≡ kinds devices
kinds_stay words devices i = kinds_some words (slice_get devices i) devices i refl

-- ---- a touch
-- a register was touched, and its device answered
pub record IsTouch (op : Op) (address value : ℕ) (old : Memory) (access : Accessed) : Type 0 where
  pub device : ℕ
  pub register : ℕ
  pub attached : Attached
  pub after : Touched
  pub number : ℕ
  pub place : register_at address ≡ Some (device, register)
  pub there : slice_get old.devices device ≡ Some attached
  pub row : after ≡ touched attached.kind op register value attached.words
  pub answers : after.touch.answer ≡ Some number
  pub memory : access.memory ≡ with_words device after.words old
  pub raises : access.line ≡ line_if after.touch.raise device

module _ (op : Op) (address value : ℕ) (m : Memory) (access : Accessed) where
  by_answer : (o : Option ℕ) (i r : ℕ) (attached : Attached) → register_at address ≡ Some (i, r) → slice_get m.devices i ≡ Some attached → (touched attached.kind op r value attached.words).touch.answer ≡ o
      → answered_by o i (touched attached.kind op r value attached.words) m ≡ Some access → IsTouch op address value m access
  by_answer None i r attached place there answers e = cc
  by_answer (Some number) i r attached place there answers e =
      let after : Touched = touched attached.kind op r value attached.words in
      let same : record { number = number; memory = with_words i after.words m; line = line_if after.touch.raise i } ≡ access = cc in
      record {
        device = i;
        register = r;
        attached = attached;
        after = after;
        number = number;
        place = place;
        there = there;
        row = refl;
        answers = answers;
        memory = ap (λ (x : Accessed). x.memory) (sym same);
        raises = ap (λ (x : Accessed). x.line) (sym same);
      }

  by_device : (o : Option Attached) (i r : ℕ) → register_at address ≡ Some (i, r) → slice_get m.devices i ≡ o → touch_device o i op r value m ≡ Some access → IsTouch op address value m access
  by_device None i r place there e = cc
  by_device (Some attached) i r place there e = by_answer _ i r attached place there refl e

  by_place : (o : Option (ℕ × ℕ)) → register_at address ≡ o → touch_register o op value m ≡ Some access → IsTouch op address value m access
  by_place None place e = cc
  by_place (Some p) place e = by_device (slice_get m.devices p.0) p.0 p.1 place refl e

  touch_is : touch op address value m ≡ Some access → IsTouch op address value m access
  unfolding touch
  touch_is e = by_place (register_at address) refl e

-- ---- what an effect does to memory
-- .. and the line that is raised by it
pub data Reaches (effect : Effect) (old : Memory) : Option ℕ → Memory → Type 0 where
  rests : Reaches effect old None old
  writes : (width : Width) (address value : ℕ) (ram : List ℕ) → effect ≡ Store width address value → write_at old.ram address width value ≡ Some ram → Reaches effect old None (record old { ram = ram })
  touches : (op : Op) (address value : ℕ) (access : Accessed) → Accesses address effect op value → IsTouch op address value old access → Reaches effect old access.line access.memory

-- memory after an access, if there was one
abbrev pub memory_after : Option Accessed → Memory → Memory
memory_after None m = m
memory_after (Some access) m = access.memory

module _ (m : Memory) where
  load_device : (op : LoadOp) (rd address : ℕ) (width : Width) (o : Option Accessed) → width_of_load op ≡ width → access_device Fetch width address 0 m ≡ o → Reaches (Load op rd address) m (line_of o) (memory_after o m)
  load_device op rd address width None wide e = rests
  load_device op rd address Double (Some access) wide e = touches Fetch address 0 access (loads op rd wide) (touch_is Fetch address 0 m access e)
  load_device op rd address _ (Some access) wide e = cc

  load_ram : (op : LoadOp) (rd address : ℕ) (o : Option ℕ) → Reaches (Load op rd address) m (line_of (read_ram o (access_device Fetch (width_of_load op) address 0 m) m)) (memory_after (read_ram o (access_device Fetch (width_of_load op) address 0 m) m) m)
  load_ram op rd address None = load_device op rd address (width_of_load op) (access_device Fetch (width_of_load op) address 0 m) refl refl
  load_ram op rd address (Some number) = rests

  store_device : (width : Width) (address value : ℕ) (o : Option Accessed) → access_device Put width address value m ≡ o → Reaches (Store width address value) m (line_of o) (memory_after o m)
  store_device width address value None e = rests
  store_device Double address value (Some access) e = touches Put address value access (stores value) (touch_is Put address value m access e)
  store_device _ address value (Some access) e = cc

  store_ram : (width : Width) (address value : ℕ) (o : Option (List ℕ)) → write_at m.ram address width value ≡ o
      → Reaches (Store width address value) m (line_of (write_ram o (access_device Put width address value m) m)) (memory_after (write_ram o (access_device Put width address value m) m) m)
  store_ram width address value None e = store_device width address value (access_device Put width address value m) refl
  store_ram width address value (Some ram) e = writes width address value ram refl e

  pub reaches : (effect : Effect) → Reaches effect m (line_of (access_of effect m)) (memory_after (access_of effect m) m)
  reaches (Load op rd address) = load_ram op rd address (read_at m.ram address (width_of_load op))
  reaches (Store width address value) = store_ram width address value (write_at m.ram address width value) refl
  reaches _ = rests
