-- What is compared of two machines.
use Rattle.std.specs.Prelude.{◌≡◌, ℕ, ◌<◌, length, slice_get}
use Rattle.evm_core.specs.Views.{counts_at, device_word, stages_at}
use Rattle.evm_lines.specs.declared.TheConstants.{LINES}
use Rattle.evm_model.specs.Actions.{action_in}
use Rattle.evm_model.specs.Events.{bound_of}
use Rattle.evm_model.specs.State.{Memory, Parts}
use Rattle.evm_model.specs.Watch.{watch}

-- the same is at place i of the lists of tasks and processors
pub record AreSameRunners (i : ℕ) (a b : Parts) : Type 0 where
  pub harts : slice_get a.harts i ≡ slice_get b.harts i
  pub tasks : slice_get a.tasks i ≡ slice_get b.tasks i
  pub processors : slice_get a.processors i ≡ slice_get b.processors i
  pub watches : watch i a ≡ watch i b

-- the same is at place i of the lists of kernel objects
pub record AreSameObjects (i : ℕ) (a b : Parts) : Type 0 where
  pub mutexes : slice_get a.mutexes i ≡ slice_get b.mutexes i
  pub semaphores : slice_get a.semaphores i ≡ slice_get b.semaphores i
  pub events : bound_of (slice_get a.events i) ≡ bound_of (slice_get b.events i)
  pub flags : slice_get a.flags i ≡ slice_get b.flags i
  pub timers : slice_get a.timers i ≡ slice_get b.timers i

-- processor i has the same interrupts, and line i the same action
pub record AreSameLines (i : ℕ) (a b : Parts) : Type 0 where
  pub stages : stages_at i a ≡ stages_at i b
  pub counts : (l : ℕ) → l < LINES → counts_at i l a ≡ counts_at i l b
  pub actions : action_in a.actions i ≡ action_in b.actions i

-- the same is at place i of each list
pub record AreSameAt (i : ℕ) (a b : Parts) : Type 0 where
  pub runners : AreSameRunners i a b
  pub objects : AreSameObjects i a b
  pub lines : AreSameLines i a b
  pub notices : slice_get a.notices.kept i ≡ slice_get b.notices.kept i

-- what is in no list of these is the same
pub record AreSameBeside (a b : Parts) : Type 0 where
  pub ticks : a.ticks ≡ b.ticks
  pub stamps : a.stamps ≡ b.stamps
  pub events : length a.events ≡ length b.events
  pub total : a.notices.total ≡ b.notices.total
  pub console : a.console ≡ b.console

-- memory has the same bytes and as many devices, and each of these the same words
pub record AreSameMemories (a b : Memory) : Type 0 where
  pub ram : a.ram ≡ b.ram
  pub count : length a.devices ≡ length b.devices
  pub words : (i k : ℕ) → i < length a.devices → device_word i k a.devices ≡ device_word i k b.devices
