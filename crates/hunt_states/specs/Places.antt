-- What is compared of two machines, without the clock and what no event reads.
use Rattle.std.specs.Prelude.{◌≡◌, ℕ, length, option_map, slice_get}
use Rattle.evm_core.specs.Views.{stages_at}
use Rattle.evm_model.specs.Actions.{action_in}
use Rattle.evm_model.specs.State.{Parts}
use Rattle.evm_model.specs.Watch.{watch}
use Rattle.evm_model.specs.declared.boot.Boot.{Boot}
use Rattle.hunt_states.specs.Same.{AreSameObjects}
use Rattle.law_runs.specs.Alike.{unstamped}
use Rattle.law_runs.specs.Timeless.{undated}

-- boots that differ in how many events the journal takes
pub record AreAlikeBoots (a b : Boot) : Type 0 where
  pub profile : a.profile ≡ b.profile
  pub watchdog : a.watchdog ≡ b.watchdog
  pub cpus : a.cpus ≡ b.cpus
  pub ram : a.ram ≡ b.ram

-- the same is at place i of the lists of tasks and processors, without stamps
pub record AreAlikeRunners (i : ℕ) (a b : Parts) : Type 0 where
  pub harts : slice_get a.harts i ≡ slice_get b.harts i
  pub tasks : option_map unstamped (slice_get a.tasks i) ≡ option_map unstamped (slice_get b.tasks i)
  pub processors : slice_get a.processors i ≡ slice_get b.processors i
  pub watches : watch i a ≡ watch i b

-- processor i has the same interrupts, without counts, and line i the same action
pub record AreAlikeLines (i : ℕ) (a b : Parts) : Type 0 where
  pub stages : stages_at i a ≡ stages_at i b
  pub actions : action_in a.actions i ≡ action_in b.actions i

-- the same is at place i of each list, without stamps, counts and the ticks of notices
pub record AreAlikeAt (i : ℕ) (a b : Parts) : Type 0 where
  pub runners : AreAlikeRunners i a b
  pub objects : AreSameObjects i a b
  pub lines : AreAlikeLines i a b
  pub notices : option_map undated (slice_get a.notices.kept i) ≡ option_map undated (slice_get b.notices.kept i)

-- as many events and notices were made
pub record AreAlikeBeside (a b : Parts) : Type 0 where
  pub events : length a.events ≡ length b.events
  pub total : a.notices.total ≡ b.notices.total
