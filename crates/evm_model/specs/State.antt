-- What a machine is: one field for each owner, and how a change of one owner is lifted.
use Rattle.std.specs.Prelude.{ℕ, List, [], ◌∷◌, Option, Some, None, slice_set, replicate, false}
use Rattle.evm_dev.specs.Attached.{Attached}
use Rattle.evm_exec.specs.declared.hart.Hart.{Hart}
use Rattle.evm_model.specs.Harts.{first_hart}
use Rattle.evm_model.specs.Lists.{change}
use Rattle.evm_model.specs.Pipes.{Pipe, idle_pipe}
use Rattle.evm_lines.specs.declared.TheConstants.{LINES}
use Rattle.evm_model.specs.declared.action.Action.{Action}
use Rattle.evm_model.specs.declared.action.Action.TheVariants.{Nothing}
use Rattle.evm_model.specs.declared.boot.Boot.{Boot}
use Rattle.evm_model.specs.declared.limits.TheConstants.{PROFILE_LIMIT}
use Rattle.evm_model.specs.Event.{Event}
use Rattle.evm_model.specs.declared.mutex.Mutex.{Mutex}
use Rattle.evm_model.specs.declared.notice.Notice.{Notice}
use Rattle.evm_model.specs.declared.processor.Processor.{Processor}
use Rattle.evm_model.specs.declared.profile.Profile.{Profile}
use Rattle.evm_model.specs.declared.task.Task.{Task}
use Rattle.evm_model.specs.declared.mode.Mode.{Mode}
use Rattle.evm_model.specs.declared.task.Class.TheVariants.{Unattached}
use Rattle.evm_model.specs.declared.task.TaskState.TheVariants.{InReady}
use Rattle.evm_model.specs.declared.timer.Timer.{Timer}

-- the notices: the last ones, the oldest first, and how many there were
pub record Notices : Type 0 where
  pub kept : List Notice
  pub total : ℕ

-- what calls may change
pub record Parts : Type 0 where
  -- what never changes
  pub profile : Profile
  -- how many ticks there were
  pub ticks : ℕ
  -- the registers and pc of task t are the t-th
  pub harts : List Hart
  -- what the scheduler knows of task t is the t-th
  pub tasks : List Task
  -- what processor c runs is the c-th
  pub processors : List Processor
  -- the interrupts of processor c are the c-th
  pub pipes : List Pipe
  -- for how many ticks in a row the watchdog has found the out-of-band task of processor c current is the c-th
  pub watches : List ℕ
  -- the stamp that is given next
  pub stamps : ℕ
  -- mutex m is the m-th
  pub mutexes : List Mutex
  -- the count of semaphore s is the s-th
  pub semaphores : List ℕ
  -- event e has the mutex of the tasks that wait for it: the one that was named last
  pub events : List (Option ℕ)
  -- the word of flag group f is the f-th
  pub flags : List ℕ
  -- timer n is the n-th
  pub timers : List Timer
  -- the action of line l is the l-th
  pub actions : List Action
  -- what was put to the console, the last bytes of it
  pub console : List ℕ
  pub notices : Notices

-- where loads and stores go
pub record Memory : Type 0 where
  -- the bytes of RAM; the first stands at 0x80000000
  pub ram : List ℕ
  -- device i is the i-th
  pub devices : List Attached

-- what events change
pub record Board : Type 0 where
  pub memory : Memory
  -- the addresses at which a processor stops
  pub breakpoints : List ℕ
  pub parts : Parts

pub record State : Type 0 where
  pub boot : Boot
  -- the accepted events, the oldest first
  pub journal : List Event
  pub board : Board

abbrev pub on_hart : ℕ → (Hart → Hart) → Parts → Parts
on_hart t f p = record p { harts = change f p.harts t }

abbrev pub on_task : ℕ → (Task → Task) → Parts → Parts
on_task t f p = record p { tasks = change f p.tasks t }

abbrev pub on_processor : ℕ → (Processor → Processor) → Parts → Parts
on_processor c f p = record p { processors = change f p.processors c }

abbrev pub on_pipe : ℕ → (Pipe → Pipe) → Parts → Parts
on_pipe c f p = record p { pipes = change f p.pipes c }

abbrev pub on_mutex : ℕ → (Mutex → Mutex) → Parts → Parts
on_mutex m f p = record p { mutexes = change f p.mutexes m }

abbrev pub on_watch : ℕ → (ℕ → ℕ) → Parts → Parts
on_watch c f p = record p { watches = change f p.watches c }

abbrev pub on_semaphore : ℕ → (ℕ → ℕ) → Parts → Parts
on_semaphore s f p = record p { semaphores = change f p.semaphores s }

abbrev pub on_event : ℕ → (Option ℕ → Option ℕ) → Parts → Parts
on_event e f p = record p { events = change f p.events e }

abbrev pub on_flags : ℕ → (ℕ → ℕ) → Parts → Parts
on_flags g f p = record p { flags = change f p.flags g }

abbrev pub on_timer : ℕ → (Timer → Timer) → Parts → Parts
on_timer n f p = record p { timers = change f p.timers n }

abbrev pub on_action : ℕ → (Action → Action) → Parts → Parts
on_action l f p = record p { actions = change f p.actions l }

abbrev pub on_parts : (Parts → Parts) → Board → Board
on_parts f b = record b { parts = f b.parts }

abbrev pub on_memory : (Memory → Memory) → Board → Board
on_memory f b = record b { memory = f b.memory }

-- ---- the machine at boot
-- a processor with its current task
abbrev pub first_processor : Option ℕ → Processor
first_processor task = record { current = task; in_band_task = task; stopped = false; skip = false }

abbrev pub no_mode : Mode
no_mode = record { bits = 0 }

-- an unattached in-band task of a processor, with this stamp
abbrev pub new_task : ℕ → ℕ → Task
new_task cpu stamp = record { cpu = cpu; class = Unattached; priority = 0; slice = 0; mode = no_mode; stamp = stamp; deadline = 0; state = InReady }

abbrev pub first_task : Task
first_task = new_task 0 0

abbrev pub no_notices : Notices
no_notices = record { kept = []; total = 0 }

-- a boot of the newest profile, without a watchdog
abbrev pub newest : ℕ → ℕ → ℕ → Boot
newest cpus ram capacity = record { profile = PROFILE_LIMIT; watchdog = 0; cpus = cpus; ram = ram; capacity = capacity }

abbrev pub profile_of : Boot → Profile
profile_of boot = record { ram = boot.ram; version = boot.profile; watchdog = boot.watchdog }

-- task 0 is current on processor 0
unfoldable pub booted_parts : Boot → Parts
booted_parts boot = record {
  profile = profile_of boot;
  ticks = 0;
  harts = first_hart boot.ram ∷ [];
  tasks = first_task ∷ [];
  processors = slice_set (replicate boot.cpus (first_processor None)) 0 (first_processor (Some 0));
  pipes = replicate boot.cpus idle_pipe;
  watches = replicate boot.cpus 0;
  stamps = 1;
  mutexes = [];
  semaphores = [];
  events = [];
  flags = [];
  timers = [];
  actions = replicate LINES Nothing;
  console = [];
  notices = no_notices;
}

-- RAM is zero, and the devices are these
unfoldable pub booted : List Attached → Boot → Board
booted devices boot = record { memory = record { ram = replicate boot.ram 0; devices = devices }; breakpoints = []; parts = booted_parts boot }
