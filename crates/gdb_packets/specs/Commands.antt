-- What a packet asks for, read from the front of its payload.
use Rattle.std.specs.Prelude.{ℕ, ◌-◌, Bool, true, false, not, ◌==◌, List, [], ◌∷◌, length, Option, Some, None, codes, nat_lt, if◌then◌else◌}
use Rattle.evm_text.specs.Reading.{◌>>=◌, hexadecimal_at, after_word}
use Rattle.evm_text.specs.Fields.{hexadecimal_last}
use Rattle.evm_text.specs.Rows.{keyword}
use Rattle.gdb_packets.specs.declared.command.BreakKind.{BreakKind}
use Rattle.gdb_packets.specs.declared.command.BreakKind.TheVariants.{Software, Hardware}
use Rattle.gdb_packets.specs.declared.command.WatchKind.{WatchKind}
use Rattle.gdb_packets.specs.declared.command.WatchKind.TheVariants.{Write, Read, Access}
use Rattle.gdb_packets.specs.declared.command.Pace.{Pace}
use Rattle.gdb_packets.specs.declared.command.Pace.TheVariants.{Step, Continue}
use Rattle.gdb_packets.specs.declared.command.Command.{Command}
use Rattle.gdb_packets.specs.declared.command.Command.TheVariants.{Why, Registers, SetRegisters, Register, SetRegister, Memory, WriteDigits, WriteBytes, Insert, Remove, Watch, Unwatch, Resume, ResumeThread, Reverse, SelectThread, Choose, IsThread, Looked, Threads, MoreThreads, ThreadText, Supported, Attached, Description, MemoryMap, Monitor, NoAcknowledgements, Actions, Detach, Kill, KillProcess, Extended, Run, Restart}

-- ---- parts

-- a hexadecimal number, and a mark behind it
unfoldable pub number_to : List ℕ → List ℕ → Option (ℕ × List ℕ)
number_to mark bytes = do
  number ← hexadecimal_at bytes
  rest ← after_word mark number.1
  Some (number.0, rest)

-- thread 0 is any, and thread t + 1 is that of task t
abbrev pub thread_of : ℕ → Option (Option ℕ)
thread_of n = if n == 0 then Some None else (if nat_lt n 256 then Some (Some (n - 1)) else None)

unfoldable pub numbered_thread : List ℕ → Option (Option ℕ × List ℕ)
numbered_thread bytes = do
  number ← hexadecimal_at bytes
  thread ← thread_of number.0
  Some (thread, number.1)

-- so is -1
unfoldable pub thread_at : List ℕ → Option (Option ℕ × List ℕ)
thread_at bytes = keyword (after_word (codes "-1") bytes) (λ rest. Some (None, rest)) (numbered_thread bytes)

unfoldable pub thread_last : List ℕ → Option (Option ℕ)
thread_last bytes = do
  thread ← thread_at bytes
  if length thread.1 == 0 then Some thread.0 else None

-- ADDRESS,COUNT
unfoldable pub span_at : List ℕ → Option ((ℕ × ℕ) × List ℕ)
span_at bytes = do
  address ← number_to (codes ",") bytes
  count ← hexadecimal_at address.1
  Some ((address.0, count.0), count.1)

-- ADDRESS,COUNT:
unfoldable pub write_in : List ℕ → Option ((ℕ × ℕ) × List ℕ)
write_in bytes = do
  span ← span_at bytes
  rest ← after_word (codes ":") span.1
  Some (span.0, rest)

-- ---- memory and registers

unfoldable pub memory_said : List ℕ → Option Command
memory_said bytes = do
  span ← span_at bytes
  if length span.1 == 0 then Some (Memory span.0.0 span.0.1) else None

unfoldable pub digits_said : List ℕ → Option (Command × List ℕ)
digits_said bytes = do
  write ← write_in bytes
  Some (WriteDigits write.0.0 write.0.1, write.1)

unfoldable pub bytes_said : List ℕ → Option (Command × List ℕ)
bytes_said bytes = do
  write ← write_in bytes
  Some (WriteBytes write.0.0 write.0.1, write.1)

unfoldable pub register_said : List ℕ → Option (Command × List ℕ)
register_said bytes = do
  register ← number_to (codes "=") bytes
  Some (SetRegister register.0, register.1)

-- ---- breakpoints

unfoldable pub address_at : List ℕ → Option ℕ
address_at bytes = do
  address ← number_to (codes ",") bytes
  Some address.0

abbrev pub insert_said : BreakKind → List ℕ → Option Command
insert_said kind bytes = address_at bytes >>= λ address. Some (Insert kind address)

abbrev pub remove_said : BreakKind → List ℕ → Option Command
remove_said kind bytes = address_at bytes >>= λ address. Some (Remove kind address)

unfoldable pub watch_said : WatchKind → List ℕ → Option Command
watch_said kind bytes = do
  span ← span_at bytes
  if length span.1 == 0 then Some (Watch kind span.0.0 span.0.1) else None

unfoldable pub unwatch_said : WatchKind → List ℕ → Option Command
unwatch_said kind bytes = do
  span ← span_at bytes
  if length span.1 == 0 then Some (Unwatch kind span.0.0 span.0.1) else None

unfoldable pub watchpoint_at : List ℕ → Option Command
watchpoint_at bytes =
    keyword (after_word (codes "Z2,") bytes) (watch_said Write)
    (keyword (after_word (codes "Z3,") bytes) (watch_said Read)
    (keyword (after_word (codes "Z4,") bytes) (watch_said Access)
    (keyword (after_word (codes "z2,") bytes) (unwatch_said Write)
    (keyword (after_word (codes "z3,") bytes) (unwatch_said Read)
    (after_word (codes "z4,") bytes >>= λ rest. unwatch_said Access rest)))))

unfoldable pub breakpoint_at : List ℕ → Option Command
breakpoint_at bytes =
    keyword (after_word (codes "Z0,") bytes) (insert_said Software)
    (keyword (after_word (codes "Z1,") bytes) (insert_said Hardware)
    (keyword (after_word (codes "z0,") bytes) (remove_said Software)
    (keyword (after_word (codes "z1,") bytes) (remove_said Hardware)
    (watchpoint_at bytes))))

-- ---- what goes on

abbrev pub signal_behind : List ℕ → Option (List ℕ)
signal_behind [] = None
signal_behind (a ∷ []) = None
signal_behind (a ∷ b ∷ rest) = Some rest

-- s, c, or S and C with a signal, which is of no use
unfoldable pub pace_at : List ℕ → Option (Pace × List ℕ)
pace_at bytes =
    keyword (after_word (codes "s") bytes) (λ rest. Some (Step, rest))
    (keyword (after_word (codes "c") bytes) (λ rest. Some (Continue, rest))
    (keyword (after_word (codes "S") bytes) (λ rest. signal_behind rest >>= λ behind. Some (Step, behind))
    (after_word (codes "C") bytes >>= λ rest. signal_behind rest >>= λ behind. Some (Continue, behind))))

-- the end, or ; before the next action
abbrev pub is_end : List ℕ → Bool
is_end [] = true
is_end (b ∷ bytes) = b == 59

-- whether another action stands behind one
abbrev pub follows : List ℕ → Bool
follows bytes = not (length bytes == 0)

-- the thread of an action, and whether another follows: none is any
unfoldable pub acted : List ℕ → Option (Option ℕ × Bool)
acted bytes =
    if is_end bytes then Some (None, follows bytes)
    else (after_word (codes ":") bytes >>= λ rest. thread_at rest >>= λ thread. if is_end thread.1 then Some (thread.0, follows thread.1) else None)

-- the first action decides
unfoldable pub action_named : List ℕ → Option Command
action_named bytes = do
  pace ← pace_at bytes
  action ← acted pace.1
  Some (ResumeThread pace.0 action.0 action.1)

unfoldable pub resume_said : List ℕ → Option Command
resume_said bytes = do
  pace ← pace_at bytes
  if length pace.1 == 0 then Some (Resume pace.0) else None

-- ---- questions

unfoldable pub description_said : List ℕ → Option Command
description_said bytes = do
  span ← span_at bytes
  if length span.1 == 0 then Some (Description span.0.0 span.0.1) else None

unfoldable pub map_said : List ℕ → Option Command
map_said bytes = do
  span ← span_at bytes
  if length span.1 == 0 then Some (MemoryMap span.0.0 span.0.1) else None

-- nothing behind it names the program that is there, without arguments
abbrev pub run_said : List ℕ → Option Command
run_said rest = Some (Run (length rest == 0))

-- the number of a process is of no use
unfoldable pub killed_said : List ℕ → Option Command
killed_said rest = hexadecimal_last rest >>= λ process. Some KillProcess

-- nor is that of a restart, which must be there
abbrev pub restart_said : List ℕ → Option Command
restart_said rest = if length rest == 0 then None else Some Restart

unfoldable pub thread_said : List ℕ → Option Command
thread_said bytes =
    keyword (after_word (codes "Hg") bytes) (λ rest. thread_last rest >>= λ thread. Some (SelectThread thread))
    (keyword (after_word (codes "Hc") bytes) (λ rest. thread_last rest >>= λ thread. Some (Choose thread))
    (keyword (after_word (codes "T") bytes) (λ rest. thread_last rest >>= λ thread. Some (IsThread thread))
    (keyword (after_word (codes "qThreadExtraInfo,") bytes) (λ rest. thread_last rest >>= λ thread. Some (ThreadText thread))
    (breakpoint_at bytes))))

-- a command that is one word
abbrev pub bare : Command → List ℕ → Option Command
bare command rest = if length rest == 0 then Some command else None

unfoldable pub named_command : List ℕ → Option Command
named_command bytes =
    keyword (after_word (codes "?") bytes) (bare Why)
    (keyword (after_word (codes "g") bytes) (bare Registers)
    (keyword (after_word (codes "D") bytes) (bare Detach)
    (keyword (after_word (codes "k") bytes) (bare Kill)
    (keyword (after_word (codes "qC") bytes) (bare Looked)
    (keyword (after_word (codes "qfThreadInfo") bytes) (bare Threads)
    (keyword (after_word (codes "qsThreadInfo") bytes) (bare MoreThreads)
    (keyword (after_word (codes "qAttached") bytes) (bare Attached)
    (keyword (after_word (codes "QStartNoAckMode") bytes) (bare NoAcknowledgements)
    (keyword (after_word (codes "vCont?") bytes) (bare Actions)
    (keyword (after_word (codes "!") bytes) (bare Extended)
    (keyword (after_word (codes "bs") bytes) (bare (Reverse Step))
    (keyword (after_word (codes "bc") bytes) (bare (Reverse Continue))
    (thread_said bytes)))))))))))))

abbrev pub first_command : Option Command → Option Command → Option Command
first_command None other = other
first_command (Some command) other = Some command

unfoldable pub long_at : List ℕ → Option Command
long_at bytes =
    keyword (after_word (codes "qSupported") bytes) (λ rest. Some Supported)
    (keyword (after_word (codes "qXfer:features:read:target.xml:") bytes) description_said
    (keyword (after_word (codes "qXfer:memory-map:read::") bytes) map_said
    (keyword (after_word (codes "vCont;") bytes) action_named
    (keyword (after_word (codes "vRun;") bytes) run_said
    (keyword (after_word (codes "vKill;") bytes) killed_said
    (keyword (after_word (codes "R") bytes) restart_said
    (keyword (after_word (codes "p") bytes) (λ rest. hexadecimal_last rest >>= λ register. Some (Register register))
    (keyword (after_word (codes "m") bytes) memory_said
    (first_command (resume_said bytes) (named_command bytes))))))))))

-- ---- any command, and the digits or bytes behind it

abbrev pub with_nothing : Option Command → Option (Command × List ℕ)
with_nothing None = None
with_nothing (Some command) = Some (command, [])

unfoldable pub command_at : List ℕ → Option (Command × List ℕ)
command_at bytes =
    keyword (after_word (codes "G") bytes) (λ rest. Some (SetRegisters, rest))
    (keyword (after_word (codes "P") bytes) register_said
    (keyword (after_word (codes "M") bytes) digits_said
    (keyword (after_word (codes "X") bytes) bytes_said
    (keyword (after_word (codes "qRcmd,") bytes) (λ rest. Some (Monitor, rest))
    (with_nothing (long_at bytes))))))
