-- What a packet asks of the machine: the events that are made, and their answer.
use Rattle.std.specs.Prelude.{◌≡◌, ℕ, Bool, true, false, List, ◌++◌, Option, Some, None, Result, Ok, Err, length, if◌then◌else◌, ◌==◌}
use Rattle.evm_text.specs.Reading.{◌>>=◌}
use Rattle.evm_model.specs.Event.{Event}
use Rattle.evm_model.specs.State.{State}
use Rattle.evm_model.specs.declared.refusal.Refusal.{Refusal}
use Rattle.evm_model.specs.declared.refusal.Refusal.TheVariants.{BadAddress}
use Rattle.gdb_packets.specs.Commands.{command_at}
use Rattle.gdb_packets.specs.declared.command.Command.{Command}
use Rattle.gdb_packets.specs.declared.command.Command.TheVariants as commands
use Rattle.gdb_tape.specs.gdb_driving.Setting.{MakesAsked, registers_setting}
use Rattle.gdb_tape.specs.gdb_driving.Points.{IsSetTo, with_break, with_watch, without_break, without_watch}
use Rattle.gdb_tape.specs.gdb_driving.declared.points.Points.{Points}
use Rattle.gdb_tape.specs.gdb_driving.Shown.{outcome_text}
use Rattle.gdb_tape.specs.gdb_driving.Writing.{writing}
use Rattle.gdb_packets.specs.Framing.{framed}
use Rattle.gdb_packets.specs.Hexadecimal.{bytes_of_digits}
use Rattle.gdb_answers.specs.Setting.{register_write}

-- bytes are written where there are as many as was said
abbrev pub counted_writing : ℕ → ℕ → List ℕ → State → Result (List Event) Refusal
counted_writing address count bytes s = if length bytes == count then writing address bytes s else Err BadAddress

-- the events that a command with these bytes asks for, where task `looked` is looked at
abbrev pub asked_by : ℕ → List ℕ → State → Command → Option (Result (List Event) Refusal)
asked_by looked bytes s commands.SetRegisters = Some (registers_setting looked bytes s.board.parts)
asked_by looked bytes s (commands.SetRegister r) = Some (register_write looked r bytes s.board.parts)
asked_by looked bytes s (commands.WriteDigits address count) = Some (counted_writing address count bytes s)
asked_by looked bytes s (commands.WriteBytes address count) = Some (counted_writing address count bytes s)
asked_by looked bytes s _ = None

-- the commands behind which digits stand
abbrev pub has_digits : Command → Bool
has_digits commands.SetRegisters = true
has_digits (commands.SetRegister r) = true
has_digits (commands.WriteDigits address count) = true
has_digits commands.Monitor = true
has_digits _ = false

-- the breakpoints and watchpoints that a command asks for
abbrev pub points_asked : State → Points → Command → Option (Result Points Refusal)
points_asked s points (commands.Insert kind address) = Some (with_break kind address s.board points)
points_asked s points (commands.Remove kind address) = Some (without_break kind address points)
points_asked s points (commands.Watch kind address count) = Some (with_watch (record { kind = kind; address = address; count = count }) s.board.memory.ram points)
points_asked s points (commands.Unwatch kind address count) = Some (without_watch (record { kind = kind; address = address; count = count }) points)
points_asked s points _ = None

-- the events that a command asks for, with what is behind it: X has bytes there, and the others digits. None where these are no digits
abbrev pub asked : ℕ → List ℕ → State → Command → Option (Result (List Event) Refusal)
asked looked behind s commands.SetRegisters = bytes_of_digits behind >>= λ bytes. asked_by looked bytes s commands.SetRegisters
asked looked behind s (commands.SetRegister r) = bytes_of_digits behind >>= λ bytes. asked_by looked bytes s (commands.SetRegister r)
asked looked behind s (commands.WriteDigits address count) = bytes_of_digits behind >>= λ bytes. asked_by looked bytes s (commands.WriteDigits address count)
asked looked behind s (commands.WriteBytes address count) = asked_by looked behind s (commands.WriteBytes address count)
asked looked behind s _ = None

-- the events that a payload asks for
abbrev pub payload_asked : ℕ → List ℕ → State → Option (Result (List Event) Refusal)
payload_asked looked payload s = command_at payload >>= λ said. asked looked said.1 s said.0

-- the breakpoints and watchpoints that a payload asks for
abbrev pub payload_points : List ℕ → State → Points → Option (Result Points Refusal)
payload_points payload s points = command_at payload >>= λ said. points_asked s points said.0

-- the packet that says how events ended
abbrev pub reply : Result (Unit {0}) Refusal → List ℕ
reply outcome = framed (outcome_text outcome)

-- the events that are asked for are made, up to the first that is refused, and the answer says how they ended
pub record IsCarriedOut (text : Result (Unit {0}) Refusal → List ℕ) (events : Result (List Event) Refusal) (old new : State) (before after : List ℕ) : Type 0 where
  pub outcome : Result (Unit {0}) Refusal
  pub made : MakesAsked events outcome old new
  pub told : after ≡ before ++ text outcome

-- breakpoints and watchpoints become those that are asked for, and the answer says whether they did
pub record ArePointsSet (text : Result (Unit {0}) Refusal → List ℕ) (asked : Result Points Refusal) (old new : Points) (before after : List ℕ) : Type 0 where
  pub outcome : Result (Unit {0}) Refusal
  pub becomes : IsSetTo asked outcome old new
  pub told : after ≡ before ++ text outcome
