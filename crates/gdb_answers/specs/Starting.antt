-- How GDB starts and ends the program.
use Rattle.std.specs.Prelude.{ℕ, ◌-◌, ◌/◌, ◌%◌, ◌==◌, Bool, true, false, not, ◌&&◌, List, [], Option, Some, None, codes, length, nat_le, nat_lt, if◌then◌else◌}
use Rattle.std.specs.List.{list_all}
use Rattle.evm_model.specs.State.{State}
use Rattle.evm_ram.specs.Ram.{is_inside}
use Rattle.gdb_packets.specs.Commands.{command_at}
use Rattle.gdb_packets.specs.Hexadecimal.{is_hexadecimal}
use Rattle.gdb_packets.specs.declared.command.Command.{Command}
use Rattle.gdb_packets.specs.declared.command.Command.TheVariants as commands
use Rattle.gdb_packets.specs.declared.item.PacketItem.{PacketItem}
use Rattle.gdb_packets.specs.declared.item.PacketItem.TheVariants.{Packet}
use Rattle.gdb_tape.specs.gdb_driving.Shown.{error_text, halt_text}
use Rattle.gdb_tape.specs.gdb_driving.declared.stops.TargetHalt.{TargetHalt}
use Rattle.gdb_answers.specs.declared.session.Booting.{Booting}
use Rattle.gdb_answers.specs.declared.session.Booting.TheVariants.{Idle, Asked, Done, Failed}

-- `count` bytes from an address on are those of a program that is loaded: more than a word, over the entry
abbrev pub loads_program : ℕ → ℕ → ℕ → Bool
loads_program entry address count = nat_lt 8 count && nat_le address entry && nat_lt (entry - address) count

-- the machine boots anew before a command is answered
abbrev pub asks_boot : Bool → ℕ → Command → Bool
asks_boot extended entry (commands.Run is_default) = extended && is_default
asks_boot extended entry commands.Restart = extended
asks_boot extended entry commands.Kill = extended
asks_boot extended entry commands.KillProcess = extended
asks_boot extended entry (commands.WriteDigits address count) = loads_program entry address count
asks_boot extended entry (commands.WriteBytes address count) = loads_program entry address count
asks_boot extended entry _ = false

-- the digits of `count` bytes
abbrev pub are_digits : ℕ → List ℕ → Bool
are_digits count digits = (length digits % 2 == 0) && (length digits / 2 == count) && list_all is_hexadecimal digits

-- a write has as many bytes as it says, and each is in RAM; another command has nothing to write
abbrev pub writes_whole : List ℕ → State → Command → Bool
writes_whole behind s (commands.WriteDigits address count) = are_digits count behind && is_inside s.board.memory.ram address count
writes_whole behind s (commands.WriteBytes address count) = (length behind == count) && is_inside s.board.memory.ram address count
writes_whole behind s _ = true

abbrev pub said_boots : Bool → ℕ → State → Option (Command × List ℕ) → Bool
said_boots extended entry s None = false
said_boots extended entry s (Some said) = asks_boot extended entry said.0 && writes_whole said.1 s said.0

-- a payload asks that the machine boots anew
abbrev pub payload_boots : Bool → ℕ → List ℕ → State → Bool
payload_boots extended entry payload s = said_boots extended entry s (command_at payload)

-- no boot was tried for the packet
abbrev pub may_boot : Booting → Bool
may_boot Idle = true
may_boot Asked = true
may_boot Done = false
may_boot Failed = false

-- a packet that asks for a boot waits for it, and is answered behind it
abbrev pub waits_for_boot : Booting → PacketItem → Bool → Bool
waits_for_boot booting Packet asks = may_boot booting && asks
waits_for_boot booting _ asks = false

-- GDB waits for an answer: to k for none, and to R for none where it may start the program
abbrev pub has_reply : Bool → Command → Bool
has_reply extended commands.Kill = false
has_reply extended commands.Restart = not extended
has_reply extended _ = true

-- the answer to a program that is started, behind a boot
abbrev pub booted_text : Booting → TargetHalt → List ℕ
booted_text Idle halt = error_text 22
booted_text Asked halt = error_text 22
booted_text Done halt = halt_text halt
booted_text Failed halt = error_text 22

abbrev pub begin_text : Bool → Bool → Booting → TargetHalt → List ℕ
begin_text false is_default booting halt = []
begin_text true false booting halt = error_text 22
begin_text true true booting halt = booted_text booting halt

abbrev pub starting_text : Bool → Booting → TargetHalt → Command → Option (List ℕ)
starting_text extended booting halt commands.Extended = Some (codes "OK")
starting_text extended booting halt commands.KillProcess = Some (codes "OK")
starting_text extended booting halt commands.Restart = Some []
starting_text extended booting halt (commands.Run is_default) = Some (begin_text extended is_default booting halt)
starting_text extended booting halt _ = None
