-- What a session writes for an item that it hears. Of what a stream takes only its own calls tell.
use Rattle.std.specs.Prelude.{◌≡◌, ℕ, Bool, true, false, List, [], ◌++◌, Option, Some, None, IfSome}
use Rattle.evm_streams.specs.Writes.{Took, TookPrefix}
use Rattle.evm_streams.specs.declared.sink.Writing.{Writing}
use Rattle.gdb_packets.specs.Commands.{command_at}
use Rattle.gdb_packets.specs.Framing.{framed}
use Rattle.gdb_packets.specs.declared.command.Command.{Command}
use Rattle.gdb_packets.specs.declared.command.Command.TheVariants as commands
use Rattle.gdb_packets.specs.declared.item.PacketItem.{PacketItem}
use Rattle.gdb_packets.specs.declared.item.PacketItem.TheVariants.{Packet, Damaged, NotAcknowledged}
use Rattle.gdb_tape.specs.Tape.{KeepsTape}
use Rattle.gdb_answers.specs.Answers.{answer_text}
use Rattle.gdb_answers.specs.Asking.{ArePointsSet, IsCarriedOut, payload_asked, payload_points, reply}
use Rattle.gdb_answers.specs.Starting.{has_reply}
use Rattle.gdb_answers.specs.Written.{Extends, HasPacket, acknowledgement}
use Rattle.gdb_answers.specs.declared.serving.Ended as ended
use Rattle.gdb_answers.specs.declared.serving.Ended.TheVariants as ends
use Rattle.gdb_answers.specs.declared.session.GdbSession.{GdbSession}

-- the words of the answer to a question
abbrev pub said_text : GdbSession → Option (Command × List ℕ) → Option (List ℕ)
said_text s None = None
said_text s (Some said) = answer_text s.looked s.halt s.tape.machine said.0

-- GDB waits for an answer
abbrev pub waits_for_reply : GdbSession → Option (Command × List ℕ) → Bool
waits_for_reply s None = true
waits_for_reply s (Some said) = has_reply s.extended said.0

-- What is written behind the acknowledgement of a payload: packets alone, and one at least where GDB waits for an answer. The answer to a
-- question, to a write and to a breakpoint is known word for word, and so is that to what is no command: the empty packet.
pub record IsAnswer (old new : GdbSession) (payload before after : List ℕ) : Type 0 where
  pub packets : Extends before after
  pub replies : waits_for_reply old (command_at payload) ≡ true → HasPacket before after
  pub said : (text : List ℕ) → said_text old (command_at payload) ≡ Some text → (new ≡ old) × (after ≡ before ++ framed text)
  pub done : IfSome (payload_asked old.looked payload old.tape.machine) (λ events. IsCarriedOut reply events old.tape.machine new.tape.machine before after)
  pub points : IfSome (payload_points payload old.tape.machine old.points) (λ outcome. ArePointsSet reply outcome old.points new.points before after)
  pub unknown : command_at payload ≡ None → (new ≡ old) × (after ≡ before ++ framed [])

-- the bytes for an item, where `last` was written last: a packet is answered behind its acknowledgement, and - asks for the last bytes again
abbrev pub IsResponse : PacketItem → List ℕ → GdbSession → GdbSession → List ℕ → List ℕ → Type 0
IsResponse Packet payload old new last bytes = IsAnswer old new payload (acknowledgement old.acknowledges Packet) bytes
IsResponse Damaged payload old new last bytes = (new ≡ old) × (bytes ≡ acknowledgement old.acknowledges Damaged)
IsResponse item payload old new last bytes = (new ≡ old) × (bytes ≡ last)

-- the items for which something is written
abbrev pub is_written_for : PacketItem → Bool
is_written_for Packet = true
is_written_for Damaged = true
is_written_for NotAcknowledged = true
is_written_for _ = false

-- a command that writes registers
abbrev pub sets_registers : Option (Command × List ℕ) → Bool
sets_registers None = false
sets_registers (Some (commands.SetRegisters, behind)) = true
sets_registers (Some (commands.SetRegister r, behind)) = true
sets_registers (Some (command, behind)) = false

abbrev pub item_sets : PacketItem → List ℕ → Bool
item_sets Packet payload = sets_registers (command_at payload)
item_sets _ payload = false

-- the processors may be stopped before registers are written
abbrev pub MakesWay : Bool → GdbSession → GdbSession → Type 0
MakesWay true old new =
    KeepsTape old.tape new.tape × (new.acknowledges ≡ old.acknowledges) × (new.looked ≡ old.looked) × (new.extended ≡ old.extended)
MakesWay false old new = new ≡ old

module _ {W : Type 0} (takes : W → Writing → List ℕ → W → Type 0) where
  -- the stream took the bytes for an item, if there are any
  abbrev pub IsWritten : Bool → List ℕ → W → W → Type 0
  IsWritten true bytes w w' = Took takes w bytes w'
  IsWritten false bytes w w' = w' ≡ w

  -- an item is answered
  pub record ServesItem (item : PacketItem) (payload : List ℕ) (old new : GdbSession) (last bytes : List ℕ) (w w' : W) : Type 0 where
    pub between : GdbSession
    pub way : MakesWay (item_sets item payload) old between
    pub response : IsResponse item payload between new last bytes
    pub written : IsWritten (is_written_for item) bytes w w'

  -- it is not: memory was refused before anything was written, or a write failed
  abbrev pub LosesItem : PacketItem → List ℕ → GdbSession → GdbSession → List ℕ → W → W → ended.Ended → Type 0
  LosesItem item payload old new last w w' ends.NoMemory = w' ≡ w
  LosesItem item payload old new last w w' (ends.WriteFailed fault) =
      (between : GdbSession) × (bytes : List ℕ) × MakesWay (item_sets item payload) old between × IsResponse item payload between new last bytes × TookPrefix takes w bytes w'
  LosesItem item payload old new last w w' _ = ⊥
