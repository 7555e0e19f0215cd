-- What is written for what GDB sent.
use Rattle.std.specs.Prelude.{◌≡◌, ℕ, Bool, List, [], ◌∷◌, ◌++◌, codes, if◌then◌else◌}
use Rattle.gdb_packets.specs.Framing.{framed}
use Rattle.gdb_packets.specs.declared.item.PacketItem.{PacketItem}
use Rattle.gdb_packets.specs.declared.item.PacketItem.TheVariants.{Acknowledged, NotAcknowledged, Interrupt, Packet, Damaged, Noise}

-- the packets of some payloads, one behind the other
unfoldable pub frames : List (List ℕ) → List ℕ
frames [] = []
frames (payload ∷ payloads) = framed payload ++ frames payloads

-- packets are written behind, and nothing else
pub record Extends (old new : List ℕ) : Type 0 where
  pub payloads : List (List ℕ)
  pub whole : new ≡ old ++ frames payloads

-- packets are written behind, the last of which has this payload
pub record EndsWith (payload old new : List ℕ) : Type 0 where
  pub before : List ℕ
  pub shown : Extends old before
  pub whole : new ≡ before ++ framed payload

-- packets are written behind, at least one
pub record HasPacket (old new : List ℕ) : Type 0 where
  pub payload : List ℕ
  pub ends : EndsWith payload old new

-- the acknowledgement of an item: + for a well-formed packet, - for a damaged one
abbrev pub sign_of : PacketItem → List ℕ
sign_of Acknowledged = []
sign_of NotAcknowledged = []
sign_of Interrupt = []
sign_of Packet = codes "+"
sign_of Damaged = codes "-"
sign_of Noise = []

-- it is written until GDB asks for none
abbrev pub acknowledgement : Bool → PacketItem → List ℕ
acknowledgement acknowledges item = if acknowledges then sign_of item else []
