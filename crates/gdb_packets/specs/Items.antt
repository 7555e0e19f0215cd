-- What comes first in the bytes that GDB sends, and the bytes behind it.
use Rattle.std.specs.Prelude.{◌≡◌, ℕ, ◌/◌, ◌%◌, ◌≤◌, Bool, true, false, ◌==◌, List, [], ◌∷◌, ◌++◌, length, Option, Some, None, nat_lt, if◌then◌else◌}
use Rattle.evm_text.specs.Written.{character}
use Rattle.gdb_packets.specs.Framing.{turned, checksum, packet}
use Rattle.gdb_packets.specs.declared.item.PacketItem.{PacketItem as Kind}
use Rattle.gdb_packets.specs.declared.item.PacketItem.TheVariants as kinds
use Rattle.gdb_packets.specs.declared.item.TheConstants.{PACKET_LIMIT}

pub data Item : Type 0 where
  Acknowledged : Item
  NotAcknowledged : Item
  Interrupt : Item
  Packet : List ℕ → Item
  Damaged : Item
  Noise : Item

-- a kind with the payload, if it is that of a packet
abbrev pub item_seen : Kind → List ℕ → Item
item_seen kinds.Acknowledged payload = Acknowledged
item_seen kinds.NotAcknowledged payload = NotAcknowledged
item_seen kinds.Interrupt payload = Interrupt
item_seen kinds.Packet payload = Packet payload
item_seen kinds.Damaged payload = Damaged
item_seen kinds.Noise payload = Noise

-- ---- the payload of a body

-- The payload goes on with what the body stands for: the byte behind } is turned, and no # or $ is in a body.
unfoldable pub payload_on : Bool → List ℕ → List ℕ → Option (List ℕ)
payload_on true so_far [] = None
payload_on false so_far [] = Some so_far
payload_on escape so_far (b ∷ body) =
    if b == 35 then None
    else (if b == 36 then None
    else (if escape then payload_on false (so_far ++ turned b ∷ []) body
    else (if b == 125 then payload_on true so_far body
    else payload_on false (so_far ++ b ∷ []) body)))

abbrev pub payload_of : List ℕ → Option (List ℕ)
payload_of body = payload_on false [] body

-- the bytes are a well-formed packet of the payload
pub record IsPacket (payload bytes : List ℕ) : Type 0 where
  pub body : List ℕ
  pub whole : bytes ≡ packet body
  pub stands : payload_of body ≡ Some payload
  pub short : length body ≤ PACKET_LIMIT

-- ---- from the front of some bytes

abbrev pub with_front : ℕ → Option (List ℕ × List ℕ) → Option (List ℕ × List ℕ)
with_front b None = None
with_front b (Some cut) = Some (b ∷ cut.0, cut.1)

-- the bytes before the first #, and those behind it
unfoldable pub cut_hash : List ℕ → Option (List ℕ × List ℕ)
cut_hash [] = None
cut_hash (b ∷ bytes) = if b == 35 then Some ([], bytes) else with_front b (cut_hash bytes)

-- two digits say the checksum of a body
abbrev pub says : List ℕ → ℕ → ℕ → Bool
says body high low = if high == character (checksum body / 16) then low == character (checksum body % 16) else false

abbrev pub or_damaged : Option (List ℕ) → Item
or_damaged None = Damaged
or_damaged (Some payload) = Packet payload

abbrev pub checked : List ℕ → ℕ → ℕ → Item
checked body high low = if says body high low then or_damaged (payload_of body) else Damaged

abbrev pub packet_behind : List ℕ → List ℕ → Option (Item × List ℕ)
packet_behind body [] = None
packet_behind body (high ∷ []) = None
packet_behind body (high ∷ low ∷ rest) = Some (checked body high low, rest)

-- Of a body that is too long the $ alone is taken away.
abbrev pub behind_dollar : List ℕ → Option (List ℕ × List ℕ) → Option (Item × List ℕ)
behind_dollar bytes None = if nat_lt PACKET_LIMIT (length bytes) then Some (Damaged, bytes) else None
behind_dollar bytes (Some cut) = if nat_lt PACKET_LIMIT (length cut.0) then Some (Damaged, bytes) else packet_behind cut.0 cut.1

unfoldable pub packet_at : List ℕ → Option (Item × List ℕ)
packet_at bytes = behind_dollar bytes (cut_hash bytes)

-- what a byte means that begins no packet
abbrev pub sign : ℕ → Item
sign b = if b == 43 then Acknowledged else (if b == 45 then NotAcknowledged else (if b == 3 then Interrupt else Noise))

unfoldable pub item_at : List ℕ → Option (Item × List ℕ)
item_at [] = None
item_at (b ∷ bytes) = if b == 36 then packet_at bytes else Some (sign b, bytes)
