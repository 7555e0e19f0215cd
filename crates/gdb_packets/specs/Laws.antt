-- What the definitions mean together.
use Rattle.std.specs.Prelude.{◌≡◌, ◌↔◌, ℕ, ◌<◌, ◌≤◌, List, ◌++◌, length, Some}
use Rattle.std.specs.List.{AllByRecursion}
use Rattle.evm_text.specs.Written.{pairs}
use Rattle.gdb_packets.specs.Framing.{escaped, framed}
use Rattle.gdb_packets.specs.Hexadecimal.{bytes_of_digits}
use Rattle.gdb_packets.specs.Items.{Item, Packet, IsPacket, item_at}
use Rattle.gdb_packets.specs.declared.item.TheConstants.{PACKET_LIMIT}

abbrev pub PacketsAreRead : Type 0
PacketsAreRead = (payload rest bytes : List ℕ) → (item_at bytes ≡ Some (Packet payload, rest)) ↔ ((one : List ℕ) × IsPacket payload one × (bytes ≡ one ++ rest))

abbrev pub FramedPacketsAreRead : Type 0
FramedPacketsAreRead = (payload rest : List ℕ) → length (escaped payload) ≤ PACKET_LIMIT → IsPacket payload (framed payload) × (item_at (framed payload ++ rest) ≡ Some (Packet payload, rest))

abbrev pub PiecesAreRead : Type 0
PiecesAreRead = (item : Item) (rest bytes more : List ℕ) → item_at bytes ≡ Some (item, rest) → item_at (bytes ++ more) ≡ Some (item, rest ++ more)

abbrev pub DigitsAreRead : Type 0
DigitsAreRead = (bytes digits : List ℕ) → (bytes_of_digits digits ≡ Some bytes) ↔ ((digits ≡ pairs bytes) × AllByRecursion (λ byte. byte < 256) bytes)
