-- The packet of a payload.
use Rattle.std.specs.Prelude.{ℕ, ◌+◌, ◌-◌, ◌/◌, ◌%◌, Bool, ◌||◌, ◌==◌, List, [], ◌∷◌, ◌++◌, if◌then◌else◌}
use Rattle.std.specs.List.{sum}
use Rattle.evm_text.specs.Written.{pairs}

-- a byte with bit 5 turned
abbrev pub turned : ℕ → ℕ
turned b = if b / 32 % 2 == 0 then b + 32 else b - 32

-- # $ * } have a meaning of their own in a packet
abbrev pub is_special : ℕ → Bool
is_special b = b == 35 || b == 36 || b == 42 || b == 125

-- } and the byte with bit 5 turned stand for such a byte
unfoldable pub escaped : List ℕ → List ℕ
escaped [] = []
escaped (b ∷ payload) = if is_special b then 125 ∷ turned b ∷ escaped payload else b ∷ escaped payload

abbrev pub checksum : List ℕ → ℕ
checksum bytes = sum bytes % 256

-- $, the body, # and the two digits of the body's checksum
abbrev pub packet : List ℕ → List ℕ
packet body = 36 ∷ (body ++ 35 ∷ pairs (checksum body ∷ []))

abbrev pub framed : List ℕ → List ℕ
framed payload = packet (escaped payload)
