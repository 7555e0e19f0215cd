-- std's conversion of a number to bytes, by the definitions of `specs/Bytes.antt`.
use Rattle.std.proofs.Common.{◌≡◌, ℕ, List, take, refl, ◌∙◌}
use Rattle.std.proofs.Math.Nat.{div-div-eq-div-mul}
use Rattle.std.specs.Int.{to_le_bytes, w64}
use Rattle.evm_ram.specs.Bytes.{low_bytes}
use Rattle.evm_ram.specs.Ram.{poke_at, write_at}
use Rattle.evm_ram.specs.Width.{bytes_of}
use Rattle.evm_ram.specs.declared.width.Width.{Width}
use Rattle.evm_ram.specs.declared.width.Width.TheVariants.{Byte, Half, Word, Double}

pub to_le_bytes-low_bytes : (value : ℕ) → to_le_bytes w64 value ≡ low_bytes 8 value
to_le_bytes-low_bytes value = simp div-div-eq-div-mul

-- a front of the bytes of the whole number is its low bytes
pub front : (width : Width) (value : ℕ) (bytes : List ℕ) → bytes ≡ to_le_bytes w64 value → take (bytes_of width) bytes ≡ low_bytes (bytes_of width) value
front Byte value bytes h = let low = h ∙ to_le_bytes-low_bytes value in rw low refl
front Half value bytes h = let low = h ∙ to_le_bytes-low_bytes value in rw low refl
front Word value bytes h = let low = h ∙ to_le_bytes-low_bytes value in rw low refl
front Double value bytes h = let low = h ∙ to_le_bytes-low_bytes value in rw low refl

-- so to write is to poke such a front
pub write_at-front : (ram : List ℕ) (address : ℕ) (width : Width) (value : ℕ) (bytes : List ℕ) → bytes ≡ to_le_bytes w64 value
    → write_at ram address width value ≡ poke_at ram address (take (bytes_of width) bytes)
unfolding write_at
write_at-front ram address width value bytes h = rw (front width value bytes h) refl

pub write_at-whole : (ram : List ℕ) (address value : ℕ) (bytes : List ℕ) → bytes ≡ to_le_bytes w64 value
    → write_at ram address Double value ≡ poke_at ram address bytes
unfolding write_at
write_at-whole ram address value bytes h = let low = h ∙ to_le_bytes-low_bytes value in rw low refl
