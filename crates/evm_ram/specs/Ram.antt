-- RAM is a list of bytes, of which the first stands at BASE. What a read of it gives, and what a write makes of it.
use Rattle.std.specs.Prelude.{ℕ, ◌+◌, ◌-◌, nat_eq, nat_le, Bool, ◌&&◌, ◌||◌, cond, List, ◌++◌, length, take, drop, Option, Some, None, option_map}
use Rattle.evm_ram.specs.Bytes.{little_endian, low_bytes}
use Rattle.evm_ram.specs.Width.{bytes_of}
use Rattle.evm_ram.specs.declared.ram.TheConstants.{BASE}
use Rattle.evm_ram.specs.declared.width.Width.{Width}

-- whether each of the `count` bytes from `address` on is a byte of RAM; of no bytes it is true at every address
abbrev pub is_inside : List ℕ → ℕ → ℕ → Bool
is_inside ram address count =
    nat_eq count 0 || (nat_le BASE address && nat_le (address + count) (BASE + length ram))

-- a list with other bytes in place of those from a place on
abbrev pub overwritten : List ℕ → ℕ → List ℕ → List ℕ
overwritten ram place bytes = take place ram ++ bytes ++ drop (place + length bytes) ram

-- the `count` bytes from `address` on
unfoldable pub bytes_at : List ℕ → ℕ → ℕ → Option (List ℕ)
bytes_at ram address count =
    cond (is_inside ram address count) (Some (take count (drop (address - BASE) ram))) None

-- the number that is stored at `address`
unfoldable pub read_at : List ℕ → ℕ → Width → Option ℕ
read_at ram address width = option_map little_endian (bytes_at ram address (bytes_of width))

-- RAM with `bytes` from `address` on
unfoldable pub poke_at : List ℕ → ℕ → List ℕ → Option (List ℕ)
poke_at ram address bytes =
    cond (is_inside ram address (length bytes)) (Some (overwritten ram (address - BASE) bytes)) None

-- RAM with the low bytes of `value` stored at `address`
unfoldable pub write_at : List ℕ → ℕ → Width → ℕ → Option (List ℕ)
write_at ram address width value = poke_at ram address (low_bytes (bytes_of width) value)
