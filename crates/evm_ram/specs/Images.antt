-- What an image holds, and what memory it fills.
use Rattle.std.specs.Prelude.{◌≡◌, ◌⊎◌, ◌<◌, ◌≤◌, ℕ, ◌+◌, ◌-◌, ◌%◌, Bool, ◌&&◌, nat_lt, nat_le, if◌then◌else◌, List, [], ◌∷◌, length, slice_index, slice_get, Some}
use Rattle.std.specs.List.{AllByRecursion}
use Rattle.evm_ram.specs.declared.ram.TheConstants.{BASE, SIZE_LIMIT}

-- a segment: where it lies in memory, its bytes, and how many bytes of memory it takes, zeros after its own
pub record Loaded : Type 0 where
  pub address : ℕ
  pub bytes : List ℕ
  pub memsz : ℕ

-- the address of the first instruction, and the segments in the file's order
pub record Contents : Type 0 where
  pub entry : ℕ
  pub segments : List Loaded

-- the range that images lie in, where RAM of the greatest size is; its end excluded
abbrev pub range_start : ℕ
range_start = BASE

abbrev pub range_end : ℕ
range_end = BASE + SIZE_LIMIT

-- a segment takes an address
abbrev pub Covers : Loaded → ℕ → Type 0
Covers s address = (s.address ≤ address) × (address < s.address + s.memsz)

abbrev pub covers : Loaded → ℕ → Bool
covers s address = nat_le s.address address && nat_lt address (s.address + s.memsz)

-- the byte at an address: that of the first segment that takes it, or else zero
abbrev pub byte_in : List Loaded → ℕ → ℕ
byte_in [] address = 0
byte_in (s ∷ segments) address = if covers s address then slice_index s.bytes (address - s.address) else byte_in segments address

abbrev pub byte_at : Contents → ℕ → ℕ
byte_at image address = byte_in image.segments address

-- no segment takes the address
abbrev pub IsFree : List Loaded → ℕ → Type 0
IsFree segments address = (i : ℕ) (s : Loaded) → slice_get segments i ≡ Some s → Covers s address → ⊥

-- segment i, which is s, takes the address, and no other does
abbrev pub IsOnly : List Loaded → ℕ → ℕ → Loaded → Type 0
IsOnly segments address i s =
    (slice_get segments i ≡ Some s) × Covers s address
    × ((j : ℕ) (t : Loaded) → slice_get segments j ≡ Some t → Covers t address → j ≡ i)

-- the byte at an address is that of the one segment that takes it, zero past that segment's own bytes, or zero where none does
abbrev pub Fills : List Loaded → ℕ → ℕ → Type 0
Fills segments address byte =
    (IsFree segments address × (byte ≡ 0))
    ⊎ ((i : ℕ) × ((s : Loaded) × (IsOnly segments address i s × (byte ≡ slice_index s.bytes (address - s.address)))))

-- no two segments take one address
abbrev pub IsApart : List Loaded → Type 0
IsApart segments =
    (i j address : ℕ) (s t : Loaded) → slice_get segments i ≡ Some s → slice_get segments j ≡ Some t → Covers s address → Covers t address → i ≡ j

-- what each image keeps
pub record IsSound (image : Contents) : Type 0 where
  pub entry_aligned : image.entry % 4 ≡ 0
  pub entry_low : range_start ≤ image.entry
  pub entry_high : image.entry < range_end
  pub sizes : AllByRecursion (λ s. length s.bytes ≤ s.memsz) image.segments
  pub low : AllByRecursion (λ s. 0 < s.memsz → range_start ≤ s.address) image.segments
  pub high : AllByRecursion (λ s. 0 < s.memsz → s.address + s.memsz ≤ range_end) image.segments
  pub apart : IsApart image.segments
  pub fills : (address : ℕ) → Fills image.segments address (byte_at image address)
