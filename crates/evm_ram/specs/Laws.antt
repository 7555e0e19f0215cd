-- Laws of reads and writes of `Ram`.
use Rattle.std.proofs.Common.{◌≡◌, ℕ, zero, suc, ◌+◌, ◌-◌, ◌/◌, ◌%◌, ◌^◌, ◌<◌, ◌≤◌, ◌⊎◌, inl, inr, Bool, true, false, cond, nat_eq, nat_le, ◌&&◌, ◌||◌, Some, None, List, [], ◌∷◌, ◌++◌, length, take, drop, get_or, option_map, refl, sym, ap, ◌∙◌, arith}
use Rattle.std.proofs.lemmas.Bool.Decides.{nat_tests}
use Rattle.std.proofs.lemmas.List.{length-append, length-take, length-drop, append_assoc, take_at, drop_at, take-append-drop, append-nil, length-take-le, get_or_append_left, get_or-append_right, get_or-take, get_or-drop, same_lists}
use Rattle.std.proofs.Math.Arith.{mod-mul}
use Rattle.std.proofs.Math.Nat.{one-le-pow, pow-suc}
use Rattle.evm_ram.specs.Bytes.{little_endian, low_bytes}
use Rattle.evm_ram.specs.Ram.{is_inside, overwritten, bytes_at, read_at, poke_at, write_at}
use Rattle.evm_ram.specs.Width.{bytes_of}
use Rattle.evm_ram.specs.declared.ram.TheConstants.{BASE}
use Rattle.evm_ram.specs.declared.width.Width.{Width}

-- what an answer with bytes says of the addresses
both_bounds : (a b : Bool) → (a && b) ≡ true → (a ≡ true) × (b ≡ true)
both_bounds true b h = (refl, h)
both_bounds false b h = cc

inside-cases : (none low high : Bool) → (none || (low && high)) ≡ true → (none ≡ true) ⊎ ((low ≡ true) × (high ≡ true))
inside-cases true low high h = inl refl
inside-cases false low high h = inr (both_bounds low high h)

pub inside : (ram : List ℕ) (address count : ℕ) → is_inside ram address count ≡ true
    → (count ≡ 0) ⊎ ((BASE ≤ address) × (address + count ≤ BASE + length ram))
inside ram address count h =
    elim (inside-cases (nat_eq count 0) (nat_le BASE address) (nat_le (address + count) (BASE + length ram)) h)
    [ inl e ↦ inl (grind (arith, nat_tests)) | inr e ↦ inr (grind (arith, nat_tests), grind (arith, nat_tests)) ]

-- what an answer is where there is one
pub cond_some : {T : Type 0} (test : Bool) (x y : T) → cond test (Some x) None ≡ Some y → (test ≡ true) × (x ≡ y)
cond_some true x y h = (refl, cc)
cond_some false x y h = cc

poked : (ram : List ℕ) (address : ℕ) (bytes after : List ℕ) → poke_at ram address bytes ≡ Some after
    → (is_inside ram address (length bytes) ≡ true) × (overwritten ram (address - BASE) bytes ≡ after)
unfolding poke_at
poked ram address bytes after h = cond_some (is_inside ram address (length bytes)) _ after h

pub no_bytes : (bytes : List ℕ) → length bytes ≡ 0 → bytes ≡ []
no_bytes [] h = refl
no_bytes (b ∷ bytes) h = absurd (omega arith)

pub overwritten-nothing : (ram : List ℕ) (place : ℕ) → overwritten ram place [] ≡ ram
overwritten-nothing ram place =
    let same : place + 0 ≡ place = omega arith in
    rw (append-nil, same) (take-append-drop place ram)

pub length-overwritten : (ram : List ℕ) (place : ℕ) (bytes : List ℕ) → place + length bytes ≤ length ram → length (overwritten ram place bytes) ≡ length ram
length-overwritten ram place bytes h = simp (length-append, length-take, length-drop) (omega arith)

-- a poke keeps the length
pub length-poke_at : (ram : List ℕ) (address : ℕ) (bytes after : List ℕ) → poke_at ram address bytes ≡ Some after → length after ≡ length ram
length-poke_at ram address bytes after h =
    let done = poked ram address bytes after h in
    elim (inside ram address (length bytes) done.0) [
      | inl e ↦ sym (ap length (sym (overwritten-nothing ram (address - BASE)) ∙ ap (overwritten ram (address - BASE)) (sym (no_bytes bytes e)) ∙ done.1))
      | inr e ↦ sym (ap length done.1) ∙ length-overwritten ram (address - BASE) bytes (omega arith)
    ]

same_inside : (ram after : List ℕ) (address count : ℕ) → length after ≡ length ram → is_inside after address count ≡ is_inside ram address count
same_inside ram after address count long = rw long refl

-- the two answers of a look at bytes
pub bytes_at-inside : (ram : List ℕ) (address count : ℕ) → is_inside ram address count ≡ true → bytes_at ram address count ≡ Some (take count (drop (address - BASE) ram))
unfolding bytes_at
bytes_at-inside ram address count h = rw h refl

pub bytes_at-outside : (ram : List ℕ) (address count : ℕ) → is_inside ram address count ≡ false → bytes_at ram address count ≡ None
unfolding bytes_at
bytes_at-outside ram address count h = rw h refl

back : (ram : List ℕ) (place : ℕ) (bytes : List ℕ) → place ≤ length ram → take (length bytes) (drop place (overwritten ram place bytes)) ≡ bytes
back ram place bytes h =
    let rest = drop (place + length bytes) ram in
    ap (λ (xs : List ℕ). take (length bytes) (drop place xs)) (append_assoc (take place ram) bytes rest)
    ∙ ap (take (length bytes)) (drop_at (take place ram) (bytes ++ rest) place (length-take-le place ram h))
    ∙ take_at bytes rest (length bytes) refl

-- what was poked is read back
pub bytes_at-poke_at : (ram : List ℕ) (address : ℕ) (bytes after : List ℕ) → poke_at ram address bytes ≡ Some after
    → bytes_at after address (length bytes) ≡ Some bytes
bytes_at-poke_at ram address bytes after h =
    let done = poked ram address bytes after h in
    let long = length-poke_at ram address bytes after h in
    bytes_at-inside after address (length bytes) (same_inside ram after address (length bytes) long ∙ done.0)
    ∙ elim (inside ram address (length bytes) done.0) [
      | inl e ↦ let none = no_bytes bytes e in rw none refl
      | inr e ↦
          let put = done.1 in
          rw (← put) (ap Some (back ram (address - BASE) bytes (omega arith)))
    ]

-- other bytes are as they were
pub get_or-overwritten_before : (ram : List ℕ) (place : ℕ) (bytes : List ℕ) (i d : ℕ) → place ≤ length ram → i < place → get_or (overwritten ram place bytes) i d ≡ get_or ram i d
get_or-overwritten_before ram place bytes i d h lt =
    let front = length-take-le place ram h in
    get_or_append_left (take place ram ++ bytes) (drop (place + length bytes) ram) d i (simp length-append (omega arith))
    ∙ get_or_append_left (take place ram) bytes d i (omega arith)
    ∙ get_or-take place ram i d lt

pub get_or-overwritten_behind : (ram : List ℕ) (place : ℕ) (bytes : List ℕ) (i d : ℕ) → place ≤ length ram → place + length bytes ≤ i → get_or (overwritten ram place bytes) i d ≡ get_or ram i d
get_or-overwritten_behind ram place bytes i d h le =
    let front = length-take-le place ram h in
    let index : place + length bytes + (i - (place + length bytes)) ≡ i = omega arith in
    get_or-append_right (take place ram ++ bytes) (drop (place + length bytes) ram) (place + length bytes) i d (simp length-append (omega arith)) le
    ∙ get_or-drop (place + length bytes) ram (i - (place + length bytes)) d
    ∙ ap (λ (k : ℕ). get_or ram k d) index

-- and the new ones are there
pub get_or-overwritten_within : (ram : List ℕ) (place : ℕ) (bytes : List ℕ) (i d : ℕ) → place ≤ length ram → place ≤ i → i < place + length bytes
    → get_or (overwritten ram place bytes) i d ≡ get_or bytes (i - place) d
get_or-overwritten_within ram place bytes i d h low high =
    let front = length-take-le place ram h in
    get_or_append_left (take place ram ++ bytes) (drop (place + length bytes) ram) d i (simp length-append (omega arith))
    ∙ get_or-append_right (take place ram) bytes place i d front low

same_part : (ram after : List ℕ) (place count : ℕ) → length after ≡ length ram → ((i d : ℕ) → place ≤ i → i < place + count → get_or after i d ≡ get_or ram i d)
    → take count (drop place after) ≡ take count (drop place ram)
same_part ram after place count long h =
    same_lists (take count (drop place after)) (take count (drop place ram)) (simp (length-take, length-drop) (omega arith))
    (λ k d lt.
    let short : k < count = let n = length-take count (drop place after) in omega arith in
    get_or-take count (drop place after) k d short ∙ get_or-drop place after k d
    ∙ h (place + k) d (omega arith) (omega arith)
    ∙ sym (get_or-take count (drop place ram) k d short ∙ get_or-drop place ram k d))

reads_apart : (ram : List ℕ) (address : ℕ) (bytes after : List ℕ) (other count : ℕ)
    → overwritten ram (address - BASE) bytes ≡ after → length after ≡ length ram
    → (length bytes ≡ 0) ⊎ ((BASE ≤ address) × (address + length bytes ≤ BASE + length ram))
    → (count ≡ 0) ⊎ ((BASE ≤ other) × (other + count ≤ BASE + length ram))
    → (address + length bytes ≤ other) ⊎ (other + count ≤ address)
    → take count (drop (other - BASE) after) ≡ take count (drop (other - BASE) ram)
reads_apart ram address bytes after other count put long (inl none) q away =
    let empty = no_bytes bytes none in
    ap (λ (xs : List ℕ). take count (drop (other - BASE) xs)) (sym put ∙ ap (overwritten ram (address - BASE)) empty ∙ overwritten-nothing ram (address - BASE))
reads_apart ram address bytes after other count put long (inr p) (inl none) away = rw none refl
reads_apart ram address bytes after other count put long (inr p) (inr q) (inl before) =
    same_part ram after (other - BASE) count long
    (λ i d low high. rw (← put) (get_or-overwritten_behind ram (address - BASE) bytes i d (omega arith) (omega arith)))
reads_apart ram address bytes after other count put long (inr p) (inr q) (inr behind) =
    same_part ram after (other - BASE) count long
    (λ i d low high. rw (← put) (get_or-overwritten_before ram (address - BASE) bytes i d (omega arith) (omega arith)))

elsewhere-cases : (ram : List ℕ) (address : ℕ) (bytes after : List ℕ) (other count : ℕ) (test : Bool) → is_inside ram other count ≡ test
    → poke_at ram address bytes ≡ Some after → (address + length bytes ≤ other) ⊎ (other + count ≤ address)
    → bytes_at after other count ≡ bytes_at ram other count
elsewhere-cases ram address bytes after other count true t h away =
    let done = poked ram address bytes after h in
    let long = length-poke_at ram address bytes after h in
    bytes_at-inside after other count (same_inside ram after other count long ∙ t)
    ∙ ap Some (reads_apart ram address bytes after other count done.1 long (inside ram address (length bytes) done.0) (inside ram other count t) away)
    ∙ sym (bytes_at-inside ram other count t)
elsewhere-cases ram address bytes after other count false t h away =
    let long = length-poke_at ram address bytes after h in
    bytes_at-outside after other count (same_inside ram after other count long ∙ t) ∙ sym (bytes_at-outside ram other count t)

pub bytes_at-elsewhere : (ram : List ℕ) (address : ℕ) (bytes after : List ℕ) (other count : ℕ) → poke_at ram address bytes ≡ Some after
    → (address + length bytes ≤ other) ⊎ (other + count ≤ address) → bytes_at after other count ≡ bytes_at ram other count
bytes_at-elsewhere ram address bytes after other count h away =
    elsewhere-cases ram address bytes after other count (is_inside ram other count) refl h away

-- ---- numbers
pub length-low_bytes : (count number : ℕ) → length (low_bytes count number) ≡ count
length-low_bytes zero number = refl
length-low_bytes (suc count) number = ap suc (length-low_bytes count (number / 256))

-- the low bytes of a number stand for it, as far as they go
pub little_endian-low_bytes : (count number : ℕ) → little_endian (low_bytes count number) ≡ number % 256 ^ count
little_endian-low_bytes zero number = omega arith
little_endian-low_bytes (suc count) number =
    let rest = little_endian-low_bytes count (number / 256) in
    let split = mod-mul number {m = 256 ^ count} {c = 256} (one-le-pow count 256 (omega arith)) (omega arith) in
    let power = pow-suc 256 count in
    rw (rest, power, split) (omega arith)

pub length-write_at : (ram : List ℕ) (address : ℕ) (width : Width) (value : ℕ) (after : List ℕ) → write_at ram address width value ≡ Some after → length after ≡ length ram
unfolding write_at
length-write_at ram address width value after h = length-poke_at ram address (low_bytes (bytes_of width) value) after h

-- what was stored is loaded back, as far as the width goes
pub read_at-write_at : (ram : List ℕ) (address : ℕ) (width : Width) (value : ℕ) (after : List ℕ) → write_at ram address width value ≡ Some after
    → read_at after address width ≡ Some (value % 256 ^ bytes_of width)
unfolding write_at read_at
read_at-write_at ram address width value after h =
    let long = length-low_bytes (bytes_of width) value in
    let found = bytes_at-poke_at ram address (low_bytes (bytes_of width) value) after h in
    let same = ap (bytes_at after address) (sym long) ∙ found in
    ap (option_map little_endian) same ∙ ap Some (little_endian-low_bytes (bytes_of width) value)

-- a load from other bytes gives what it gave
pub read_at-elsewhere : (ram : List ℕ) (address : ℕ) (width : Width) (value : ℕ) (after : List ℕ) (other : ℕ) (its : Width)
    → write_at ram address width value ≡ Some after → (address + bytes_of width ≤ other) ⊎ (other + bytes_of its ≤ address)
    → read_at after other its ≡ read_at ram other its
unfolding write_at read_at
read_at-elsewhere ram address width value after other its h away =
    let long = length-low_bytes (bytes_of width) value in
    let away-bytes : (address + length (low_bytes (bytes_of width) value) ≤ other) ⊎ (other + bytes_of its ≤ address) = rw long away in
    ap (option_map little_endian) (bytes_at-elsewhere ram address (low_bytes (bytes_of width) value) after other (bytes_of its) h away-bytes)
