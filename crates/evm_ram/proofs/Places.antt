-- What the place of a range says of the bytes there, before and after a write.
use Rattle.std.proofs.Common.{◌≡◌, ℕ, ◌+◌, ◌-◌, ◌≤◌, ◌<◌, Bool, true, false, cond, Some, None, List, [], ◌∷◌, ◌++◌, length, take, drop, refl, ap, ◌∙◌, arith}
use Rattle.std.proofs.lemmas.List.{take-append-drop, append-nil, take_all, take_at}
use Rattle.std.proofs.lemmas.List.Edits.{length-paste}
use Rattle.std.proofs.lemmas.Slice.{put_mid-paste}
use Rattle.std.proofs.lemmas.Bool.Decides.{nat_tests}
use borrow.Rule.Slice.PartMut.{put_mid}
use lib.Seq.{paste}
use Rattle.evm_ram.specs.Laws.{bytes_at-inside}
use Rattle.evm_ram.specs.Bytes.{little_endian, low_bytes}
use Rattle.evm_ram.specs.Ram.{is_inside, bytes_at, read_at, poke_at, write_at, overwritten}
use Rattle.evm_ram.specs.Width.{bytes_of}
use Rattle.evm_ram.specs.declared.width.Width.{Width}
use Rattle.evm_ram.specs.declared.ram.TheConstants.{BASE}

pub cond_none : (test : Bool) (x : ℕ) → cond test (Some x) None ≡ None → test ≡ false
cond_none true x h = cc
cond_none false x h = refl

pub bytes_at-no_bytes : (ram : List ℕ) (address count : ℕ) → count ≡ 0 → bytes_at ram address count ≡ Some []
unfolding bytes_at
bytes_at-no_bytes ram address count h = rw h refl

pub bytes_at-placed : (ram : List ℕ) (address count start : ℕ) → is_inside ram address count ≡ true → address - BASE ≡ start
    → bytes_at ram address count ≡ Some (take (start + count - start) (drop start ram))
bytes_at-placed ram address count start h e =
    let same : start + count - start ≡ count = omega arith in
    bytes_at-inside ram address count h ∙ rw (e, same) refl

pub poke_at-no_bytes : (ram : List ℕ) (address : ℕ) (bytes : List ℕ) → length bytes ≡ 0 → poke_at ram address bytes ≡ Some ram
unfolding poke_at
poke_at-no_bytes ram address [] h =
    let same : address - BASE + 0 ≡ address - BASE = omega arith in
    rw (append-nil, same) (ap Some (take-append-drop (address - BASE) ram))
poke_at-no_bytes ram address (b ∷ bytes) h = absurd (omega arith)

pub poke_at-outside : (ram : List ℕ) (address : ℕ) (bytes : List ℕ) → is_inside ram address (length bytes) ≡ false → poke_at ram address bytes ≡ None
unfolding poke_at
poke_at-outside ram address bytes h = rw h refl

pub poke_at-inside : (ram : List ℕ) (address : ℕ) (bytes : List ℕ) (start : ℕ) → is_inside ram address (length bytes) ≡ true → address - BASE ≡ start
    → poke_at ram address bytes ≡ Some (overwritten ram start bytes)
unfolding poke_at
poke_at-inside ram address bytes start h e = rw (h, e) refl

-- what the test says of the numbers
pub within : (ram : List ℕ) (address count : ℕ) → is_inside ram address count ≡ true → 0 < count
    → (BASE ≤ address) × (address + count ≤ BASE + length ram)
within ram address count h p = (grind (arith, nat_tests), grind (arith, nat_tests))

-- what a copy over a part of the list leaves
pub overwritten-copy : (ram bytes : List ℕ) (start n : ℕ) → start + length bytes ≤ length ram → n ≡ length ram
    → (k : ℕ) → length bytes ≡ k
    → take n (put_mid start k ram bytes ++ drop (length (put_mid start k ram bytes)) ram) ≡ overwritten ram start bytes
overwritten-copy ram bytes start n h e k same =
    let whole : take (length bytes) bytes ≡ bytes = take_all (length bytes) bytes (omega arith) in
    let put : put_mid start k ram bytes ≡ paste ram start bytes (length bytes) = put_mid-paste start k ram bytes bytes (length bytes) refl same refl in
    let long : length (paste ram start bytes (length bytes)) ≡ length ram = length-paste ram start bytes (length bytes) h (omega arith) in
    rw put (take_at (paste ram start bytes (length bytes)) _ n (omega arith) ∙ rw whole refl)

-- the two answers of a read, by what the bytes are
pub read_at-outside : (ram : List ℕ) (address : ℕ) (width : Width) → bytes_at ram address (bytes_of width) ≡ None → read_at ram address width ≡ None
unfolding read_at
read_at-outside ram address width h = rw h refl

pub read_at-inside : (ram : List ℕ) (address : ℕ) (width : Width) (bytes : List ℕ) → bytes_at ram address (bytes_of width) ≡ Some bytes
    → read_at ram address width ≡ Some (little_endian bytes)
unfolding read_at
read_at-inside ram address width bytes h = rw h refl

pub write_at-poke : (ram : List ℕ) (address : ℕ) (width : Width) (value : ℕ) → write_at ram address width value ≡ poke_at ram address (low_bytes (bytes_of width) value)
unfolding write_at
write_at-poke ram address width value = refl
