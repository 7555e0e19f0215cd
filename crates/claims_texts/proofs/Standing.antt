-- What stands in RAM after the bytes of a program were loaded.
use Rattle.std.proofs.Common.{◌≡◌, ℕ, zero, suc, ◌+◌, ◌-◌, ◌<◌, ◌≤◌, ◌^◌, Bool, true, false, ◌&&◌, ◌||◌, nat_eq, nat_le, List, Some, length, take, drop, option_map, refl, sym, ap, ◌∙◌, arith}
use Rattle.std.specs.Prelude.{slice_index}
use Rattle.std.specs.Int.{w32, to_le_bytes}
use Rattle.std.proofs.lemmas.Bool.{le-leb}
use Rattle.std.proofs.lemmas.Grind.{same_number_lists}
use Rattle.std.proofs.lemmas.List.{length-take, length-drop, get_or-take, get_or-drop, take_all}
use Rattle.evm_elf.specs.evm_asm.Assembled.{IsWorded, StandsIn}
use Rattle.evm_elf.specs.evm_asm.declared.output.ProgramLine.{ProgramLine}
use Rattle.evm_ram.specs.Bytes.{little_endian}
use Rattle.evm_ram.specs.Laws.{bytes_at-inside}
use Rattle.evm_ram.specs.Ram.{is_inside, bytes_at, read_at}
use Rattle.evm_ram.specs.declared.ram.TheConstants.{BASE}
use Rattle.evm_model.specs.Devices.{Attached}
use Rattle.evm_model.specs.Load.{bytes_from}
use Rattle.claims_texts.specs.Running.{HasLine}

loads_so_many_bytes : (byte : ℕ → ℕ) (address n : ℕ) → length (bytes_from byte address n) ≡ n
unfolding bytes_from
loads_so_many_bytes byte address zero = refl
loads_so_many_bytes byte address (suc n) = ap suc (loads_so_many_bytes byte (address + 1) n)

loads_each_byte : (byte : ℕ → ℕ) (address n i : ℕ) → i < n → slice_index (bytes_from byte address n) i ≡ byte (address + i)
unfolding bytes_from
loads_each_byte byte address zero i h = absurd (omega arith)
loads_each_byte byte address (suc n) zero h = let same : address ≡ address + 0 = omega arith in ap byte same
loads_each_byte byte address (suc n) (suc i) h =
    let same : address + 1 + i ≡ address + suc i = omega arith in
    loads_each_byte byte (address + 1) n i (omega arith) ∙ ap byte same

either_test : (a b c : Bool) → b ≡ true → c ≡ true → (a || (b && c)) ≡ true
either_test true b c p q = refl
either_test false b c p q = rw (p, q) refl

module _ (byte : ℕ → ℕ) (bytes : List ℕ) (n : ℕ) (same : (i : ℕ) → byte (BASE + i) ≡ slice_index bytes i) (fits : length bytes ≤ n) where
  same_piece : (place count : ℕ) → place + count ≤ length bytes
      → take count (drop place (bytes_from byte BASE n)) ≡ take count (drop place bytes)
  same_piece place count h =
      let ram = bytes_from byte BASE n in
      let long = loads_so_many_bytes byte BASE n in
      same_number_lists (take count (drop place ram)) (take count (drop place bytes)) (simp (length-take, length-drop) (omega arith))
      (λ k less.
      let short : k < count = let m = length-take count (drop place ram) in omega arith in
      get_or-take count (drop place ram) k 0 short ∙ get_or-drop place ram k 0
      ∙ loads_each_byte byte BASE n (place + k) (omega arith)
      ∙ same (place + k)
      ∙ sym (get_or-take count (drop place bytes) k 0 short ∙ get_or-drop place bytes k 0))

  -- the bytes that stand where the program has them
  pub piece : (address count : ℕ) → BASE ≤ address → address - BASE + count ≤ length bytes
      → bytes_at (bytes_from byte BASE n) address count ≡ Some (take count (drop (address - BASE) bytes))
  piece address count above within =
      let long = loads_so_many_bytes byte BASE n in
      let inside : is_inside (bytes_from byte BASE n) address count ≡ true =
      either_test (nat_eq count 0) (nat_le BASE address) (nat_le (address + count) (BASE + length (bytes_from byte BASE n)))
      (le-leb _ _ above) (le-leb _ _ (omega arith)) in
      bytes_at-inside (bytes_from byte BASE n) address count inside ∙ ap Some (same_piece (address - BASE) count within)

  pub all_bytes : bytes_at (bytes_from byte BASE n) BASE (length bytes) ≡ Some bytes
  all_bytes = piece BASE (length bytes) (omega arith) (omega arith) ∙ ap Some (take_all (length bytes) bytes (omega arith))

  -- each line's word
  pub line_stands : (devices : List Attached) (l : ProgramLine) → IsWorded l → StandsIn bytes l → HasLine (record { ram = bytes_from byte BASE n; devices = devices }) l
  unfolding read_at
  line_stands devices l w h =
      ap (option_map little_endian) (piece l.address 4 h.above h.within ∙ ap Some h.bytes_are)
      ∙ ap Some (whole l.word w.fits)
    where
      whole : (word : ℕ) → word < 2 ^ 32 → little_endian (to_le_bytes w32 word) ≡ word
      whole word h = omega arith
