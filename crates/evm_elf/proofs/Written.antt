-- The file of a program has no fault, and its image is the program.
use Rattle.std.proofs.Common.{◌≡◌, ℕ, ◌+◌, ◌-◌, ◌%◌, ◌==◌, ◌^◌, ◌<◌, ◌≤◌, Bool, true, false, not, leb, ltb, inl, inr, Some, None, List, [], ◌∷◌, ◌++◌, map, length, take, drop, refl, sym, ◌∙◌, ap, arith, take_all}
use Rattle.byteorder.specs.Endian.{little_bytes}
use Rattle.byteorder.specs.Numbers.{little_number-reads_back}
use Rattle.evm_elf.specs.declared.header.Header.{Header}
use Rattle.evm_elf.specs.Fields.{number, header_at, program_header, headers_from, headers, header_count, table_offset, entry_point, magic, machine_number, flags}
use Rattle.evm_elf.specs.declared.fault.ElfFault.TheVariants.{Dynamic, SegmentOutside, SegmentOverlap, SizeOrder}
use Rattle.std.specs.Prelude.{slice_index}
use Rattle.std.proofs.lemmas.List.{get_or_past}
use Rattle.std.specs.List.{list_any, filter_map, find, AllByRecursion}
use Rattle.std.proofs.lemmas.Bool.{cases_lt, or_from, and_right, and_from, lt-ltb, le-leb, le-ltb, cond-false, not_from_true}
use Rattle.evm_ram.specs.Images.{Loaded, Contents, covers, byte_at, range_start, range_end}
use Rattle.evm_elf.specs.Faults.{load_of, load_headers, is_dynamic, is_outside, passes_end, leaves_range, is_overfull, share, some_two, has_other_class, has_other_kind, has_other_header_size, is_entry, segment_of, file_has, faults, fault_of, image_of}
use Rattle.evm_elf.specs.Files.{file_of, image_of_bytes}

pub length_file : (bytes : List ℕ) → length (file_of bytes) ≡ 120 + length bytes
unfolding file_of
length_file bytes = omega arith

table : (bytes : List ℕ) → table_offset (file_of bytes) ≡ 64
unfolding file_of number
table bytes = refl

count : (bytes : List ℕ) → header_count (file_of bytes) ≡ 1
unfolding file_of number
count bytes = refl

start : (bytes : List ℕ) → entry_point (file_of bytes) ≡ 0x8000_0000
unfolding file_of number
start bytes = refl

kind_is : (bytes : List ℕ) → number 4 64 (file_of bytes) ≡ 1
unfolding file_of number
kind_is bytes = refl

offset_is : (bytes : List ℕ) → number 8 72 (file_of bytes) ≡ 120
unfolding file_of number
offset_is bytes = refl

address_is : (bytes : List ℕ) → number 8 80 (file_of bytes) ≡ 0x8000_0000
unfolding file_of number
address_is bytes = refl

filesz_is : (bytes : List ℕ) → length bytes < 2 ^ 64 → number 8 96 (file_of bytes) ≡ length bytes
unfolding file_of number
filesz_is bytes few = little_number-reads_back 8 (length bytes) (little_bytes 8 (length bytes) ++ little_bytes 8 4 ++ bytes) few

memsz_is : (bytes : List ℕ) → length bytes < 2 ^ 64 → number 8 104 (file_of bytes) ≡ length bytes
unfolding file_of number
memsz_is bytes few = little_number-reads_back 8 (length bytes) (little_bytes 8 4 ++ bytes) few

own_bytes : (bytes : List ℕ) → drop 120 (file_of bytes) ≡ bytes
unfolding file_of
own_bytes bytes = refl

-- the one program header
the_header : List ℕ → Header
the_header bytes = record { kind = 1; offset = 120; address = range_start; filesz = length bytes; memsz = length bytes }

header_is : (bytes : List ℕ) → length bytes < 2 ^ 64 → header_at 64 (file_of bytes) ≡ the_header bytes
unfolding header_at the_header
header_is bytes few = rw (kind_is bytes, offset_is bytes, address_is bytes, filesz_is bytes few, memsz_is bytes few) refl

first_header : (bytes : List ℕ) → length bytes < 2 ^ 64 → program_header (file_of bytes) 0 ≡ Some (the_header bytes)
unfolding program_header
first_header bytes few =
    let long = length_file bytes in
    let fits : leb 120 (length (file_of bytes)) ≡ true = le-leb _ _ (omega arith) in
    rw (table bytes) (rw fits (ap Some (header_is bytes few)))

headers_is : (bytes : List ℕ) → length bytes < 2 ^ 64 → headers (file_of bytes) ≡ Some (the_header bytes) ∷ []
headers_is bytes few = ap (headers_from (file_of bytes) 0) (count bytes) ∙ ap (λ o. o ∷ []) (first_header bytes few)

not_outside : (bytes : List ℕ) → length bytes ≤ 0x100_0000 → is_outside (length (file_of bytes)) (Some (the_header bytes)) ≡ false
unfolding the_header
not_outside bytes few =
    let long = length_file bytes in
    let in_file : ltb (length (file_of bytes)) (120 + length bytes) ≡ false = le-ltb _ _ (omega arith) in
    let in_range : ltb range_end (range_start + length bytes) ≡ false = le-ltb _ _ (omega arith) in
    or_from (passes_end (length (file_of bytes)) (the_header bytes)) (leaves_range (the_header bytes)) (and_right _ _ in_file) (and_right _ _ in_range)

not_overfull : (bytes : List ℕ) → is_overfull (the_header bytes) ≡ false
unfolding the_header
not_overfull bytes = le-ltb _ _ (omega arith)

not_dynamic : (bytes : List ℕ) → is_dynamic (Some (the_header bytes)) ≡ false
unfolding the_header
not_dynamic bytes = refl

loads_is : (bytes : List ℕ) → length bytes < 2 ^ 64 → load_headers (file_of bytes) ≡ the_header bytes ∷ []
unfolding the_header
loads_is bytes few = ap (filter_map load_of) (headers_is bytes few)

fields_pass : (bytes : List ℕ) → (not (magic (file_of bytes) == 0x464c_457f) ≡ false) × (has_other_class (file_of bytes) ≡ false) × (has_other_kind (file_of bytes) ≡ false) × (not (machine_number (file_of bytes) == 243) ≡ false) × (flags (file_of bytes) % 2 == 1 ≡ false) × (has_other_header_size (file_of bytes) ≡ false) × (is_entry (entry_point (file_of bytes)) ≡ true)
unfolding file_of number
fields_pass bytes = (refl, refl, refl, refl, refl, refl, refl)

none_found : {X : Type 0} (p : X → Bool) → (xs : List X) → AllByRecursion (λ x. p x ≡ false) xs → find p xs ≡ None
none_found p [] all = refl
none_found p (x ∷ xs) all = cond-false (p x) _ _ all.0 ∙ none_found p xs all.1

pub no_fault : (bytes : List ℕ) → length bytes ≤ 0x100_0000 → fault_of (file_of bytes) ≡ None
unfolding fault_of file_has
no_fault bytes few =
    let file = file_of bytes in
    let long = length_file bytes in
    let fields = fields_pass bytes in
    let fits : length bytes < 2 ^ 64 = omega arith in
    let headers = headers_is bytes fits in
    let loaded = loads_is bytes fits in
    let dynamic : file_has file Dynamic ≡ false = ap (list_any is_dynamic) headers ∙ or_from _ _ (not_dynamic bytes) refl in
    let outside : file_has file SegmentOutside ≡ false = or_from _ _ fields.5 (ap (list_any (is_outside (length file))) headers ∙ or_from _ _ (not_outside bytes few) refl) in
    let overlap : file_has file SegmentOverlap ≡ false = ap (some_two share) loaded in
    let sizes : file_has file SizeOrder ≡ false = ap (list_any is_overfull) loaded ∙ or_from _ _ (not_overfull bytes) refl in
    none_found (file_has file) faults
    (le-ltb _ _ (omega arith), (fields.0, (fields.1, (fields.2, (fields.3, (fields.4, (dynamic, (outside, (overlap, (sizes, (not_from_true _ fields.6, tt)))))))))))

pub image_is : (bytes : List ℕ) → length bytes < 2 ^ 64 → image_of (file_of bytes) ≡ image_of_bytes bytes
unfolding image_of the_header
image_is bytes few =
    let file = file_of bytes in
    let made = ap (map (segment_of file)) (loads_is bytes few) in
    let own : take (length bytes) (drop 120 file) ≡ bytes = ap (take (length bytes)) (own_bytes bytes) ∙ take_all (length bytes) bytes (omega arith) in
    let make : ℕ → List Loaded → Contents = λ n s. record { entry = n; segments = s } in
    ap (λ n. make n (map (segment_of file) (load_headers file))) (start bytes)
    ∙ (ap (make range_start) made
    ∙ ap (λ b. make range_start (record { address = range_start; bytes = b; memsz = length bytes } ∷ [])) own)

-- the program's bytes in memory
pub memory_is : (bytes : List ℕ) (i : ℕ) → byte_at (image_of_bytes bytes) (range_start + i) ≡ slice_index bytes i
memory_is bytes i = elim (cases_lt i (length bytes)) [
  | inl less ↦
      let above : leb range_start (range_start + i) ≡ true = le-leb _ _ (omega arith) in
      let below : ltb (range_start + i) (range_start + length bytes) ≡ true = lt-ltb _ _ (omega arith) in
      let yes : covers (record { address = range_start; bytes = bytes; memsz = length bytes }) (range_start + i) ≡ true = and_from _ _ above below in
      let at : range_start + i - range_start ≡ i = omega arith in
      rw yes (ap (slice_index bytes) at)
  | inr more ↦
      let past : ltb (range_start + i) (range_start + length bytes) ≡ false = le-ltb _ _ (omega arith) in
      let no : covers (record { address = range_start; bytes = bytes; memsz = length bytes }) (range_start + i) ≡ false = and_right (leb range_start (range_start + i)) _ past in
      rw no (sym (get_or_past bytes i 0 more))
]
