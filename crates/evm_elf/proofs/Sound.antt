-- What holds of the image of a file without a fault.
use Rattle.std.proofs.Common.{◌≡◌, ℕ, ◌+◌, ◌<◌, ◌≤◌, suc, zero, Bool, true, false, ◌&&◌, ◌||◌, inl, inr, Option, Some, None, List, [], ◌∷◌, map, length, drop, refl, sym, ◌∙◌, ap, subst, arith, length-take}
use Rattle.std.specs.Prelude.{slice_get}
use Rattle.std.specs.List.{list_any, filter_map, find, AllByRecursion}
use Rattle.std.proofs.lemmas.Bool.{cases_Bool, and_cases, and_parts, or_parts, not-false, ltb-true, ltb-false, leb-true, eqb-true, cond-true, cond-false, both_ways}
use Rattle.std.proofs.lemmas.Bool.Decides.{nat_tests}
use Rattle.evm_elf.specs.declared.header.Header.{Header}
use Rattle.evm_elf.specs.declared.fault.ElfFault.TheVariants.{NoMemory}
use Rattle.evm_elf.specs.Fields.{headers, headers_from, header_count, entry_point}
use Rattle.evm_ram.specs.Images.{Loaded, Contents, Covers, byte_in, IsFree, IsOnly, Fills, IsApart, IsSound, range_start, range_end}
use Rattle.evm_elf.specs.Faults.{is_load, load_of, load_headers, is_outside, passes_end, leaves_range, share, some_two, is_overfull, is_entry, file_has, faults, fault_of, segment_of, image_of}
use Rattle.evm_elf.proofs.Sharing.{holds, point_share}

-- where none is found, no element passes the test
pub find_none : {X : Type 0} (p : X → Bool) → (xs : List X) → find p xs ≡ None → AllByRecursion (λ x. p x ≡ false) xs
find_none p [] e = tt
find_none p (x ∷ xs) e = elim (cases_Bool (p x)) [
  | inl t ↦ let wrong : Some x ≡ None = sym (cond-true (p x) (Some x) (find p xs) t) ∙ e in absurd (cc)
  | inr t ↦ (t, find_none p xs (sym (cond-false (p x) (Some x) (find p xs) t) ∙ e))
]

find_passes : {X : Type 0} (p : X → Bool) → (xs : List X) (y : X) → find p xs ≡ Some y → p y ≡ true
find_passes p [] y e = absurd (cc)
find_passes p (x ∷ xs) y e = elim (cases_Bool (p x)) [
  | inl t ↦ let is : Some x ≡ Some y = sym (cond-true (p x) (Some x) (find p xs) t) ∙ e in let same : x ≡ y = cc in ap p (sym same) ∙ t
  | inr t ↦ find_passes p xs y (sym (cond-false (p x) (Some x) (find p xs) t) ∙ e)
]

-- no file has the fault of memory
pub never_memory : (file : List ℕ) → fault_of file ≡ Some NoMemory → ⊥
unfolding fault_of file_has
never_memory file e = let wrong : false ≡ true = find_passes (file_has file) faults NoMemory e in absurd (cc)

-- a file without a fault has a whole header
pub has_header : (file : List ℕ) → fault_of file ≡ None → 64 ≤ length file
unfolding fault_of file_has
has_header file none = ltb-false _ _ (find_none (file_has file) faults none).0

-- the faults that matter for the image
pub record Passes (file : List ℕ) : Type 0 where
  pub outside : list_any (is_outside (length file)) (headers file) ≡ false
  pub overlap : some_two share (load_headers file) ≡ false
  pub sizes : list_any is_overfull (load_headers file) ≡ false
  pub enters : is_entry (entry_point file) ≡ true

pub passes : (file : List ℕ) → fault_of file ≡ None → Passes file
unfolding fault_of file_has
passes file none =
    let from_dynamic = (find_none (file_has file) faults none).1.1.1.1.1.1 in
    let from_overlap = from_dynamic.1.1 in
    record {
      outside = (or_parts _ _ from_dynamic.1.0).1;
      overlap = from_overlap.0;
      sizes = from_overlap.1.0;
      enters = not-false _ from_overlap.1.1.0;
    }

sizes_hold : (file : List ℕ) (hs : List Header) → list_any is_overfull hs ≡ false → AllByRecursion (λ s. length s.bytes ≤ s.memsz) (map (segment_of file) hs)
sizes_hold file [] e = tt
sizes_hold file (h ∷ hs) e =
    let parts = or_parts _ _ e in
    let size : h.filesz ≤ h.memsz = ltb-false _ _ parts.0 in
    (omega (arith, length-take h.filesz (drop h.offset file)), sizes_hold file hs parts.1)

-- a segment with memory lies in the range
stays : (h : Header) → leaves_range h ≡ false → 0 < h.memsz → (range_start ≤ h.address) × (h.address + h.memsz ≤ range_end)
stays h e some = elim (and_cases _ _ e) [
  | inl t ↦ let zero_size : h.memsz ≡ 0 = eqb-true _ _ (not-false _ t) in absurd (omega arith)
  | inr t ↦ let parts = or_parts _ _ t in (ltb-false _ _ parts.0, ltb-false _ _ parts.1)
]

low_holds : (file : List ℕ) (len : ℕ) (hs : List (Option Header)) → list_any (is_outside len) hs ≡ false → AllByRecursion (λ s. 0 < s.memsz → range_start ≤ s.address) (map (segment_of file) (filter_map load_of hs))
low_holds file len [] e = tt
low_holds file len (None ∷ hs) e = absurd (cc)
low_holds file len ((Some h) ∷ hs) e = elim (cases_Bool (is_load h)) [
  | inl t ↦
      let outside : passes_end len h || leaves_range h ≡ false = sym (ap (λ b. b && (passes_end len h || leaves_range h)) t) ∙ (or_parts _ _ e).0 in
      rw t (λ some. (stays h (or_parts _ _ outside).1 some).0, low_holds file len hs (or_parts _ _ e).1)
  | inr t ↦ rw t (low_holds file len hs (or_parts _ _ e).1)
]

high_holds : (file : List ℕ) (len : ℕ) (hs : List (Option Header)) → list_any (is_outside len) hs ≡ false → AllByRecursion (λ s. 0 < s.memsz → s.address + s.memsz ≤ range_end) (map (segment_of file) (filter_map load_of hs))
high_holds file len [] e = tt
high_holds file len (None ∷ hs) e = absurd (cc)
high_holds file len ((Some h) ∷ hs) e = elim (cases_Bool (is_load h)) [
  | inl t ↦
      let outside : passes_end len h || leaves_range h ≡ false = sym (ap (λ b. b && (passes_end len h || leaves_range h)) t) ∙ (or_parts _ _ e).0 in
      rw t (λ some. (stays h (or_parts _ _ outside).1 some).1, high_holds file len hs (or_parts _ _ e).1)
  | inr t ↦ rw t (high_holds file len hs (or_parts _ _ e).1)
]

covers_from : (file : List ℕ) (h : Header) (a : ℕ) → Covers (segment_of file h) a → holds a h ≡ true
covers_from file h a c = grind (arith, nat_tests)

covers_to : (file : List ℕ) (h : Header) (a : ℕ) → holds a h ≡ true → Covers (segment_of file h) a
covers_to file h a e = (leb-true _ _ (and_parts _ _ e).0, ltb-true _ _ (and_parts _ _ e).1)

-- a segment that shares with none leaves its addresses to itself
alone : (file : List ℕ) (h : Header) (hs : List Header) (a : ℕ) → holds a h ≡ true → list_any (share h) hs ≡ false → IsFree (map (segment_of file) hs) a
alone file h [] a p e i s at c = absurd (cc)
alone file h (k ∷ hs) a p e zero s at c =
    let is : segment_of file k ≡ s = cc in
    let q = covers_from file k a (subst (λ t. Covers t a) (sym is) c) in
    both_ways _ (or_parts _ _ e).0 (point_share a h k p q)
alone file h (k ∷ hs) a p e (suc i) s at c = alone file h hs a p (or_parts _ _ e).1 i s at c

past_free : (x : Loaded) (segments : List Loaded) (a : ℕ) → (Covers x a → ⊥) → IsFree segments a → IsFree (x ∷ segments) a
past_free x segments a off free zero s at c = let is : x ≡ s = cc in off (subst (λ t. Covers t a) (sym is) c)
past_free x segments a off free (suc i) s at c = free i s at c

past_only : (x : Loaded) (segments : List Loaded) (a : ℕ) → (Covers x a → ⊥) → (i : ℕ) (s : Loaded) → IsOnly segments a i s → (j : ℕ) (t : Loaded) → slice_get (x ∷ segments) j ≡ Some t → Covers t a → j ≡ suc i
past_only x segments a off i s only zero t at c = let is : x ≡ t = cc in absurd (off (subst (λ u. Covers u a) (sym is) c))
past_only x segments a off i s only (suc j) t at c = ap suc (only.2 j t at c)

first_only : (file : List ℕ) (h : Header) (hs : List Header) (a : ℕ) → IsFree (map (segment_of file) hs) a → (j : ℕ) (t : Loaded) → slice_get (map (segment_of file) (h ∷ hs)) j ≡ Some t → Covers t a → j ≡ 0
first_only file h hs a free zero t at c = refl
first_only file h hs a free (suc j) t at c = absurd (free j t at c)

past : (x : Loaded) (segments : List Loaded) (a byte : ℕ) → (Covers x a → ⊥) → Fills segments a byte → Fills (x ∷ segments) a byte
past x segments a byte off (inl free) = inl (past_free x segments a off free.0, free.1)
past x segments a byte off (inr found) =
    inr (suc found.0, (found.1.0, ((found.1.1.0.0, found.1.1.0.1, past_only x segments a off found.0 found.1.0 found.1.1.0), found.1.1.1)))

fills_all : (file : List ℕ) (hs : List Header) (a : ℕ) → some_two share hs ≡ false → Fills (map (segment_of file) hs) a (byte_in (map (segment_of file) hs) a)
fills_all file [] a e = inl (λ i s at c. absurd (cc), refl)
fills_all file (h ∷ hs) a e = elim (cases_Bool (holds a h)) [
  | inl t ↦
      let free = alone file h hs a t (or_parts _ _ e).0 in
      rw t (inr (0, (segment_of file h, ((refl, covers_to file h a t, first_only file h hs a free), refl))))
  | inr t ↦
      rw t (past (segment_of file h) (map (segment_of file) hs) a _ (λ c. both_ways _ t (covers_from file h a c)) (fills_all file hs a (or_parts _ _ e).1))
]

apart_from : (segments : List Loaded) → ((address : ℕ) → Fills segments address (byte_in segments address)) → IsApart segments
apart_from segments fills i j a s t at_i at_j ci cj = elim (fills a) [
  | inl free ↦ absurd (free.0 i s at_i ci)
  | inr found ↦ found.1.1.0.2 i s at_i ci ∙ sym (found.1.1.0.2 j t at_j cj)
]

pub sound : (file : List ℕ) → fault_of file ≡ None → IsSound (image_of file)
unfolding image_of
sound file none =
    let p = passes file none in
    let aligned = and_parts _ _ p.enters in
    let inside = and_parts _ _ aligned.1 in
    record {
      entry_aligned = eqb-true _ _ aligned.0;
      entry_low = leb-true _ _ inside.0;
      entry_high = ltb-true _ _ inside.1;
      sizes = sizes_hold file (load_headers file) p.sizes;
      low = low_holds file (length file) (headers file) p.outside;
      high = high_holds file (length file) (headers file) p.outside;
      apart = apart_from (map (segment_of file) (load_headers file)) (λ a. fills_all file (load_headers file) a p.overlap);
      fills = λ a. fills_all file (load_headers file) a p.overlap;
    }

-- the image of a file from its parts
pub built : (file : List ℕ) (start count : ℕ) (segments : List Loaded) → start ≡ entry_point file → count ≡ header_count file → segments ≡ map (segment_of file) (filter_map load_of (headers_from file 0 count)) → image_of file ≡ record { entry = start; segments = segments }
unfolding image_of
built file start count segments p q r =
    let whole : segments ≡ map (segment_of file) (load_headers file) = r ∙ ap (λ n. map (segment_of file) (filter_map load_of (headers_from file 0 n))) q in
    let make : ℕ → List Loaded → Contents = λ n s. record { entry = n; segments = s } in
    ap (λ n. make n (map (segment_of file) (load_headers file))) (sym p) ∙ ap (make start) (sym whole)
