-- RAM after the segments of an image were put into it, one after the other.
use Rattle.std.proofs.Common.{◌≡◌, ℕ, zero, suc, ◌+◌, ◌-◌, ◌<◌, ◌≤◌, true, false, cond, nat_eq, nat_lt, inl, inr, Option, Some, List, [], ◌∷◌, length, get_or, replicate, refl, sym, ap, ◌∙◌, arith}
use Rattle.std.specs.Prelude.{slice_get, slice_index, if◌then◌else◌}
use Rattle.std.specs.List.{list_any, AllByRecursion}
use Rattle.std.proofs.lemmas.Bool.{cases_Bool, and_parts, and_from, or_parts, leb-true, ltb-true, le-leb, lt-ltb}
use Rattle.std.proofs.lemmas.Bool.Decides.{nat_tests}
use Rattle.std.proofs.lemmas.List.{get_or_past}
use Rattle.evm_ram.specs.Images.{Loaded, Contents, Covers, covers, byte_in, byte_at, IsFree, IsApart, IsSound, range_start}
use Rattle.evm_ram.specs.Laws.{no_bytes, overwritten-nothing, length-overwritten, get_or-overwritten_before, get_or-overwritten_within, get_or-overwritten_behind}
use Rattle.evm_ram.specs.Ram.{is_inside, overwritten, poke_at}
use Rattle.evm_ram.specs.declared.ram.TheConstants.{BASE}
use Rattle.evm_model.specs.Memory.{poke, ram_or}
use Rattle.evm_model.specs.Load.{bytes_from}
use Rattle.evm_model.specs.State.{Memory}
use Rattle.evm_board.specs.Room.{passes_ram}

-- ---- bytes from an address on
loads_so_many_bytes : (byte : ℕ → ℕ) (address n : ℕ) → length (bytes_from byte address n) ≡ n
unfolding bytes_from
loads_so_many_bytes byte address zero = refl
loads_so_many_bytes byte address (suc n) = ap suc (loads_so_many_bytes byte (address + 1) n)

loads_each_byte : (byte : ℕ → ℕ) (address n i : ℕ) → i < n → slice_index (bytes_from byte address n) i ≡ byte (address + i)
unfolding bytes_from
loads_each_byte byte address zero i h = absurd (omega arith)
loads_each_byte byte address (suc n) zero h = let same : address ≡ address + 0 = omega arith in ap byte same
loads_each_byte byte address (suc n) (suc i) h =
    let same : address + 1 + i ≡ address + suc i = omega arith in
    loads_each_byte byte (address + 1) n i (omega arith) ∙ ap byte same

-- a list whose elements are the bytes of addresses
is-bytes_from : (byte : ℕ → ℕ) (address n : ℕ) (ram : List ℕ) → length ram ≡ n → ((i : ℕ) → i < n → get_or ram i 0 ≡ byte (address + i))
    → ram ≡ bytes_from byte address n
unfolding bytes_from
is-bytes_from byte address zero [] long each = refl
is-bytes_from byte address zero (x ∷ ram) long each = absurd (omega arith)
is-bytes_from byte address (suc n) [] long each = absurd (omega arith)
is-bytes_from byte address (suc n) (x ∷ ram) long each =
    let first : address + 0 ≡ address = omega arith in
    let here : x ≡ byte address = each 0 (omega arith) ∙ ap byte first in
    let rest : ram ≡ bytes_from byte (address + 1) n =
    is-bytes_from byte (address + 1) n ram (omega arith)
    (λ i h. let same : address + suc i ≡ address + 1 + i = omega arith in each (suc i) (omega arith) ∙ ap byte same) in
    ap (λ (y : ℕ). y ∷ ram) here ∙ ap (λ (ys : List ℕ). byte address ∷ ys) rest

same-bytes_from : (byte other : ℕ → ℕ) (address n : ℕ) → ((a : ℕ) → byte a ≡ other a) → bytes_from byte address n ≡ bytes_from other address n
same-bytes_from byte other address n same =
    is-bytes_from other address n _ (loads_so_many_bytes byte address n) (λ i h. loads_each_byte byte address n i h ∙ same (address + i))

zeros-bytes_from : (address n : ℕ) → replicate n 0 ≡ bytes_from (λ _. 0) address n
unfolding bytes_from
zeros-bytes_from address zero = refl
zeros-bytes_from address (suc n) = ap (λ (ys : List ℕ). 0 ∷ ys) (zeros-bytes_from (address + 1) n)

-- ---- one segment
-- the segment's bytes, over others
abbrev over : Loaded → (ℕ → ℕ) → ℕ → ℕ
over s byte a = if covers s a then slice_index s.bytes (a - s.address) else byte a

-- what is known of a segment, and of the bytes that were there
record Lies (size : ℕ) (s : Loaded) : Type 0 where
  short : length s.bytes ≤ s.memsz
  low : 0 < s.memsz → range_start ≤ s.address
  inside : passes_ram size s ≡ false

covers-is : (s : Loaded) (a : ℕ) → covers s a ≡ true → Covers s a
covers-is s a e = (leb-true _ _ (and_parts _ _ e).0, ltb-true _ _ (and_parts _ _ e).1)

is-covers : (s : Loaded) (a : ℕ) → s.address ≤ a → a < s.address + s.memsz → covers s a ≡ true
is-covers s a low high = and_from _ _ (le-leb _ _ low) (lt-ltb _ _ high)

over-covered : (s : Loaded) (byte : ℕ → ℕ) (a : ℕ) → covers s a ≡ true → over s byte a ≡ slice_index s.bytes (a - s.address)
over-covered s byte a e = rw e refl

over-free : (s : Loaded) (byte : ℕ → ℕ) (a : ℕ) → covers s a ≡ false → over s byte a ≡ byte a
over-free s byte a e = rw e refl

-- the end of a segment with memory
ends : (size : ℕ) (s : Loaded) → passes_ram size s ≡ false → 0 < s.memsz → s.address + s.memsz ≤ BASE + size
ends size s e some = grind (arith, nat_tests)

-- past its file bytes the segment leaves the zeros that were there
over-behind : (s : Loaded) (byte : ℕ → ℕ) (a : ℕ) → (Covers s a → byte a ≡ 0) → s.address + length s.bytes ≤ a → byte a ≡ over s byte a
over-behind s byte a quiet past = elim (cases_Bool (covers s a)) [
  | inl e ↦
      let none : slice_index s.bytes (a - s.address) ≡ 0 = get_or_past s.bytes (a - s.address) 0 (omega arith) in
      quiet (covers-is s a e) ∙ sym none ∙ sym (over-covered s byte a e)
  | inr e ↦ sym (over-free s byte a e)
]

over-before : (s : Loaded) (byte : ℕ → ℕ) (a : ℕ) → a < s.address → byte a ≡ over s byte a
over-before s byte a before = elim (cases_Bool (covers s a)) [
  | inl e ↦ let c = covers-is s a e in absurd (omega arith)
  | inr e ↦ sym (over-free s byte a e)
]

-- each byte where the segment's bytes lie in RAM
byte-overwritten : (size : ℕ) (s : Loaded) (byte : ℕ → ℕ) (i : ℕ) → Lies size s → ((a : ℕ) → Covers s a → byte a ≡ 0) → BASE ≤ s.address
    → s.address + length s.bytes ≤ BASE + size → i < size
    → get_or (overwritten (bytes_from byte BASE size) (s.address - BASE) s.bytes) i 0 ≡ over s byte (BASE + i)
byte-overwritten size s byte i lies quiet low high lt =
    let ram : List ℕ = bytes_from byte BASE size in
    let long : length ram ≡ size = loads_so_many_bytes byte BASE size in
    let place : ℕ = s.address - BASE in
    let fits : place ≤ length ram = omega arith in
    elim (cases_Bool (nat_lt i place)) [
      | inl e ↦
          let before : i < place = ltb-true _ _ e in
          get_or-overwritten_before ram place s.bytes i 0 fits before
          ∙ loads_each_byte byte BASE size i lt
          ∙ over-before s byte (BASE + i) (omega arith)
      | inr e ↦
          elim (cases_Bool (nat_lt i (place + length s.bytes))) [
            | inl f ↦
                let within : i < place + length s.bytes = ltb-true _ _ f in
                let behind : place ≤ i = grind (arith, nat_tests) in
                let short = lies.short in
                let index : i - place ≡ BASE + i - s.address = omega arith in
                get_or-overwritten_within ram place s.bytes i 0 fits behind within
                ∙ ap (λ (k : ℕ). get_or s.bytes k 0) index
                ∙ sym (over-covered s byte (BASE + i) (is-covers s (BASE + i) (omega arith) (omega arith)))
            | inr f ↦
                let behind : place + length s.bytes ≤ i = grind (arith, nat_tests) in
                get_or-overwritten_behind ram place s.bytes i 0 fits behind
                ∙ loads_each_byte byte BASE size i lt
                ∙ over-behind s byte (BASE + i) (quiet (BASE + i)) (omega arith)
          ]
    ]

-- a poke inside RAM
poke_at-inside : (ram : List ℕ) (address : ℕ) (bytes : List ℕ) → is_inside ram address (length bytes) ≡ true
    → poke_at ram address bytes ≡ Some (overwritten ram (address - BASE) bytes)
unfolding poke_at
poke_at-inside ram address bytes h = rw h refl

poked-bytes : (size : ℕ) (s : Loaded) (byte : ℕ → ℕ) → Lies size s → ((a : ℕ) → Covers s a → byte a ≡ 0)
    → poke_at (bytes_from byte BASE size) s.address s.bytes ≡ Some (bytes_from (over s byte) BASE size)
poked-bytes size s byte lies quiet =
    let ram : List ℕ = bytes_from byte BASE size in
    let long : length ram ≡ size = loads_so_many_bytes byte BASE size in
    elim (cases_Bool (nat_eq (length s.bytes) 0)) [
      | inl e ↦
          let none : length s.bytes ≡ 0 = grind (arith, nat_tests) in
          let empty : s.bytes ≡ [] = no_bytes s.bytes none in
          let inside : is_inside ram s.address (length s.bytes) ≡ true = rw e refl in
          poke_at-inside ram s.address s.bytes inside
          ∙ ap Some
          (ap (overwritten ram (s.address - BASE)) empty
          ∙ overwritten-nothing ram (s.address - BASE)
          ∙ is-bytes_from (over s byte) BASE size ram long
          (λ i lt.
          loads_each_byte byte BASE size i lt
          ∙ elim (cases_Bool (nat_lt (BASE + i) s.address)) [
            | inl f ↦ over-before s byte (BASE + i) (ltb-true _ _ f)
            | inr f ↦
                let behind : s.address ≤ BASE + i = grind (arith, nat_tests) in
                over-behind s byte (BASE + i) (quiet (BASE + i)) (omega arith)
          ]))
      | inr e ↦
          let some : 0 < length s.bytes = grind (arith, nat_tests) in
          let short = lies.short in
          let low : BASE ≤ s.address = lies.low (omega arith) in
          let high : s.address + s.memsz ≤ BASE + size = ends size s lies.inside (omega arith) in
          let inside : is_inside ram s.address (length s.bytes) ≡ true = grind (arith, nat_tests) in
          poke_at-inside ram s.address s.bytes inside
          ∙ ap Some
          (is-bytes_from (over s byte) BASE size _ (length-overwritten ram (s.address - BASE) s.bytes (omega arith) ∙ long)
          (λ i lt. byte-overwritten size s byte i lies quiet low (omega arith) lt))
    ]

-- ---- all segments
abbrev pub all_poked : List Loaded → Memory → Memory
all_poked [] k = k
all_poked (s ∷ segments) k = all_poked segments (poke s.address s.bytes k)

-- the byte of the first segment that takes the address, or else another
abbrev byte_over : (ℕ → ℕ) → List Loaded → ℕ → ℕ
byte_over byte [] a = byte a
byte_over byte (s ∷ segments) a = if covers s a then slice_index s.bytes (a - s.address) else byte_over byte segments a

-- the other bytes are zero where a segment lies
abbrev IsQuiet : (ℕ → ℕ) → List Loaded → Type 0
IsQuiet byte segments = (i a : ℕ) (s : Loaded) → slice_get segments i ≡ Some s → Covers s a → byte a ≡ 0

byte_over-free : (byte : ℕ → ℕ) (segments : List Loaded) (a : ℕ) → IsFree segments a → byte_over byte segments a ≡ byte a
byte_over-free byte [] a free = refl
byte_over-free byte (s ∷ segments) a free = elim (cases_Bool (covers s a)) [
  | inl e ↦ absurd (free 0 s refl (covers-is s a e))
  | inr e ↦ rw e (byte_over-free byte segments a (λ i t at c. free (suc i) t at c))
]

byte_over-same : (byte other : ℕ → ℕ) (segments : List Loaded) (a : ℕ) → byte a ≡ other a → byte_over byte segments a ≡ byte_over other segments a
byte_over-same byte other [] a same = same
byte_over-same byte other (s ∷ segments) a same =
    ap (λ (rest : ℕ). cond (covers s a) (slice_index s.bytes (a - s.address)) rest) (byte_over-same byte other segments a same)

byte_over-zeros : (segments : List Loaded) (a : ℕ) → byte_over (λ _. 0) segments a ≡ byte_in segments a
byte_over-zeros [] a = refl
byte_over-zeros (s ∷ segments) a = ap (λ (rest : ℕ). cond (covers s a) (slice_index s.bytes (a - s.address)) rest) (byte_over-zeros segments a)

-- one segment and then others that are apart from it
byte_over-over : (s : Loaded) (byte : ℕ → ℕ) (segments : List Loaded) (a : ℕ) → (Covers s a → IsFree segments a)
    → byte_over (over s byte) segments a ≡ byte_over byte (s ∷ segments) a
byte_over-over s byte segments a apart = elim (cases_Bool (covers s a)) [
  | inl e ↦
      let whole : byte_over byte (s ∷ segments) a ≡ slice_index s.bytes (a - s.address) = rw e refl in
      byte_over-free (over s byte) segments a (apart (covers-is s a e)) ∙ over-covered s byte a e ∙ sym whole
  | inr e ↦
      let whole : byte_over byte (s ∷ segments) a ≡ byte_over byte segments a = rw e refl in
      byte_over-same (over s byte) byte segments a (over-free s byte a e) ∙ sym whole
]

-- what is known of segments, and of the bytes that were there
record AllLie (size : ℕ) (byte : ℕ → ℕ) (segments : List Loaded) : Type 0 where
  short : AllByRecursion (λ s. length s.bytes ≤ s.memsz) segments
  low : AllByRecursion (λ s. 0 < s.memsz → range_start ≤ s.address) segments
  inside : list_any (passes_ram size) segments ≡ false
  apart : IsApart segments
  quiet : IsQuiet byte segments

first-lies : (size : ℕ) (byte : ℕ → ℕ) (s : Loaded) (segments : List Loaded) → AllLie size byte (s ∷ segments) → Lies size s
first-lies size byte s segments all = record { short = all.short.0; low = all.low.0; inside = (or_parts _ _ all.inside).0 }

first-free : (size : ℕ) (byte : ℕ → ℕ) (s : Loaded) (segments : List Loaded) (a : ℕ) → AllLie size byte (s ∷ segments) → Covers s a → IsFree segments a
first-free size byte s segments a all c i t at d = let wrong : 0 ≡ suc i = all.apart 0 (suc i) a s t refl at c d in cc

others-lie : (size : ℕ) (byte : ℕ → ℕ) (s : Loaded) (segments : List Loaded) → AllLie size byte (s ∷ segments) → AllLie size (over s byte) segments
others-lie size byte s segments all = record {
  short = all.short.1;
  low = all.low.1;
  inside = (or_parts _ _ all.inside).1;
  apart = λ i j a t u at_i at_j c d. let same : suc i ≡ suc j = all.apart (suc i) (suc j) a t u at_i at_j c d in omega arith;
  quiet = λ i a t at d. elim (cases_Bool (covers s a)) [
    | inl e ↦ absurd (first-free size byte s segments a all (covers-is s a e) i t at d)
    | inr e ↦ over-free s byte a e ∙ all.quiet (suc i) a t at d
  ];
}

poked-is : (address : ℕ) (bytes after : List ℕ) (k : Memory) → poke_at k.ram address bytes ≡ Some after → poke address bytes k ≡ record k { ram = after }
unfolding poke
poked-is address bytes after k h = ap (λ (o : Option (List ℕ)). ram_or o k) h

all_poked-bytes : (size : ℕ) (byte : ℕ → ℕ) (segments : List Loaded) (k : Memory) → AllLie size byte segments
    → all_poked segments (record k { ram = bytes_from byte BASE size }) ≡ record k { ram = bytes_from (byte_over byte segments) BASE size }
all_poked-bytes size byte [] k all = refl
all_poked-bytes size byte (s ∷ segments) k all =
    let before : Memory = record k { ram = bytes_from byte BASE size } in
    let one : poke s.address s.bytes before ≡ record k { ram = bytes_from (over s byte) BASE size } =
    poked-is s.address s.bytes _ before
    (poked-bytes size s byte (first-lies size byte s segments all) (λ a c. all.quiet 0 a s refl c)) in
    ap (all_poked segments) one
    ∙ all_poked-bytes size (over s byte) segments k (others-lie size byte s segments all)
    ∙ ap (λ (ram : List ℕ). record k { ram = ram })
    (same-bytes_from _ _ BASE size (λ a. byte_over-over s byte segments a (first-free size byte s segments a all)))

-- an image that lies in RAM, put into zeros
pub all_poked-image : (image : Contents) (k : Memory) → IsSound image → list_any (passes_ram (length k.ram)) image.segments ≡ false
    → all_poked image.segments (record k { ram = replicate (length k.ram) 0 }) ≡ record k { ram = bytes_from (byte_at image) BASE (length k.ram) }
all_poked-image image k sound inside =
    let size : ℕ = length k.ram in
    ap (λ (ram : List ℕ). all_poked image.segments (record k { ram = ram })) (zeros-bytes_from BASE size)
    ∙ all_poked-bytes size (λ _. 0) image.segments k
    (record { short = sound.sizes; low = sound.low; inside = inside; apart = sound.apart; quiet = λ i a s at c. refl })
    ∙ ap (λ (ram : List ℕ). record k { ram = ram }) (same-bytes_from _ _ BASE size (byte_over-zeros image.segments))
