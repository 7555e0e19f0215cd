-- The immediates in two's complement, and the bits of a word that each format gathers and places.
use Rattle.std.proofs.Common.{◌≡◌, ℕ, ◌*◌, ◌%◌, ◌^◌, ◌<◌, arith, refl, ap, Option, Some, None}
use Rattle.std.specs.Prelude.{ℤ, pos, negsuc}
use Rattle.std.specs.Option.{option_map, option_and_then}
use Rattle.std.proofs.lemmas.Bool.Decides.{nat_tests}
use Rattle.evm_isa.specs.Fields.{sign_extended}
use Rattle.evm_isa.specs.Encoded.{twos_complement, multiple, i_placed, s_placed, b_placed, j_placed, i_bits, s_bits, b_bits, u_bits, j_bits}

-- ---- two's complement

pub twos_sound : (s n : ℕ) (i : ℤ) → twos_complement s i ≡ Some n → (n < 2 * s) × (i ≡ sign_extended s n)
twos_sound s n (pos k) e = grind (arith, nat_tests)
twos_sound s n (negsuc k) e = grind (arith, nat_tests)

pub twos_found : (s n : ℕ) (i : ℤ) → n < 2 * s → i ≡ sign_extended s n → twos_complement s i ≡ Some n
twos_found s n (pos k) h e = grind (arith, nat_tests)
twos_found s n (negsuc k) h e = grind (arith, nat_tests)

-- ---- an option's parts

pub map_parts : {A B : Type 0} (g : A → B) (r : Option A) (y : B) → option_map g r ≡ Some y → (x : A) × (r ≡ Some x) × (y ≡ g x)
map_parts g None y e = absurd (cc)
map_parts g (Some x) y e = (x, refl, cc)

pub multiple_parts : (m : ℕ) (r : Option ℕ) (y : ℕ) → option_and_then (multiple m) r ≡ Some y → (r ≡ Some y) × (y % m ≡ 0)
multiple_parts m None y e = absurd (cc)
multiple_parts m (Some x) y e = grind (arith, nat_tests)

pub multiple_found : (m : ℕ) (r : Option ℕ) (y : ℕ) → r ≡ Some y → y % m ≡ 0 → option_and_then (multiple m) r ≡ Some y
multiple_found m r y e h = rw e (grind (arith, nat_tests))

-- ---- the bits of an immediate: where there are some, the number that they stand for; and for such a number these

pub i_sound : (i : ℤ) (x : ℕ) → i_bits i ≡ Some x → (n : ℕ) × (n < 2 ^ 12) × (i ≡ sign_extended (2 ^ 11) n) × (x ≡ i_placed n)
unfolding i_bits
i_sound i x e = let m = map_parts i_placed (twos_complement (2 ^ 11) i) x e in let t = twos_sound (2 ^ 11) m.0 i m.1 in (m.0, t.0, t.1, m.2)

pub i_found : (n : ℕ) (i : ℤ) → n < 2 ^ 12 → i ≡ sign_extended (2 ^ 11) n → i_bits i ≡ Some (i_placed n)
unfolding i_bits
i_found n i h e = ap (option_map i_placed) (twos_found (2 ^ 11) n i h e)

pub s_sound : (i : ℤ) (x : ℕ) → s_bits i ≡ Some x → (n : ℕ) × (n < 2 ^ 12) × (i ≡ sign_extended (2 ^ 11) n) × (x ≡ s_placed n)
unfolding s_bits
s_sound i x e = let m = map_parts s_placed (twos_complement (2 ^ 11) i) x e in let t = twos_sound (2 ^ 11) m.0 i m.1 in (m.0, t.0, t.1, m.2)

pub s_found : (n : ℕ) (i : ℤ) → n < 2 ^ 12 → i ≡ sign_extended (2 ^ 11) n → s_bits i ≡ Some (s_placed n)
unfolding s_bits
s_found n i h e = ap (option_map s_placed) (twos_found (2 ^ 11) n i h e)

pub b_sound : (i : ℤ) (x : ℕ) → b_bits i ≡ Some x → (n : ℕ) × (n < 2 ^ 13) × (n % 2 ≡ 0) × (i ≡ sign_extended (2 ^ 12) n) × (x ≡ b_placed n)
unfolding b_bits
b_sound i x e =
    let m = map_parts b_placed (option_and_then (multiple 2) (twos_complement (2 ^ 12) i)) x e in
    let p = multiple_parts 2 (twos_complement (2 ^ 12) i) m.0 m.1 in
    let t = twos_sound (2 ^ 12) m.0 i p.0 in (m.0, t.0, p.1, t.1, m.2)

pub b_found : (n : ℕ) (i : ℤ) → n < 2 ^ 13 → n % 2 ≡ 0 → i ≡ sign_extended (2 ^ 12) n → b_bits i ≡ Some (b_placed n)
unfolding b_bits
b_found n i h z e = ap (option_map b_placed) (multiple_found 2 (twos_complement (2 ^ 12) i) n (twos_found (2 ^ 12) n i h e) z)

pub u_sound : (i : ℤ) (x : ℕ) → u_bits i ≡ Some x → (x < 2 ^ 32) × (x % 2 ^ 12 ≡ 0) × (i ≡ sign_extended (2 ^ 31) x)
unfolding u_bits
u_sound i x e =
    let p = multiple_parts (2 ^ 12) (twos_complement (2 ^ 31) i) x e in
    let t = twos_sound (2 ^ 31) x i p.0 in (t.0, p.1, t.1)

pub u_found : (n : ℕ) (i : ℤ) → n < 2 ^ 32 → n % 2 ^ 12 ≡ 0 → i ≡ sign_extended (2 ^ 31) n → u_bits i ≡ Some n
unfolding u_bits
u_found n i h z e = multiple_found (2 ^ 12) (twos_complement (2 ^ 31) i) n (twos_found (2 ^ 31) n i h e) z

pub j_sound : (i : ℤ) (x : ℕ) → j_bits i ≡ Some x → (n : ℕ) × (n < 2 ^ 21) × (n % 2 ≡ 0) × (i ≡ sign_extended (2 ^ 20) n) × (x ≡ j_placed n)
unfolding j_bits
j_sound i x e =
    let m = map_parts j_placed (option_and_then (multiple 2) (twos_complement (2 ^ 20) i)) x e in
    let p = multiple_parts 2 (twos_complement (2 ^ 20) i) m.0 m.1 in
    let t = twos_sound (2 ^ 20) m.0 i p.0 in (m.0, t.0, p.1, t.1, m.2)

pub j_found : (n : ℕ) (i : ℤ) → n < 2 ^ 21 → n % 2 ≡ 0 → i ≡ sign_extended (2 ^ 20) n → j_bits i ≡ Some (j_placed n)
unfolding j_bits
j_found n i h z e = ap (option_map j_placed) (multiple_found 2 (twos_complement (2 ^ 20) i) n (twos_found (2 ^ 20) n i h e) z)
