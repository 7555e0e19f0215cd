-- A register as text.
use Rattle.std.proofs.Common.{◌≡◌, ℕ, zero, suc, ◌+◌, ◌-◌, ◌*◌, ◌/◌, ◌%◌, ◌<◌, ◌≤◌, List, [], ◌∷◌, ◌++◌, length, refl, sym, ap, subst, ◌∙◌, append_assoc, arith, codes}
use Rattle.std.proofs.lemmas.List.{length-append}
use Rattle.std.proofs.lemmas.Bool.{lt-ltb}
use Rattle.evm_journal.specs.evm_text.Written.{decimal, hexadecimal_padded, character}
use Rattle.evm_journal.proofs.evm_text.Steps.{numeral_one}
use Rattle.std.proofs.lemmas.Str.Ascii.{IsAscii-cons, IsAscii-push}
use Rattle.std.specs.Str.{IsAscii}
use Rattle.evm_journal.proofs.evm_text.WordDigits.{ascii_digits}
use Rattle.evm_journal.proofs.evm_text.RoundTrips.{pads_to_count}
use Rattle.evm_debug.specs.Views.{two_digits, four_registers, register_lines, register_rows, hexadecimal_word}
use Rattle.evm_exec.specs.Registers.{register_of}
use Rattle.evm_debug.specs.Pieces.{one_register}

figure : (d : ℕ) → d < 10 → decimal d ≡ (48 + d) ∷ []
figure d small = let one = lt-ltb d 10 small in numeral_one 10 19 d small ∙ rw one refl

pub two_figures : (r : ℕ) → r < 100 → two_digits r ≡ (48 + r / 10) ∷ (48 + r % 10) ∷ []
two_figures r small =
    let tens = figure (r / 10) (omega (arith, small)) in
    let ones = figure (r % 10) (omega arith) in
    rw (tens, ones) refl

pub register_length : (r value last : ℕ) → r < 100 → length (one_register r value last) ≡ 21
register_length r value last small =
    let number = two_figures r small in
    let word = length-append (hexadecimal_word value) (last ∷ []) in
    let size = pads_to_count 16 value in
    rw number (omega (arith, word, size))

register_spelled : (r value last : ℕ) → r < 100 → (120 ∷ (48 + r / 10) ∷ (48 + r % 10) ∷ 32 ∷ (hexadecimal_word value ++ last ∷ [])) ≡ one_register r value last
register_spelled r value last small = let number = two_figures r small in rw number refl

pub register_ascii : (r value last : ℕ) → r < 100 → last < 128 → IsAscii (one_register r value last)
register_ascii r value last small low =
    let word = IsAscii-push (hexadecimal_word value) last (ascii_digits 16 value) low in
    let behind : List ℕ = 32 ∷ (hexadecimal_word value ++ last ∷ []) in
    let ones : List ℕ = (48 + r % 10) ∷ behind in
    let tens : List ℕ = (48 + r / 10) ∷ ones in
    let blank = IsAscii-cons 32 (hexadecimal_word value ++ last ∷ []) (omega arith) word in
    let number = IsAscii-cons (48 + r / 10) ones (omega (arith, small)) (IsAscii-cons (48 + r % 10) behind (omega arith) blank) in
    let all = IsAscii-cons 120 tens (omega arith) number in
    subst IsAscii (register_spelled r value last small) all

-- a line is four registers
four_in_line : (r : ℕ) (regs : List ℕ) → four_registers r regs
    ≡ one_register r (register_of regs r) 32 ++ (one_register (r + 1) (register_of regs (r + 1)) 32 ++ (one_register (r + 2) (register_of regs (r + 2)) 32 ++ one_register (r + 3) (register_of regs (r + 3)) 10))
four_in_line r regs = simp append_assoc refl

pub line_of_four : (old : List ℕ) (r : ℕ) (regs : List ℕ)
    → (((old ++ one_register r (register_of regs r) 32) ++ one_register (r + 1) (register_of regs (r + 1)) 32) ++ one_register (r + 2) (register_of regs (r + 2)) 32) ++ one_register (r + 3) (register_of regs (r + 3)) 10
    ≡ old ++ four_registers r regs
line_of_four old r regs = simp append_assoc refl

line_length : (r : ℕ) (regs : List ℕ) → r + 3 < 100 → length (four_registers r regs) ≡ 84
line_length r regs small =
    let a = one_register r (register_of regs r) 32 in
    let b = one_register (r + 1) (register_of regs (r + 1)) 32 in
    let c = one_register (r + 2) (register_of regs (r + 2)) 32 in
    let d = one_register (r + 3) (register_of regs (r + 3)) 10 in
    let first = length-append a (b ++ (c ++ d)) in
    let second = length-append b (c ++ d) in
    let third = length-append c d in
    let one = register_length r (register_of regs r) 32 (omega (arith, small)) in
    let two = register_length (r + 1) (register_of regs (r + 1)) 32 (omega (arith, small)) in
    let three = register_length (r + 2) (register_of regs (r + 2)) 32 (omega (arith, small)) in
    let four = register_length (r + 3) (register_of regs (r + 3)) 10 (omega (arith, small)) in
    ap length (four_in_line r regs) ∙ omega (arith, first, second, third, one, two, three, four)

lines_length : (r count : ℕ) (regs : List ℕ) → r + 4 * count ≤ 100 → length (register_lines r count regs) ≡ 84 * count
unfolding register_lines
lines_length r zero regs small = refl
lines_length r (suc count) regs small =
    let both = length-append (four_registers r regs) (register_lines (r + 4) count regs) in
    let first = line_length r regs (omega (arith, small)) in
    let rest = lines_length (r + 4) count regs (omega (arith, small)) in
    omega (arith, both, first, rest)

pub rows_length : (regs : List ℕ) → length (register_rows regs) ≡ 672
rows_length regs = lines_length 0 8 regs (omega arith)
