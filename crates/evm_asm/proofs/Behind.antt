-- The loop over the lines before one does what is defined of it.
use Rattle.std.proofs.Common.{◌≡◌, ℕ, List, suc, ◌-◌, ◌+◌, ◌<◌, ◌≤◌, ap, arith}
use Rattle.evm_asm_parser.specs.evm_asm_lexer.Characters.{newline}
use Rattle.evm_asm_parser.specs.evm_asm_lexer.Text.{after}
use Rattle.evm_asm.specs.Quoting.{behind_lines}

pub behind_lines-more : (count i : ℕ) (text : List ℕ) → i < count → behind_lines (count - i) text ≡ behind_lines (count - (i + 1)) (after newline text)
unfolding behind_lines
behind_lines-more count i text h =
    let e : count - i ≡ suc (count - (i + 1)) = omega arith in
    ap (λ n. behind_lines n text) e

pub behind_lines-done : (count i : ℕ) (text : List ℕ) → count ≤ i → behind_lines (count - i) text ≡ text
unfolding behind_lines
behind_lines-done count i text h =
    let e : count - i ≡ 0 = omega arith in
    ap (λ n. behind_lines n text) e
