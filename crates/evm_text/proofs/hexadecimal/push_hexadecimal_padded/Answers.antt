use Rattle.std.proofs.Common.{◌≡◌, ◌∙◌, ℕ, List, subst}
use Rattle.evm_text.specs.Appending.{Appends}
use Rattle.evm_text.specs.Written.{hexadecimal_padded}
use Rattle.evm_text.proofs.WordDigits.{last_digits, ascii_digits}
use Rattle.evm_text.proofs.hexadecimal.push_hexadecimal_padded.Goals as goal

pub ascii_text-requires : goal.ascii_text-requires
ascii_text-requires c =
    let word = c.hexadecimal_word-digits.ensures in
    let same = c.from.ensures in
    let last = last_digits c.args.count c.args.n c.requires in
    rw (word, same, last) (ascii_digits c.args.count c.args.n)

pub returns-clause-appends : goal.returns-clause-appends
returns-clause-appends c =
    let word = c.hexadecimal_word-digits.ensures in
    let same = c.from.ensures in
    let last = last_digits c.args.count c.args.n c.requires in
    let text : c.ascii_text.result.now ≡ hexadecimal_padded c.args.count c.args.n = c.ascii_text.ensures ∙ rw (word, same) last in
    let p = c.push_text.ensures in
    subst (λ (t : List ℕ). Appends t c.args.out.now c.push_text.new.out c.push_text.result) text (record { ok = p.ok; len = p.len; full = p.full; refused = p.refused; capacity = p.capacity })
