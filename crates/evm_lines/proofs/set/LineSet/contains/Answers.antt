use Rattle.std.proofs.Common.{◌≡◌, sym, ap, ◌∙◌, nat_eq, nat_lt, false, arith}
use Rattle.std.proofs.lemmas.Bool.Decides.{nat_tests}
use Rattle.std.proofs.lemmas.Nat.Bits.{shr_and_one}
use Rattle.evm_lines.specs.declared.TheConstants.{LINES}
use Rattle.evm_lines.proofs.Words.{has_line-lines_of, has_line-lines_of_above}
use Rattle.evm_lines.proofs.set.LineSet.contains.Goals as goal

pub returns-then-line-lt-LINES : goal.returns-then-line-lt-LINES
returns-then-line-lt-LINES c =
    let held = has_line-lines_of c.self.inside.word c.args.line c.if-line-lt-LINES.true in
    let bit = shr_and_one c.self.inside.word c.args.line in
    rw (← c.self.view_is) (ap (λ b. nat_eq b 1) bit ∙ sym held)

pub returns-else-line-lt-LINES : goal.returns-else-line-lt-LINES
returns-else-line-lt-LINES c =
    let none = has_line-lines_of_above c.self.inside.word c.args.line c.if-line-lt-LINES.false in
    let above : nat_lt c.args.line LINES ≡ false = grind (arith, nat_tests) in
    rw (← c.self.view_is) (above ∙ sym none)
