use Rattle.std.proofs.Common.{◌/◌, ◌%◌, ◌∷◌, [], List, ℕ, subst, sym}
use Rattle.std.proofs.lemmas.Result.{err_from_is_err_and}
use Rattle.evm_text.specs.Appending.{Appends}
use Rattle.evm_text.specs.Written.{character, decimal}
use Rattle.view_page.proofs.Items.{longer, shorter, two_digits, two_more}
use Rattle.view_page.proofs.row.+push_long.Goals as goal

pub returns-then-number-lt100 : goal.returns-then-number-lt100
returns-then-number-lt100 t c =
    subst (λ (text : List ℕ). Appends text c.args.out.now c.push_digits.new.out c.push_digits.result)
    (sym (two_digits c.args.number c.ranges.number.fits c.if-number-lt10.false c.if-number-lt100.true)) c.push_digits.ensures

pub returns-in_err-push_long : goal.returns-in_err-push_long
returns-in_err-push_long t c =
    let all = two_more c.args.number c.ranges.number.fits c.if-number-lt100.false in
    let p = err_from_is_err_and c.from_residual.result c.from_residual.ensures.1 in
    let last : List ℕ = character (c.args.number % 100 / 10) ∷ character (c.args.number % 100 % 10) ∷ [] in
    rw (p.1, p.2) (shorter (decimal (c.args.number / 100)) last (decimal c.args.number) c.args.out.now c.push_long.new.out _ c.in_err-push_long.ensures all)

pub returns : goal.returns
returns t c =
    let all = two_more c.args.number c.ranges.number.fits c.if-number-lt100.false in
    let last : List ℕ = character (c.args.number % 100 / 10) ∷ character (c.args.number % 100 % 10) ∷ [] in
    longer (decimal (c.args.number / 100)) last (decimal c.args.number) c.args.out.now c.push_long.new.out c.push_digits-2.new.out c.push_digits-2.result c.in_ok-push_long.ensures c.push_digits-2.ensures all
