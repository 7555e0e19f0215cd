use Rattle.std.proofs.Common.{◌≡◌, ◌<◌, [], length, get_or, ◌-◌, take, drop, arith, sym, ◌∙◌}
use Rattle.std.proofs.lemmas.Bool.Decides.{nat_tests}
use Rattle.evm_text.specs.Reading.{worth, pairs_on}
use Rattle.evm_text.proofs.Pairs.{pairs_on_more}
use Rattle.evm_text.proofs.reading.pairs_on.Goals as goal

pub loop-rest-preserved : goal.loop-rest-preserved
loop-rest-preserved c =
    let items = c.loop-rest.pairs.items in
    let rest = c.loop-rest.rest.now in
    let high : worth (get_or rest 0 0) < 16 = omega (arith, c.worth-high.ensures) in
    let low : worth (get_or rest 1 0) < 16 = omega (arith, c.worth-low.ensures) in
    let room : length items < 64 = grind (arith, nat_tests) in
    let e = pairs_on_more items rest c.in-len2-up.len_at_least high low room in
    let after = take (length rest - 2) (drop 2 rest) in
    let next : pairs_on c.push.new.self.items after ≡ pairs_on [] c.args.bytes.now = rw (c.push.ensures.items, c.worth-high.ensures, c.worth-low.ensures) (sym e ∙ c.loop-rest.invariant) in
    next
