use Rattle.std.proofs.Common.{◌≡◌, ◌<◌, [], length, get_or, ◌-◌, take, drop, arith, sym, ◌∙◌}
use Rattle.evm_text.specs.Reading.{worth}
use Rattle.gdb_packets.specs.Hexadecimal.{bytes_on}
use Rattle.gdb_packets.proofs.Digits.{bytes_on_more}
use Rattle.gdb_packets.proofs.hexadecimal.read_digits.Goals as goal

pub loop-rest-preserved : goal.loop-rest-preserved
loop-rest-preserved c =
    let items = c.loop-rest.bytes.items in
    let rest = c.loop-rest.rest.now in
    let high : worth (get_or rest 0 0) < 16 = omega (arith, c.worth-high.ensures) in
    let low : worth (get_or rest 1 0) < 16 = omega (arith, c.worth-low.ensures) in
    let e = bytes_on_more items rest c.in-len2-up.len_at_least high low in
    let after = take (length rest - 2) (drop 2 rest) in
    let next : bytes_on c.push_byte.new.out.items after ≡ bytes_on [] c.args.digits.now = rw (c.in_ok-push_byte.ensures.ok, c.worth-high.ensures, c.worth-low.ensures) (sym e ∙ c.loop-rest.invariant) in
    next
