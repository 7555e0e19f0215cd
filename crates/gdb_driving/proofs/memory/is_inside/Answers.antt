use Rattle.std.proofs.Common.{◌≡◌, ◌∙◌, sym, rules}
use Rattle.std.specs.Prelude.{is_some}
use Rattle.evm_ram.specs.Ram.{bytes_at}
use Rattle.gdb_driving.proofs.Inside.{found_inside, ends_below}
use Rattle.gdb_driving.proofs.memory.is_inside.Goals as goal

pub returns-clause-inside : goal.returns-clause-inside
returns-clause-inside g c =
    let ram = c.args.machine.now.board.memory.ram in
    let found : c.is_some.result ≡ is_some (bytes_at ram c.args.address c.args.count) = search rules in
    found ∙ found_inside ram c.args.address c.args.count

pub returns-clause-fits : goal.returns-clause-fits
returns-clause-fits g c =
    let ram = c.args.machine.now.board.memory.ram in
    let found : c.is_some.result ≡ is_some (bytes_at ram c.args.address c.args.count) = search rules in
    λ there. ends_below c.args.machine.now c.args.address c.args.count c.rules.ensures.good c.ranges.address.fits (sym (found ∙ found_inside ram c.args.address c.args.count) ∙ there)
