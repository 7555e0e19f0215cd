use Rattle.std.proofs.Common.{sym, ap, ◌∙◌, arith}
use Rattle.evm_bells.specs.Seats.{TakerValue, BellsValue}
use Rattle.evm_bells.proofs.Steps.{takes}
use Rattle.evm_bells.proofs.bells.Bells.take.Goals as goal

pub swap-found-requires : goal.swap-found-requires
swap-found-requires c =
    let r = c.requires in
    let i = c.self.invariant in
    let table = c.self.inside.table.shared in
    let cpus = ap (λ (b : BellsValue). b.cpus) c.self.view_is in
    let seat = c.taker.inside.seat in (
      ap (λ (x : TakerValue). x.bells) c.taker.view_is ∙ r.bells ∙ sym (ap (λ (b : BellsValue). b.id) c.self.view_is),
      omega (arith, i.worded),
      takes table.key table.table_id.slots seat.id c.args.cpu seat.me (omega (arith, i.keyed)) (omega (arith, c.taker.invariant.weighs)),
    )
