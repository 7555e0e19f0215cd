use Rattle.std.proofs.Common.{sym, ap, ◌∙◌, arith}
use Rattle.atomic_table.specs.Table.{Me}
use Rattle.evm_bells.specs.declared.rule.SeatView.{SeatView}
use Rattle.evm_bells.specs.Rule.{one_kept, one_given}
use Rattle.evm_bells.specs.Seats.{BellsValue}
use Rattle.evm_bells.proofs.Steps.{parts}
use Rattle.evm_bells.proofs.bells.Bells.seated.Goals as goal

pub split_seat-requires : goal.split_seat-requires
split_seat-requires c =
    let i = c.self.invariant in
    let v = c.loop.seat.me.0 in
    let weight = ap (λ (m : Me (Unit {0}) SeatView). m.0.weight) c.loop.invariant.me in (
      c.loop.invariant.table ∙ sym (ap (λ (b : BellsValue). b.id) c.self.view_is),
      omega (arith, i.worded, i.any),
      parts c.self.inside.table.shared.key c.loop.seat.id v (one_kept v) (one_given v) (omega (arith, weight)) (omega arith) (omega (arith, weight)) (λ cpu l. omega arith) (λ cpu l. omega arith) (λ cpu l. omega arith),
    )
