use Rattle.std.proofs.Common.{sym, ap, ◌∙◌, arith}
use Rattle.evm_bells.specs.Rule.{half_kept, half_given}
use Rattle.evm_bells.specs.Seats.{RingerValue, BellsValue}
use Rattle.evm_bells.proofs.Steps.{parts}
use Rattle.evm_bells.proofs.bells.Bells.split.Goals as goal

pub split_seat-given-requires : goal.split_seat-given-requires
split_seat-given-requires c =
    let i = c.self.invariant in
    let seat = c.ringer.inside.seat in
    let v = seat.me.0 in
    let w = c.ringer.invariant.weighs in
    let half = c.if-half-eq0.false in (
      ap (λ (x : RingerValue). x.bells) c.ringer.view_is ∙ c.requires ∙ sym (ap (λ (b : BellsValue). b.id) c.self.view_is),
      omega (arith, i.worded, i.any),
      parts c.self.inside.table.shared.key seat.id v (half_kept v) (half_given v) (omega (arith, w)) (omega (arith, w)) (omega arith) (λ cpu l. omega arith) (λ cpu l. omega arith) (λ cpu l. omega arith),
    )
