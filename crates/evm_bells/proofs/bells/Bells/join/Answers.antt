use Rattle.std.proofs.Common.{refl, sym, ap, ◌∙◌, arith}
use Rattle.atomic_table.specs.Table.{Me}
use Rattle.evm_bells.specs.declared.rule.SeatView.{SeatView}
use Rattle.evm_bells.specs.Rule.{joined}
use Rattle.evm_bells.specs.Seats.{RingerValue, BellsValue}
use Rattle.evm_bells.proofs.Counting.{counted_both}
use Rattle.evm_bells.proofs.Steps.{meets, weighs}
use Rattle.evm_bells.proofs.bells.Bells.join.Goals as goal

pub join_seat-requires : goal.join_seat-requires
join_seat-requires c =
    let i = c.self.invariant in
    let seat = c.ringer.inside.seat in
    let here = ap (λ (b : BellsValue). b.id) c.self.view_is in (
      ap (λ (x : RingerValue). x.bells) c.ringer.view_is ∙ c.requires.0 ∙ sym here,
      ap (λ (x : RingerValue). x.bells) c.other.view_is ∙ c.requires.1 ∙ sym here,
      c.other.invariant.empty,
      omega (arith, i.worded, i.any),
      meets c.self.inside.table.shared.key seat.id c.other.inside.seat.id seat.me.0 c.other.inside.seat.me.0 (omega (arith, c.ringer.invariant.weighs)),
    )

pub load-requires : goal.load-requires
load-requires c =
    let i = c.self.invariant in
    let table = c.self.inside.table.shared in
    let e = c.join_seat.ensures in
    let weight = ap (λ (m : Me (Unit {0}) SeatView). m.0.weight) e.2 in (
      e.0 ∙ (ap (λ (x : RingerValue). x.bells) c.ringer.view_is ∙ c.requires.0 ∙ sym (ap (λ (b : BellsValue). b.id) c.self.view_is)),
      omega (arith, i.worded, i.any),
      weighs table.key table.table_id.slots c.join_seat.new.seat.id c.join_seat.new.seat.me (omega (arith, i.keyed, i.any)) (omega (arith, i.keyed, i.limit)) (omega (arith, weight, c.ringer.invariant.weighs)),
    )

pub invariant_of-ringer : goal.invariant_of-ringer
invariant_of-ringer c =
    let e = c.join_seat.ensures in
    let f = c.load.ensures in
    let mine = c.ringer.invariant in
    let other = c.other.invariant in
    let me = f.2.0 ∙ e.2 in
    let both = joined c.ringer.inside.seat.me.0 c.other.inside.seat.me.0 in
    let weight = ap (λ (m : Me (Unit {0}) SeatView). m.0.weight) me in record {
      weighs = omega (arith, weight, mine.weighs, other.weighs);
      untaken = ap (λ (m : Me (Unit {0}) SeatView). m.0.taken) me ∙ rw (mine.untaken, other.untaken) refl;
      empty = ap (λ (m : Me (Unit {0}) SeatView). m.1) me ∙ mine.empty;
      counted = rw me (counted_both _ _ _ c.add_all.ensures _ _ mine.counted other.counted);
      any = omega (arith, mine.any);
      limit = omega (arith, f.2.1, ap (λ (m : Me (Unit {0}) SeatView). m.0.weight) e.2, mine.weighs, other.weighs);
    }
