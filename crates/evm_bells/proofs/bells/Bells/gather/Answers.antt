use Rattle.std.proofs.Common.{◌≡◌, List, [], ◌∷◌, ◌++◌, length, sym, ap, ◌∙◌, arith, subst, length-append}
use Rattle.std.specs.Prelude.{All}
use Rattle.std.proofs.lemmas.List.{append-nil}
use Rattle.atomic_table.specs.Table.{Me}
use Rattle.evm_bells.specs.declared.rule.SeatView.{SeatView}
use Rattle.evm_bells.specs.Batches.{Batch}
use Rattle.evm_bells.specs.Seats.{TakerValue, BellsValue, taken_by}
use Rattle.evm_bells.proofs.Counting.{counted_before, taken_by-last, all_front, all_last}
use Rattle.evm_bells.proofs.Steps.{meets}
use Rattle.evm_bells.proofs.bells.Bells.gather.Goals as goal

pub join_seat-requires : goal.join_seat-requires
join_seat-requires c =
    let i = c.self.invariant in
    let here = ap (λ (b : BellsValue). b.id) c.self.view_is in
    let P : TakerValue → Type 0 = λ t. t.bells ≡ c.args.self.now.id in
    let last = c.in-Some.ensures.items in (
      c.loop-taker.invariant.table ∙ sym here,
      ap (λ (t : TakerValue). t.bells) c.taker.view_is ∙ all_last P c.pop.new.self.items c.in-Some.taker (subst (All P) last c.loop-taker.invariant.all) ∙ sym here,
      c.taker.invariant.empty,
      omega (arith, i.worded, i.any),
      meets c.self.inside.table.shared.key c.loop-taker.seat.id c.taker.inside.seat.id c.loop-taker.seat.me.0 c.taker.inside.seat.me.0 c.loop-taker.invariant.weighty,
    )

pub loop-taker-preserved : goal.loop-taker-preserved
loop-taker-preserved c =
    let i = c.loop-taker.invariant in
    let t = c.taker.invariant in
    let e = c.join_seat.ensures in
    let me = ap (λ (m : Me (Unit {0}) SeatView). m.0) e.2 in
    let P : TakerValue → Type 0 = λ t. t.bells ≡ c.args.self.now.id in
    let last = c.in-Some.ensures.items in
    let popped = ap (λ (t : TakerValue). t.taken) c.taker.view_is in record {
      table = e.0 ∙ i.table;
      all = all_front P c.pop.new.self.items c.in-Some.taker (subst (All P) last i.all);
      weight = omega (arith, ap (λ (v : SeatView). v.weight) me, i.weight, t.weighs, ap length last, length-append c.pop.new.self.items (c.in-Some.taker ∷ []));
      weighty = omega (arith, ap (λ (v : SeatView). v.weight) me, i.weighty);
      fresh = ap (λ (v : SeatView). v.fresh) me ∙ rw t.unrung.0 (append-nil c.loop-taker.seat.me.0.fresh) ∙ i.fresh;
      stood = ap (λ (v : SeatView). v.stood) me ∙ rw t.unrung.1 (append-nil c.loop-taker.seat.me.0.stood) ∙ i.stood;
      taken = ap (λ (v : SeatView). taken_by c.pop.new.self.items ++ v.taken) me
          ∙ ap (λ (m : List Batch). taken_by c.pop.new.self.items ++ (m ++ c.loop-taker.seat.me.0.taken)) popped
          ∙ sym (taken_by-last c.pop.new.self.items c.in-Some.taker c.loop-taker.seat.me.0.taken)
          ∙ ap (λ (ts : List TakerValue). taken_by ts ++ c.loop-taker.seat.me.0.taken) (sym last)
          ∙ i.taken;
      counted = rw me (counted_before _ _ _ c.add_all.ensures _ _ i.counted t.counted);
    }
