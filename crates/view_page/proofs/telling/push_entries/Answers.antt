use Rattle.std.proofs.Common.{◌≡◌, ◌<◌, ◌≤◌, ◌-◌, ◌^◌, List, length, sym, subst, arith}
use Rattle.std.specs.Prelude.{Option, Some, None}
use Rattle.std.specs.String.{string_bytes}
use Rattle.run_walk.specs.Walks.{IsMarked, IsNext, Walked, place}
use Rattle.run_walk.specs.declared.item.Item.{Item}
use Rattle.run_marks.specs.declared.mark.Mark.{Mark}
use Rattle.view_page.specs.Entries.{Entry}
use Rattle.view_page.proofs.Runs.{ended, goes, tells-all}
use Rattle.view_page.proofs.telling.push_entries.Goals as goal
use Rattle.view_page.proofs.telling.push_entries.Goals.{else-loop-item-test, then-loop-item-test+in_ok-item+in_default}

pub loop-item-preserved : goal.loop-item-preserved
loop-item-preserved g c =
    let marks = c.as_slice-in-loop-item.result.now in
    let entry : Entry = record { item = c.in-Some.item; marks = marks; details = c.as_slice-in-loop-item-2.result.now } in
    let found = subst (λ (o : Option Item). IsMarked o c.loop-item.walk.machine c.next.new.self.machine c.next.new.found.items) c.in-Some.is c.in_ok-item.ensures.marks in
    goes c.args.walk.now c.loop-item.walk c.next.new.self (string_bytes c.args.out.now) (string_bytes c.loop-item.out) (string_bytes c.push_entry.new.out) c.loop-item._item entry c.loop-item.invariant
    (record {
      next = subst (λ (o : Option Item). IsNext (2 ^ 64 - 1) c.loop-item.walk o c.next.new.self) c.in-Some.is c.in_ok-item.ensures.next;
      marks = subst (λ (ms : List Mark). IsMarked (Some c.in-Some.item) c.loop-item.walk.machine c.next.new.self.machine ms) (sym c.as_slice-in-loop-item.ensures.value) found;
      follows = c.in_ok-item.ensures.follows;
    }) c.in_ok-push_entry.ensures

pub returns : goal.returns
returns g c =
    tells-all c.args.walk.now c.loop-item.walk (string_bytes c.args.out.now) (string_bytes c.loop-item.out) c.loop-item._item c.loop-item.invariant
    (elim c.loop-item-test.branch [
      | else-loop-item-test w ↦
          let most : place c.loop-item-test.walk ≤ length c.loop-item-test.walk.events = omega (arith, c.next_event-2.ensures.next, c.next_event-2.ensures.most) in
          ended c.args.walk.now c.loop-item.walk (string_bytes c.args.out.now) (string_bytes c.loop-item.out) c.loop-item._item c.event_count-item-end.result c.loop-item.invariant c.event_count-item-end.ensures
          (omega (arith, w.loop-item-test.false)) (subst (λ (x : Walked). place x ≤ length x.events) w.walk-is most)
      | then-loop-item-test+in_ok-item+in_default w ↦
          (subst (λ (o : Option Item). IsNext (2 ^ 64 - 1) c.loop-item.walk o w.next.new.self) w.in_default.is w.in_ok-item.ensures.next).1
    ])
