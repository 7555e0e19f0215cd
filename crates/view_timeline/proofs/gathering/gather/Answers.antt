use Rattle.std.proofs.Common.{◌≡◌, Option, arith, ap, ◌∙◌, length, subst}
use Rattle.std.specs.Prelude.{min}
use Rattle.view_timeline.proofs.WindowLemmas.{going, window-ended, window-reached}
use Rattle.run_walk.specs.Walks.{IsNext}
use Rattle.run_walk.specs.declared.item.Item.{Item}
use Rattle.view_timeline.proofs.gathering.gather.Goals as goal
use Rattle.view_timeline.proofs.gathering.gather.Goals.{else-loop-event-test, then-loop-event-test+then-left-eq0, then-loop-event-test+else-left-eq0+in_ok-item+in_default}

pub loop-event-preserved : goal.loop-event-preserved
loop-event-preserved g c =
    let left = c.saturating_sub-left.ensures in
    let at = c.next_event.ensures.next in (
      going c.args.walk.now c.loop-event.walk c.next_within.new.self c.in-Some.item c.next_event-first.result c.args.window.to c.saturating_sub-left.result c.loop-event._event c.loop-event.timeline.cells.items c.add.new.self.cells.items
          c.loop-event.invariant.0 (omega (arith, left, at)) (omega (arith, c.if-left-eq0.false))
          (subst (λ (o : Option Item). IsNext c.saturating_sub-left.result c.loop-event.walk o c.next_within.new.self) c.in-Some.is c.in_ok-item.ensures.next)
          c.in_ok-item.ensures.follows (omega (arith, c.next_event-in-loop-event.ensures.next, c.next_event-in-loop-event.type_inv))
          (omega (arith, c.next_event-in-loop-event.ensures.next, c.next_event-in-loop-event.ensures.most)) c.in_ok-add.ensures.row,
      c.add.ensures.count ∙ c.loop-event.invariant.1,
    )

pub returns-clause-window : goal.returns-clause-window
returns-clause-window g c =
    let first : c.next_event-first.result ≡ c.min.result = omega (arith, c.next_event-first.ensures.next, c.in_ok-skip.ensures.skipped, c.requires) in
    let begins : c.next_event-first.result ≡ min c.args.window.from (length c.args.walk.now.events) = first ∙ c.min.ensures ∙ ap (min c.args.window.from) c.event_count.ensures in
    let cells = c.loop-event.timeline.cells.items in
    let comes = c.loop-event.invariant.0 in
    (elim c.loop-event-test.branch [
      | else-loop-event-test w ↦ let was = comes.2 in
          window-reached c.args.window c.args.walk.now c.loop-event.walk c.next_event-first.result c.loop-event._event cells comes begins (omega (arith, was, w.loop-event-test.false))
      | then-loop-event-test+then-left-eq0 w ↦
          window-reached c.args.window c.args.walk.now c.loop-event.walk c.next_event-first.result c.loop-event._event cells comes begins
          (omega (arith, w.saturating_sub-left.ensures, w.next_event.ensures.next, w.if-left-eq0.true))
      | then-loop-event-test+else-left-eq0+in_ok-item+in_default w ↦
          window-ended c.args.window c.args.walk.now c.loop-event.walk c.next_event-first.result c.loop-event._event cells comes begins
          (subst (λ (o : Option Item). IsNext w.saturating_sub-left.result c.loop-event.walk o w.next_within.new.self) w.in_default.is w.in_ok-item.ensures.next).1
    ])
