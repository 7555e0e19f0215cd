use Rattle.std.proofs.Common.{slice_get}
use Rattle.claims_machine.proofs.Waiting.{is_named, waiter_of, waits_not}
use Rattle.claims_machine.proofs.objects.waits_end_by_deadline_then_by_number.Goals as goal

pub returns : goal.returns
returns g c k named timed =
    let p =
    g.goes_when_due.ensures.ends c k
    (λ t e h. let w = waiter_of t e k.tasks h in let m = named t e w.0 w.1.0 w.1.1 in is_named (slice_get k.events e) m.0 k.mutexes m.1.0 m.1.1)
    (λ t task there ready. timed t task there (λ wait is. waits_not task.state wait ready is)) in (
      p.late,
      (
        λ t. (
          (λ h. let l = (p.members t).0 h in (l.task, (l.there, l.set, l.come, l.home))),
          (λ x. (p.members t).1 (record { task = x.0; there = x.1.0; set = x.1.1; come = x.1.2; home = x.1.3 })),
        ),
        p.sooner,
        p.ends,
      ),
    )
