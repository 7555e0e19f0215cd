use Rattle.claims_machine.proofs.objects.timers_expire_by_number.Goals as goal

pub returns : goal.returns
returns g c k =
    let p = g.goes_when_due.ensures.expires c k in (
      p.due,
      (
        p.in_order.rising,
        λ n. (
          (λ h. let d = (p.in_order.members n).0 h in (d.timer, (d.there, d.set, d.come, d.home))),
          (λ x. (p.in_order.members n).1 (record { timer = x.0; there = x.1.0; set = x.1.1; come = x.1.2; home = x.1.3 })),
        ),
        p.expires,
      ),
    )
