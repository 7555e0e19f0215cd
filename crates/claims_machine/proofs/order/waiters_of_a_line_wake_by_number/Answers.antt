use Rattle.claims_machine.proofs.order.waiters_of_a_line_wake_by_number.Goals as goal

pub returns : goal.returns
returns g c l k =
    let w = g.goes_in_order.ensures.wakes c l k in (
      w.waiters,
      (
        w.in_order.rising,
        λ t. (
          (λ h. let x = (w.in_order.members t).0 h in (x.task, (x.there, x.on, x.home))),
          (λ x. (w.in_order.members t).1 (record { task = x.0; there = x.1.0; on = x.1.1; home = x.1.2 })),
        ),
        w.wakes,
      ),
    )
