use Rattle.std.proofs.Common.{arith, ap}
use Rattle.evm_shared.specs.declared.event_counts.EventCounts.{EventCounts}
use Rattle.claims_threads.proofs.Shares.{bells_made, others_made, steps_made}
use Rattle.claims_threads.proofs.sharing.the_machine_under_the_lock_is_its_journals_replay.Goals as goal

pub returns-in-Ok-clause-steps : goal.returns-in-Ok-clause-steps
returns-in-Ok-clause-steps g c =
    omega (arith, ap (λ (n : EventCounts). n.steps) c.in-Ok.ensures.machine.1, ap (λ (n : EventCounts). n.steps) c.in-Ok.ensures.totals, steps_made c.args.ports.items)

pub returns-in-Ok-clause-bells : goal.returns-in-Ok-clause-bells
returns-in-Ok-clause-bells g c =
    omega (arith, ap (λ (n : EventCounts). n.bells) c.in-Ok.ensures.machine.1, ap (λ (n : EventCounts). n.bells) c.in-Ok.ensures.totals, bells_made c.args.ports.items)

pub returns-in-Ok-clause-others : goal.returns-in-Ok-clause-others
returns-in-Ok-clause-others g c =
    omega (arith, ap (λ (n : EventCounts). n.others) c.in-Ok.ensures.machine.1, ap (λ (n : EventCounts). n.others) c.in-Ok.ensures.totals, others_made c.args.ports.items)

pub returns-in-Ok-clause-history : goal.returns-in-Ok-clause-history
returns-in-Ok-clause-history g c = let h = c.in-Ok.ensures.history in (h.0, h.1, h.2.replayed, h.2.journaled, h.3, h.4)
