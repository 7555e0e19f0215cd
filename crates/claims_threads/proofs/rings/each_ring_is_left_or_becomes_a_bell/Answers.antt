use Rattle.std.proofs.Common.{◌∙◌, sym, arith, ap}
use Rattle.std.specs.Prelude.{sum_by}
use Rattle.evm_shared.specs.EventCounts.{event_total}
use Rattle.evm_shared.specs.Ports.{PortValue}
use Rattle.evm_shared.specs.declared.event_counts.EventCounts.{EventCounts}
use Rattle.claims_threads.proofs.Bells.{bells_since, each_bell, each_since}
use Rattle.claims_threads.proofs.Shares.{bells_made}
use Rattle.claims_threads.proofs.rings.each_ring_is_left_or_becomes_a_bell.Goals as goal

pub returns-in-Ok-close-clause-totals : goal.returns-in-Ok-close-clause-totals
returns-in-Ok-close-clause-totals g c =
    omega (arith, ap (λ (n : EventCounts). n.bells) c.in-Ok.ensures.machine.1, ap (λ (n : EventCounts). n.bells) c.in-Ok.ensures.totals, bells_made c.args.ports.items)

pub returns-in-Ok-close-clause-lines : goal.returns-in-Ok-close-clause-lines
returns-in-Ok-close-clause-lines g c p l none kept holds told =
    let totals = returns-in-Ok-close-clause-totals g c in
    let each = each_bell c.in-Ok.done.machine c.args.ports.items holds (omega (arith, totals, none, kept)) p l in
    omega (arith, each, told, c.in-Ok-close.ensures.balance p l)

pub returns-in-Ok-close-clause-since : goal.returns-in-Ok-close-clause-since
returns-in-Ok-close-clause-since g c p l late kept holds told =
    let s = c.in-Ok.done.machine in
    let ports = c.args.ports.items in
    let base = g.O.Origin.base in
    let added = bells_since base s.journal (sum_by (λ (q : PortValue). q.share.bells) ports) c.in-Ok.ensures.begins (returns-in-Ok-close-clause-totals g c) in
    let each = each_since s (event_total base) ports holds late (kept ∙ sym added) p l in
    omega (arith, each, told, c.in-Ok-close.ensures.balance p l)
