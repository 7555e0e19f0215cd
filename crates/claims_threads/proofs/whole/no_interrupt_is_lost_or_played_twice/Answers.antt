use Rattle.std.proofs.Common.{◌≡◌, ◌∙◌, ◌+◌, length, subst, sym, arith}
use Rattle.std.specs.Prelude.{count_by, slice_index, sum_by}
use Rattle.std.specs.Int.{bit_at}
use Rattle.evm_bells.specs.Batches.{count, counter}
use Rattle.evm_shared.specs.Checks.{PortsHold}
use Rattle.evm_shared.specs.EventCounts.{event_total, events_since}
use Rattle.evm_shared.specs.Ports.{PortValue}
use Rattle.claims_threads.proofs.Bells.{bells_since, each_bell, each_since}
use Rattle.claims_threads.proofs.Exact.{exact, exact_since, run_from}
use Rattle.claims_threads.proofs.Taken.{paired_bells, paired_lines}
use Rattle.claims_threads.specs.Lines.{rings}
use Rattle.claims_threads.proofs.whole.no_interrupt_is_lost_or_played_twice.Goals as goal

pub returns-in-Ok-clause-rung : goal.returns-in-Ok-clause-rung
returns-in-Ok-clause-rung g c p l low pairs =
    omega (arith, c.in-Ok.ensures.balance p l, paired_lines p l c.args.ports.items c.args.takers.items low pairs)

pub returns-in-Ok-clause-delivered : goal.returns-in-Ok-clause-delivered
returns-in-Ok-clause-delivered g c p l none pairs =
    let s = c.in-Some.done.machine in
    let ports = c.args.ports.items in
    let holds = subst (λ these. PortsHold s these (length these)) (c.as_slice.ensures.value ∙ c.in-Some.ensures.ports) (c.are_checked.ensures c.if-not-are_checked.false) in
    each_bell s ports holds (omega (arith, paired_bells ports c.args.takers.items pairs, c.in-Some.ensures.bells, none)) p l

pub returns-in-Ok-clause-played : goal.returns-in-Ok-clause-played
returns-in-Ok-clause-played g c boot p l pipe n begins low off here there =
    let ran = run_from boot g.O.Origin.start c.in-Some.done.machine begins c.in-Some.ensures.replayed in
    omega (arith, c.each_bell_comes_to_a_stage.ensures boot c.in-Some.done.machine p l pipe n ran low off here there)

pub returns-in-Ok-clause-counters : goal.returns-in-Ok-clause-counters
returns-in-Ok-clause-counters g c p l cpu low none pairs =
    let sum : count c.args.ringer.fresh p l ≡ count_by (rings p l) c.in-Some.done.machine.journal + bit_at (slice_index c.in-Ok.closed.left p) l = omega (arith, returns-in-Ok-clause-rung g c p l low pairs, returns-in-Ok-clause-delivered g c p l none pairs) in
    exact c.in-Some.done.machine (rings p l) (slice_index c.in-Ok.closed.left p) l (counter c.in-Ok.closed.fresh.rows p l) (count c.args.ringer.fresh p l) c.rules.ensures.good (c.in-Ok.ensures.fresh p l cpu low) sum

pub returns-in-Ok-clause-since : goal.returns-in-Ok-clause-since
returns-in-Ok-clause-since g c p l late pairs =
    let s = c.in-Some.done.machine in
    let ports = c.args.ports.items in
    let base = g.O.Origin.base in
    let holds = subst (λ these. PortsHold s these (length these)) (c.as_slice.ensures.value ∙ c.in-Some.ensures.ports) (c.are_checked.ensures c.if-not-are_checked.false) in
    let added = bells_since base s.journal (sum_by (λ (q : PortValue). q.share.bells) ports) c.in-Some.ensures.begins c.in-Some.ensures.bells in
    each_since s (event_total base) ports holds late (paired_bells ports c.args.takers.items pairs ∙ sym added) p l

pub returns-in-Ok-clause-counters_since : goal.returns-in-Ok-clause-counters_since
returns-in-Ok-clause-counters_since g c p l cpu low late pairs =
    let s = c.in-Some.done.machine in
    let base = g.O.Origin.base in
    let sum : count c.args.ringer.fresh p l ≡ count_by (rings p l) (events_since base s.journal) + bit_at (slice_index c.in-Ok.closed.left p) l = omega (arith, returns-in-Ok-clause-rung g c p l low pairs, returns-in-Ok-clause-since g c p l late pairs) in
    exact_since s (rings p l) (event_total base) (slice_index c.in-Ok.closed.left p) l (counter c.in-Ok.closed.fresh.rows p l) (count c.args.ringer.fresh p l) c.rules.ensures.good (c.in-Ok.ensures.fresh p l cpu low) sum

pub returns-in-Ok-clause-answered : goal.returns-in-Ok-clause-answered
returns-in-Ok-clause-answered g c p l low stood late pairs =
    omega (arith, c.in-Ok.ensures.answered p l stood, paired_lines p l c.args.ports.items c.args.takers.items low pairs, returns-in-Ok-clause-since g c p l late pairs)
