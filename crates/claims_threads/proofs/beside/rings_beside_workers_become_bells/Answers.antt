use Rattle.std.proofs.Common.{◌≡◌, ◌∙◌, ◌*◌, ◌≤◌, ℕ, length, ap, subst, sym, arith}
use Rattle.std.proofs.lemmas.List.Elements.{All-replicate}
use Rattle.std.specs.Prelude.{All}
use Rattle.evm_shared.proofs.Counting.{each_counted}
use Rattle.evm_shared.specs.EventCounts.{event_total}
use Rattle.evm_shared.specs.Ports.{PortValue, fresh_port}
use Rattle.claims_threads.proofs.beside.rings_beside_workers_become_bells.Goals as goal

pub workers_of-requires-clause-ports : goal.workers_of-requires-clause-ports
workers_of-requires-clause-ports g c =
    let F : PortValue → Type 0 = λ p. (since : ℕ) × (p ≡ fresh_port (2 * c.args.turns) since) × (event_total g.O.Origin.base ≤ since) in
    let since = length c.args.machine.journal in
    let had : event_total g.O.Origin.base ≡ since = sym (ap event_total c.requires.base) ∙ each_counted c.args.machine.journal in
    let twice : c.in_ok-receipts.receipts ≡ 2 * c.args.turns = omega (arith, c.in_ok-receipts.ensures) in
    subst (All F) (sym c.in-Ok.ensures.ok.1) (All-replicate F c.args.cpus (fresh_port c.in_ok-receipts.receipts since) (since, ap (λ n. fresh_port n since) twice, omega (arith, had)))

pub returns-clause-rung : goal.returns-clause-rung
returns-clause-rung g c p l cpu low =
    c.in-Some-no_interrupt_is_lost_or_played_twice.ensures.counters_since p l cpu low c.in-Some-parts_of.ensures.since c.in-Some-parts_of.ensures.pairs

pub returns-clause-all : goal.returns-clause-all
returns-clause-all g c p l cpu low none =
    c.in-Some-no_interrupt_is_lost_or_played_twice.ensures.counters p l cpu low none c.in-Some-parts_of.ensures.pairs
