use Rattle.std.proofs.Common.{◌≡◌, ◌∙◌, ◌+◌, ◌*◌, ◌≤◌, ℕ, [], ◌∷◌, length, ap, subst, arith}
use Rattle.std.proofs.lemmas.List.{length-append}
use Rattle.std.proofs.lemmas.List.Elements.{All-pop, All-push}
use Rattle.std.specs.Prelude.{IfSome}
use Rattle.evm_bells.specs.Seats.{IsNewTaker, TakerValue}
use Rattle.evm_shared.specs.EventCounts.{event_total}
use Rattle.evm_shared.specs.Ports.{PortValue, fresh_port}
use Rattle.evm_shared.specs.Workers.{WorkerValue}
use Rattle.claims_threads.proofs.Pairs.{new_worker}
use Rattle.claims_threads.specs.Said.{IsSaidWithRoom}
use Rattle.claims_threads.proofs.beside.workers_of.Goals as goal

pub loop-cpu-preserved : goal.loop-cpu-preserved
loop-cpu-preserved g c =
    let i = c.loop-cpu.invariant in
    let F : PortValue → Type 0 = λ p. (since : ℕ) × (p ≡ fresh_port (2 * c.args.turns) since) × (event_total g.O.Origin.base ≤ since) in
    let N : TakerValue → Type 0 = IsNewTaker c.args.bells.now.id in
    let Q : WorkerValue → Type 0 = IsSaidWithRoom c.args.bells.now (event_total g.O.Origin.base) c.args.turns in
    let ports = All-pop F c.loop-cpu.ports.items c.pop.new.self.items c.pop.result c.pop.ensures.items i.ports in
    let takers = All-pop N c.loop-cpu.takers.items c.pop-in-loop-cpu.new.self.items c.pop-in-loop-cpu.result c.pop-in-loop-cpu.ensures.items i.takers in
    let port : F c.in-Some-Some.port = subst (λ r. IfSome r F) c.in-Some-Some.is-0 ports.1 in
    let taker : N c.in-Some-Some.taker = subst (λ r. IfSome r N) c.in-Some-Some.is-1 takers.1 in
    let parts = c.in-Ok.ensures.parts in
    let its : Q c.in-Ok.worker = new_worker c.args.bells.now (event_total g.O.Origin.base) c.args.turns port.0 c.in-Some-Some.port c.in-Some-Some.taker c.in-Ok.worker port.1 port.2 taker parts.1 parts.2 in record {
      made = ap length c.push_reserved.ensures.items ∙ length-append c.loop-cpu.workers.items (c.in-Ok.worker ∷ []) ∙ ap (λ n. n + 1) i.made;
      room = omega (arith, c.push_reserved.ensures.capacity, i.room);
      ports = ports.0;
      takers = takers.0;
      workers = rw c.push_reserved.ensures.items (All-push Q c.loop-cpu.workers.items c.in-Ok.worker i.workers its);
    }
