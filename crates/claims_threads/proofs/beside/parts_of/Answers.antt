use Rattle.std.proofs.Common.{◌≡◌, ◌≤◌, ◌∙◌, [], ◌∷◌, length, ap, subst, sym, arith}
use Rattle.std.proofs.lemmas.List.{length-append}
use Rattle.std.proofs.lemmas.List.Elements.{All-pop, All-push}
use Rattle.std.specs.Prelude.{IfSome}
use Rattle.evm_bells.specs.Seats.{TakerValue}
use Rattle.evm_shared.specs.EventCounts.{event_total}
use Rattle.evm_shared.specs.Ports.{PortValue}
use Rattle.evm_shared.specs.Workers.{WorkerValue}
use Rattle.claims_threads.proofs.Pairs.{one_more}
use Rattle.claims_threads.specs.Said.{IsSaid, SaysTaken}
use Rattle.claims_threads.proofs.beside.parts_of.Goals as goal

pub loop-worker-preserved : goal.loop-worker-preserved
loop-worker-preserved g c =
    let i = c.loop-worker.invariant in
    let P : WorkerValue → Type 0 = IsSaid c.args.bells.now (event_total g.O.Origin.base) in
    let R : PortValue → Type 0 = λ p. event_total g.O.Origin.base ≤ p.since in
    let Q : TakerValue → Type 0 = λ t. t.bells ≡ c.args.bells.now.id in
    let last = c.in-Some.ensures.items in
    let popped = All-pop P c.loop-worker.workers.items c.pop.new.self.items c.pop.result c.pop.ensures.items i.workers in
    let says : P c.in-Some.worker = subst (λ r. IfSome r P) c.in-Some.is popped.1 in
    let e = c.into_parts-port.ensures in
    let port = c.into_parts-port.result.0 in
    let taker = c.into_parts-port.result.1 in
    let pair : SaysTaken port taker = subst (λ (q : PortValue). SaysTaken q taker) (sym e.0) (subst (SaysTaken c.in-Some.worker.port) (sym e.1) says.1) in
    let late : R port = subst R (sym e.0) says.2 in
    let gone = ap length last ∙ length-append c.pop.new.self.items (c.in-Some.worker ∷ []) in
    let more = ap length c.push_reserved.ensures.items ∙ length-append c.loop-worker.ports.items (port ∷ []) in
    let seated = ap length c.push_reserved-in-Some.ensures.items ∙ length-append c.loop-worker.takers.items (taker ∷ []) in record {
      all = omega (arith, i.all, gone, more);
      both = omega (arith, i.both, more, seated);
      room = omega (arith, c.push_reserved.ensures.capacity, i.room);
      seats = omega (arith, c.push_reserved-in-Some.ensures.capacity, i.seats);
      workers = popped.0;
      since = rw c.push_reserved.ensures.items (All-push R c.loop-worker.ports.items port i.since late);
      pairs = rw (c.push_reserved.ensures.items, c.push_reserved-in-Some.ensures.items) (one_more c.loop-worker.ports.items c.loop-worker.takers.items port taker i.pairs pair);
      takers = rw c.push_reserved-in-Some.ensures.items (All-push Q c.loop-worker.takers.items taker i.takers (ap (λ (t : TakerValue). t.bells) e.1 ∙ says.0));
    }
