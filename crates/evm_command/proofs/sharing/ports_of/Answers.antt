use Rattle.std.proofs.Common.{◌≡◌, ◌≤◌, [], ◌∷◌, ◌++◌, length, Option, IfSome, option_to_list, ap, sym, subst, arith}
use Rattle.std.proofs.lemmas.List.{length-append}
use Rattle.std.proofs.lemmas.List.Elements.{All-pop, All-push}
use Rattle.evm_shared.specs.Ports.{PortValue}
use Rattle.evm_shared.specs.Workers.{WorkerValue}
use Rattle.evm_command.proofs.sharing.ports_of.Goals as goal

pub loop-worker-preserved : goal.loop-worker-preserved
loop-worker-preserved g c =
    let popped : c.loop-worker.workers.items ≡ c.pop.new.self.items ++ c.in-Some.worker ∷ [] =
    subst (λ (r : Option WorkerValue). c.loop-worker.workers.items ≡ c.pop.new.self.items ++ option_to_list r) c.in-Some.is c.pop.ensures.items in
    record {
      all = omega (
        arith,
        ap length popped,
        length-append c.pop.new.self.items (c.in-Some.worker ∷ []),
        ap length c.push_reserved.ensures.items,
        length-append c.loop-worker.ports.items (c.into_parts-port.result.0 ∷ []),
        c.loop-worker.invariant.all,
      );
      room = omega (arith, c.push_reserved.ensures.capacity, c.loop-worker.invariant.room);
      steps = λ n h.
          let P : WorkerValue → Type 0 = λ w. n ≤ w.port.share.steps in
          let Q : PortValue → Type 0 = λ p. n ≤ p.share.steps in
          let before = c.loop-worker.invariant.steps n h in
          let rest = All-pop P c.loop-worker.workers.items c.pop.new.self.items c.pop.result c.pop.ensures.items before.0 in
          let last : P c.in-Some.worker = subst (λ (r : Option WorkerValue). IfSome r P) c.in-Some.is rest.1 in
          let its : Q c.into_parts-port.result.0 = subst Q (sym c.into_parts-port.ensures.0) last in
          (rest.0, rw c.push_reserved.ensures.items (All-push Q c.loop-worker.ports.items c.into_parts-port.result.0 before.1 its));
    }
