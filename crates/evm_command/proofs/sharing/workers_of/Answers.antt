use Rattle.std.proofs.Common.{◌≡◌, ◌∙◌, ◌+◌, [], ◌∷◌, length, ap, subst, arith}
use Rattle.std.proofs.lemmas.List.{length-append}
use Rattle.std.specs.Prelude.{IfSome}
use Rattle.std.proofs.lemmas.List.Elements.{All-pop, All-push}
use Rattle.evm_bells.specs.Seats.{TakerValue}
use Rattle.evm_shared.specs.Workers.{WorkerValue}
use Rattle.evm_command.proofs.sharing.workers_of.Goals as goal

pub loop-cpu-preserved : goal.loop-cpu-preserved
loop-cpu-preserved g c =
    let P : TakerValue → Type 0 = λ t. t.bells ≡ c.args.bells.now.id in
    let Q : WorkerValue → Type 0 = λ w. w.taker.bells ≡ c.args.bells.now.id in
    let popped = All-pop P c.loop-cpu.takers.items c.pop-in-loop-cpu.new.self.items c.pop-in-loop-cpu.result c.pop-in-loop-cpu.ensures.items c.loop-cpu.invariant.takers in
    let last : P c.in-Some-Some.taker = subst (λ r. IfSome r P) c.in-Some-Some.is-1 popped.1 in
    let its : Q c.in-Ok.worker = ap (λ (t : TakerValue). t.bells) c.in-Ok.ensures.parts.2 ∙ last in record {
      made = ap length c.push_reserved.ensures.items ∙ length-append c.loop-cpu.workers.items (c.in-Ok.worker ∷ []) ∙ ap (λ n. n + 1) c.loop-cpu.invariant.made;
      room = omega (arith, c.push_reserved.ensures.capacity, c.loop-cpu.invariant.room);
      takers = popped.0;
      workers = rw c.push_reserved.ensures.items (All-push Q c.loop-cpu.workers.items c.in-Ok.worker c.loop-cpu.invariant.workers its);
    }
