use Rattle.std.proofs.Common.{◌≡◌, ◌∙◌, ap, subst}
use Rattle.std.proofs.lemmas.List.Elements.{All-pop, All-push}
use Rattle.std.specs.Prelude.{IfSome}
use Rattle.evm_bells.specs.Seats.{IsNewTaker, TakerValue}
use Rattle.evm_shared.specs.Workers.{WorkerValue}
use Rattle.test_workers.proofs.seats.workers_of.Goals as goal

pub loop-cpu-preserved : goal.loop-cpu-preserved
loop-cpu-preserved g c =
    let i = c.loop-cpu.invariant in
    let N : TakerValue → Type 0 = IsNewTaker c.args.bells.now.id in
    let Q : WorkerValue → Type 0 = λ w. w.taker.bells ≡ c.args.bells.now.id in
    let takers = All-pop N c.loop-cpu.takers.items c.pop-in-loop-cpu.new.self.items c.pop-in-loop-cpu.result c.pop-in-loop-cpu.ensures.items i.takers in
    let taker : N c.in-Some-Some.taker = subst (λ r. IfSome r N) c.in-Some-Some.is-1 takers.1 in
    let its : Q c.in-Some.worker = ap (λ (t : TakerValue). t.bells) c.in-Some.ensures ∙ taker.0 in record {
      takers = takers.0;
      workers = rw c.in-Ok.ensures.items (All-push Q c.loop-cpu.workers.items c.in-Some.worker i.workers its);
    }
