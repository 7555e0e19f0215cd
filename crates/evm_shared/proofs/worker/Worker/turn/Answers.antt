use Rattle.std.proofs.Common.{inl, inr, refl}
use Rattle.std.proofs.lemmas.Result.{err_from_is_err_and}
use Rattle.evm_shared.proofs.Turns.{lacks_either}
use Rattle.evm_shared.proofs.worker.Worker.turn.Goals as goal

pub returns-in_err-deliver-clause-refused : goal.returns-in_err-deliver-clause-refused
returns-in_err-deliver-clause-refused g c =
    let p = err_from_is_err_and c.from_residual.result c.from_residual.ensures.1 in
    rw (p.1, p.2, ← c.self.view_is) (inl (c.in_err-deliver.ensures.call, c.in_err-deliver.ensures.taken, refl))

pub returns-in_err-deliver-clause-reason : goal.returns-in_err-deliver-clause-reason
returns-in_err-deliver-clause-reason g c =
    let p = err_from_is_err_and c.from_residual.result c.from_residual.ensures.1 in
    rw (p.1, p.2, ← c.self.view_is) c.in_err-deliver.ensures.refused

pub returns-in_err-commit_into-clause-reason : goal.returns-in_err-commit_into-clause-reason
returns-in_err-commit_into-clause-reason g c =
    let p = err_from_is_err_and c.from_residual-in_err-commit_into.result c.from_residual-in_err-commit_into.ensures.1 in
    rw (p.1, p.2, ← c.self.view_is) (lacks_either g.O.Origin.machine c.args.bells.now.cpus c.self.inside.cpu _ c.in_err-commit_into.ensures.refused)

pub returns-in_err-commit_into-clause-refused : goal.returns-in_err-commit_into-clause-refused
returns-in_err-commit_into-clause-refused g c =
    let p = err_from_is_err_and c.from_residual-in_err-commit_into.result c.from_residual-in_err-commit_into.ensures.1 in
    rw (p.1, p.2, ← c.self.view_is) (inr (
      c.in_ok-deliver.field-0,
      c.deliver.new.port,
      c.burst-burst.result,
      c.in_ok-deliver.ensures.taken,
      c.in_ok-deliver.ensures.call,
      c.burst-burst.ensures.ahead,
      c.burst-burst.ensures.used,
      c.in_err-commit_into.ensures.call,
    ))

pub returns-clause-made : goal.returns-clause-made
returns-clause-made g c = rw (← c.self.view_is) record {
  word = c.in_ok-deliver.field-0;
  delivered = c.deliver.new.port;
  burst = c.burst-burst.result;
  used = c.burst-burst.new.self;
  done = c.commit_into.new.done;
  taken = c.in_ok-deliver.ensures.taken;
  bells = c.in_ok-deliver.ensures.call;
  speculates = (c.burst-burst.ensures.ahead, c.burst-burst.ensures.used);
  commits = c.in_ok-commit_into.ensures.call;
  keeps = c.keep.ensures;
  same = (refl, c.deliver.ensures.seat);
}
