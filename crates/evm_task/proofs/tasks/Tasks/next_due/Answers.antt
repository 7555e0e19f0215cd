use Rattle.std.proofs.Common.{length, List, sym, ap, ◌∙◌}
use Rattle.evm_model.specs.Deadlines.{deadline, is_due}
use Rattle.evm_model.specs.Ranks.{first}
use Rattle.evm_model.specs.declared.task.Task.{Task}
use Rattle.evm_task.proofs.Early.{nobody-due}
use Rattle.evm_task.proofs.tasks.Tasks.next_due.Goals as goal

pub returns-then-now-self-clause-due : goal.returns-then-now-self-clause-due
returns-then-now-self-clause-due c =
    sym (nobody-due c.args.c c.args.now _ (λ _. 0) (deadline c.self.inside.tasks.items) c.self.inside.tasks.items c.self.invariant c.if-now-self.true)
    ∙ ap (λ (tasks : List Task). first (is_due c.args.c c.args.now tasks) (λ _. 0) (deadline tasks) (length tasks)) c.self.view_is
