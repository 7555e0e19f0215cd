use Rattle.std.proofs.Common.{◌∙◌, sym, ap}
use Rattle.evm_boost.proofs.Settled.{settled-scheduled}
use Rattle.evm_boost.specs.Scheduled.{Scheduled}
use Rattle.evm_model.specs.Mending.{no_task, with_task}
use Rattle.evm_boost.proofs.schedule.Schedule.mend.Goals as goal

pub reckon-requires : goal.reckon-requires
reckon-requires c = record {
  entered = c.requires.entered;
  unsound = ap (λ (s : Scheduled). s.sound) (sym c.self.view_is) ∙ c.if-not-self.true;
}

pub returns : goal.returns
returns c =
    settled-scheduled _ _ _ (c.settle-2.ensures.settled no_task (c.settle.ensures.settled (with_task c.args.second no_task) c.requires))
    (c.settle-2.ensures.sound ∙ c.settle.ensures.sound ∙ ap (λ (s : Scheduled). s.sound) (sym c.self.view_is) ∙ c.if-not-self.false)
