-- Lines that are raised, received and played where tasks are ahead.
use Rattle.std.proofs.Common.{◌≡◌, ℕ, suc, ◌^◌, List, [], ◌∷◌, Option, Some, None, refl, ap}
use Rattle.std.specs.Prelude.{slice_get}
use Rattle.evm_dev.specs.Attached.{Attached}
use Rattle.evm_dev.specs.Rows.{ticked}
use Rattle.evm_model.specs.Actions.{action_or_nothing, action_at, receive_line, act}
use Rattle.evm_model.specs.Devices.{line_if, raise_line, raise_by_ticks}
use Rattle.evm_model.specs.Pipes.{raise, arrive, receive, play, stage_of}
use Rattle.evm_model.specs.State.{Parts, on_pipe}
use Rattle.evm_model.specs.declared.action.Action.{Action}
use Rattle.evm_model.specs.declared.action.Action.TheVariants.{Nothing, Puts, Posts}
use Rattle.evm_model.specs.declared.stage.Stage.{Stage}
use Rattle.law_runs.specs.Ahead.{HeadStart, Ahead}
use Rattle.law_runs.proofs.Alike.AheadChanging.{ahead_if, ahead_pipe}
use Rattle.law_runs.proofs.Alike.AheadReading.{actions-same}
use Rattle.law_runs.proofs.Alike.AheadTasks.{done_sem_put, ahead_post}

module _ {lead : HeadStart} {p q : Parts} (a : Ahead lead p q) where
  pub ahead_raise : (c l : ℕ) → Ahead lead (on_pipe c (raise l) p) (on_pipe c (raise l) q)
  ahead_raise c l = ahead_pipe a c (raise l)

  pub ahead_arrive : (c : ℕ) (stage : Stage) (l : ℕ) → Ahead lead (on_pipe c (arrive stage l) p) (on_pipe c (arrive stage l) q)
  ahead_arrive c stage l = ahead_pipe a c (arrive stage l)

  pub ahead_play : (c : ℕ) (stage : Stage) (l : ℕ) → Ahead lead (on_pipe c (play stage l) p) (on_pipe c (play stage l) q)
  ahead_play c stage l = ahead_pipe a c (play stage l)

  -- ---- the action of a line
  pub action_at-same : (l : ℕ) → action_at l p ≡ action_at l q
  action_at-same l = ap (λ actions. action_or_nothing (slice_get actions l)) (actions-same a)

  pub ahead_receive : (c l : ℕ) → Ahead lead (receive_line c l p) (receive_line c l q)
  unfolding receive_line
  ahead_receive c l =
      rw (ap (λ action. receive (stage_of action l) l) (action_at-same l)) (ahead_pipe a c (receive (stage_of (action_at l q) l) l))

  pub ahead_act : (action : Action) (l : ℕ) → Ahead lead (act action l p) (act action l q)
  unfolding act
  ahead_act Nothing l = a
  ahead_act (Puts s) l = (done_sem_put a s).0
  ahead_act (Posts f) l = ahead_if refl (ahead_post a f (2 ^ l)) a

-- ---- a device raises its line
pub ahead_line : {lead : HeadStart} {p q : Parts} → Ahead lead p q → (o : Option ℕ) → Ahead lead (raise_line o p) (raise_line o q)
ahead_line a None = a
ahead_line a (Some l) = ahead_raise a 0 l

pub ahead_ticks : (i : ℕ) (devices : List Attached) {lead : HeadStart} {p q : Parts} → Ahead lead p q → Ahead lead (raise_by_ticks i devices p) (raise_by_ticks i devices q)
unfolding raise_by_ticks
ahead_ticks i [] a = a
ahead_ticks i (device ∷ devices) a = ahead_ticks (suc i) devices (ahead_line a (line_if (ticked device.kind device.words).raise i))
