-- Lines that are raised, received and played on alike parts.
use Rattle.std.proofs.Common.{◌≡◌, ℕ, suc, ◌^◌, List, [], ◌∷◌, Option, Some, None, refl, ap, ◌∙◌}
use Rattle.std.specs.Prelude.{slice_get}
use Rattle.evm_dev.specs.Attached.{Attached}
use Rattle.evm_dev.specs.Rows.{ticked}
use Rattle.evm_model.specs.Actions.{action_or_nothing, action_at, receive_line, act}
use Rattle.evm_model.specs.Devices.{line_if, raise_line, raise_by_ticks}
use Rattle.evm_model.specs.Pipes.{Pipe, raise, arrive, leave_wire, receive, play, stage_of}
use Rattle.evm_model.specs.State.{Parts, on_pipe}
use Rattle.evm_model.specs.declared.action.Action.{Action}
use Rattle.evm_model.specs.declared.action.Action.TheVariants.{Nothing, Puts, Posts}
use Rattle.evm_model.specs.declared.stage.Stage.{Stage}
use Rattle.evm_model.specs.declared.stage.Stage.TheVariants.{OutOfBand, InBand}
use Rattle.law_runs.specs.Alike.{uncounted, Alike}
use Rattle.law_runs.proofs.Alike.Changing.{alike_if, alike_pipe}
use Rattle.law_runs.proofs.Alike.Reading.{actions-same}
use Rattle.law_runs.proofs.Alike.Tasks.{done_sem_put, alike_post}

-- ---- what pipes do looks at no count
pub uncounted-raise : (l : ℕ) (x : Pipe) → uncounted (raise l x) ≡ raise l (uncounted x)
unfolding raise
uncounted-raise l x = refl

uncounted-arrive : (stage : Stage) (l : ℕ) (x : Pipe) → uncounted (arrive stage l x) ≡ arrive stage l (uncounted x)
unfolding arrive
uncounted-arrive OutOfBand l x = refl
uncounted-arrive InBand l x = refl

uncounted-leave : (l : ℕ) (x : Pipe) → uncounted (leave_wire l x) ≡ leave_wire l (uncounted x)
unfolding leave_wire
uncounted-leave l x = refl

uncounted-receive : (stage : Stage) (l : ℕ) (x : Pipe) → uncounted (receive stage l x) ≡ receive stage l (uncounted x)
unfolding receive
uncounted-receive stage l x = uncounted-arrive stage l (leave_wire l x) ∙ ap (arrive stage l) (uncounted-leave l x)

uncounted-play : (stage : Stage) (l : ℕ) (x : Pipe) → uncounted (play stage l x) ≡ play stage l (uncounted x)
unfolding play
uncounted-play OutOfBand l x = refl
uncounted-play InBand l x = refl

module _ {p q : Parts} (a : Alike p q) where
  pub alike_raise : (c l : ℕ) → Alike (on_pipe c (raise l) p) (on_pipe c (raise l) q)
  alike_raise c l = alike_pipe a c (raise l) (uncounted-raise l)

  pub alike_arrive : (c : ℕ) (stage : Stage) (l : ℕ) → Alike (on_pipe c (arrive stage l) p) (on_pipe c (arrive stage l) q)
  alike_arrive c stage l = alike_pipe a c (arrive stage l) (uncounted-arrive stage l)

  pub alike_play : (c : ℕ) (stage : Stage) (l : ℕ) → Alike (on_pipe c (play stage l) p) (on_pipe c (play stage l) q)
  alike_play c stage l = alike_pipe a c (play stage l) (uncounted-play stage l)

  -- ---- the action of a line
  pub action_at-same : (l : ℕ) → action_at l p ≡ action_at l q
  action_at-same l = ap (λ actions. action_or_nothing (slice_get actions l)) (actions-same a)

  pub alike_receive : (c l : ℕ) → Alike (receive_line c l p) (receive_line c l q)
  unfolding receive_line
  alike_receive c l =
      rw (ap (λ action. receive (stage_of action l) l) (action_at-same l)) (alike_pipe a c (receive (stage_of (action_at l q) l) l) (uncounted-receive (stage_of (action_at l q) l) l))

  pub alike_act : (action : Action) (l : ℕ) → Alike (act action l p) (act action l q)
  unfolding act
  alike_act Nothing l = a
  alike_act (Puts s) l = (done_sem_put a s).0
  alike_act (Posts f) l = alike_if refl (alike_post a f (2 ^ l)) a

-- ---- a device raises its line
pub alike_line : {p q : Parts} → Alike p q → (o : Option ℕ) → Alike (raise_line o p) (raise_line o q)
alike_line a None = a
alike_line a (Some l) = alike_raise a 0 l

pub alike_ticks : (i : ℕ) (devices : List Attached) {p q : Parts} → Alike p q → Alike (raise_by_ticks i devices p) (raise_by_ticks i devices q)
unfolding raise_by_ticks
alike_ticks i [] a = a
alike_ticks i (device ∷ devices) a = alike_ticks (suc i) devices (alike_line a (line_if (ticked device.kind device.words).raise i))
