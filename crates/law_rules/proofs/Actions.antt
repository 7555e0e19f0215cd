-- The call that gives a line its action leaves the state good but for what its processor settles.
use Rattle.std.proofs.Common.{ℕ, Option, Some, None}
use Rattle.std.specs.Prelude.{nat_lt, nat_le}
use Rattle.evm_model.specs.Actions.{action_of, set_line_to, set_line}
use Rattle.evm_model.specs.Good.{IsOwn}
use Rattle.evm_model.specs.Profiles.{line_count}
use Rattle.evm_model.specs.State.{Parts}
use Rattle.evm_model.specs.declared.action.Action.{Action}
use Rattle.evm_model.specs.declared.call.Outcome.{Outcome}
use Rattle.law_rules.proofs.Done.{IsDone, either, others-done}
use Rattle.law_rules.proofs.Settling.{GoodBut}

module _ (c t : ℕ) (k : Parts) (g : GoodBut c k) (o : IsOwn c t k.tasks) where
  same : (outcome : Outcome) → IsDone c t (k, outcome)
  same outcome = record { but = g; own = λ v n. o }

  set_line_to-done : (x : Option Action) (l : ℕ) → IsDone c t (set_line_to x l k)
  set_line_to-done None l = same _
  set_line_to-done (Some action) l = others-done c t k k.semaphores k.flags k.timers _ k.console _ g o

  pub set_line-done : (l action object : ℕ) → IsDone c t (set_line l action object k)
  unfolding set_line
  set_line-done l action object =
      either c t (nat_lt l 2) _ _ (λ e. same _) (λ low. either c t (nat_le (line_count k.profile) l) _ _ (λ e. same _) (λ high. set_line_to-done (action_of l action object k) l))
