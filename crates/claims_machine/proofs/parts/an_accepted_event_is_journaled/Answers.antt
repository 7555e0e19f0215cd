use Rattle.std.proofs.Common.{◌≡◌, ℕ, refl, ap}
use Rattle.evm_model.specs.State.{State}
use Rattle.evm_model.specs.declared.event.Answer.{Answer}
use Rattle.evm_model.specs.declared.event.Answer.TheVariants.{Done}
use Rattle.evm_model.specs.Event.{Event}
use Rattle.evm_model.specs.declared.event.Event.TheVariants.{Step}
use Rattle.law_runs.specs.Changes.{AnswersDone}
use Rattle.claims_machine.proofs.parts.an_accepted_event_is_journaled.Goals as goal

pub returns-clause-journal : goal.returns-clause-journal
returns-clause-journal c old new event answer e = (c.events_change_only.ensures old new event answer e).journal

pub returns-clause-boot : goal.returns-clause-boot
returns-clause-boot c old new event answer e = ap (λ (s : State). s.boot) (c.events_change_only.ensures old new event answer e).rest

done : (event : Event) (answer : Answer) → ((c : ℕ) → event ≡ Step c → ⊥) → AnswersDone event answer → answer ≡ Done
done (Step c) answer other d = absurd (other c refl)
done _ answer other d = d

pub returns-clause-answers : goal.returns-clause-answers
returns-clause-answers c old new event answer e other = done event answer other (c.events_change_only.ensures old new event answer e).answers
