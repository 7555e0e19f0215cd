-- Steps that are made and noted one after another.
use Rattle.std.proofs.Common.{◌≡◌, ℕ, zero, suc, ◌+◌, ◌-◌, ◌<◌, ◌≤◌, Option, Some, None, Result, Ok, Err, refl, sym, ap, ◌∙◌, subst, arith}
use Rattle.std.specs.Prelude.{slice_get}
use Rattle.evm_model.specs.Replay.{apply}
use Rattle.evm_model.specs.State.{State}
use Rattle.evm_model.specs.declared.event.Answer.{Answer}
use Rattle.evm_model.specs.declared.event.Answer.TheVariants.{Stopped, Received, Idle, Hit, Ran, Done}
use Rattle.evm_model.specs.declared.event.Event.TheVariants.{Step}
use Rattle.evm_model.specs.declared.refusal.Refusal.{Refusal}
use Rattle.evm_diagnostics.specs.evm_core.Steps.{behind_step, steps}
use Rattle.evm_serve.specs.Noted.{with_answer, answered_call, answered_last, called, last_call, noted_ahead, noted_step}
use Rattle.evm_serve.specs.Notes.{Noted}
use Rattle.evm_serve.specs.Noting.{ahead_of, noted_behind, noted_steps}
use Rattle.evm_serve.specs.declared.notes.Ahead.{Ahead}
use Rattle.evm_serve.specs.declared.notes.LastCall.{LastCall}

pub steps-ended : (c left : ℕ) (s : State) → left ≡ 0 → steps c left s ≡ (s, None)
unfolding steps
steps-ended c left s e = rw e refl

pub steps-accepted : (c left : ℕ) (s new : State) (answer : Answer) → 0 < left → apply s (Step c) ≡ Ok (new, answer) → steps c left s ≡ steps c (left - 1) new
unfolding steps
steps-accepted c left s new answer h e =
    let one : left ≡ suc (left - 1) = omega arith in
    subst (λ (n : ℕ). steps c n s ≡ steps c (left - 1) new) (sym one) (ap (λ (r : Result (State × Answer) Refusal). behind_step r s (steps c (left - 1))) e)

pub steps-refused : (c left : ℕ) (s : State) (why : Refusal) → 0 < left → apply s (Step c) ≡ Err why → steps c left s ≡ (s, Some why)
unfolding steps
steps-refused c left s why h e = let one : left ≡ suc (left - 1) = omega arith in rw (one, e) refl

pub noted-ended : (c left : ℕ) (s : State) (notes : Noted) → left ≡ 0 → noted_steps c left s notes ≡ notes
unfolding noted_steps
noted-ended c left s notes e = rw e refl

pub noted-accepted : (c left : ℕ) (s new : State) (answer : Answer) (notes : Noted) → 0 < left → apply s (Step c) ≡ Ok (new, answer) → noted_steps c left s notes ≡ noted_steps c (left - 1) new (noted_step answer (ahead_of c s) notes)
unfolding noted_steps
noted-accepted c left s new answer notes h e =
    let one : left ≡ suc (left - 1) = omega arith in
    subst (λ (n : ℕ). noted_steps c n s notes ≡ noted_steps c (left - 1) new (noted_step answer (ahead_of c s) notes)) (sym one) (ap (λ (r : Result (State × Answer) Refusal). noted_behind r (ahead_of c s) notes (noted_steps c (left - 1))) e)

-- ---- one Step is swallowed at most

answered_call-kept : (o : Option ℕ) (ahead : Ahead) (call : LastCall) (notes : Noted) → (answered_call o ahead call notes).swallowed ≡ notes.swallowed
answered_call-kept None ahead call notes = refl
answered_call-kept (Some answer) ahead call notes = refl

answered_last-kept : (o : Option LastCall) (ahead : Ahead) (notes : Noted) → (answered_last o ahead notes).swallowed ≡ notes.swallowed
answered_last-kept None ahead notes = refl
answered_last-kept (Some call) ahead notes = answered_call-kept call.answer ahead call notes

called-kept : (o : Option ℕ) (t : ℕ) (notes : Noted) → (called o t notes).swallowed ≡ notes.swallowed
called-kept None t notes = refl
called-kept (Some number) t notes = refl

noted_ahead-kept : (o : Option Ahead) (notes : Noted) → (noted_ahead o notes).swallowed ≡ notes.swallowed
noted_ahead-kept None notes = refl
noted_ahead-kept (Some ahead) notes =
    called-kept ahead.call ahead.task (with_answer ahead notes) ∙ answered_last-kept (last_call (slice_get notes.calls ahead.task)) ahead notes

pub noted-few : (answer : Answer) (ahead : Option Ahead) (notes : Noted) → (noted_step answer ahead notes).swallowed ≤ notes.swallowed + 1
noted-few Stopped ahead notes = omega arith
noted-few (Ran t) ahead notes = omega (arith, noted_ahead-kept ahead notes)
noted-few (Received line) ahead notes = omega arith
noted-few Idle ahead notes = omega arith
noted-few Hit ahead notes = omega arith
noted-few Done ahead notes = omega arith
