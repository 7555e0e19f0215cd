-- From the ECALL of a task to what its call does.
use Rattle.std.proofs.Common.{◌≡◌, ℕ, Bool, true, false, Option, Some, None, refl, sym, ap, ◌∙◌}
use Rattle.std.specs.Prelude.{slice_get, if◌then◌else◌}
use Rattle.evm_calls.specs.Asking.{IsAsked, IsMade}
use Rattle.evm_exec.specs.Registers.{register_of}
use Rattle.evm_exec.specs.declared.hart.Hart.{Hart}
use Rattle.evm_model.specs.Calls.{ask_oob, call, call_known, call_of, call_of_hart, call_on, call_stage, finish_call, perform}
use Rattle.evm_model.specs.Harts.{A7}
use Rattle.evm_model.specs.Notices.{notify}
use Rattle.evm_model.specs.Profiles.{offered}
use Rattle.evm_model.specs.Settle.{is_oob}
use Rattle.evm_model.specs.State.{Parts}
use Rattle.evm_model.specs.Tasks.{demote}
use Rattle.evm_model.specs.declared.call.Call.{Call}
use Rattle.evm_model.specs.declared.notice.NoticeKind.TheVariants.{DemotedByCall}
use Rattle.evm_model.specs.declared.stage.Stage.{Stage}
use Rattle.evm_model.specs.declared.stage.Stage.TheVariants.{OutOfBand, InBand}
use Rattle.evm_parts.specs.evm_task.Asks.{Asks, AskedBy}
use Rattle.evm_parts.specs.evm_task.declared.harts.Asked.{Asked}

asking : (asked : Asked) (o : Option Hart) → Asks (Some asked) o → (x : Hart) × (o ≡ Some x) × AskedBy asked x
asking asked None h = absurd h
asking asked (Some x) h = (x, refl, h)

called : (named : Call) (c t : ℕ) (k : Parts) (x : Hart) → slice_get k.harts t ≡ Some x → offered k.profile (call_of (register_of x.regs A7)) ≡ Some named → call c t k ≡ call_on (call_stage named) named x c t k
unfolding call
called named c t k x there number = ap (λ (o : Option Hart). call_of_hart o c t k) there ∙ ap (λ (o : Option Call). call_known o x c t k) number

pub asked-call : (named : Call) (asked : Asked) (c t : ℕ) (k : Parts) → Asks (Some asked) (slice_get k.harts t) → offered k.profile (call_of asked.number) ≡ Some named → IsAsked named asked c t k
asked-call named asked c t k asks number =
    let w = asking asked (slice_get k.harts t) asks in
    let same : offered k.profile (call_of (register_of w.0.regs A7)) ≡ Some named = ap (λ (n : ℕ). offered k.profile (call_of n)) (sym w.2.number) ∙ number in
    record { hart = w.0; by = w.2; known = sym (called named c t k w.0 w.1 same) }

-- ---- on the stage of the call, or of one of either
pub made-either : (named : Call) (asked : Asked) (c t : ℕ) (k : Parts) → IsAsked named asked c t k → call_stage named ≡ None → IsMade named asked c t k
made-either named asked c t k a e =
    let on : finish_call c t (perform named a.hart c t k) ≡ call_on (call_stage named) named a.hart c t k = ap (λ (o : Option Stage). call_on o named a.hart c t k) (sym e) in
    record { hart = a.hart; by = a.by; done = on ∙ a.known }

pub made-in_band : (named : Call) (asked : Asked) (c t : ℕ) (k : Parts) → IsAsked named asked c t k → call_stage named ≡ Some InBand → is_oob (Some t) k.tasks ≡ false → IsMade named asked c t k
made-in_band named asked c t k a e h =
    let done : Parts = finish_call c t (perform named a.hart c t k) in
    let there : done ≡ call_on (Some InBand) named a.hart c t k = ap (λ (b : Bool). if b then notify DemotedByCall t (demote c t k) else done) (sym h) in
    record { hart = a.hart; by = a.by; done = there ∙ ap (λ (o : Option Stage). call_on o named a.hart c t k) (sym e) ∙ a.known }

pub made-oob : (named : Call) (asked : Asked) (c t : ℕ) (k : Parts) → IsAsked named asked c t k → call_stage named ≡ Some OutOfBand → is_oob (Some t) k.tasks ≡ true → IsMade named asked c t k
made-oob named asked c t k a e h =
    let done : Parts = finish_call c t (perform named a.hart c t k) in
    let there : done ≡ call_on (Some OutOfBand) named a.hart c t k = ap (λ (b : Bool). if b then done else ask_oob c t k) (sym h) in
    record { hart = a.hart; by = a.by; done = there ∙ ap (λ (o : Option Stage). call_on o named a.hart c t k) (sym e) ∙ a.known }

pub ruleset made = (made-either, made-in_band, made-oob)
