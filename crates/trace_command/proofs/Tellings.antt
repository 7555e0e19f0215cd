-- The calls of a run tell the items of its journal.
use Rattle.std.proofs.Common.{◌≡◌, ◌⊎◌, ℕ, inl, inr, List, [], ◌++◌, length, refl, sym, subst, ◌∙◌}
use Rattle.trace_records.specs.Runs.{IsRun}
use Rattle.trace_records.specs.Runs.IsRun.{begins as none_told, goes_on}
use Rattle.run_walk.specs.Walks.{Walked, place}
use Rattle.trace_records.specs.declared.change.Change.{Change}
use Rattle.trace_command.specs.Instants.{instants_in}
use Rattle.trace_command.specs.Tellings.{GoesOn, TellsCall, TellsItems, TellsOn}
use Rattle.trace_command.specs.Tellings.TellsItems.{begins, beside, item}
use Rattle.trace_command.specs.declared.clock.Clock.{Clock}
use Rattle.trace_command.specs.declared.tracing.Phase.{Phase}
use Rattle.trace_command.specs.declared.tracing.Phase.TheVariants.{Begins, Goes, Ends, Ended}

-- at the end of the run the journal has ended
abbrev pub AtEnd : Phase → Walked → Type 0
AtEnd Begins walk = Unit {0}
AtEnd Goes walk = Unit {0}
AtEnd Ends walk = place walk ≡ length walk.events
AtEnd Ended walk = place walk ≡ length walk.events

ends_so : (phase : Phase) (walk : Walked) → GoesOn phase walk → AtEnd phase walk
ends_so phase walk (inl goes) = subst (λ s. AtEnd s walk) (sym goes) tt
ends_so phase walk (inr ends) = subst (λ s. AtEnd s walk) (sym ends.0) ends.1

one_call : (clock : Clock) (s : Phase) (from w : Walked) (at : ℕ) (told more : List Change) (t : Phase) (v : Walked) (behind : ℕ) → TellsItems clock from told w at → AtEnd s w
    → TellsCall clock s w at more t v behind → TellsItems clock from (told ++ more) v behind × AtEnd t v
one_call clock Begins from w at told more t v behind j end c = (
  subst (λ (x : Walked). TellsItems clock from (told ++ more) x behind) (sym c.1.0) (subst (λ (n : ℕ). TellsItems clock from (told ++ more) w n) (sym c.1.1.0) (beside told more w at j c.1.1.1)),
  subst (λ s. AtEnd s v) (sym c.0) tt,
)
one_call clock Goes from w at told more t v behind j end c = (item told more w v at behind j c.0, ends_so t v c.1)
one_call clock Ends from w at told more t v behind j end c = (
  subst (λ (x : Walked). TellsItems clock from (told ++ more) x behind) (sym c.1.0) (subst (λ (n : ℕ). TellsItems clock from (told ++ more) w n) (sym c.1.1.0) (beside told more w at j c.1.1.1)),
  subst (λ s. AtEnd s v) (sym c.0) (subst (λ (x : Walked). place x ≡ length x.events) (sym c.1.0) end),
)
one_call clock Ended from w at told more t v behind j end c = absurd c

pub run_tells : {T : Type 0} (clock : T → Clock) (phase : T → Phase) (walk : T → Walked) (time : T → ℕ) (from to : T) (told : List Change)
    → IsRun (λ a changes b. TellsCall (clock a) (phase a) (walk a) (time a) changes (phase b) (walk b) (time b) × (clock b ≡ clock a)) from told to → time from ≡ 0
    → AtEnd (phase from) (walk from) → TellsItems (clock from) (walk from) told (walk to) (time to) × AtEnd (phase to) (walk to) × (clock to ≡ clock from)
run_tells {T = T} clock phase walk time from to told none_told zero end = (subst (λ (n : ℕ). TellsItems (clock from) (walk from) [] (walk from) n) (sym zero) begins, end, refl)
run_tells {T = T} clock phase walk time from to told (goes_on before more mid last r c) zero end =
    let h = run_tells clock phase walk time from mid before r zero end in
    let call = subst (λ (k : Clock). TellsCall k (phase mid) (walk mid) (time mid) more (phase last) (walk last) (time last)) h.2 c.0 in
    let one = one_call (clock from) (phase mid) (walk from) (walk mid) (time mid) before more (phase last) (walk last) (time last) h.0 h.1 call in
    (one.0, one.1, c.1 ∙ h.2)
