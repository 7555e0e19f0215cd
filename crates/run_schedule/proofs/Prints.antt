-- What events print, one after another.
use Rattle.std.proofs.Common.{◌≡◌, List, [], ◌∷◌, ◌++◌, Result, Ok, Err, refl, ap, subst, ◌∙◌}
use Rattle.evm_model.specs.Event.{Event}
use Rattle.evm_model.specs.Replay.{apply, left_by, replay, IsReplayOf}
use Rattle.evm_model.specs.State.{State}
use Rattle.evm_model.specs.declared.event.Answer.{Answer}
use Rattle.evm_model.specs.declared.refusal.Refusal.{Refusal}
use Rattle.run_schedule.specs.Console.{HasPrinted, Printed, event_printed, nothing_printed, printed_behind, printed_by}

-- what an event prints, and nothing behind it
abbrev printed_last : Result (State × Answer) Refusal → Event → State → Printed → Printed
printed_last r event s so = printed_behind r event s so (λ t p. p)

more-last : (r : Result (State × Answer) Refusal) (e event : Event) (events : List Event) (s : State) (so : Printed)
    → ((t : State) (p : Printed) → printed_by (events ++ event ∷ []) t p ≡ printed_last (apply (replay t events) event) event (replay t events) (printed_by events t p))
    → printed_behind r e s so (printed_by (events ++ event ∷ []))
    ≡ printed_last (apply (replay (left_by r s) events) event) event (replay (left_by r s) events) (printed_behind r e s so (printed_by events))
more-last (Ok after) e event events s so each = each after.0 (event_printed e s after so)
more-last (Err refusal) e event events s so each = each s so

-- what the last of some events prints
pub printed-last : (events : List Event) (event : Event) (s : State) (so : Printed)
    → printed_by (events ++ event ∷ []) s so ≡ printed_last (apply (replay s events) event) event (replay s events) (printed_by events s so)
unfolding printed_by replay
printed-last [] event s so = refl
printed-last (e ∷ events) event s so = more-last (apply s e) e event events s so (λ t p. printed-last events event t p)

-- one event more
pub printed-more : (first old new : State) (event : Event) (answer : Answer) (so : Printed) → HasPrinted first old so → apply old event ≡ Ok (new, answer)
    → IsReplayOf first new → new.journal ≡ old.journal ++ event ∷ [] → HasPrinted first new (event_printed event old (new, answer) so)
printed-more first old new event answer so had applied replayed journaled = record {
  replayed = replayed;
  printed =
      let P : Result (State × Answer) Refusal → Type 0 = λ r. printed_last (apply old event) event old so ≡ printed_last r event old so in
      let last : printed_last (apply old event) event old so ≡ event_printed event old (new, answer) so = subst P applied refl in
      let Q : State → Type 0 = λ s. printed_last (apply (replay first old.journal) event) event (replay first old.journal) (printed_by old.journal first nothing_printed) ≡ printed_last (apply s event) event s (printed_by old.journal first nothing_printed) in
      let there : printed_last (apply (replay first old.journal) event) event (replay first old.journal) (printed_by old.journal first nothing_printed) ≡ printed_last (apply old event) event old (printed_by old.journal first nothing_printed) = subst Q had.replayed.replayed refl in
      ap (λ (events : List Event). printed_by events first nothing_printed) journaled
      ∙ (printed-last old.journal event first nothing_printed ∙ (there ∙ (ap (printed_last (apply old event) event old) had.printed ∙ last)));
}
