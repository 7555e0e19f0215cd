-- The journal of the machine that a replay makes is the one that was replayed.
use Rattle.std.proofs.Common.{◌≡◌, ℕ, List, [], ◌∷◌, ◌++◌, Bool, true, false, Option, Some, None, refl, sym, ap, ◌∙◌, append_assoc}
use Rattle.std.specs.Prelude.{Result, Ok, Err, if◌then◌else◌}
use Rattle.std.proofs.lemmas.List.{append-nil}
use Rattle.evm_ram.specs.Images.{Contents}
use Rattle.evm_model.specs.Replay.{apply, bad_boot, start}
use Rattle.evm_model.specs.State.{State}
use Rattle.evm_model.specs.declared.boot.Boot.{Boot}
use Rattle.evm_model.specs.declared.event.Answer.{Answer}
use Rattle.evm_model.specs.Event.{Event}
use Rattle.evm_model.specs.declared.refusal.Refusal.{Refusal}
use Rattle.evm_model.specs.declared.refusal.Refusal.TheVariants.{BadSize}
use Rattle.evm_serve.specs.evm_journal.Journal.{journal_text}
use Rattle.evm_serve.specs.evm_journal.JournalReading.{journal_at}
use Rattle.evm_serve.specs.evm_journal.declared.fault.JournalFault.{JournalFault}
use Rattle.evm_serve.proofs.evm_debug.evm_journal.Journals.{reads_journals}
use Rattle.evm_serve.proofs.law_rules.Replays.{accepted, accepted-journal}
use Rattle.evm_serve.specs.RunOptions.{RunOptions, Attached}
use Rattle.evm_serve.specs.Starting.{started, with_image}
use Rattle.evm_serve.specs.Replaying.{stepping_cpu, line_after, event_on, events_on, booted_on, journal_on, replay_at}
use Rattle.claims_texts.specs.Machines.{WritesItAgain}
use Rattle.claims_texts.proofs.Events.{loaded}

same_state : {E : Type 0} (x y : State) → ◌≡◌ {A = Result State E} (Ok x) (Ok y) → x ≡ y
same_state x y e = cc

-- the machine keeps the boot numbers of another, and its journal has these events more
record HasMore (events : List Event) (first s : State) : Type 0 where
  pub boot : s.boot ≡ first.boot
  pub journal : s.journal ≡ first.journal ++ events

-- so it does where all of them are accepted
abbrev Grows : List Event → Type 0
Grows events = (n : ℕ) (last : Option ℕ) (first s : State) → events_on n last events first ≡ Ok s → HasMore events first s

grows-tested : (n : ℕ) (last : Option ℕ) (event : Event) (events : List Event) (first s : State) (r : Result (State × Answer) Refusal) → apply first event ≡ r → Grows events
    → event_on n event r (events_on n last events) ≡ Ok s → HasMore (event ∷ events) first s
grows-tested n last event events first s (Ok after) e others h =
    let it = accepted first after.0 event after.1 e in
    let more : after.0.journal ≡ first.journal ++ event ∷ [] = accepted-journal first after.0 event after.1 e in
    let same : after.0.boot ≡ first.boot = ap (λ (x : State × Answer). x.0.boot) it.1 in
    let rest = others n last after.0 s h in
    record {
      boot = rest.boot ∙ same;
      journal = rest.journal ∙ ap (λ (journal : List Event). journal ++ events) more ∙ append_assoc first.journal (event ∷ []) events;
    }
grows-tested n last event events first s (Err refusal) e others h = absurd cc

grows : (events : List Event) → Grows events
unfolding events_on
grows [] n last first s e =
    let same = same_state first s e in
    record { boot = ap (λ (x : State). x.boot) (sym same); journal = ap (λ (x : State). x.journal) (sym same) ∙ sym (append-nil first.journal) }
grows (event ∷ events) n last first s e = grows-tested (line_after n last event) (stepping_cpu event) event events first s (apply first event) refl (grows events) e

-- a machine begins with no event
with-image : (devices : List Attached) (image : Option Contents) (boot : Boot) (first : State) → with_image image (start devices boot) ≡ Ok first → (first.journal ≡ []) × (first.boot ≡ boot)
with-image devices None boot first e = let same = same_state (start devices boot) first e in (ap (λ (x : State). x.journal) (sym same), ap (λ (x : State). x.boot) (sym same))
with-image devices (Some image) boot first e = loaded image (start devices boot) first e

begins : (options : RunOptions) (boot : Boot) (first : State) (bad : Bool) → (if bad then Err BadSize else with_image options.image (start options.devices boot)) ≡ Ok first → (first.journal ≡ []) × (first.boot ≡ boot)
begins options boot first true e = absurd cc
begins options boot first false e = with-image options.devices options.image boot first e

booted : (options : RunOptions) (boot : Boot) (events : List Event) (s : State) (r : Result State Refusal) → started options boot ≡ r → booted_on r events ≡ Ok s → (s.boot ≡ boot) × (s.journal ≡ events)
booted options boot events s (Ok first) e h =
    let none = begins options boot first (bad_boot boot) e in
    let more = grows events 2 None first s h in
    (more.boot ∙ none.1, more.journal ∙ ap (λ (journal : List Event). journal ++ events) none.0)
booted options boot events s (Err refusal) e h = absurd cc

read : (options : RunOptions) (text : List ℕ) (s : State) (r : Result (Boot × List Event) JournalFault) → journal_at text ≡ r → journal_on options r ≡ Ok s → journal_text s.boot s.journal ≡ text
read options text s (Ok journal) e h =
    let written = (reads_journals journal.0 journal.1 text).0 e in
    let same = booted options journal.0 journal.1 s (started options journal.0) refl h in
    ap (λ (boot : Boot). journal_text boot s.journal) same.0 ∙ ap (λ (events : List Event). journal_text journal.0 events) same.1 ∙ sym written.0
read options text s (Err fault) e h = absurd cc

pub writes_it_again : WritesItAgain
unfolding replay_at
writes_it_again options text s e = read options text s (journal_at text) refl e
