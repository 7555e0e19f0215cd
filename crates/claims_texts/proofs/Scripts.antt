-- Each line of a script drives its machine, so that the journal of what it leaves is one that replays.
use Rattle.std.proofs.Common.{◌≡◌, ℕ, ◌+◌, ◌<◌, List, [], ◌∷◌, Option, Some, None, refl}
use Rattle.std.specs.Prelude.{Result, Ok, Err}
use Rattle.evm_ram.specs.Images.{Contents}
use Rattle.evm_serve.specs.evm_history.Runs.{line_of_event}
use Rattle.evm_serve.specs.evm_history.declared.event_line.EventLine.TheVariants as events
use Rattle.evm_serve.specs.evm_journal.EventLine.{HasEventLine}
use Rattle.evm_serve.specs.evm_journal.Journal.{HasBootLine}
use Rattle.evm_model.specs.Replay.{apply}
use Rattle.evm_model.specs.State.{State}
use Rattle.evm_model.specs.declared.event.Answer.{Answer}
use Rattle.evm_model.specs.Event.{Event}
use Rattle.evm_model.specs.declared.boot.Boot.{Boot}
use Rattle.evm_model.specs.declared.event.Event.TheVariants.{Step, Tick, Raise, Bell, Stop, Go, StepI, SetReg, SetPc, Poke, Break, Unbreak}
use Rattle.evm_model.specs.declared.refusal.Refusal.{Refusal}
use Rattle.evm_serve.specs.evm_debug.Line.{IsSpelled}
use Rattle.evm_serve.specs.evm_debug.LineReading.{line_at}
use Rattle.evm_serve.specs.evm_debug.Views.{shown}
use Rattle.evm_serve.specs.evm_debug.declared.line.Line.{Line}
use Rattle.evm_serve.specs.evm_debug.declared.line.Line.TheVariants as lines
use Rattle.evm_serve.specs.evm_debug.declared.line.View.{View}
use Rattle.evm_serve.proofs.evm_debug.Lines.{has_boot_line, reads_lines}
use Rattle.evm_serve.specs.evm_text.Lines.{text_lines}
use Rattle.evm_serve.specs.evm_core.Steps.{steps}
use Rattle.evm_serve.specs.RunOptions.{Attached, image_options}
use Rattle.evm_serve.specs.Starting.{started}
use Rattle.evm_serve.specs.Script.{LineOutcome, Goes, Ends, event_outcome, after_steps, boot_outcome, view_outcome, outcome_at, line_outcome}
use Rattle.evm_serve.proofs.Replays.{replays_saved}
use Rattle.claims_texts.specs.Scripts.{goes_on, machine_after, ShowsItsMachine}
use Rattle.claims_texts.proofs.Events.{IsDriven, driven-event, driven-steps, driven-boot, driven-journal}

-- the machine, if there is one, is driven
abbrev AreDriven : List Attached → Contents → Option State → Type 0
AreDriven devices image None = Unit {0}
AreDriven devices image (Some s) = IsDriven devices image s

-- .. and so is the one that a line goes on with
abbrev LeadsOn : List Attached → Contents → LineOutcome → Type 0
LeadsOn devices image (Goes text machine) = AreDriven devices image machine
LeadsOn devices image (Ends fault) = Unit {0}

event-leads : (devices : List Attached) (image : Contents) (n : ℕ) (s : State) (event : Event) (r : Result (State × Answer) Refusal) → apply s event ≡ r → HasEventLine (line_of_event event) → IsDriven devices image s → LeadsOn devices image (event_outcome n event r)
event-leads devices image n s event (Ok after) e line d = driven-event devices image s after.0 event after.1 e line d
event-leads devices image n s event (Err refusal) e line d = tt

steps-lead : (devices : List Attached) (image : Contents) (n c count : ℕ) (s new : State) (o : Option Refusal) → steps c count s ≡ (new, o) → c < 256 → IsDriven devices image s → LeadsOn devices image (after_steps n c new o)
steps-lead devices image n c count s new None e cpu d = driven-steps devices image c count s new e cpu d
steps-lead devices image n c count s new (Some refusal) e cpu d = tt

boot-leads : (devices : List Attached) (image : Contents) (n : ℕ) (boot : Boot) (r : Result State Refusal) → started (image_options devices image) boot ≡ r
    → HasBootLine boot → LeadsOn devices image (boot_outcome n r)
boot-leads devices image n boot (Ok s) e line = driven-boot devices image boot s line e
boot-leads devices image n boot (Err refusal) e line = tt

view-leads : (devices : List Attached) (image : Contents) (n : ℕ) (view : View) (s : State) (r : Result (List ℕ) Refusal) → IsDriven devices image s → LeadsOn devices image (view_outcome n view s r)
view-leads devices image n view s (Ok text) d = d
view-leads devices image n view s (Err refusal) d = tt

-- an event line that isn't a run's has a line of its own
one-line : (event : Event) → HasEventLine (events.One event) → HasEventLine (line_of_event event)
one-line (Step c) h = absurd h
one-line Tick h = h
one-line (Raise c l) h = h
one-line (Bell c l) h = h
one-line (Stop c) h = h
one-line (Go c) h = h
one-line (StepI c) h = h
one-line (SetReg c r v) h = h
one-line (SetPc c v) h = h
one-line (Poke a b) h = h
one-line (Break a) h = h
one-line (Unbreak a) h = h

spelled-leads : (devices : List Attached) (image : Contents) (n : ℕ) (machine : Option State) (line : Line) (bytes : List ℕ) → IsSpelled line bytes → AreDriven devices image machine → LeadsOn devices image (outcome_at (image_options devices image) n machine line)
spelled-leads devices image n None lines.Blank bytes h d = tt
spelled-leads devices image n None (lines.Boot boot) bytes h d = boot-leads devices image n boot (started (image_options devices image) boot) refl (has_boot_line boot bytes h)
spelled-leads devices image n None (lines.Steps c count) bytes h d = tt
spelled-leads devices image n None (lines.One event) bytes h d = tt
spelled-leads devices image n None (lines.Show view) bytes h d = tt
spelled-leads devices image n (Some s) lines.Blank bytes h d = d
spelled-leads devices image n (Some s) (lines.Boot boot) bytes h d = tt
spelled-leads devices image n (Some s) (lines.Steps c count) bytes h d = steps-lead devices image n c count s (steps c count s).0 (steps c count s).1 refl h.1.0 d
spelled-leads devices image n (Some s) (lines.One event) bytes h d = event-leads devices image n s event (apply s event) refl (one-line event h.1) d
spelled-leads devices image n (Some s) (lines.Show view) bytes h d = view-leads devices image n view s (shown view s) d

line-leads : (devices : List Attached) (image : Contents) (n : ℕ) (machine : Option State) (bytes : List ℕ) (o : Option Line) → line_at bytes ≡ o → AreDriven devices image machine → LeadsOn devices image (line_outcome (image_options devices image) n machine o)
line-leads devices image n machine bytes None e d = tt
line-leads devices image n machine bytes (Some line) e d = spelled-leads devices image n machine line bytes ((reads_lines line bytes).0 e) d

outcome-leads : (devices : List Attached) (image : Contents) (t : LineOutcome) (others : Option State → Option State) (s : State) → LeadsOn devices image t
    → ((machine : Option State) → others machine ≡ Some s → AreDriven devices image machine → IsDriven devices image s) → goes_on t others ≡ Some s → IsDriven devices image s
outcome-leads devices image (Goes text machine) others s d more e = more machine e d
outcome-leads devices image (Ends fault) others s d more e = cc

-- the machine with which a run comes to its end is driven
after-driven : (devices : List Attached) (image : Contents) (n : ℕ) (ls : List (List ℕ)) (machine : Option State) (s : State) → machine_after (image_options devices image) n ls machine ≡ Some s → AreDriven devices image machine → IsDriven devices image s
unfolding machine_after
after-driven devices image n [] machine s e d = rw e at d
after-driven devices image n (line ∷ ls) machine s e d =
    outcome-leads devices image (line_outcome (image_options devices image) n machine (line_at line)) (machine_after (image_options devices image) (n + 1) ls) s (line-leads devices image n machine line (line_at line) refl d)
    (λ m h g. after-driven devices image (n + 1) ls m s h g) e

pub shows_its_machine : ShowsItsMachine
shows_its_machine devices image script s e =
    let d : IsDriven devices image s = after-driven devices image 1 (text_lines script) None s e tt in
    replays_saved s d.fits (driven-journal devices image s d) devices image d.first d.loads d.replays
