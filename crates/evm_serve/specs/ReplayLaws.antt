-- The reports of replays, in the words of journals.
use Rattle.std.specs.Prelude.{◌≡◌, ◌+◌, List, [], ◌∷◌, ◌++◌, None, Ok, Err, length}
use Rattle.evm_diagnostics.specs.evm_core.Load.{load}
use Rattle.evm_ram.specs.Images.{Contents}
use Rattle.evm_model.specs.declared.refusal.Refusal.{Refusal}
use Rattle.evm_model.specs.Devices.{Attached}
use Rattle.evm_model.specs.State.{State}
use Rattle.evm_model.specs.Replay.{start, apply, IsReplayOf}
use Rattle.evm_model.specs.Event.{Event}
use Rattle.evm_diagnostics.specs.evm_history.Runs.{runs}
use Rattle.evm_diagnostics.specs.evm_journal.Journal.{journal_text}
use Rattle.evm_diagnostics.specs.evm_debug.Summary.{summary_text}
use Rattle.evm_serve.specs.RunOptions.{image_options}
use Rattle.evm_diagnostics.specs.Faults.{event_refused}
use Rattle.evm_serve.specs.declared.ending.Verdict.TheVariants.{Done}
use Rattle.evm_serve.specs.Replaying.{events_on, replay_report}

-- The first event that is refused is reported with the number of its line: behind the header and the boot there are as many lines as the
-- events up to it have in a journal.
abbrev pub RefusedOnItsLine : Type 0
RefusedOnItsLine = (first s : State) (front rest : List Event) (event : Event) (refusal : Refusal)
    → events_on 2 None front first ≡ Ok s → apply s event ≡ Err refusal
    → events_on 2 None (front ++ event ∷ rest) first ≡ Err (event_refused (2 + length (runs (front ++ event ∷ []))) event refusal)

-- the journal of a machine that booted with devices and an image, replayed with the same, shows that machine
abbrev pub ReplaysSaved : State → Type 0
ReplaysSaved s = (devices : List Attached) (image : Contents) (first : State) → load image (start devices s.boot) ≡ Ok first → IsReplayOf first s
    → replay_report (image_options devices image) (journal_text s.boot s.journal) ≡ record { text = summary_text s; verdict = Done }
