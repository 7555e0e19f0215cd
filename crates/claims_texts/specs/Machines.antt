-- What a machine leaves behind, whoever drove it.
use Rattle.std.specs.Prelude.{◌≡◌, ℕ, List, Ok}
use Rattle.evm_serve.specs.evm_journal.Journal.{journal_text}
use Rattle.evm_serve.specs.evm_core.Load.{load}
use Rattle.evm_ram.specs.Images.{Contents}
use Rattle.evm_model.specs.Replay.{start, IsReplayOf}
use Rattle.evm_model.specs.State.{State}
use Rattle.evm_serve.specs.evm_debug.Summary.{summary_text}
use Rattle.evm_serve.specs.RunOptions.{Attached, RunOptions, image_options}
use Rattle.evm_serve.specs.Replaying.{replay_at, replay_report}
use Rattle.evm_serve.specs.declared.ending.Verdict.TheVariants.{Done}

-- a text that, replayed with the devices and the image that the machine began with, shows the machine
abbrev pub ShowsAgain : List ℕ → State → Type 0
ShowsAgain text s = (devices : List Attached) (image : Contents) (first : State) → load image (start devices s.boot) ≡ Ok first → IsReplayOf first s
    → replay_report (image_options devices image) text ≡ record { text = summary_text s; verdict = Done }

-- the machine that a replay of a text makes has that text as its journal, whatever the version
abbrev pub WritesItAgain : Type 0
WritesItAgain = (options : RunOptions) (text : List ℕ) (s : State) → replay_at options text ≡ Ok s → journal_text s.boot s.journal ≡ text
