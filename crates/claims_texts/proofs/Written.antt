-- The journal of a machine, written and replayed.
use Rattle.std.proofs.Common.{◌≡◌, ℕ, List, ap, ◌∙◌}
use Rattle.evm_model.specs.State.{State}
use Rattle.evm_serve.specs.evm_journal.Journal.{journal_text}
use Rattle.evm_serve.specs.RunOptions.{image_options}
use Rattle.evm_serve.specs.ReplayLaws.{ReplaysSaved}
use Rattle.evm_serve.specs.Replaying.{replay_report}
use Rattle.claims_texts.specs.Machines.{ShowsAgain}

pub shows_again : (text : List ℕ) (s : State) → text ≡ journal_text s.boot s.journal → ReplaysSaved s → ShowsAgain text s
shows_again text s written saved = λ devices image first loads replays. ap (replay_report (image_options devices image)) written ∙ saved devices image first loads replays
