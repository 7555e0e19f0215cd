-- What is kept by nothing, and by one call behind another.
use Rattle.std.proofs.Common.{◌≡◌, refl, ◌∙◌}
use Rattle.evm_model.specs.State.{State}
use Rattle.gdb_driving.specs.Kept.{KeepsJournal}

pub keeps_same : (s : State) → KeepsJournal s s
keeps_same s = record { replays = λ first h. h; booted = refl }

pub keeps_more : (s t u : State) → KeepsJournal s t → KeepsJournal t u → KeepsJournal s u
keeps_more s t u a b = record { replays = λ first h. b.replays first (a.replays first h); booted = b.booted ∙ a.booted }
