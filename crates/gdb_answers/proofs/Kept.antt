-- What is kept by nothing, and by one thing behind another.
use Rattle.std.proofs.Common.{◌≡◌, refl, ◌∙◌}
use Rattle.evm_model.specs.State.{State}
use Rattle.gdb_tape.specs.gdb_driving.Kept.{KeepsJournal}

pub keeps_same : (s : State) → KeepsJournal s s
keeps_same s = record { replays = λ first h. h; booted = refl }

pub keeps_more : (a b c : State) → KeepsJournal a b → KeepsJournal b c → KeepsJournal a c
keeps_more a b c h k = record { replays = λ first r. k.replays first (h.replays first r); booted = k.booted ∙ h.booted }
