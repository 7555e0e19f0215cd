-- The devices that each program attaches.
use Rattle.std.specs.Prelude.{List, [], ◌∷◌}
use Rattle.evm_dev.specs.declared.kind.Kind.TheVariants.{Console, Mailbox, Pins}
use Rattle.evm_dev.specs.Attached.{Attached}

-- an empty console, an empty mailbox, and pins that are low
abbrev pub program_devices : List Attached
program_devices = record { kind = Console; words = [] } ∷ record { kind = Mailbox; words = [] } ∷ record { kind = Pins; words = 0 ∷ 0 ∷ 0 ∷ [] } ∷ []
