-- The table of devices, by the kind.
use Rattle.std.specs.Prelude.{ℕ, ◌≡◌, ◌<◌, ◌≤◌, List, length}
use Rattle.std.specs.List.{AllByRecursion}
use Rattle.evm_dev.specs.Console.{console_fetches, console_puts}
use Rattle.evm_dev.specs.Mailbox.{mailbox_fetches, mailbox_puts}
use Rattle.evm_dev.specs.Pins.{pins_fetches, pins_puts, pins_ticked}
use Rattle.evm_dev.specs.Touched.{Touched, Ticked, at_register, unmoved}
use Rattle.evm_dev.specs.declared.kind.TheConstants.{CONSOLE_LIMIT, MAILBOX_LIMIT}
use Rattle.evm_dev.specs.declared.kind.Kind.{Kind}
use Rattle.evm_dev.specs.declared.kind.Kind.TheVariants.{Console, Mailbox, Pins}
use Rattle.evm_dev.specs.declared.touch.Op.{Op}
use Rattle.evm_dev.specs.declared.touch.Op.TheVariants.{Fetch, Put}

-- how many registers a kind has, for fetches and for puts
abbrev pub register_count : Kind → ℕ
register_count Console = 1
register_count Mailbox = 2
register_count Pins = 3

-- what a fetch does, and what a put of a value does: a row for each register of the kind, in order
abbrev pub rows : Kind → Op → ℕ → List ℕ → List Touched
rows Console Fetch value words = console_fetches words
rows Console Put value words = console_puts value words
rows Mailbox Fetch value words = mailbox_fetches words
rows Mailbox Put value words = mailbox_puts value words
rows Pins Fetch value words = pins_fetches words
rows Pins Put value words = pins_puts value words

-- what a touch of a register does to a device whose words are these
abbrev pub touched : Kind → Op → ℕ → ℕ → List ℕ → Touched
touched kind op register value words = at_register (rows kind op value words) register words

-- what a tick does
abbrev pub ticked : Kind → List ℕ → Ticked
ticked Console words = unmoved words
ticked Mailbox words = unmoved words
ticked Pins words = pins_ticked words

-- the words that a device of a kind may have
abbrev pub AreWords : Kind → List ℕ → Type 0
AreWords Console bytes = (length bytes ≤ CONSOLE_LIMIT) × AllByRecursion (λ byte. byte < 256) bytes
AreWords Mailbox words = length words ≤ MAILBOX_LIMIT
AreWords Pins words = length words ≡ 3
