-- Bells, and what receipts say of them.
use Rattle.std.specs.Prelude.{ℕ, zero, suc, ◌+◌, Bool, false, ◌==◌, ◌&&◌, List, count_by, sum_by, take}
use Rattle.std.specs.Int.{bit_at}
use Rattle.evm_bells.specs.Batches.{Batch}
use Rattle.evm_lines.specs.declared.TheConstants.{LINES}
use Rattle.evm_model.specs.Event.{Event}
use Rattle.evm_model.specs.Kinds.{ABell, kind_of, is_same_kind}
use Rattle.evm_model.specs.declared.event.Event.TheVariants.{Raise, Bell, Tick}
use Rattle.evm_shared.specs.EventCounts.{event_total}
use Rattle.evm_shared.specs.Ports.{PortValue}
use Rattle.evm_shared.specs.Receipts.{made_events}
use Rattle.evm_shared.specs.declared.event_counts.EventCounts.{EventCounts}
use Rattle.evm_shared.specs.declared.receipt.Receipt.{Receipt}

-- the event is a Bell of line l of processor c
abbrev pub rings : ℕ → ℕ → Event → Bool
rings c l (Bell d m) = d == c && m == l
rings c l _ = false

-- the event is a Bell of any line
abbrev pub is_bell : Event → Bool
is_bell event = is_same_kind (kind_of event) ABell

-- the event raises line l of processor c, and is no Bell
abbrev pub raises_otherwise : ℕ → ℕ → Event → Bool
raises_otherwise c l Tick = l == 0
raises_otherwise c l (Raise d m) = d == c && m == l
raises_otherwise c l _ = false

-- the events that a journal had before
abbrev pub events_before : EventCounts → List Event → List Event
events_before base journal = take (event_total base) journal

-- how many such events some receipts say that their calls made
abbrev pub in_receipts : (Event → Bool) → List Receipt → ℕ
in_receipts such receipts = sum_by (λ r. count_by such (made_events r.made)) receipts

-- how many such events the receipts of some ports say
abbrev pub in_ports : (Event → Bool) → List PortValue → ℕ
in_ports such ports = sum_by (λ p. in_receipts such p.receipts) ports

-- how many of the first n lines stand in a word
unfoldable pub lines_below : ℕ → ℕ → ℕ
lines_below word zero = 0
lines_below word (suc n) = lines_below word n + bit_at word n

-- how many lines some batches have
abbrev pub line_total : List Batch → ℕ
line_total batches = sum_by (λ b. lines_below b.1 LINES) batches
