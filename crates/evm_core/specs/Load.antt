-- An image in a machine that has had no event.
use Rattle.std.specs.Prelude.{◌==◌, if◌then◌else◌, length, Option, Some, None, Result, Ok, Err}
use Rattle.std.specs.List.{list_any}
use Rattle.evm_board.specs.Room.{passes_ram}
use Rattle.evm_ram.specs.Images.{Contents, byte_at}
use Rattle.evm_model.specs.declared.refusal.Refusal.{Refusal}
use Rattle.evm_model.specs.declared.refusal.Refusal.TheVariants.{BadAddress, Started}
use Rattle.evm_model.specs.Load.{load_board}
use Rattle.evm_model.specs.State.{State}

-- why an image isn't loaded
abbrev pub load_refusal : Contents → State → Option Refusal
load_refusal image s =
    if list_any (passes_ram (length s.board.memory.ram)) image.segments then Some BadAddress else (if length s.journal == 0 then None else Some Started)

abbrev pub load_unless : Option Refusal → Contents → State → Result State Refusal
load_unless (Some refusal) image s = Err refusal
load_unless None image s = Ok (record s { board = load_board (byte_at image) image.entry s.board })

-- an image in a machine that has had no event
unfoldable pub load : Contents → State → Result State Refusal
load image s = load_unless (load_refusal image s) image s
