-- How a session under GDB ends a run: what it reports, and its status.
use Rattle.std.specs.Prelude.{◌≡◌, ℕ, List, Option, Some, None, codes}
use Rattle.evm_streams.specs.declared.sink.Writing.{Writing}
use Rattle.evm_streams.specs.declared.source.ReadFault.{ReadFault}
use Rattle.evm_streams.specs.declared.source.ReadStop.TheVariants as stops
use Rattle.evm_serve.specs.declared.ending.Ending.TheVariants as endings
use Rattle.evm_host.specs.declared.system.World.{World}
use Rattle.evm_host.specs.Asks.{NotRead}
use Rattle.evm_host.specs.Exit.{Ended}
use Rattle.gdb_answers.specs.declared.serving.Ended as declared
use Rattle.gdb_answers.specs.declared.serving.Ended.TheVariants.{Left, Saves, Boots, NoMemory, ReadFailed, WriteFailed}
use Rattle.gdb_packets.specs.declared.ends.HearingEnd.{HearingEnd}
use Rattle.gdb_packets.specs.declared.ends.HearingEnd.TheVariants as hearings

module _ {S O C I W E : Type 0} (writes : W → Writing → List ℕ → W → Type 0) (reports : E → Writing → List ℕ → E → Type 0) where
  -- A read that failed is one of memory refused where memory was refused to the thread that hears.
  abbrev pub Unheard : ReadFault → Option HearingEnd → World S O C I W E → World S O C I W E → ℕ → Type 0
  Unheard fault (Some hearings.NoMemory) w w' status = NotRead writes reports (codes "vardozek gdb") stops.NoMemory w w' status
  Unheard fault heard w w' status = Ended reports (codes "standard input") (endings.ReadFailed fault) w.errors w'.errors status

  abbrev pub SessionEnded : declared.Ended → Option HearingEnd → World S O C I W E → World S O C I W E → ℕ → Type 0
  SessionEnded Left heard w w' status = (status ≡ 0) × (w' ≡ w)
  SessionEnded Saves heard w w' status = (status ≡ 0) × (w' ≡ w)
  SessionEnded Boots heard w w' status = (status ≡ 0) × (w' ≡ w)
  SessionEnded NoMemory heard w w' status = NotRead writes reports (codes "vardozek gdb") stops.NoMemory w w' status
  SessionEnded (ReadFailed fault) heard w w' status = Unheard fault heard w w' status
  SessionEnded (WriteFailed fault) heard w w' status = Ended reports (codes "vardozek gdb") (endings.WriteFailed fault) w.errors w'.errors status
