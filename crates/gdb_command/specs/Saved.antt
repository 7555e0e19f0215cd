-- What is written where a session is saved: the journal of what its machine shows.
use Rattle.std.specs.Prelude.{◌≡◌, ℕ, List, ◌++◌, Result, Ok, codes}
use Rattle.evm_streams.specs.declared.sink.Writing.{Writing}
use Rattle.evm_streams.specs.Writes.{Took}
use Rattle.evm_host.specs.declared.system.OpenFault.{OpenFault}
use Rattle.evm_model.specs.Replay.{IsReplayOf}
use Rattle.evm_model.specs.State.{State}
use Rattle.gdb_answers.specs.gdb_tape.gdb_driving.evm_debug.evm_journal.Journal.{journal_text}
use Rattle.gdb_answers.specs.gdb_tape.gdb_driving.evm_debug.evm_journal.JournalLaws.{BringsBack}

-- a journal that brings a machine back from each state of which it is the replay
pub record IsSavedJournal (m : State) (text : List ℕ) : Type 0 where
  pub written : text ≡ journal_text m.boot m.journal
  pub again : (first : State) → IsReplayOf first m → BringsBack text first m

module _ {S C : Type 0} (creates : S → List ℕ → Result C OpenFault → S → Type 0) (created : C → Writing → List ℕ → C → Type 0) where
  -- the file that was created under a name took a text
  abbrev pub IsKept : List ℕ → List ℕ → S → S → Type 0
  IsKept path text files files' = (file took : C) × creates files path (Ok file) files' × Took created file text took

  -- NAME.journal took the journal of a machine, and then NAME.script some lines
  abbrev pub IsSaved : List ℕ → State → S → S → Type 0
  IsSaved name m files files' =
      (text script : List ℕ) × (between : S) × IsSavedJournal m text × IsKept (name ++ codes ".journal") text files between
      × IsKept (name ++ codes ".script") script between files'
