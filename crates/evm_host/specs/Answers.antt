-- What a program writes for words that are no job, and its status.
use Rattle.std.specs.Prelude.{◌≡◌, ℕ, List, ◌⊎◌}
use Rattle.evm_host.specs.evm_serve.evm_streams.declared.source.ReadStop.TheVariants.{NoMemory}
use Rattle.evm_host.specs.evm_serve.evm_streams.declared.sink.Writing.{Writing}
use Rattle.evm_host.specs.evm_serve.evm_streams.Writes.{Took, TookPrefix}
use Rattle.clap.specs.declared.error.ErrorKind.{ErrorKind}
use Rattle.clap.specs.declared.error.ErrorKind.TheVariants.{DisplayHelp, DisplayVersion, OutOfMemory}
use Rattle.evm_host.specs.evm_serve.Serving.{WritesAll}
use Rattle.evm_host.specs.evm_serve.declared.ending.Ending.{Ending}
use Rattle.evm_host.specs.evm_serve.declared.ending.Verdict.TheVariants.{Done}
use Rattle.evm_host.specs.declared.host.WordsFault.{WordsFault}
use Rattle.evm_host.specs.declared.host.WordsFault.TheVariants.{NotText}
use Rattle.evm_host.specs.declared.host.WordsFault.TheVariants as faults
use Rattle.evm_host.specs.declared.system.World.{World}
use Rattle.evm_host.specs.Asks.{AsksNothing, NotWords, NotRead}
use Rattle.evm_host.specs.Exit.{Ended}

module _ {S O C I W E : Type 0} (writes : W → Writing → List ℕ → W → Type 0) (reports : E → Writing → List ℕ → E → Type 0) where
  -- Help or the version of the program of a name is written to standard output.
  abbrev pub Shows : List ℕ → List ℕ → World S O C I W E → World S O C I W E → ℕ → Type 0
  Shows program text w w' status = AsksNothing w w' × ((ending : Ending) × WritesAll writes (record { text = text; verdict = Done }) w.output w'.output ending × Ended reports program ending w.errors w'.errors status)

  -- What is wrong with the words is written to standard error: the status is 2, or 4 where a write failed.
  abbrev pub Blames : List ℕ → World S O C I W E → World S O C I W E → ℕ → Type 0
  Blames text w w' status = AsksNothing w w' × ((w'.output ≡ w.output)
      × ((Took reports w.errors text w'.errors × (status ≡ 2)) ⊎ (TookPrefix reports w.errors text w'.errors × (status ≡ 4))))

  -- The text for the words, by its kind, unless memory is refused to it.
  abbrev pub Responds : List ℕ → ErrorKind → List ℕ → World S O C I W E → World S O C I W E → ℕ → Type 0
  Responds program DisplayHelp text w w' status = Shows program text w w' status
  Responds program DisplayVersion text w w' status = Shows program text w w' status
  Responds program OutOfMemory text w w' status = NotRead writes reports program NoMemory w w' status
  Responds program kind text w w' status = Blames text w w' status

  abbrev pub Refuses : List ℕ → ErrorKind → World S O C I W E → World S O C I W E → ℕ → Type 0
  Refuses program kind w w' status = NotRead writes reports program NoMemory w w' status ⊎ ((text : List ℕ) × Responds program kind text w w' status)

  -- Words that can't be read are reported, and nothing else is asked for.
  abbrev pub HasNoWords : List ℕ → WordsFault → World S O C I W E → World S O C I W E → ℕ → Type 0
  HasNoWords program NotText w w' status = NotWords program reports w w' status
  HasNoWords program faults.NoMemory w w' status = NotRead writes reports program NoMemory w w' status
