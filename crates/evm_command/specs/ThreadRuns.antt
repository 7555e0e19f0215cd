-- What `threads IMAGE TURNS` asks of the system, and the status that it ends with.
use Rattle.std.specs.Prelude.{◌≡◌, ℕ, ◌<◌, ◌^◌, List, Result}
use Rattle.std.specs.Str.Parse.{IsNumeral, digits_value, without_leading_plus}
use Rattle.evm_ram.specs.Images.{Contents}
use Rattle.evm_host.specs.evm_streams.Diagnostic.{Tells}
use Rattle.evm_host.specs.evm_serve.RunOptions.{Attached}
use Rattle.evm_host.specs.evm_serve.evm_streams.declared.source.Reading.{Reading}
use Rattle.evm_host.specs.evm_serve.evm_streams.declared.sink.Writing.{Writing}
use Rattle.evm_command.specs.Workers.{Ends, loaded_machine, ending_status}
use Rattle.evm_command.specs.declared.outcome.RunEnding.{RunEnding}
use Rattle.evm_command.specs.declared.outcome.RunEnding.TheVariants.{Written, Incomplete, Lost, ImageRefused, NoMemory, WriteFailed}
use Rattle.evm_host.specs.Exit.{report_name}
use Rattle.evm_host.specs.Asks.{AsksNothing, Behind, Loads}
use Rattle.evm_host.specs.declared.system.OpenFault.{OpenFault}
use Rattle.evm_host.specs.declared.system.World.{World}

-- The number that a word says, if it says one of 32 bits.
abbrev pub SaysNumber : List ℕ → ℕ → Type 0
SaysNumber word n = IsNumeral 10 (without_leading_plus word) → digits_value 10 (without_leading_plus word) < 2 ^ 32 → n ≡ digits_value 10 (without_leading_plus word)

module _ {E : Type 0} (reports : E → Writing → List ℕ → E → Type 0) where
  -- A run by threads with the image of a file reports on the file, or on the stream to which a write failed.
  abbrev pub ExplainsRun : List ℕ → RunEnding → E → E → Type 0
  ExplainsRun path Written e e' = e' ≡ e
  ExplainsRun path Incomplete e e' = Tells reports path e e'
  ExplainsRun path Lost e e' = Tells reports path e e'
  ExplainsRun path ImageRefused e e' = Tells reports path e e'
  ExplainsRun path NoMemory e e' = Tells reports path e e'
  ExplainsRun path (WriteFailed fault) e e' = Tells reports report_name e e'

module _ {S O C I W E : Type 0} (writes : W → Writing → List ℕ → W → Type 0) (reports : E → Writing → List ℕ → E → Type 0) where
  -- The image is run by threads; neither a file nor standard input is asked for.
  abbrev pub RunsByThreads : List Attached → List ℕ → ℕ → Contents → World S O C I W E → World S O C I W E → ℕ → Type 0
  RunsByThreads devices path turns image w w' status = AsksNothing w w' × ((ending : RunEnding)
      × Ends writes turns (loaded_machine devices image) w.output w'.output ending × ExplainsRun reports path ending w.errors w'.errors × (status ≡ ending_status ending))

module _ {S O C I W E : Type 0} (opens : S → List ℕ → Result O OpenFault → S → Type 0)
    (opened : O → Reading → List ℕ → O → Type 0) (writes : W → Writing → List ℕ → W → Type 0) (reports : E → Writing → List ℕ → E → Type 0) where
  -- `threads IMAGE TURNS`: IMAGE is opened and imported, and then run.
  abbrev pub RunsFileByThreads : List Attached → List ℕ → ℕ → World S O C I W E → World S O C I W E → ℕ → Type 0
  RunsFileByThreads devices path turns w w' status = (image : Result Contents ℕ) × (between : World S O C I W E)
      × Loads opens opened writes reports path w between image × Behind image (RunsByThreads writes reports devices path turns) between w' status
