-- What a run of the program does, from the words of the command line to its exit status.
use Rattle.std.specs.Prelude.{◌≡◌, ℕ, List, [], ◌⊎◌, Option, Some, None, Result, codes}
use Rattle.evm_host.specs.evm_serve.evm_streams.declared.source.Reading.{Reading}
use Rattle.evm_host.specs.evm_serve.evm_streams.declared.sink.Writing.{Writing}
use Rattle.clap.specs.Words.{Text, IsAmong, fault_of, subcommand_of}
use Rattle.clap.specs.declared.error.ErrorKind.{ErrorKind}
use Rattle.clap.specs.declared.error.ErrorKind.TheVariants.{OutOfMemory}
use Rattle.evm_host.specs.evm_serve.RunOptions.{Attached}
use Rattle.evm_host.specs.declared.system.OpenFault.{OpenFault}
use Rattle.evm_host.specs.declared.system.World.{World}
use Rattle.evm_host.specs.Answers.{Refuses}
use Rattle.evm_command.specs.Jobs.{AssemblesFile, Runs, Replays}
use Rattle.evm_command.specs.ThreadRuns.{RunsFileByThreads, SaysNumber}
use Rattle.evm_command.specs.Words.{Wanted, Assemble, Run, Replay, Threads, evltool, job_of}

abbrev pub program_name : List ℕ
program_name = codes "evltool"

module _ {S O C I W E : Type 0} (opens : S → List ℕ → Result O OpenFault → S → Type 0) (creates : S → List ℕ → Result C OpenFault → S → Type 0)
    (opened : O → Reading → List ℕ → O → Type 0) (created : C → Writing → List ℕ → C → Type 0) (gives : I → Reading → List ℕ → I → Type 0)
    (writes : W → Writing → List ℕ → W → Type 0) (reports : E → Writing → List ℕ → E → Type 0) where
  -- a job, with the names of its files, and the devices of its machine
  abbrev pub Does : List Attached → Wanted → World S O C I W E → World S O C I W E → ℕ → Type 0
  Does devices (Assemble source out) w w' status = AssemblesFile opens creates opened created writes reports source out w w' status
  Does devices (Run image) w w' status = Runs opens opened gives writes reports devices image w w' status
  Does devices (Replay image journal) w w' status = Replays opens opened writes reports devices image journal w w' status
  Does devices (Threads image turns) w w' status = (n : ℕ) × SaysNumber turns n × RunsFileByThreads opens opened writes reports devices image n w w' status

  -- where no job is named, nothing is asked for
  abbrev pub DoesNamed : List Attached → Option Wanted → World S O C I W E → World S O C I W E → ℕ → Type 0
  DoesNamed devices (Some job) w w' status = Does devices job w w' status
  DoesNamed devices None w w' status = (w' ≡ w) × (status ≡ 2)

  -- Words without a fault name a job, which is done. Of words with faults one fault is reported; and memory may be refused to any.
  abbrev pub Answers : List Attached → List Text → World S O C I W E → World S O C I W E → ℕ → Type 0
  Answers devices words w w' status =
      ((fault_of evltool words ≡ []) × DoesNamed devices (job_of (subcommand_of evltool words)) w w' status)
      ⊎ ((kind : ErrorKind) × ((kind ≡ OutOfMemory) ⊎ IsAmong kind (fault_of evltool words)) × Refuses writes reports program_name kind w w' status)
