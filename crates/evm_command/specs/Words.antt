-- What the words of the command line ask for: the command, and the job that a subcommand and its values name.
use Rattle.std.specs.Prelude.{List, Option, Some, None, if◌then◌else◌, codes, true, option_copied}
use Rattle.std.specs.Str.{bytes_eq}
use Rattle.clap.specs.Words.{App, Row, Rule, Text, first_of, new_app, new_rule, with_rule, with_subcommand}
use Rattle.clap.specs.Simple.{on_top}
use Rattle.clap.specs.declared.builder.value_parser.ValueParser.TheVariants.{Unsigned}
use Rattle.evm_command.specs.declared.words.Job.{Job}
use Rattle.evm_command.specs.declared.words.Job.TheVariants as jobs

-- a word that stands at its place
abbrev pub place_rule : Text → Rule
place_rule id = record (new_rule id) { required = true }

-- the four subcommands
abbrev pub asm_app : App
asm_app = with_rule (with_rule (new_app (codes "asm")) (place_rule (codes "SRC"))) (place_rule (codes "OUT"))

abbrev pub run_app : App
run_app = with_rule (new_app (codes "run")) (new_rule (codes "IMAGE"))

abbrev pub replay_app : App
replay_app = with_rule (with_rule (new_app (codes "replay")) (place_rule (codes "IMAGE"))) (place_rule (codes "JOURNAL"))

-- a number of turns that a run may have
abbrev pub turns_rule : Rule
turns_rule = record (place_rule (codes "TURNS")) { parser = Some (Unsigned 1 8000) }

abbrev pub threads_app : App
threads_app = with_rule (with_rule (new_app (codes "threads")) (place_rule (codes "IMAGE"))) turns_rule

-- the command: it has a version, and wants one of the subcommands
abbrev pub bare_app : App
bare_app = on_top (λ s. record s { has_version = true; subcommand_required = true }) (new_app (codes "evltool"))

abbrev pub evltool : App
evltool = with_subcommand (with_subcommand (with_subcommand (with_subcommand bare_app asm_app.top) run_app.top) replay_app.top) threads_app.top

-- a job, with the names of its files
pub data Wanted : Type 0 where
  Assemble : (source out : Text) → Wanted
  Run : (image : Option Text) → Wanted
  Replay : (image journal : Text) → Wanted
  Threads : (image turns : Text) → Wanted

abbrev pub seen : Option Text → Option Text → (Text → Text → Wanted) → Option Wanted
seen (Some a) (Some b) job = Some (job a b)
seen _ _ job = None

abbrev pub asm_job : List Row → Option Wanted
asm_job values = seen (first_of (codes "SRC") values) (first_of (codes "OUT") values) Assemble

abbrev pub run_job : List Row → Option Wanted
run_job values = Some (Run (first_of (codes "IMAGE") values))

abbrev pub replay_job : List Row → Option Wanted
replay_job values = seen (first_of (codes "IMAGE") values) (first_of (codes "JOURNAL") values) Replay

abbrev pub threads_job : List Row → Option Wanted
threads_job values = seen (first_of (codes "IMAGE") values) (first_of (codes "TURNS") values) Threads

-- the job of a subcommand of this name, with these values
abbrev pub job_named : Text → List Row → Option Wanted
job_named name values =
    if bytes_eq name (codes "asm") then asm_job values
    else (if bytes_eq name (codes "run") then run_job values
    else (if bytes_eq name (codes "replay") then replay_job values
    else (if bytes_eq name (codes "threads") then threads_job values else None)))

-- the job of the subcommand that a parse entered, if it entered one
abbrev pub job_of : Option (Text × List Row) → Option Wanted
job_of None = None
job_of (Some entered) = job_named entered.0 entered.1

-- what the code has of a job
abbrev pub wanted : Job → Wanted
wanted (jobs.Assemble source out) = Assemble source.now out.now
wanted (jobs.Run image) = Run (option_copied image)
wanted (jobs.Replay image journal) = Replay image.now journal.now
wanted (jobs.Threads image turns) = Threads image.now turns.now
