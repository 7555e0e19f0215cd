-- A run that is told call by call, to its end.
use Rattle.std.specs.Prelude.{ℕ, List, [], ◌++◌}
use Rattle.evm_streams.specs.declared.sink.Writing.{Writing}
use Rattle.evm_streams.specs.Writes.{Took}
use Rattle.text_symbols.specs.Named.{Named}
use Rattle.trace_records.specs.Changes.{trace_of}
use Rattle.trace_records.specs.Telling.{Tells}
use Rattle.trace_records.specs.declared.change.Change.{Change}
use Rattle.trace_records.specs.declared.trace.Trace.{Trace}
use Rattle.trace_records.specs.Labels.{LabelValue}
use Rattle.trace_records.specs.Placed.{placed_text}
use Rattle.trace_records.specs.declared.place.CodePlace.{CodePlace}

-- on the way from one state of a teller to another these changes were told, a call behind the other
pub data IsRun {T : Type 0} (tells : T → List Change → T → Type 0) (from : T) : List Change → T → Type 0 where
  begins : IsRun tells from [] from
  goes_on : (changes more : List Change) (mid to : T) → IsRun tells from changes mid → tells mid more to → IsRun tells from (changes ++ more) to

-- the trace tells what was told until the run had ended
pub record TellsCalls {T W : Type 0} (tells : T → List Change → T → Type 0) (ended : T → Type 0) (from : T) (takes : W → Writing → List ℕ → W → Type 0) (start sink : W) (trace : Trace) : Type 0 where
  pub changes : List Change
  pub to : T
  pub run : IsRun tells from changes to
  pub ends : ended to
  pub told : Tells takes start changes sink trace

-- the sink took the text of that trace, with some labels and places
pub record IsRunPlaced {T W : Type 0} (tells : T → List Change → T → Type 0) (ended : T → Type 0) (from : T) (takes : W → Writing → List ℕ → W → Type 0) (start : W) (symbols : List Named) (sink : W) : Type 0 where
  pub changes : List Change
  pub labels : List LabelValue
  pub places : List CodePlace
  pub to : T
  pub run : IsRun tells from changes to
  pub ends : ended to
  pub took : Took takes start (placed_text (trace_of changes) labels symbols places) sink
