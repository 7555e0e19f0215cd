-- The changes that tell of a journal, item by item.
use Rattle.std.specs.Prelude.{◌≡◌, ◌⊎◌, ◌-◌, ◌^◌, ◌++◌, ℕ, List, [], Option, Some, None, length}
use Rattle.evm_ram.specs.Images.{Contents}
use Rattle.evm_model.specs.Devices.{Attached}
use Rattle.trace_records.specs.Labels.{LabelValue}
use Rattle.trace_records.specs.Placed.{placed_text}
use Rattle.trace_records.specs.declared.place.CodePlace.{CodePlace}
use Rattle.evm_streams.specs.Writes.{Took}
use Rattle.evm_streams.specs.declared.sink.Writing.{Writing}
use Rattle.run_walk.specs.Walks.{IsBegin, IsMarked, IsNext, Walked, place}
use Rattle.run_walk.specs.declared.item.Item.{Item}
use Rattle.run_marks.specs.declared.mark.Mark.{Mark}
use Rattle.trace_records.specs.declared.change.Change.{Change}
use Rattle.trace_records.specs.Changes.{trace_of}
use Rattle.trace_command.specs.Instants.{event_instants, instants_in}
use Rattle.trace_command.specs.Times.{time_behind}
use Rattle.trace_command.specs.declared.clock.Clock.{Clock}
use Rattle.trace_command.specs.declared.tracing.Phase.{Phase}
use Rattle.trace_command.specs.declared.tracing.Phase.TheVariants.{Begins, Goes, Ends, Ended}
use Rattle.text_symbols.specs.Named.{Named}

-- their instants are those of the marks, at a time
abbrev pub TellsInstants : Option Item → List Mark → ℕ → List Change → Type 0
TellsInstants None marks at changes = instants_in changes ≡ []
TellsInstants (Some item) marks at changes = instants_in changes ≡ event_instants at marks

abbrev pub time_behind_next : Clock → Option Item → ℕ → ℕ
time_behind_next clock None at = at
time_behind_next clock (Some item) at = time_behind clock item at

-- these changes tell the item that comes next, if there is one: their instants are those of its marks, at this time; and the time behind it
pub record TellsOn (clock : Clock) (before after : Walked) (at behind : ℕ) (changes : List Change) : Type 0 where
  pub item : Option Item
  pub marks : List Mark
  pub next : IsNext (2 ^ 64 - 1) before item after
  pub marked : IsMarked item before.machine after.machine marks
  pub instants : TellsInstants item marks at changes
  pub time : behind ≡ time_behind_next clock item at

-- ---- call by call
-- the journal goes on, or it is at its end
abbrev pub GoesOn : Phase → Walked → Type 0
GoesOn phase walk = (phase ≡ Goes) ⊎ ((phase ≡ Ends) × (place walk ≡ length walk.events))

-- what a call tells at each phase, and the phase after it: at the begin and at the end no event, and nothing behind the end
abbrev pub TellsCall : Clock → Phase → Walked → ℕ → List Change → Phase → Walked → ℕ → Type 0
TellsCall clock Begins before at changes phase after behind = (phase ≡ Goes) × ((after ≡ before) × ((behind ≡ at) × (instants_in changes ≡ [])))
TellsCall clock Goes before at changes phase after behind = TellsOn clock before after at behind changes × GoesOn phase after
TellsCall clock Ends before at changes phase after behind = (phase ≡ Ended) × ((after ≡ before) × ((behind ≡ at) × (instants_in changes ≡ [])))
TellsCall clock Ended before at changes phase after behind = ⊥

-- ---- a journal
-- these changes tell the items of a journal from one place to another, in their order, and beside them names and what the tracks show; the clock
-- goes from 0 to a time
pub data TellsItems (clock : Clock) (from : Walked) : List Change → Walked → ℕ → Type 0 where
  begins : TellsItems clock from [] from 0
  beside : (changes more : List Change) (to : Walked) (at : ℕ) → TellsItems clock from changes to at → instants_in more ≡ [] → TellsItems clock from (changes ++ more) to at
  item : (changes more : List Change) (mid to : Walked) (at behind : ℕ) → TellsItems clock from changes mid at → TellsOn clock mid to at behind more → TellsItems clock from (changes ++ more) to behind

-- the sink took the text of the trace of a journal's items up to its end, with some labels and places
pub record IsTraceOf {W : Type 0} (clock : Clock) (walk : Walked) (takes : W → Writing → List ℕ → W → Type 0) (start : W) (symbols : List Named) (sink : W) : Type 0 where
  pub changes : List Change
  pub labels : List LabelValue
  pub places : List CodePlace
  pub to : Walked
  pub time : ℕ
  pub items : TellsItems clock walk changes to time
  pub ends : place to ≡ length to.events
  pub took : Took takes start (placed_text (trace_of changes) labels symbols places) sink

-- likewise, of the journal with this text, on a machine with these devices and this image
pub record IsTraceOfText {W : Type 0} (clock : Clock) (devices : List Attached) (image : Contents) (text : List ℕ) (takes : W → Writing → List ℕ → W → Type 0) (start : W) (symbols : List Named) (sink : W) : Type 0 where
  pub walk : Walked
  pub begin : IsBegin devices image text walk
  pub trace : IsTraceOf clock walk takes start symbols sink
