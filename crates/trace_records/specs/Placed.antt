-- A trace with places behind its records.
use Rattle.std.specs.Prelude.{◌≡◌, ◌<◌, ◌^◌, ◌+◌, ℕ, List, [], ◌∷◌, ◌++◌, Some, IfSome, codes}
use Rattle.std.specs.String.{string_bytes}
use Rattle.std.specs.declared.alloc.Global.{Global}
use Rattle.std.specs.Prelude.{String}
use Rattle.json.specs.Json.{Json, object, array, Items, item, no_members, member, document}
use Rattle.text_markup.specs.Text.{listing}
use Rattle.evm_streams.specs.declared.sink.Writing.{Writing}
use Rattle.evm_streams.specs.Writes.{Took}
use Rattle.text_symbols.specs.Named.{Named}
use Rattle.trace_records.specs.declared.change.Change.{Change}
use Rattle.trace_records.specs.Entries.{Record, record_json, trace_text}
use Rattle.trace_records.specs.Changes.{trace_of}
use Rattle.trace_records.specs.declared.place.CodePlace.{CodePlace}
use Rattle.trace_records.specs.Labels.{LabelValue, label_items, time_of}
use Rattle.trace_records.specs.Places.{place_items}

-- the records, and behind them other items
abbrev pub records_then : List Record → Items → Items
records_then [] more = more
records_then (r ∷ rs) more = item (record_json r) (records_then rs more)

-- the file: the trace's records, then its labels and its places, one a line
abbrev pub placed_text : List Record → List LabelValue → List Named → List CodePlace → List ℕ
placed_text rs labels symbols places = listing (codes "traceEvents") (records_then rs (label_items labels (place_items symbols places)))

abbrev pub placed_json : List Record → List LabelValue → List Named → List CodePlace → Json
placed_json rs labels symbols places = object (member (codes "traceEvents") (array (records_then rs (label_items labels (place_items symbols places)))) no_members)

-- numbers of 8 bits for tasks, and of 64 for times
abbrev pub FitsLabel : LabelValue → Type 0
FitsLabel label = (label.task + 1 < 2 ^ 64) × IfSome (time_of label.bearer) (λ at. at < 2 ^ 64)

abbrev pub FitsPlace : CodePlace → Type 0
FitsPlace p = (p.task + 1 < 2 ^ 64) × (p.at < 2 ^ 64)

-- What the sink took and what is still to be written are together this text.
pub record IsPending {W : Type 0} (takes : W → Writing → List ℕ → W → Type 0) (start : W) (whole : List ℕ) (sink : W) (kept : String Global) : Type 0 where
  pub sunk : List ℕ
  pub took : Took takes start sunk sink
  pub text : sunk ++ string_bytes kept ≡ whole

-- The sink took the whole text of the trace of some changes with some labels and places, and a JSON reader finds its records, labels and places there.
pub record IsPlaced {W : Type 0} (takes : W → Writing → List ℕ → W → Type 0) (start : W) (labels : List LabelValue) (symbols : List Named) (places : List CodePlace) (sink : W) : Type 0 where
  pub changes : List Change
  pub took : Took takes start (placed_text (trace_of changes) labels symbols places) sink
  pub json : document (placed_text (trace_of changes) labels symbols places) ≡ Some (placed_json (trace_of changes) labels symbols places)

-- so for some labels and places
abbrev pub IsPlacedSomewhere : {W : Type 0} → (W → Writing → List ℕ → W → Type 0) → W → List Named → W → Type 0
IsPlacedSomewhere takes start symbols sink = (labels : List LabelValue) × (places : List CodePlace) × IsPlaced takes start labels symbols places sink

-- Where the image has no symbols and nothing has a name, the text is that of the trace.
abbrev pub NoSymbolsNoPlaces : Type 0
NoSymbolsNoPlaces = (rs : List Record) (places : List CodePlace) → placed_text rs [] [] places ≡ trace_text rs
