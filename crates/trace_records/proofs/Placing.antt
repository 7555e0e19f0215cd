-- A trace that is ended with places.
use Rattle.std.specs.Prelude.{◌^◌, All}
use Rattle.std.specs.List.{AllByRecursion}
use Rattle.std.proofs.lemmas.List.Elements.{recursion_from_All}
use Rattle.std.proofs.Common.{◌≡◌, ℕ, ◌+◌, ◌<◌, ◌≤◌, true, length, take, get_or, List, [], ◌∷◌, ◌++◌, Option, None, Some, refl, sym, ap, subst, ◌∙◌, append_assoc, append-nil, arith}
use Rattle.std.specs.Prelude.{codes, flat_map, Result, Ok, Err, IfSome, OnOk, String}
use Rattle.std.specs.String.{string_bytes}
use Rattle.std.specs.declared.alloc.Global.{Global}
use Rattle.std.proofs.Math.Nat.{max-le}
use Rattle.std.proofs.lemmas.Grind.{flat_map-append}
use Rattle.std.proofs.lemmas.List.{take_more}
use Rattle.json.specs.Json.{Items, no_items, item, document}
use Rattle.json.specs.Print.{escape_byte}
use Rattle.json.specs.Tree.{ItemsHaveNumbers, depth, items_depth, members_depth}
use Rattle.json.proofs.Numbered.{document-HasNumbers}
use Rattle.text_markup.proofs.Decimals.{decimals}
use Rattle.text_markup.proofs.Printed.{document-listing}
use Rattle.text_markup.specs.Text.{text, item_lines, listing}
use Rattle.evm_streams.specs.declared.sink.Writing.{Writing}
use Rattle.evm_streams.specs.Writes.{Took}
use Rattle.evm_streams.proofs.Calls.{took_append}
use Rattle.text_symbols.specs.Named.{Named}
use Rattle.evm_text.specs.Written.{numeral}
use Rattle.trace_records.specs.declared.change.Change.{Change}
use Rattle.trace_records.specs.declared.note.Detail.{Detail}
use Rattle.trace_records.specs.declared.note.Detail.TheVariants.{ProcessName, ThreadName, SortIndex, Interrupt, Rank, Ticks, Moves, FlowStart, FlowEnd}
use Rattle.trace_records.specs.declared.track.Track.{Track}
use Rattle.trace_records.specs.declared.trace.Trace.{Trace}
use Rattle.trace_records.specs.Entries.{Record, slice, note, record_json, record_items, note_members, trace_text, trace_json, record_line, record_lines, first_note, start_text}
use Rattle.trace_records.specs.Changes.{no_spans, records_of, in_order, trace_of}
use Rattle.trace_records.specs.Laws.{AreFitting}
use Rattle.trace_records.specs.Telling.{Tells}
use Rattle.trace_records.proofs.Traces.{traces}
use Rattle.trace_records.specs.declared.place.CodePlace.{CodePlace}
use Rattle.trace_records.specs.declared.bearer.Bearer.{Bearer}
use Rattle.trace_records.specs.declared.bearer.Bearer.TheVariants.{Itself, Awaited, Locked}
use Rattle.trace_records.specs.Labels.{LabelValue, label_by, label_items, label_json, label_line, label_lines, label_text, time_of}
use Rattle.trace_records.specs.Places.{item_by, line_by, place_items, place_line, place_lines, place_symbol}
use Rattle.trace_records.specs.Placed.{FitsLabel, FitsPlace, IsPending, IsPlaced, placed_json, placed_text, records_then}

-- ---- a text that is held

module _ {W : Type 0} (takes : W → Writing → List ℕ → W → Type 0) where
  pub held_more : (start sink : W) (whole more : List ℕ) (old new : String Global) → IsPending takes start whole sink old → string_bytes new ≡ string_bytes old ++ more → IsPending takes start (whole ++ more) sink new
  held_more start sink whole more old new held grown =
      record {
        sunk = held.sunk;
        took = held.took;
        text = ap (λ (x : List ℕ). held.sunk ++ x) grown ∙ sym (append_assoc held.sunk (string_bytes old) more) ∙ ap (λ (x : List ℕ). x ++ more) held.text;
      }

  pub held_on : (start sink later : W) (whole : List ℕ) (old new : String Global) → IsPending takes start whole sink old → Took takes sink (string_bytes old) later → string_bytes new ≡ [] → IsPending takes start whole later new
  held_on start sink later whole old new held took gone =
      record {
        sunk = held.sunk ++ string_bytes old;
        took = took_append takes start sink later held.sunk (string_bytes old) held.took took;
        text = ap (λ (x : List ℕ). (held.sunk ++ string_bytes old) ++ x) gone ∙ append-nil (held.sunk ++ string_bytes old) ∙ held.text;
      }

  held_all : (start sink later : W) (whole rest : List ℕ) (old : String Global) → IsPending takes start whole sink old → rest ≡ string_bytes old ++ codes "\n]}" → Took takes sink rest later → Took takes start (whole ++ codes "\n]}") later
  held_all start sink later whole rest old held ends took =
      subst (λ (x : List ℕ). Took takes start x later)
      (ap (λ (x : List ℕ). held.sunk ++ x) ends ∙ sym (append_assoc held.sunk (string_bytes old) (codes "\n]}")) ∙ ap (λ (x : List ℕ). x ++ codes "\n]}") held.text)
      (took_append takes start sink later held.sunk rest held.took took)

  pub held_to_end : {E : Type 0} (result : Result (Unit {0}) E) (start sink later : W) (whole rest : List ℕ) (old : String Global) → IsPending takes start whole sink old → rest ≡ string_bytes old ++ codes "\n]}" → OnOk result (Took takes sink rest later) → OnOk result (Took takes start (whole ++ codes "\n]}") later)
  held_to_end (Ok done) start sink later whole rest old held ends took = held_all start sink later whole rest old held ends took
  held_to_end (Err stop) start sink later whole rest old held ends took = tt

-- the lines of one place more
pub lines_more : (symbols : List Named) (places : List CodePlace) (i : ℕ) (d : CodePlace) (whole : List ℕ) → i < length places
    → (whole ++ place_lines symbols (take i places)) ++ place_line symbols (get_or places i d) ≡ whole ++ place_lines symbols (take (i + 1) places)
lines_more symbols places i d whole below =
    let f = place_line symbols in
    let front = take i places in
    let p = get_or places i d in
    let next : take (i + 1) places ≡ front ++ p ∷ [] = take_more places i d below in
    let more : flat_map f (take (i + 1) places) ≡ flat_map f front ++ f p = ap (flat_map f) next ∙ flat_map-append f front (p ∷ []) ∙ ap (λ (x : List ℕ). flat_map f front ++ x) (append-nil (f p)) in
    append_assoc whole (flat_map f front) (f p) ∙ ap (λ (x : List ℕ). whole ++ x) (sym more)

-- the lines of one label more
pub labelled_more : (labels : List LabelValue) (i : ℕ) (d : LabelValue) (whole : List ℕ) → i < length labels
    → (whole ++ label_lines (take i labels)) ++ label_line (get_or labels i d) ≡ whole ++ label_lines (take (i + 1) labels)
labelled_more labels i d whole below =
    let front = take i labels in
    let p = get_or labels i d in
    let next : take (i + 1) labels ≡ front ++ p ∷ [] = take_more labels i d below in
    let more : label_lines (take (i + 1) labels) ≡ label_lines front ++ label_line p = ap (flat_map label_line) next ∙ flat_map-append label_line front (p ∷ []) ∙ ap (λ (x : List ℕ). label_lines front ++ x) (append-nil (label_line p)) in
    append_assoc whole (label_lines front) (label_line p) ∙ ap (λ (x : List ℕ). whole ++ x) (sym more)

-- ---- the text

by_line : (p : CodePlace) (symbol : Option (List ℕ × ℕ)) (more : Items) → item_lines true (item_by p symbol more) ≡ line_by p symbol ++ item_lines true more
by_line p None more = refl
by_line p (Some symbol) more = refl

places_then : (symbols : List Named) (places : List CodePlace) → item_lines true (place_items symbols places) ≡ place_lines symbols places ++ codes "\n]"
unfolding place_line
places_then symbols [] = refl
places_then symbols (p ∷ places) =
    by_line p (place_symbol symbols p) (place_items symbols places)
    ∙ ap (λ (x : List ℕ). line_by p (place_symbol symbols p) ++ x) (places_then symbols places)
    ∙ sym (append_assoc (place_line symbols p) (place_lines symbols places) (codes "\n]"))

records_written : (rs : List Record) (more : Items) → item_lines true (records_then rs more) ≡ record_lines rs ++ item_lines true more
unfolding record_line
records_written [] more = refl
records_written (r ∷ rs) more =
    ap (λ (x : List ℕ). 44 ∷ 10 ∷ (text (record_json r) ++ x)) (records_written rs more)
    ∙ sym (append_assoc (record_line r) (record_lines rs) (item_lines true more))

labels_written : (labels : List LabelValue) (more : Items) → item_lines true (label_items labels more) ≡ label_lines labels ++ item_lines true more
unfolding label_line label_text
labels_written [] more = refl
labels_written (label ∷ labels) more =
    ap (λ (x : List ℕ). 44 ∷ 10 ∷ (text (label_json label) ++ x)) (labels_written labels more)
    ∙ sym (append_assoc (label_line label) (label_lines labels) (item_lines true more))

regroup : (a l n s : List ℕ) → a ++ ((l ++ (n ++ (s ++ codes "\n]"))) ++ 125 ∷ []) ≡ (((a ++ l) ++ n) ++ s) ++ codes "\n]}"
regroup a l n s =
    ap (λ (x : List ℕ). a ++ x) (append_assoc l (n ++ (s ++ codes "\n]")) (125 ∷ []) ∙ ap (λ (x : List ℕ). l ++ x) (append_assoc n (s ++ codes "\n]") (125 ∷ []) ∙ ap (λ (x : List ℕ). n ++ x) (append_assoc s (codes "\n]") (125 ∷ []))))
    ∙ sym (append_assoc ((a ++ l) ++ n) s (codes "\n]}") ∙ append_assoc (a ++ l) n (s ++ codes "\n]}") ∙ append_assoc a l (n ++ (s ++ codes "\n]}")))

written : (rs : List Record) (labels : List LabelValue) (symbols : List Named) (places : List CodePlace)
    → placed_text (note first_note ∷ rs) labels symbols places ≡ (((start_text ++ record_lines rs) ++ label_lines labels) ++ place_lines symbols places) ++ codes "\n]}"
unfolding start_text escape_byte numeral
written rs labels symbols places =
    let lines = record_lines rs in
    let called = label_lines labels in
    let spots = place_lines symbols places in
    ap (λ (x : List ℕ). start_text ++ (x ++ 125 ∷ []))
    (records_written rs (label_items labels (place_items symbols places)) ∙ ap (λ (x : List ℕ). lines ++ x) (labels_written labels (place_items symbols places) ∙ ap (λ (x : List ℕ). called ++ x) (places_then symbols places)))
    ∙ regroup start_text lines called spots

-- ---- without symbols

pub no_items_added : (places : List CodePlace) → place_items [] places ≡ no_items
no_items_added [] = refl
no_items_added (p ∷ places) = no_items_added places

records_alone : (rs : List Record) → records_then rs no_items ≡ record_items rs
records_alone [] = refl
records_alone (r ∷ rs) = ap (λ (js : Items). item (record_json r) js) (records_alone rs)

pub nothing_added : (rs : List Record) (places : List CodePlace) → placed_text rs [] [] places ≡ trace_text rs
nothing_added rs places =
    ap (λ (js : Items). listing (codes "traceEvents") js) (ap (λ (js : Items). records_then rs js) (no_items_added places) ∙ records_alone rs)

-- ---- JSON

place_numbers : (symbol : Option (List ℕ × ℕ)) (p : CodePlace) (more : Items) → FitsPlace p → ItemsHaveNumbers more → ItemsHaveNumbers (item_by p symbol more)
place_numbers None p more fits rest = rest
place_numbers (Some symbol) p more fits rest =
    ((tt, ((decimals 2).0 (omega arith), ((decimals (p.task + 1)).0 fits.0, ((decimals p.at).0 fits.1, (tt, (tt, tt)))))), rest)

places_numbers : (symbols : List Named) (places : List CodePlace) → AllByRecursion FitsPlace places → ItemsHaveNumbers (place_items symbols places)
places_numbers symbols [] fits = tt
places_numbers symbols (p ∷ places) fits = place_numbers (place_symbol symbols p) p (place_items symbols places) fits.0 (places_numbers symbols places fits.1)

records_numbers : (rs : List Record) (more : Items) → ItemsHaveNumbers (record_items rs) → ItemsHaveNumbers more → ItemsHaveNumbers (records_then rs more)
records_numbers [] more have rest = rest
records_numbers (r ∷ rs) more have rest = (have.0, records_numbers rs more have.1 rest)

label_numbers : (bearer : Bearer) (task : ℕ) (name : List ℕ) (more : Items) → task + 1 < 2 ^ 64 → IfSome (time_of bearer) (λ at. at < 2 ^ 64) → ItemsHaveNumbers more → ItemsHaveNumbers (item (label_by task name bearer) more)
label_numbers Itself task name more fits time rest =
    ((tt, ((decimals 2).0 (omega arith), ((decimals (task + 1)).0 fits, ((decimals 0).0 (omega arith), (tt, ((tt, tt), tt)))))), rest)
label_numbers (Awaited from) task name more fits time rest =
    ((tt, ((decimals 2).0 (omega arith), ((decimals (task + 1)).0 fits, ((decimals from).0 time, (tt, (tt, tt)))))), rest)
label_numbers (Locked at) task name more fits time rest =
    ((tt, ((decimals 2).0 (omega arith), ((decimals (task + 1)).0 fits, ((decimals at).0 time, (tt, (tt, tt)))))), rest)

labels_numbers : (labels : List LabelValue) (more : Items) → AllByRecursion FitsLabel labels → ItemsHaveNumbers more → ItemsHaveNumbers (label_items labels more)
labels_numbers [] more fits rest = rest
labels_numbers (label ∷ labels) more fits rest =
    label_numbers label.bearer label.task label.name (label_items labels more) fits.0.0 fits.0.1 (labels_numbers labels more fits.1 rest)

trace_numbers : (changes : List Change) → AreFitting changes → ItemsHaveNumbers (record_items (trace_of changes))
trace_numbers changes fits = (document-HasNumbers (trace_text (trace_of changes)) (trace_json (trace_of changes)) (traces changes fits)).0

place_deep : (symbol : Option (List ℕ × ℕ)) (p : CodePlace) (more : Items) → items_depth more ≤ 3 → items_depth (item_by p symbol more) ≤ 3
place_deep None p more rest = rest
place_deep (Some symbol) p more rest = max-le (omega arith) rest

places_deep : (symbols : List Named) (places : List CodePlace) → items_depth (place_items symbols places) ≤ 3
places_deep symbols [] = omega arith
places_deep symbols (p ∷ places) = place_deep (place_symbol symbols p) p (place_items symbols places) (places_deep symbols places)

label_deep : (bearer : Bearer) (task : ℕ) (name : List ℕ) → depth (label_by task name bearer) ≤ 3
label_deep Itself task name = omega arith
label_deep (Awaited from) task name = omega arith
label_deep (Locked at) task name = omega arith

labels_deep : (labels : List LabelValue) (more : Items) → items_depth more ≤ 3 → items_depth (label_items labels more) ≤ 3
labels_deep [] more rest = rest
labels_deep (label ∷ labels) more rest = max-le (label_deep label.bearer label.task label.name) (labels_deep labels more rest)

members_deep : (track : Track) (detail : Detail) → members_depth (note_members track detail) ≤ 1
members_deep track ProcessName = omega arith
members_deep track ThreadName = omega arith
members_deep track SortIndex = omega arith
members_deep track (Interrupt passage line times) = omega arith
members_deep track (Rank rank) = omega arith
members_deep track (Ticks ticks) = omega arith
members_deep track (Moves cpu) = omega arith
members_deep track (FlowStart flow id) = omega arith
members_deep track (FlowEnd flow id) = omega arith

record_deep : (r : Record) → depth (record_json r) ≤ 3
record_deep (slice s) = omega arith
record_deep (note n) = omega (arith, members_deep n.track n.detail)

records_deep : (rs : List Record) (more : Items) → items_depth more ≤ 3 → items_depth (records_then rs more) ≤ 3
records_deep [] more rest = rest
records_deep (r ∷ rs) more rest = max-le (record_deep r) (records_deep rs more rest)

placed_is_json : (changes : List Change) (labels : List LabelValue) (symbols : List Named) (places : List CodePlace) → AreFitting changes → All FitsLabel labels → All FitsPlace places
    → document (placed_text (trace_of changes) labels symbols places) ≡ Some (placed_json (trace_of changes) labels symbols places)
placed_is_json changes labels symbols places fits called all =
    let rs = trace_of changes in
    let spots = place_items symbols places in
    let more = label_items labels spots in
    document-listing (codes "traceEvents") (records_then rs more)
    (records_numbers rs more (trace_numbers changes fits)
    (labels_numbers labels spots (recursion_from_All FitsLabel labels called) (places_numbers symbols places (recursion_from_All FitsPlace places all))))
    (omega (arith, records_deep rs more (labels_deep labels spots (places_deep symbols places))))

-- ---- the end

module _ {W : Type 0} (takes : W → Writing → List ℕ → W → Type 0) where
  -- a trace that was told so far holds the start and the lines of its records
  pub held_of : (start sink : W) (trace : Trace) (told : List Change) → Tells takes start told sink trace → IsPending takes start (start_text ++ record_lines (records_of no_spans (in_order 0 told))) sink trace.text
  held_of start sink trace told tells = record { sunk = tells.sunk; took = tells.took; text = tells.text }

  -- the text that is written to the end
  abbrev pub Ended : List Change → List LabelValue → List Named → List CodePlace → List ℕ
  Ended changes labels symbols places =
      (((start_text ++ record_lines (records_of no_spans (in_order 0 changes))) ++ label_lines labels) ++ place_lines symbols places) ++ codes "\n]}"

  pub placed : {E : Type 0} (result : Result (Unit {0}) E) (start sink : W) (changes : List Change) (labels : List LabelValue) (symbols : List Named) (places : List CodePlace) → AreFitting changes
      → All FitsLabel labels → All FitsPlace places → OnOk result (Took takes start (Ended changes labels symbols places) sink) → OnOk result (IsPlaced takes start labels symbols places sink)
  placed (Ok done) start sink changes labels symbols places fits called all took =
      record {
        changes = changes;
        took = subst (λ (x : List ℕ). Took takes start x sink) (sym (written (records_of no_spans (in_order 0 changes)) labels symbols places)) took;
        json = placed_is_json changes labels symbols places fits called all;
      }
  placed (Err stop) start sink changes labels symbols places fits called all took = tt

  pub took_of : {E : Type 0} (result : Result (Unit {0}) E) (start sink : W) (changes : List Change) (labels : List LabelValue) (symbols : List Named) (places : List CodePlace)
      → OnOk result (Took takes start (Ended changes labels symbols places) sink) → OnOk result (Took takes start (placed_text (trace_of changes) labels symbols places) sink)
  took_of (Ok done) start sink changes labels symbols places took =
      subst (λ (x : List ℕ). Took takes start x sink) (sym (written (records_of no_spans (in_order 0 changes)) labels symbols places)) took
  took_of (Err stop) start sink changes labels symbols places took = tt
