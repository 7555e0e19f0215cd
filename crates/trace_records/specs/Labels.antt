-- Names on the tracks of tasks: what a task is called, what it waits for and which mutexes it owns, each from a time on.
use Rattle.std.specs.Prelude.{ℕ, List, [], ◌∷◌, ◌++◌, Option, Some, None, codes, flat_map}
use Rattle.trace_records.specs.declared.bearer.Bearer.{Bearer}
use Rattle.trace_records.specs.declared.bearer.Bearer.TheVariants.{Itself, Awaited, Locked}
use Rattle.json.specs.Json.{Json, Items, item, no_members}
use Rattle.text_markup.specs.Text.{text, shown_bytes}
use Rattle.evm_text.specs.Written.{decimal}
use Rattle.trace_records.specs.Entries.{arguments, trace_event, string_member}
use Rattle.trace_records.specs.declared.track.Track.TheVariants.{Task}

-- a name on the track of a task
pub record LabelValue : Type 0 where
  pub task : ℕ
  pub bearer : Bearer
  pub name : List ℕ

-- when it is said, if it is said at a time
abbrev pub time_of : Bearer → Option ℕ
time_of Itself = None
time_of (Awaited from) = Some from
time_of (Locked at) = Some at

-- the number of a task, and the name that the program gives
abbrev pub task_words : ℕ → List ℕ → List ℕ
task_words task name = codes "task " ++ (decimal task ++ (codes " (" ++ (name ++ codes ")")))

abbrev pub wait_words : List ℕ → List ℕ
wait_words name = codes "waits for " ++ name

abbrev pub lock_words : List ℕ → List ℕ
lock_words name = codes "locks " ++ name

-- the name of the track of a task
abbrev pub name_json : ℕ → List ℕ → Json
name_json task name = trace_event (codes "M") (Task task) 0 (string_member (codes "name") (codes "thread_name") (arguments (string_member (codes "name") (shown_bytes (task_words task name)) no_members)))

-- the instant at which a task begins to wait, or owns a mutex
abbrev pub instant_json : ℕ → List ℕ → ℕ → Json
instant_json task words at = trace_event (codes "i") (Task task) at (string_member (codes "name") (shown_bytes words) (string_member (codes "s") (codes "t") no_members))

abbrev pub label_by : ℕ → List ℕ → Bearer → Json
label_by task name Itself = name_json task name
label_by task name (Awaited from) = instant_json task (wait_words name) from
label_by task name (Locked at) = instant_json task (lock_words name) at

abbrev pub label_json : LabelValue → Json
label_json label = label_by label.task label.name label.bearer

abbrev pub label_items : List LabelValue → Items → Items
label_items [] more = more
label_items (label ∷ labels) more = item (label_json label) (label_items labels more)

-- ---- as it is written: behind a comma, on a line of its own
unfoldable pub label_text : ℕ → List ℕ → Bearer → List ℕ
label_text task name bearer = 44 ∷ 10 ∷ text (label_by task name bearer)

unfoldable pub label_line : LabelValue → List ℕ
label_line label = label_text label.task label.name label.bearer

abbrev pub label_lines : List LabelValue → List ℕ
label_lines labels = flat_map label_line labels
