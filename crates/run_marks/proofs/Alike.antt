-- What is as it was has no marks.
use Rattle.std.proofs.Common.{◌≡◌, ◌≢◌, inl, inr, ℕ, zero, suc, ◌<◌, ◌≤◌, ◌⊎◌, List, [], ◌++◌, length, Bool, true, false, Option, Some, None, refl, sym, ap, ◌∙◌, arith}
use Rattle.std.specs.Prelude.{◌==◌, ◌&&◌, not, nat_le, nat_lt, option_map, slice_get}
use Rattle.std.proofs.lemmas.Bool.{cases_eq}
use Rattle.std.proofs.lemmas.List.{append-nil}
use Rattle.std.proofs.lemmas.Option.{slice_get_past}
use Rattle.std.proofs.lemmas.Bool.Decides.{nat_tests}
use Rattle.evm_journal.specs.evm_core.Views.{line_counts_at, line_counts_of}
use Rattle.evm_lines.specs.Lines.{has_line}
use Rattle.evm_lines.specs.declared.TheConstants.{LINES}
use Rattle.evm_model.proofs.Lists.{change-elsewhere, same_elements, slice_get-below}
use Rattle.evm_model.specs.Pipes.{Pipe, count_raise, raise}
use Rattle.evm_model.specs.State.{Parts}
use Rattle.evm_model.specs.declared.counts.Counts.{Counts}
use Rattle.evm_model.specs.declared.notice.Notice.{Notice}
use Rattle.evm_model.specs.declared.stage.Stage.{Stage}
use Rattle.evm_model.specs.declared.stage.Stage.TheVariants.{OutOfBand, InBand}
use Rattle.evm_model.specs.declared.task.Task.{Task}
use Rattle.evm_model.specs.declared.task.TaskState.{TaskState}
use Rattle.evm_model.specs.declared.task.TaskState.TheVariants as states
use Rattle.evm_model.specs.declared.task.Wait.{Wait}
use Rattle.evm_model.specs.declared.task.Wait.TheVariants as waits
use Rattle.run_marks.specs.Lists.{below}
use Rattle.run_marks.specs.Marks.{deadline_marks, end_marks, equal_waits, lane_marks, line_marks, lines_marks, marks_of, migrates_marks, moves_marks, notice_marks, one_task_marks, owner_in, owner_marks, pipe_marks, processor_marks, rank_marks, running_marks, same_bit, same_owner, same_stage, stall_marks, stop_marks, task_marks, task_stage, tick_marks, wait_of, waits_marks, woken_marks}
use Rattle.run_marks.proofs.Following.{none_after, same_line, same_lines}
use Rattle.run_marks.specs.Tallies.{IsTallyOf, OnlyRaises}
use Rattle.run_marks.specs.declared.observation.Lane.{Lane}
use Rattle.run_marks.specs.declared.observation.Observation.{Observation}
use Rattle.run_marks.specs.declared.observation.Running.{Running}
use Rattle.run_marks.specs.declared.mark.Mark.{Mark}

-- ---- numbers, stages, waits
itself : (n : ℕ) → (n == n) ≡ true
itself n = grind (arith, nat_tests)

not_less : (n : ℕ) → nat_lt n n ≡ false
not_less n = grind (arith, nat_tests)

stage_itself : (s : Stage) → same_stage s s ≡ true
stage_itself OutOfBand = refl
stage_itself InBand = refl

bit_itself : (b : Bool) → same_bit b b ≡ true
bit_itself true = refl
bit_itself false = refl

wait_itself : (w : Wait) → equal_waits w w ≡ true
wait_itself (waits.Line l) = itself l
wait_itself (waits.Lock m) = itself m
wait_itself (waits.Reacquire m x) = rw (itself m, itself x) refl
wait_itself (waits.Semaphore s) = itself s
wait_itself (waits.Event e) = itself e
wait_itself (waits.Flags f) = itself f
wait_itself waits.Sleep = refl
wait_itself (waits.Timer n) = itself n

-- ---- a processor
runs_on : (c : ℕ) (r : Option Running) → running_marks c r r ≡ []
runs_on c None = refl
runs_on c (Some r) = rw (itself r.task, stage_itself r.stage) refl

stall_stays : (c : ℕ) (s : Stage) (b : Bool) → stall_marks c s b b ≡ []
stall_stays c s b = rw (bit_itself b) refl

stop_stays : (c : ℕ) (b : Bool) → stop_marks c b b ≡ []
stop_stays c b = rw (bit_itself b) refl

lane_stays : (c : ℕ) (o : Option Lane) → lane_marks c o o ≡ []
unfolding lane_marks
lane_stays c None = refl
lane_stays c (Some lane) = rw (runs_on c lane.running, stall_stays c OutOfBand lane.oob_stalled, stall_stays c InBand lane.in_band_stalled, stop_stays c lane.stopped) refl

pipe_stays : (c : ℕ) (o : Option (List Counts)) → pipe_marks c o o ≡ []
pipe_stays c None = refl
pipe_stays c (Some counts) = same_lines c counts

-- ---- a task
waits_on : (t : ℕ) (w : Option Wait) → waits_marks t w w ≡ []
waits_on t None = refl
waits_on t (Some w) = rw (wait_itself w) refl

woken_not : (t : ℕ) (w : Option Wait) → woken_marks t w w ≡ []
woken_not t None = refl
woken_not t (Some w) = rw (wait_itself w) refl

no_more : (a b : Bool) → (a && (b && false)) ≡ false
no_more true true = refl
no_more true false = refl
no_more false b = refl

deadline_stays : (t ticks d : ℕ) → deadline_marks t ticks d d ≡ []
deadline_stays t ticks d = rw (itself d, no_more (not (d == 0)) (nat_le d ticks)) refl

migrates_not : (t c : ℕ) → migrates_marks t c c ≡ []
migrates_not t c = rw (itself c) refl

moves_not : (t : ℕ) (s : Option Stage) → moves_marks t s s ≡ []
moves_not t None = refl
moves_not t (Some s) = rw (stage_itself s) refl

ends_not : (t : ℕ) (s : TaskState) → end_marks t s s ≡ []
ends_not t states.InReady = refl
ends_not t states.OobReady = refl
ends_not t (states.Waits w) = refl
ends_not t states.Exit = refl
ends_not t (states.Faulted f) = refl

task_stays : (t ticks : ℕ) (o : Option Task) → task_marks t ticks o o ≡ []
unfolding task_marks
task_stays t ticks None = refl
task_stays t ticks (Some task) =
    rw (woken_not t (wait_of task.state), deadline_stays t ticks task.deadline, migrates_not t task.cpu, moves_not t (task_stage task.state), waits_on t (wait_of task.state), ends_not t task.state) refl

rank_stays : (t : ℕ) (o : Option ℕ) → rank_marks t o o ≡ []
rank_stays t None = refl
rank_stays t (Some r) = rw (itself r) refl

one_stays : (seen : Observation) (t : ℕ) → one_task_marks seen seen t ≡ []
unfolding one_task_marks
one_stays seen t = rw (task_stays t seen.ticks (slice_get seen.tasks.items t), rank_stays t (slice_get seen.ranks.items t)) refl

-- ---- a mutex, the machine
owner_itself : (o : Option ℕ) → same_owner o o ≡ true
owner_itself None = refl
owner_itself (Some t) = itself t

owner_stays : (seen : Observation) (m : ℕ) → owner_marks seen seen m ≡ []
unfolding owner_marks
owner_stays seen m = rw (owner_itself (owner_in (slice_get seen.owners.items m))) refl

ticks_stay : (n : ℕ) → tick_marks n n ≡ []
ticks_stay n = rw (not_less n) refl

notices_stay : (n : ℕ) (o : Option Notice) → notice_marks n n o ≡ []
notices_stay n None = refl
notices_stay n (Some last) = rw (not_less n) refl

-- ---- lists of which one piece is something at most
none_below : {X : Type 0} (f : ℕ → List X) (n : ℕ) → ((i : ℕ) → i < n → f i ≡ []) → below f n ≡ []
unfolding below
none_below f zero h = refl
none_below f (suc n) h = rw (none_below f n (λ i less. h i (omega (arith, less))), h n (omega arith)) refl

one_below : {X : Type 0} (f : ℕ → List X) (n i : ℕ) → i < n → ((k : ℕ) → k ≢ i → f k ≡ []) → below f n ≡ f i
unfolding below
one_below {X = X} f zero i less h = absurd (omega (arith, less))
one_below {X = X} f (suc n) i less h = elim (cases_eq i n) [
  | inl same ↦ rw (none_below f n (λ k small. h k (λ e. absurd (omega (arith, small, e, same)))), same) refl
  | inr other ↦ rw (one_below f n i (omega (arith, less, other)) h, h n (λ e. other (sym e))) (nil (f i))
]
  where
    nil : (x : List X) → x ++ [] ≡ x
    nil x = append-nil x

nothing_more : (x : List Mark) → x ++ [] ++ [] ++ [] ≡ x
nothing_more x = ap (λ l. l ++ [] ++ []) (append-nil x) ∙ ap (λ l. l ++ []) (append-nil x) ∙ append-nil x

-- ---- a line that is raised
-- the marks of a machine on which nothing but pipes changed are those of one processor, where the others' stand
pub raised : (seen : Observation) (c : ℕ) (was now : Parts) → c < seen.cpu_count → ((d : ℕ) → d ≢ c → slice_get now.pipes d ≡ slice_get was.pipes d)
    → marks_of seen seen was now ≡ pipe_marks c (line_counts_at c was) (line_counts_at c now)
unfolding marks_of processor_marks
raised seen c was now less others =
    let others_stay : (d : ℕ) → d ≢ c → processor_marks seen seen was now d ≡ [] = λ d other. rw (lane_stays d (slice_get seen.lanes.items d), others d other, pipe_stays d (line_counts_at d was)) refl in
    let one : below (processor_marks seen seen was now) seen.cpu_count ≡ pipe_marks c (line_counts_at c was) (line_counts_at c now) =
    one_below (processor_marks seen seen was now) seen.cpu_count c less others_stay ∙ rw (lane_stays c (slice_get seen.lanes.items c)) refl in
    rw (ticks_stay seen.ticks, one, none_below (one_task_marks seen seen) seen.task_count (λ t less. one_stays seen t), none_below (owner_marks seen seen) seen.mutex_count (λ m less. owner_stays seen m), notices_stay seen.notices seen.last_notice)
    (nothing_more (pipe_marks c (line_counts_at c was) (line_counts_at c now)))

-- no mark where the pipe isn't there
pub unraised : (seen : Observation) (c : ℕ) (was now : Parts) → line_counts_at c now ≡ None → ((d : ℕ) → d ≢ c → slice_get now.pipes d ≡ slice_get was.pipes d) → marks_of seen seen was now ≡ []
unfolding marks_of processor_marks
unraised seen c was now none others =
    let here : (d : ℕ) → processor_marks seen seen was now d ≡ [] = λ d. elim (cases_eq d c) [
      | inl same ↦ rw (lane_stays d (slice_get seen.lanes.items d), same, none, none_after c (line_counts_at c was)) refl
      | inr other ↦ rw (lane_stays d (slice_get seen.lanes.items d), others d other, pipe_stays d (line_counts_at d was)) refl
    ] in
    rw (
      ticks_stay seen.ticks,
      none_below (processor_marks seen seen was now) seen.cpu_count (λ d less. here d),
      none_below (one_task_marks seen seen) seen.task_count (λ t less. one_stays seen t),
      none_below (owner_marks seen seen) seen.mutex_count (λ m less. owner_stays seen m),
      notices_stay seen.notices seen.last_notice,
    ) refl

-- the marks of a line are those of all lines, where the counts of the others stand
none_there : (c l : ℕ) (o : Option Counts) → line_marks c l o None ≡ []
unfolding line_marks
none_there c l None = refl
none_there c l (Some n) = refl

pub one_line : (c l : ℕ) (before after : List Counts) → length after ≡ LINES → ((k : ℕ) → k ≢ l → slice_get after k ≡ slice_get before k) → lines_marks c before after ≡ line_marks c l (slice_get before l) (slice_get after l)
unfolding lines_marks
one_line c l before after all others =
    let f : ℕ → List Mark = λ k. line_marks c k (slice_get before k) (slice_get after k) in
    let stays : (k : ℕ) → k ≢ l → f k ≡ [] = λ k other. rw (others k other) (same_line c k (slice_get before k)) in
    elim (less_or_not l LINES) [
      | inl less ↦ one_below f LINES l less stays
      | inr not_there ↦ none_below f LINES (λ k less. stays k (λ e. absurd (omega (arith, less, e, not_there)))) ∙ sym (ap (line_marks c l (slice_get before l)) (slice_get_past after l (omega (arith, all, not_there))) ∙ none_there c l (slice_get before l))
    ]
  where
    less_or_not : (n m : ℕ) → (n < m) ⊎ (m ≤ n)
    less_or_not n zero = inr (omega arith)
    less_or_not zero (suc m) = inl (omega arith)
    less_or_not (suc n) (suc m) = elim (less_or_not n m) [ inl h ↦ inl (omega (arith, h)) | inr h ↦ inr (omega (arith, h)) ]

-- the counts of the other lines stand
pub elsewhere : (l k : ℕ) (p : Pipe) → k ≢ l → slice_get (raise l p).counts k ≡ slice_get p.counts k
unfolding raise
elsewhere l k p other = change-elsewhere (count_raise (has_line p.wire l)) p.counts l k other

-- what is kept of processor c is a tally where the others' counts stand
pub kept_one : (c : ℕ) (rows later : List (List Counts)) (counts : List Counts) (was now : Parts) → IsTallyOf rows was → ((d : ℕ) → d ≢ c → slice_get now.pipes d ≡ slice_get was.pipes d)
    → line_counts_at c now ≡ Some counts → slice_get later c ≡ Some counts → ((d : ℕ) → d ≢ c → slice_get later d ≡ slice_get rows d) → IsTallyOf later now
kept_one c rows later counts was now is others there here stay d pipe at = elim (cases_eq d c) [
  | inl same ↦
      let e : Some pipe.counts ≡ Some counts = ap line_counts_of (sym at) ∙ ap (λ i. line_counts_at i now) same ∙ there in
      ap (slice_get later) same ∙ here ∙ sym e
  | inr other ↦ stay d other ∙ is d pipe (sym (others d other) ∙ at)
]

-- the same tally, where there is no pipe
pub kept_none : (c : ℕ) (rows : List (List Counts)) (was now : Parts) → IsTallyOf rows was → ((d : ℕ) → d ≢ c → slice_get now.pipes d ≡ slice_get was.pipes d) → line_counts_at c now ≡ None → IsTallyOf rows now
kept_none c rows was now is others none d pipe at = elim (cases_eq d c) [
  | inl same ↦ let e : Some pipe.counts ≡ None = ap line_counts_of (sym at) ∙ ap (λ i. line_counts_at i now) same ∙ none in absurd cc
  | inr other ↦ is d pipe (sym (others d other) ∙ at)
]

-- the marks of a line that was raised
pub line_raised : (seen : Observation) (c l : ℕ) (rows : List (List Counts)) (row counts : List Counts) (was now : Parts) → seen.cpu_count ≡ length now.processors → length now.pipes ≡ length now.processors
    → ((pipe : Pipe) → slice_get now.pipes c ≡ Some pipe → length pipe.counts ≡ LINES) → IsTallyOf rows was → OnlyRaises c l was now → slice_get rows c ≡ Some row → line_counts_at c now ≡ Some counts
    → marks_of seen seen was now ≡ line_marks c l (slice_get row l) (slice_get counts l)
line_raised seen c l rows row counts was now count pipes full is only at there = by (slice_get was.pipes c) refl
  where
    by : (o : Option Pipe) → slice_get was.pipes c ≡ o → marks_of seen seen was now ≡ line_marks c l (slice_get row l) (slice_get counts l)
    by None e = let none : line_counts_at c now ≡ None = ap line_counts_of (only.here ∙ ap (option_map (raise l)) e) in let no : Some counts ≡ None = sym there ∙ none in absurd cc
    by (Some p) e =
        let now_there : slice_get now.pipes c ≡ Some (raise l p) = only.here ∙ ap (option_map (raise l)) e in
        let row_is : row ≡ p.counts = (let two : Some row ≡ Some p.counts = sym at ∙ is c p e in cc) in
        let counts_are : counts ≡ (raise l p).counts = (let two : Some counts ≡ Some (raise l p).counts = sym there ∙ ap line_counts_of now_there in cc) in
        let less : c < seen.cpu_count = (let h = slice_get-below now.pipes c (raise l p) now_there in omega (arith, h, pipes, count)) in
        raised seen c was now less only.others ∙ rw (e, now_there, row_is, counts_are) (one_line c l p.counts (raise l p).counts (full (raise l p) now_there) (λ k other. elsewhere l k p other))

-- what is kept of that line is all that changed
pub kept_line : (c l : ℕ) (rows later : List (List Counts)) (row counts : List Counts) (was now : Parts) → IsTallyOf rows was → OnlyRaises c l was now → slice_get rows c ≡ Some row → line_counts_at c now ≡ Some counts
    → ((row : List Counts) → slice_get rows c ≡ Some row → (kept : List Counts) × (slice_get later c ≡ Some kept) × (slice_get kept l ≡ slice_get counts l) × ((k : ℕ) → k ≢ l → slice_get kept k ≡ slice_get row k))
    → slice_get later c ≡ Some counts
kept_line c l rows later row counts was now is only at there keeps = by (slice_get was.pipes c) refl
  where
    by : (o : Option Pipe) → slice_get was.pipes c ≡ o → slice_get later c ≡ Some counts
    by None e = let none : line_counts_at c now ≡ None = ap line_counts_of (only.here ∙ ap (option_map (raise l)) e) in let no : Some counts ≡ None = sym there ∙ none in absurd cc
    by (Some p) e =
        let k = keeps row at in
        let row_is : row ≡ p.counts = (let two : Some row ≡ Some p.counts = sym at ∙ is c p e in cc) in
        let counts_are : counts ≡ (raise l p).counts = (let two : Some counts ≡ Some (raise l p).counts = sym there ∙ ap line_counts_of (only.here ∙ ap (option_map (raise l)) e) in cc) in
        let same : k.0 ≡ counts = same_elements k.0 counts (λ i. elim (cases_eq i l) [
          | inl here ↦ ap (slice_get k.0) here ∙ k.2 ∙ ap (slice_get counts) (sym here)
          | inr other ↦ k.3 i other ∙ ap (λ x. slice_get x i) row_is ∙ sym (elsewhere l i p other) ∙ ap (λ x. slice_get x i) (sym counts_are)
        ]) in
        k.1 ∙ ap Some same
