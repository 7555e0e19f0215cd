-- Where no task is ready out-of-band: whatever was current, the in-band part follows, and nobody is told.
use Rattle.std.proofs.Common.{◌≡◌, ℕ, zero, suc, List, [], ◌∷◌, Bool, true, false, Option, Some, None, length, refl, ap, sym, ◌∙◌, inl, inr, ◌+◌, arith}
use Rattle.std.proofs.lemmas.Bool.{and_parts, cases_eq, or_parts}
use Rattle.std.specs.Prelude.{not, ◌&&◌, ◌==◌, slice_get, option_map, if◌then◌else◌}
use Rattle.evm_lines.specs.Lines.{has_line}
use Rattle.evm_model.proofs.Lists.{change-here, change-elsewhere, each_from-same}
use Rattle.evm_model.specs.Lists.{change}
use Rattle.evm_model.specs.Pipes.{Pipe, play, raise}
use Rattle.evm_model.specs.Mutexes.{owns_any}
use Rattle.evm_model.specs.Ranks.{best, is_oob_ready, next_in_band}
use Rattle.evm_model.specs.Settle.{current, is_oob, is_oob_task, nudge, nudge_pipe, play_in_band, play_in_band_lines, play_in_band_pipe, run_in_band, run_task, settle_in_band, take_up, turn_in_band, wants_nudge}
use Rattle.evm_model.specs.State.{Parts, on_pipe, on_processor, on_watch}
use Rattle.evm_model.specs.Watch.{rest_watch}
use Rattle.evm_model.specs.Tasks.{restamp, is_weak}
use Rattle.evm_model.specs.Waits.{awaits_line, is_wait_for, wake, wake_below, woken}
use Rattle.evm_model.specs.declared.mutex.Mutex.{Mutex}
use Rattle.evm_model.specs.declared.processor.Processor.{Processor}
use Rattle.evm_model.specs.declared.stage.Stage.TheVariants.{InBand}
use Rattle.evm_model.specs.declared.task.Task.{Task}
use Rattle.evm_model.specs.declared.task.Wait.TheVariants.{Line}
use Rattle.evm_parts.specs.evm_ready.Oob.{has_oob}
use Rattle.law_rules.proofs.Firsts.{best-is_oob}
use Rattle.law_rules.proofs.Waking.{wait-wakes}
use Rattle.law_rules.proofs.Twice.{change-twice}
use Rattle.evm_settle.specs.Steps.{choose}

-- no task is ready out-of-band
abbrev IsQuiet : List Task → Type 0
IsQuiet tasks = (t : ℕ) → is_oob (Some t) tasks ≡ false

quiet-at : (tasks : List Task) → has_oob tasks ≡ false → IsQuiet tasks
quiet-at [] h t = refl
quiet-at (task ∷ tasks) h zero = (or_parts (is_oob_ready task.state) (has_oob tasks) h).0
quiet-at (task ∷ tasks) h (suc t) = quiet-at tasks (or_parts (is_oob_ready task.state) (has_oob tasks) h).1 t

-- ---- it stays so while tasks wake in-band
quiet-option : (f : Task → Task) (o : Option Task) → ((task : Task) → is_oob_ready task.state ≡ false → is_oob_ready (f task).state ≡ false)
    → is_oob_task o ≡ false → is_oob_task (option_map f o) ≡ false
quiet-option f None h q = refl
quiet-option f (Some task) h q = h task q

-- the task that is changed, if there is one, is not ready out-of-band afterwards
quiet-there : (f : Task → Task) (t : ℕ) (tasks : List Task) → is_oob_task (option_map f (slice_get tasks t)) ≡ false → IsQuiet tasks → IsQuiet (change f tasks t)
quiet-there f t tasks h q u = elim (cases_eq u t) [
  | inl same ↦ rw same (ap is_oob_task (change-here f tasks t) ∙ h)
  | inr other ↦ ap is_oob_task (change-elsewhere f tasks t u other) ∙ q u
]

quiet-change : (f : Task → Task) (t : ℕ) (tasks : List Task) → ((task : Task) → is_oob_ready task.state ≡ false → is_oob_ready (f task).state ≡ false)
    → IsQuiet tasks → IsQuiet (change f tasks t)
quiet-change f t tasks h q u = elim (cases_eq u t) [
  | inl same ↦ rw same (ap is_oob_task (change-here f tasks t) ∙ quiet-option f (slice_get tasks t) h (q t))
  | inr other ↦ ap is_oob_task (change-elsewhere f tasks t u other) ∙ q u
]

-- a task that waits for a line wakes in-band
quiet-woken : (c l : ℕ) (owns : Bool) (o : Option Task) → awaits_line c l o ≡ true → is_oob_task (option_map (woken owns) o) ≡ false
quiet-woken c l owns None h = refl
quiet-woken c l owns (Some task) h = wait-wakes l (is_weak task.class && not owns) task.state (and_parts (is_wait_for (Line l) task.state) (task.cpu == c) h).0

quiet-wake : (c l t : ℕ) (k : Parts) → awaits_line c l (slice_get k.tasks t) ≡ true → IsQuiet k.tasks → IsQuiet (wake t 0 k).tasks
unfolding wake restamp
quiet-wake c l t k h q =
    let owns : Bool = owns_any t k.mutexes in
    quiet-change (λ task. record task { stamp = k.stamps }) t (change (woken owns) k.tasks t) (λ task h. h)
    (quiet-there (woken owns) t k.tasks (quiet-woken c l owns (slice_get k.tasks t) h) q)

quiet-if : (b : Bool) (x y : Parts) → IsQuiet x.tasks → IsQuiet y.tasks → IsQuiet (if b then x else y).tasks
quiet-if true x y p q = p
quiet-if false x y p q = q

-- where the test holds
quiet-where : (b : Bool) (x y : Parts) → (b ≡ true → IsQuiet x.tasks) → IsQuiet y.tasks → IsQuiet (if b then x else y).tasks
quiet-where true x y p q = p refl
quiet-where false x y p q = q

quiet-wakes : (c l n : ℕ) (k : Parts) → IsQuiet k.tasks → IsQuiet (wake_below c l n k).tasks
unfolding wake_below
quiet-wakes c l zero k q = q
quiet-wakes c l (suc t) k q =
    let before : Parts = wake_below c l t k in
    let still : IsQuiet before.tasks = quiet-wakes c l t k q in
    quiet-where (awaits_line c l (slice_get before.tasks t)) (wake t 0 before) before (λ h. quiet-wake c l t before h still) still

quiet-play : (c l : ℕ) (k : Parts) → IsQuiet k.tasks → IsQuiet (play_in_band c l k).tasks
unfolding play_in_band
quiet-play c l k q = quiet-wakes c l (length k.tasks) (on_pipe c (play InBand l) k) q

quiet-lines : (c : ℕ) (ls : List ℕ) (k : Parts) → IsQuiet k.tasks → IsQuiet (play_in_band_lines c ls k).tasks
unfolding play_in_band_lines
quiet-lines c [] k q = q
quiet-lines c (l ∷ ls) k q = quiet-lines c ls (play_in_band c l k) (quiet-play c l k q)

quiet-pipe : (c : ℕ) (o : Option Pipe) (k : Parts) → IsQuiet k.tasks → IsQuiet (play_in_band_pipe o c k).tasks
quiet-pipe c None k q = q
quiet-pipe c (Some pipe) k q = quiet-if pipe.in_band.stalled k (play_in_band_lines c pipe.in_band.lines k) q (quiet-lines c pipe.in_band.lines k q)

quiet-turn : (c : ℕ) (k : Parts) → IsQuiet k.tasks → IsQuiet (turn_in_band c k).tasks
unfolding turn_in_band
quiet-turn c k q = quiet-pipe c (slice_get k.pipes c) k q

-- ---- nobody is told
best-none : (d : ℕ) (mutexes : List Mutex) (tasks : List Task) (o : Option ℕ) → best d mutexes tasks ≡ o → IsQuiet tasks → o ≡ None
best-none d mutexes tasks None e q = refl
best-none d mutexes tasks (Some t) e q = let no : true ≡ false = sym (best-is_oob d t mutexes tasks e) ∙ q t in cc

neither : (a b : Bool) → (a && (b && false)) ≡ false
neither true true = refl
neither true false = refl
neither false b = refl

unwanted : (d : ℕ) (pipe : Pipe) (k : Parts) → IsQuiet k.tasks → wants_nudge d pipe k ≡ false
unwanted d pipe k q = rw (best-none d k.mutexes k.tasks (best d k.mutexes k.tasks) refl q) (neither (not pipe.oob.stalled) (not (has_line pipe.wire 1)))

untold : (own wants : Bool) (pipe : Pipe) → wants ≡ false → (if own then pipe else (if wants then raise 1 pipe else pipe)) ≡ pipe
untold true wants pipe h = refl
untold false true pipe h = cc
untold false false pipe h = refl

nudge-nobody : (c : ℕ) (k : Parts) → IsQuiet k.tasks → nudge c k ≡ k
unfolding nudge
nudge-nobody c k q =
    ap (λ (pipes : List Pipe). record k { pipes = pipes })
    (each_from-same 0 (nudge_pipe c k) k.pipes (λ d pipe e. let from : 0 + d ≡ d = omega arith in rw from (untold (d == c) (wants_nudge d pipe k) pipe (unwanted d pipe k q))))

-- ---- what was current doesn't matter: the in-band part leaves processors aside, and then chooses anew
aside-wake : (t : ℕ) (k : Parts) (ps : List Processor) → wake t 0 (record k { processors = ps }) ≡ record (wake t 0 k) { processors = ps }
unfolding wake restamp
aside-wake t k ps = refl

aside-if : (b : Bool) (x y u v : Parts) (ps : List Processor) → x ≡ record u { processors = ps } → y ≡ record v { processors = ps }
    → (if b then x else y) ≡ record (if b then u else v) { processors = ps }
aside-if true x y u v ps p q = p
aside-if false x y u v ps p q = q

aside-wakes : (c l n : ℕ) (k : Parts) (ps : List Processor) → wake_below c l n (record k { processors = ps }) ≡ record (wake_below c l n k) { processors = ps }
unfolding wake_below
aside-wakes c l zero k ps = refl
aside-wakes c l (suc t) k ps =
    let x : Parts = wake_below c l t k in
    rw (aside-wakes c l t k ps)
    (aside-if (awaits_line c l (slice_get x.tasks t)) (wake t 0 (record x { processors = ps })) (record x { processors = ps }) (wake t 0 x) x ps (aside-wake t x ps) refl)

aside-play : (c l : ℕ) (k : Parts) (ps : List Processor) → play_in_band c l (record k { processors = ps }) ≡ record (play_in_band c l k) { processors = ps }
unfolding play_in_band
aside-play c l k ps = aside-wakes c l (length k.tasks) (on_pipe c (play InBand l) k) ps

aside-lines : (c : ℕ) (ls : List ℕ) (k : Parts) (ps : List Processor) → play_in_band_lines c ls (record k { processors = ps }) ≡ record (play_in_band_lines c ls k) { processors = ps }
unfolding play_in_band_lines
aside-lines c [] k ps = refl
aside-lines c (l ∷ ls) k ps = rw (aside-play c l k ps) (aside-lines c ls (play_in_band c l k) ps)

aside-pipe : (c : ℕ) (o : Option Pipe) (k : Parts) (ps : List Processor) → play_in_band_pipe o c (record k { processors = ps }) ≡ record (play_in_band_pipe o c k) { processors = ps }
aside-pipe c None k ps = refl
aside-pipe c (Some pipe) k ps =
    aside-if pipe.in_band.stalled (record k { processors = ps }) (play_in_band_lines c pipe.in_band.lines (record k { processors = ps })) k (play_in_band_lines c pipe.in_band.lines k) ps
    refl (aside-lines c pipe.in_band.lines k ps)

aside-turn : (c : ℕ) (k : Parts) (ps : List Processor)
    → turn_in_band c (record k { processors = ps }) ≡ run_in_band c (record (play_in_band_pipe (slice_get k.pipes c) c k) { processors = ps })
unfolding turn_in_band
aside-turn c k ps = ap (run_in_band c) (aside-pipe c (slice_get k.pipes c) k ps)

turn-anew : (c : ℕ) (now : Option ℕ) (k : Parts) → turn_in_band c (on_processor c (λ p. record p { current = now }) k) ≡ turn_in_band c k
turn-anew c now k =
    let x : Parts = play_in_band_pipe (slice_get k.pipes c) c k in
    let up : Processor → Processor = λ p. run_task (take_up p.in_band_task (next_in_band c x.tasks)) p in
    aside-turn c k (change (λ p. record p { current = now }) k.processors c)
    ∙ ap (λ (ps : List Processor). record x { processors = ps }) (change-twice up (λ p. record p { current = now }) k.processors c)
    ∙ sym (aside-turn c k k.processors)

turn-chosen : (c : ℕ) (b : Bool) (k : Parts) → turn_in_band c (choose b c k) ≡ turn_in_band c k
turn-chosen c true k = turn-anew c (best c k.mutexes k.tasks) k
turn-chosen c false k = refl

-- ---- all of it
choose-tasks : (c : ℕ) (b : Bool) (k : Parts) → (choose b c k).tasks ≡ k.tasks
choose-tasks c true k = refl
choose-tasks c false k = refl

current-quiet : (o : Option ℕ) (tasks : List Task) → IsQuiet tasks → is_oob o tasks ≡ false
current-quiet None tasks q = refl
current-quiet (Some t) tasks q = q t

turns : (c : ℕ) (k : Parts) → IsQuiet k.tasks → settle_in_band c k ≡ turn_in_band c k
unfolding settle_in_band
turns c k q = rw (current-quiet (current c k) k.tasks q) refl

-- no task is watched
rests : (was : Option ℕ) (c : ℕ) (k : Parts) → IsQuiet k.tasks → rest_watch was c k ≡ on_watch c (λ n. 0) k
unfolding rest_watch
rests was c k q = rw (current-quiet (current c k) k.tasks q) refl

pub quiet-settles : (was : Option ℕ) (c : ℕ) (b : Bool) (k : Parts) → has_oob k.tasks ≡ false → on_watch c (λ n. 0) (turn_in_band c k) ≡ nudge c (rest_watch was c (settle_in_band c (choose b c k)))
quiet-settles was c b k h =
    let q : IsQuiet k.tasks = quiet-at k.tasks h in
    let chosen : IsQuiet (choose b c k).tasks = rw (choose-tasks c b k) q in
    let turned : turn_in_band c k ≡ settle_in_band c (choose b c k) = sym (turn-chosen c b k) ∙ sym (turns c (choose b c k) chosen) in
    let turn : IsQuiet (turn_in_band c k).tasks = quiet-turn c k q in
    let rested : Parts = on_watch c (λ n. 0) (turn_in_band c k) in
    let told : nudge c rested ≡ rested = nudge-nobody c rested turn in
    sym told ∙ ap (nudge c) (sym (rests was c (turn_in_band c k) turn) ∙ ap (rest_watch was c) turned)

pub ruleset quiet = (quiet-settles)
