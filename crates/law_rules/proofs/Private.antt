-- In a good state settling and nudging change nothing on a processor that has a current task and nothing on its wire:
-- what a row that changes only registers, memory or bits needs.
use Rattle.std.proofs.Common.{◌≡◌, ℕ, ◌+◌, List, [], ◌∷◌, Bool, true, false, not, ◌&&◌, Option, Some, None, refl, ap, sym, ◌∙◌, inl, inr, arith, eq-eqb}
use Rattle.std.specs.Prelude.{slice_get, option_map, ◌==◌, if◌then◌else◌}
use Rattle.std.proofs.lemmas.Bool.{cases_eq}
use Rattle.evm_lines.specs.Lines.{has_line, least_line}
use Rattle.evm_exec.specs.declared.hart.Hart.{Hart}
use Rattle.evm_model.proofs.Lists.{change-here, change-elsewhere, change-cases, change-same, each_from-same, slice_get-within, slice_get-below, length-change}
use Rattle.evm_model.specs.Instructions.{stop}
use Rattle.evm_model.specs.Good.{Good, IsSettled}
use Rattle.evm_model.specs.Pipes.{Pipe, raise}
use Rattle.evm_model.specs.Ranks.{best, next_in_band}
use Rattle.evm_model.specs.Settle.{current, current_of, is_oob, play_oob_lines, run_best, settle_oob, take_up, run_task, run_in_band, play_in_band_pipe, play_in_band_lines, turn_in_band, settle_in_band, settle, differs, wants_nudge, nudge_pipe, nudge, settle_and_nudge}
use Rattle.evm_model.specs.State.{Parts, on_processor, on_watch}
use Rattle.evm_model.specs.Watch.{or_zero, watch, rest_watch}
use Rattle.evm_model.specs.declared.mutex.Mutex.{Mutex}
use Rattle.evm_model.specs.declared.processor.Processor.{Processor}
use Rattle.evm_model.specs.declared.task.Task.{Task}
pub use Rattle.law_rules.specs.Rests.{IsAtRest, IsClear}
use Rattle.law_rules.proofs.Firsts.{best-is_oob, no_best}
use Rattle.law_rules.proofs.Places.{change-back, on_processor-same}

pub clear_of : (c t : ℕ) (k : Parts) (pipe : Pipe) (p : Processor) → slice_get k.pipes c ≡ Some pipe → least_line pipe.wire ≡ None → slice_get k.processors c ≡ Some p → p.current ≡ Some t → IsClear c t k
clear_of c t k pipe p e w f h = record { pipe = pipe; there = e; clear = w; processor = p; at = f; runs = h }

pub good-rests : (k : Parts) → Good k → IsAtRest k
good-rests k g = record { settled = g.settled; away = λ c none. (g.watched c).away none; pipes_count = g.pipes_count }

-- registers are nothing that settling looks at
pub rests-harts : (k : Parts) (harts : List Hart) → IsAtRest k → IsAtRest (record k { harts = harts })
rests-harts k harts r = record { settled = r.settled; away = r.away; pipes_count = r.pipes_count }

-- nor are the debugger's bits
pub settled-bits : (c : ℕ) (pipe : Pipe) (p : Processor) (stopped skip : Bool) (mutexes : List Mutex) (tasks : List Task) → IsSettled c pipe p mutexes tasks → IsSettled c pipe (record p { stopped = stopped; skip = skip }) mutexes tasks
settled-bits c pipe p stopped skip mutexes tasks s = record {
  current_own = s.current_own;
  in_band_own = s.in_band_own;
  runs_best = s.runs_best;
  runs_in_band = s.runs_in_band;
  oob_played = s.oob_played;
  in_band_played = s.in_band_played;
  oob_staller = s.oob_staller;
  in_band_staller = s.in_band_staller;
}

-- ---- nudging
differs-not : (wanted now : Option ℕ) → ((t : ℕ) → wanted ≡ Some t → now ≡ Some t) → differs wanted now ≡ false
differs-not None now h = refl
differs-not (Some t) now h = rw (h t refl, eq-eqb t t refl) refl

unwanted : (s h m : Bool) → (s ≡ false → h ≡ false → m ≡ false) → (not s && (not h && m)) ≡ false
unwanted true h m f = refl
unwanted false true m f = refl
unwanted false false true f = f refl refl
unwanted false false false f = refl

pub wants-not : (d : ℕ) (k : Parts) (pipe : Pipe) (p : Processor) → slice_get k.processors d ≡ Some p → IsSettled d pipe p k.mutexes k.tasks → wants_nudge d pipe k ≡ false
wants-not d k pipe p e s =
    unwanted pipe.oob.stalled (has_line pipe.wire 1) (differs (best d k.mutexes k.tasks) (current d k))
    (λ u v. rw e (differs-not (best d k.mutexes k.tasks) p.current (s.runs_best u v)))

nudges-not : (own wants : Bool) (pipe : Pipe) → wants ≡ false → (if own then pipe else (if wants then raise 1 pipe else pipe)) ≡ pipe
nudges-not true wants pipe e = refl
nudges-not false wants pipe e = rw e refl

pub nudge-same : (c : ℕ) (k : Parts) → IsAtRest k → nudge c k ≡ k
unfolding nudge
nudge-same c k r =
    ap (λ ps. record k { pipes = ps })
    (each_from-same 0 (nudge_pipe c k) k.pipes (λ i pipe e.
    let at : 0 + i ≡ i = omega arith in
    let there = slice_get-within k.processors i (omega (arith, r.pipes_count, slice_get-below k.pipes i pipe e)) in
    rw at (nudges-not (i == c) (wants_nudge i pipe k) pipe (wants-not i k pipe there.0 there.1 (r.settled i pipe there.0 e there.1)))))

-- ---- settling, a part at a time
settle_oob-stalled : (was : Option ℕ) (c : ℕ) (k : Parts) (pipe : Pipe) → slice_get k.pipes c ≡ Some pipe → pipe.oob.stalled ≡ true → settle_oob was c k ≡ k
unfolding settle_oob
settle_oob-stalled was c k pipe e s = rw (e, s) refl

pub settle_oob-runs : (was : Option ℕ) (c : ℕ) (k : Parts) (pipe : Pipe) → slice_get k.pipes c ≡ Some pipe → pipe.oob.stalled ≡ false → pipe.oob.lines ≡ [] → settle_oob was c k ≡ run_best c k
unfolding settle_oob play_oob_lines
settle_oob-runs was c k pipe e s l = rw (e, s, l) refl

settle_in_band-oob : (c : ℕ) (k : Parts) → is_oob (current c k) k.tasks ≡ true → settle_in_band c k ≡ k
unfolding settle_in_band
settle_in_band-oob c k e = rw e refl

pub settle_in_band-turns : (c : ℕ) (k : Parts) → is_oob (current c k) k.tasks ≡ false → settle_in_band c k ≡ turn_in_band c k
unfolding settle_in_band
settle_in_band-turns c k e = rw e refl

plays-none : (pipe : Pipe) (c : ℕ) (k : Parts) (b : Bool) → pipe.in_band.stalled ≡ b → (b ≡ false → pipe.in_band.lines ≡ []) → play_in_band_pipe (Some pipe) c k ≡ k
unfolding play_in_band_lines
plays-none pipe c k true e h = rw e refl
plays-none pipe c k false e h = rw (e, h refl) refl

pub turn-runs : (c : ℕ) (k : Parts) (pipe : Pipe) → slice_get k.pipes c ≡ Some pipe → (pipe.in_band.stalled ≡ false → pipe.in_band.lines ≡ []) → turn_in_band c k ≡ run_in_band c k
unfolding turn_in_band
turn-runs c k pipe e h =
    let same : play_in_band_pipe (slice_get k.pipes c) c k ≡ k = rw e (plays-none pipe c k pipe.in_band.stalled refl h) in
    ap (run_in_band c) same

-- an out-of-band task is current, and stays so
settle-oob : (was : Option ℕ) (c t : ℕ) (k : Parts) (pipe : Pipe) (p : Processor) → slice_get k.pipes c ≡ Some pipe → slice_get k.processors c ≡ Some p → IsSettled c pipe p k.mutexes k.tasks
    → settle_oob was c k ≡ k → is_oob p.current k.tasks ≡ true → settle_in_band c (settle_oob was c k) ≡ k
settle-oob was c t k pipe p e f s h o = let now : is_oob (current c k) k.tasks ≡ true = rw f o in ap (settle_in_band c) h ∙ settle_in_band-oob c k now

-- no out-of-band task is ready: the in-band current one, which was the current one, is so again
settle-in_band : (was : Option ℕ) (c t : ℕ) (k : Parts) (pipe : Pipe) (p : Processor) → slice_get k.pipes c ≡ Some pipe → slice_get k.processors c ≡ Some p → IsSettled c pipe p k.mutexes k.tasks
    → p.current ≡ Some t → best c k.mutexes k.tasks ≡ None → pipe.oob.stalled ≡ false → settle_in_band c (settle_oob was c k) ≡ k
settle-in_band was c t k pipe p e f s r b u =
    let not : is_oob p.current k.tasks ≡ false = rw r (no_best c t k.mutexes k.tasks b (s.current_own t r)) in
    let in_band : p.in_band_task ≡ Some t = sym (s.runs_in_band not) ∙ r in
    let first : settle_oob was c k ≡ run_best c k = settle_oob-runs was c k pipe e u (s.oob_played u) in
    let idle : current c (run_best c k) ≡ None = rw (change-here (λ (p : Processor). record p { current = best c k.mutexes k.tasks }) k.processors c, f, b) refl in
    let turns : settle_in_band c (run_best c k) ≡ turn_in_band c (run_best c k) = settle_in_band-turns c (run_best c k) (rw idle refl) in
    let runs : turn_in_band c (run_best c k) ≡ run_in_band c (run_best c k) = turn-runs c (run_best c k) pipe e (λ v. s.in_band_played v not) in
    let up : take_up p.in_band_task (next_in_band c k.tasks) ≡ Some t = rw in_band refl in
    let whole : run_task (take_up p.in_band_task (next_in_band c k.tasks)) (record p { current = best c k.mutexes k.tasks }) ≡ p =
    rw up (ap (λ (o : Option ℕ). record p { current = o; in_band_task = Some t }) (sym r) ∙ ap (λ (o : Option ℕ). record p { in_band_task = o }) (sym in_band)) in
    let back : run_in_band c (run_best c k) ≡ k =
    ap (λ ps. record k { processors = ps })
    (change-back (λ (p : Processor). record p { current = best c k.mutexes k.tasks }) (λ (p : Processor). run_task (take_up p.in_band_task (next_in_band c k.tasks)) p) k.processors c p f whole) in
    ap (settle_in_band c) first ∙ turns ∙ runs ∙ back

settle-best : (was : Option ℕ) (c t : ℕ) (k : Parts) (pipe : Pipe) (p : Processor) (o : Option ℕ) → best c k.mutexes k.tasks ≡ o → slice_get k.pipes c ≡ Some pipe → slice_get k.processors c ≡ Some p → IsSettled c pipe p k.mutexes k.tasks
    → p.current ≡ Some t → has_line pipe.wire 1 ≡ false → pipe.oob.stalled ≡ false → settle_in_band c (settle_oob was c k) ≡ k
settle-best was c t k pipe p None b e f s r w u = settle-in_band was c t k pipe p e f s r b u
settle-best was c t k pipe p (Some v) b e f s r w u =
    let now : p.current ≡ Some v = s.runs_best u w v b in
    let stays : run_best c k ≡ k = on_processor-same c (λ (q : Processor). record q { current = best c k.mutexes k.tasks }) k (λ q g.
    let it : p ≡ q = cc in rw (← it) (rw b (ap (λ (o : Option ℕ). record p { current = o }) (sym now)))) in
    settle-oob was c t k pipe p e f s (settle_oob-runs was c k pipe e u (s.oob_played u) ∙ stays) (rw now (best-is_oob c v k.mutexes k.tasks b))

settle-stalled : (was : Option ℕ) (c t : ℕ) (k : Parts) (pipe : Pipe) (p : Processor) (b : Bool) → pipe.oob.stalled ≡ b → slice_get k.pipes c ≡ Some pipe → slice_get k.processors c ≡ Some p → IsSettled c pipe p k.mutexes k.tasks
    → p.current ≡ Some t → has_line pipe.wire 1 ≡ false → settle_in_band c (settle_oob was c k) ≡ k
settle-stalled was c t k pipe p true u e f s r w = settle-oob was c t k pipe p e f s (settle_oob-stalled was c k pipe e u) (s.oob_staller u)
settle-stalled was c t k pipe p false u e f s r w = settle-best was c t k pipe p (best c k.mutexes k.tasks) refl e f s r w u

pub clear_wire : (wire : List ℕ) → least_line wire ≡ None → has_line wire 1 ≡ false
clear_wire [] e = refl
clear_wire (x ∷ xs) e = cc

settled-same : (was : Option ℕ) (c t : ℕ) (k : Parts) → IsAtRest k → IsClear c t k → settle_in_band c (settle_oob was c k) ≡ k
settled-same was c t k r h =
    settle-stalled was c t k h.pipe h.processor h.pipe.oob.stalled refl h.there h.at (r.settled c h.pipe h.processor h.there h.at) h.runs (clear_wire h.pipe.wire h.clear)

-- what the watchdog has counted stays for the task that stays current, and is nothing for others
watch-none : (c : ℕ) (k : Parts) → watch c k ≡ 0 → on_watch c (λ n. 0) k ≡ k
watch-none c k e = ap (λ (watches : List ℕ). record k { watches = watches }) (change-same (λ n. 0) k.watches c (λ n there. sym e ∙ ap or_zero there))

rest-if : (c : ℕ) (oob other : Bool) (k : Parts) → (oob ≡ true → other ≡ false) → (oob ≡ false → watch c k ≡ 0) → (if oob && not other then k else on_watch c (λ n. 0) k) ≡ k
rest-if c true other k stays away = rw (stays refl) refl
rest-if c false other k stays away = watch-none c k (away refl)

pub rest-same : (was : Option ℕ) (c : ℕ) (k : Parts) → IsAtRest k → (is_oob (current c k) k.tasks ≡ true → differs (current c k) was ≡ false) → rest_watch was c k ≡ k
unfolding rest_watch
rest-same was c k r stays = rest-if c (is_oob (current c k) k.tasks) (differs (current c k) was) k stays (r.away c)

same-task : (t : ℕ) (o : Option ℕ) → o ≡ Some t → differs o (Some t) ≡ false
same-task t o e = rw (e, eq-eqb t t refl) refl

pub settle-same : (c t : ℕ) (k : Parts) → IsAtRest k → IsClear c t k → settle (Some t) c k ≡ k
unfolding settle
settle-same c t k r h =
    let now : current c k ≡ Some t = rw h.at h.runs in
    ap (rest_watch (Some t) c) (settled-same (Some t) c t k r h) ∙ rest-same (Some t) c k r (λ oob. same-task t (current c k) now)

pub settle_and_nudge-same : (c t : ℕ) (k : Parts) → IsAtRest k → IsClear c t k → settle_and_nudge (Some t) c k ≡ k
unfolding settle_and_nudge
settle_and_nudge-same c t k r h = ap (nudge c) (settle-same c t k r h) ∙ nudge-same c k r

-- ---- the laws
-- only registers changed
pub private_row : (c t : ℕ) (k : Parts) (harts : List Hart) → Good k → IsClear c t k → settle_and_nudge (Some t) c (record k { harts = harts }) ≡ record k { harts = harts }
private_row c t k harts g h =
    settle_and_nudge-same c t (record k { harts = harts }) (rests-harts k harts (good-rests k g))
    (record { pipe = h.pipe; there = h.there; clear = h.clear; processor = h.processor; at = h.at; runs = h.runs })

-- a change of the debugger's bits
abbrev pub IsOfBits : (Processor → Processor) → Type 0
IsOfBits f = (p : Processor) → f p ≡ record p { stopped = (f p).stopped; skip = (f p).skip }

pub change-settled : (c : ℕ) (f : Processor → Processor) (k : Parts) → IsOfBits f
    → ((d : ℕ) (pipe : Pipe) (p : Processor) → slice_get k.pipes d ≡ Some pipe → slice_get k.processors d ≡ Some p → IsSettled d pipe p k.mutexes k.tasks)
    → (d : ℕ) (pipe : Pipe) (p : Processor) → slice_get k.pipes d ≡ Some pipe → slice_get (on_processor c f k).processors d ≡ Some p → IsSettled d pipe p k.mutexes k.tasks
change-settled c f k b s d pipe p e h = elim (change-cases f k.processors c d p h) [
  | inl q ↦ rw (q.3, b q.1) (settled-bits d pipe q.1 (f q.1).stopped (f q.1).skip k.mutexes k.tasks (s d pipe q.1 e (rw q.0 q.2)))
  | inr q ↦ s d pipe p e q.1
]

-- leaves what runs
of-bits : (f : Processor → Processor) (o : Option Processor) → IsOfBits f → current_of (option_map f o) ≡ current_of o
of-bits f None b = refl
of-bits f (Some p) b = ap (λ (q : Processor). q.current) (b p)

bits-current : (c d : ℕ) (f : Processor → Processor) (k : Parts) → IsOfBits f → current d (on_processor c f k) ≡ current d k
bits-current c d f k b = elim (cases_eq d c) [
  | inl same ↦ rw same (ap current_of (change-here f k.processors c) ∙ of-bits f (slice_get k.processors c) b)
  | inr other ↦ ap current_of (change-elsewhere f k.processors c d other)
]

bits-oob : (c d : ℕ) (f : Processor → Processor) (k : Parts) → IsOfBits f → is_oob (current d (on_processor c f k)) k.tasks ≡ is_oob (current d k) k.tasks
bits-oob c d f k b = ap (λ (o : Option ℕ). is_oob o k.tasks) (bits-current c d f k b)

pub rests-bits : (c : ℕ) (f : Processor → Processor) (k : Parts) → IsOfBits f → IsAtRest k → IsAtRest (on_processor c f k)
rests-bits c f k b r = record {
  settled = change-settled c f k b r.settled;
  away = λ d none. r.away d (sym (bits-oob c d f k b) ∙ none);
  pipes_count = r.pipes_count ∙ sym (length-change f k.processors c);
}

pub good-bits : (c : ℕ) (f : Processor → Processor) (k : Parts) → IsOfBits f → Good k → Good (on_processor c f k)
good-bits c f k b g = record {
  pipes = g.pipes;
  settled = change-settled c f k b g.settled;
  watched = λ d.
      let w = g.watched d in
      record { off = w.off; away = λ none. w.away (sym (bits-oob c d f k b) ∙ none); below = w.below };
  aligned = g.aligned;
  homes = λ t task e. rw (length-change f k.processors c) (g.homes t task e);
  stamps_below = g.stamps_below;
  stamps_differ = g.stamps_differ;
  harts_count = g.harts_count;
  pipes_count = g.pipes_count ∙ sym (length-change f k.processors c);
  watches_count = g.watches_count ∙ sym (length-change f k.processors c);
  few_tasks = g.few_tasks;
  few_processors = rw (length-change f k.processors c) g.few_processors;
  locks = g.locks;
  events = g.events;
  deadlines = g.deadlines;
}

pub clear-bits : (c t : ℕ) (f : Processor → Processor) (k : Parts) → IsOfBits f → IsClear c t k → IsClear c t (on_processor c f k)
clear-bits c t f k b h = record {
  pipe = h.pipe;
  there = h.there;
  clear = h.clear;
  processor = f h.processor;
  at = change-here f k.processors c ∙ ap (option_map f) h.at;
  runs = rw (b h.processor) h.runs;
}

abbrev pub skip_off : Processor → Processor
skip_off p = record p { skip = false }

abbrev pub stop_it : Processor → Processor
stop_it p = record p { stopped = true }

pub good-skip : (c : ℕ) (k : Parts) → Good k → Good (on_processor c (λ p. record p { skip = false }) k)
good-skip c k g = good-bits c skip_off k (λ p. refl) g

pub clear-skip : (c t : ℕ) (k : Parts) → IsClear c t k → IsClear c t (on_processor c (λ p. record p { skip = false }) k)
clear-skip c t k h = clear-bits c t skip_off k (λ p. refl) h

-- the skip bit went off, and registers changed
pub private_skip : (c t : ℕ) (k : Parts) (harts : List Hart) → Good k → IsClear c t k
    → settle_and_nudge (Some t) c (record (on_processor c (λ p. record p { skip = false }) k) { harts = harts }) ≡ record (on_processor c (λ p. record p { skip = false }) k) { harts = harts }
private_skip c t k harts g h = private_row c t (on_processor c skip_off k) harts (good-skip c k g) (clear-skip c t k h)

-- and the processor was stopped
pub private_stop : (c t : ℕ) (k : Parts) (harts : List Hart) → Good k → IsClear c t k
    → settle_and_nudge (Some t) c (stop c (record (on_processor c (λ p. record p { skip = false }) k) { harts = harts })) ≡ stop c (record (on_processor c (λ p. record p { skip = false }) k) { harts = harts })
unfolding stop
private_stop c t k harts g h =
    private_row c t (on_processor c stop_it (on_processor c skip_off k)) harts
    (good-bits c stop_it (on_processor c skip_off k) (λ p. refl) (good-skip c k g)) (clear-bits c t stop_it (on_processor c skip_off k) (λ p. refl) (clear-skip c t k h))
