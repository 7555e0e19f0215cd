-- Telling the others after a processor has settled makes the state good again.
use Rattle.std.proofs.Common.{◌≡◌, ℕ, List, Bool, true, false, not, ◌&&◌, Option, Some, None, length, refl, ap, sym, ◌∙◌, inl, inr, arith, eq-eqb}
use Rattle.std.specs.Prelude.{slice_get, ◌==◌, if◌then◌else◌}
use Rattle.std.proofs.lemmas.Bool.{cases_eq}
use Rattle.std.proofs.lemmas.Bool.Decides.{eqb_tells}
use Rattle.evm_lines.specs.Lines.{has_line}
use Rattle.evm_lines.specs.Laws.{has_line-with_same}
use Rattle.evm_model.proofs.Lists.{slice_get-each, length-each_from}
use Rattle.evm_model.specs.Good.{Good, IsSettled}
use Rattle.evm_model.specs.Lists.{each}
use Rattle.evm_model.specs.Pipes.{Pipe, raise}
use Rattle.evm_model.specs.Ranks.{best}
use Rattle.evm_model.specs.Settle.{current, is_oob, settle, differs, wants_nudge, nudge_pipe, nudge, settle_and_nudge}
use Rattle.evm_model.specs.State.{Parts}
use Rattle.evm_model.specs.Watch.{watch}
use Rattle.evm_model.specs.declared.mutex.Mutex.{Mutex}
use Rattle.evm_model.specs.declared.processor.Processor.{Processor}
use Rattle.evm_model.specs.declared.task.Task.{Task}
use Rattle.law_rules.proofs.Bounded.{EachIsPipe, are-nudge}
use Rattle.law_rules.proofs.Counting.{mapped}
use Rattle.law_rules.proofs.Firsts.{eqb-is}
use Rattle.law_rules.proofs.Settling.{IsCalm, GoodBut, IsUntold, settle-untold}
use Rattle.law_rules.proofs.Shapes.{IsShaped}

calm-settled : (d : ℕ) (pipe : Pipe) (p : Processor) (mutexes : List Mutex) (tasks : List Task) → IsCalm d pipe p tasks → (pipe.oob.stalled ≡ false → has_line pipe.wire 1 ≡ false → (t : ℕ) → best d mutexes tasks ≡ Some t → p.current ≡ Some t) → IsSettled d pipe p mutexes tasks
calm-settled d pipe p mutexes tasks s h = record {
  current_own = s.current_own;
  in_band_own = s.in_band_own;
  runs_best = h;
  runs_in_band = s.runs_in_band;
  oob_played = s.oob_played;
  in_band_played = s.in_band_played;
  oob_staller = s.oob_staller;
  in_band_staller = s.in_band_staller;
}

calm-raised : (d l : ℕ) (pipe : Pipe) (p : Processor) (tasks : List Task) → IsCalm d pipe p tasks → IsCalm d (raise l pipe) p tasks
unfolding raise
calm-raised d l pipe p tasks s = record {
  current_own = s.current_own;
  in_band_own = s.in_band_own;
  runs_in_band = s.runs_in_band;
  oob_played = s.oob_played;
  in_band_played = s.in_band_played;
  oob_staller = s.oob_staller;
  in_band_staller = s.in_band_staller;
}

raised-on : (pipe : Pipe) → has_line (raise 1 pipe).wire 1 ≡ true
unfolding raise
raised-on pipe = has_line-with_same pipe.wire 1 (omega arith)

wanted-not : (s h m : Bool) → (not s && (not h && m)) ≡ false → s ≡ false → h ≡ false → m ≡ false
wanted-not true h m e u v = cc
wanted-not false true m e u v = cc
wanted-not false false m e u v = e

same_number : (t u : ℕ) → not (t == u) ≡ false → t ≡ u
same_number t u e = elim (eqb_tells t u) [ inl g ↦ g.1 | inr g ↦ let no : not (t == u) ≡ true = ap not g.0 in cc ]

differs-is : (wanted now : Option ℕ) (t : ℕ) → differs wanted now ≡ false → wanted ≡ Some t → now ≡ Some t
differs-is None now t e w = cc
differs-is (Some u) None t e w = cc
differs-is (Some u) (Some v) t e w = let same : u ≡ v = same_number u v e in let it : u ≡ t = cc in cc

told-if : (c d : ℕ) (k : Parts) (pipe q : Pipe) (p : Processor) (own wants : Bool) → (d == c) ≡ own → wants_nudge d pipe k ≡ wants → IsUntold c k
    → slice_get k.pipes d ≡ Some pipe → slice_get k.processors d ≡ Some p → (if own then pipe else (if wants then raise 1 pipe else pipe)) ≡ q → IsSettled d q p k.mutexes k.tasks
told-if c d k pipe q p true wants a b u e f h =
    let at : d ≡ c = eqb-is d c a in
    rw (← h, at) (u.own pipe p (rw (← at) e) (rw (← at) f))
told-if c d k pipe q p false true a b u e f h =
    let other : d ≡ c → ⊥ = λ same. let yes = eq-eqb d c same in let no : true ≡ false = sym yes ∙ a in cc in
    rw (← h) (calm-settled d (raise 1 pipe) p k.mutexes k.tasks (calm-raised d 1 pipe p k.tasks (u.others d pipe p other e f)) (λ s n. let no : true ≡ false = sym (raised-on pipe) ∙ n in cc))
told-if c d k pipe q p false false a b u e f h =
    let other : d ≡ c → ⊥ = λ same. let yes = eq-eqb d c same in let no : true ≡ false = sym yes ∙ a in cc in
    let now : current d k ≡ p.current = rw f refl in
    rw (← h)
    (calm-settled d pipe p k.mutexes k.tasks (u.others d pipe p other e f)
    (λ s n t x. sym now ∙ differs-is (best d k.mutexes k.tasks) (current d k) t (wanted-not pipe.oob.stalled (has_line pipe.wire 1) (differs (best d k.mutexes k.tasks) (current d k)) b s n) x))

shaped-pipes : (k : Parts) (pipes : List Pipe) → length pipes ≡ length k.pipes → IsShaped k → IsShaped (record k { pipes = pipes })
shaped-pipes k pipes e s = record {
  aligned = s.aligned;
  homes = s.homes;
  stamps_below = s.stamps_below;
  stamps_differ = s.stamps_differ;
  harts_count = s.harts_count;
  pipes_count = e ∙ s.pipes_count;
  few_tasks = s.few_tasks;
  few_processors = s.few_processors;
  watches = s.watches;
  locks = s.locks;
  events = s.events;
  deadlines = s.deadlines;
}

pub good_of : (k : Parts) → EachIsPipe k.pipes → ((c : ℕ) (pipe : Pipe) (p : Processor) → slice_get k.pipes c ≡ Some pipe → slice_get k.processors c ≡ Some p → IsSettled c pipe p k.mutexes k.tasks)
    → ((c : ℕ) → is_oob (current c k) k.tasks ≡ false → watch c k ≡ 0) → IsShaped k → Good k
good_of k a s away h = record {
  pipes = a;
  settled = s;
  watched = λ c. record { off = λ e. h.watches.off c e; away = away c; below = λ e. h.watches.below c e };
  aligned = h.aligned;
  homes = h.homes;
  stamps_below = h.stamps_below;
  stamps_differ = h.stamps_differ;
  harts_count = h.harts_count;
  pipes_count = h.pipes_count;
  watches_count = h.watches.count;
  few_tasks = h.few_tasks;
  few_processors = h.few_processors;
  locks = h.locks;
  events = h.events;
  deadlines = h.deadlines;
}

told : (c : ℕ) (k : Parts) → IsUntold c k → (d : ℕ) (q : Pipe) (p : Processor) → slice_get (nudge c k).pipes d ≡ Some q → slice_get (nudge c k).processors d ≡ Some p → IsSettled d q p (nudge c k).mutexes (nudge c k).tasks
unfolding nudge
told c k u d q p e f =
    let from = mapped (nudge_pipe c k d) (slice_get k.pipes d) q (sym (slice_get-each (nudge_pipe c k) k.pipes d) ∙ e) in
    told-if c d k from.0 q p (d == c) (wants_nudge d from.0 k) refl refl u from.1 f from.2

untold-away : (c : ℕ) (k : Parts) → IsUntold c k → (d : ℕ) → is_oob (current d k) k.tasks ≡ false → watch d k ≡ 0
untold-away c k u d none = elim (cases_eq d c) [
  | inl same ↦ rw same (u.rests (rw same at none))
  | inr other ↦ u.away d other none
]

told-away : (c : ℕ) (k : Parts) → IsUntold c k → (d : ℕ) → is_oob (current d (nudge c k)) (nudge c k).tasks ≡ false → watch d (nudge c k) ≡ 0
unfolding nudge
told-away c k u d none = untold-away c k u d none

nudge-shaped : (c : ℕ) (k : Parts) → IsShaped k → IsShaped (nudge c k)
unfolding nudge
nudge-shaped c k s = shaped-pipes k (each (nudge_pipe c k) k.pipes) (length-each_from 0 (nudge_pipe c k) k.pipes) s

pub nudge-good : (c : ℕ) (k : Parts) → IsUntold c k → Good (nudge c k)
nudge-good c k u = good_of (nudge c k) (are-nudge c k u.pipes) (told c k u) (told-away c k u) (nudge-shaped c k u.shape)

-- the state is good after settling and nudging
pub settle_and_nudge-good : (was : Option ℕ) (c : ℕ) (k : Parts) → GoodBut c k → Good (settle_and_nudge was c k)
unfolding settle_and_nudge
settle_and_nudge-good was c k g = nudge-good c (settle was c k) (settle-untold was c k g)
