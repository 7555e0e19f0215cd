-- Settling one processor, whatever a row did to it: then it is settled, and the others are not yet told.
use Rattle.std.proofs.Common.{◌≡◌, ℕ, List, [], Bool, true, false, not, ◌&&◌, Option, Some, None, refl, ap, sym, ◌∙◌, arith}
use Rattle.std.specs.Prelude.{slice_get, option_map, if◌then◌else◌}
use Rattle.evm_model.proofs.Lists.{change-here, change-elsewhere, slice_get-below, slice_get-within}
use Rattle.evm_model.specs.Good.{Good, IsSettled, IsOneOf, IsOwn, IsPipe}
use Rattle.evm_model.specs.Lists.{change}
use Rattle.evm_model.specs.Pipes.{Pipe}
use Rattle.evm_model.specs.Ranks.{best, next_in_band, is_oob_ready, is_in_ready}
use Rattle.evm_model.specs.Settle.{current, current_of, is_oob, differs, play_oob_lines, play_in_band_lines, run_best, settle_oob, settle_oob_pipe, take_up, run_task, run_in_band, play_in_band_pipe, turn_in_band, settle_in_band, settle}
use Rattle.evm_model.specs.State.{Parts, on_processor, on_watch}
use Rattle.evm_model.specs.Watch.{or_zero, watch, rest_watch}
use Rattle.evm_model.specs.declared.mutex.Mutex.{Mutex}
use Rattle.evm_model.specs.declared.processor.Processor.{Processor}
use Rattle.evm_model.specs.declared.task.Task.{Task}
use Rattle.law_rules.proofs.Bounded.{EachIsPipe, are-settle_oob, are-settle_in_band}
use Rattle.law_rules.proofs.Firsts.{IsOobOwn, both, own-is_oob, best-is_oob, best-own, own-live, own-in_band, next-own}
use Rattle.law_rules.proofs.Handling.{Plays, lines-plays}
use Rattle.law_rules.proofs.Playing.{plays_oob, plays_in_band, play_oob_lines-pipes, play_in_band_lines-pipes, HasSameStalls, plays_oob-stalls, plays_in_band-stalls, plays_oob-empty, plays_in_band-empty, plays_in_band-oob, plays_oob-pipe}
use Rattle.law_rules.proofs.Places.{changed-is, changed-from}
use Rattle.law_rules.proofs.Ranking.{AreRanked, ranked-none, ranked-then}
use Rattle.law_rules.proofs.Shapes.{IsShaped, positive, shaped, shaped-processor, shaped-watch}
use Rattle.law_rules.proofs.Waking.{AreAlike, alike-none, alike-then, alike-own, alike-oob, alike-in_band, Rouses, rouses-none, rouses-if, rouses-lines, none-best}

-- of the other processors only how a task is ranked may change, and of their tasks neither where nor how they are
pub record IsApart (c : ℕ) (k new : Parts) : Type 0 where
  pub others : (d : ℕ) → (d ≡ c → ⊥) → AreAlike d k.tasks new.tasks × (slice_get new.pipes d ≡ slice_get k.pipes d) × (slice_get new.processors d ≡ slice_get k.processors d) × (slice_get new.watches d ≡ slice_get k.watches d)
  pub shape : IsShaped k → IsShaped new

apart-none : (c : ℕ) (k : Parts) → IsApart c k k
apart-none c k = record { others = λ d n. (alike-none d k.tasks, refl, refl, refl); shape = λ s. s }

apart-then : (c : ℕ) (x y z : Parts) → IsApart c x y → IsApart c y z → IsApart c x z
apart-then c x y z p q = record {
  others = λ d n.
      let a = p.others d n in
      let b = q.others d n in
      (alike-then d x.tasks y.tasks z.tasks a.0 b.0, b.1 ∙ a.1, b.2 ∙ a.2, b.3 ∙ a.3);
  shape = λ s. q.shape (p.shape s);
}

apart-if : (c : ℕ) (b : Bool) (k x y : Parts) → IsApart c k x → IsApart c k y → IsApart c k (if b then x else y)
apart-if c true k x y p q = p
apart-if c false k x y p q = q

apart-rouses : (c : ℕ) (k x : Parts) → Rouses c k x → IsApart c k x
apart-rouses c k x r = record { others = λ d n. (r.others d n, r.pipes d n, ap (λ (xs : List Processor). slice_get xs d) r.processors, ap (λ (xs : List ℕ). slice_get xs d) r.watches); shape = r.shape }

apart-plays : (c : ℕ) (k x : Parts) → Plays c k x → IsApart c k x
apart-plays c k x r = record { others = λ d n. (r.others d n, r.pipes d n, ap (λ (xs : List Processor). slice_get xs d) r.processors, r.watches d n); shape = λ s. r.shape }

apart-processor : (c : ℕ) (f : Processor → Processor) (k : Parts) → IsApart c k (on_processor c f k)
apart-processor c f k = record { others = λ d n. (alike-none d k.tasks, refl, change-elsewhere f k.processors c d n, refl); shape = shaped-processor c f k }

-- ---- settling out-of-band changes only its processor, and wakes tasks
apart-oob_pipe : (was : Option ℕ) (c : ℕ) (o : Option Pipe) (k : Parts) → IsShaped k → IsApart c k (settle_oob_pipe o was c k)
apart-oob_pipe was c None k s = apart-none c k
apart-oob_pipe was c (Some pipe) k s =
    let played : Parts = play_oob_lines was c pipe.oob.lines k in
    apart-if c pipe.oob.stalled k k (run_best c played) (apart-none c k)
    (apart-then c k played (run_best c played) (apart-plays c k played (lines-plays was c pipe.oob.lines k s)) (apart-processor c _ played))

apart-settle_oob : (was : Option ℕ) (c : ℕ) (k : Parts) → IsShaped k → IsApart c k (settle_oob was c k)
unfolding settle_oob
apart-settle_oob was c k s = apart-oob_pipe was c (slice_get k.pipes c) k s

-- ---- a good state but for the acting processor
-- another processor: all but that it runs its best task, which nudging sees to
pub record IsCalm (c : ℕ) (pipe : Pipe) (p : Processor) (tasks : List Task) : Type 0 where
  pub current_own : (t : ℕ) → p.current ≡ Some t → IsOwn c t tasks
  pub in_band_own : (t : ℕ) → p.in_band_task ≡ Some t → IsOneOf is_in_ready c t tasks
  pub runs_in_band : is_oob p.current tasks ≡ false → p.current ≡ p.in_band_task
  pub oob_played : pipe.oob.stalled ≡ false → pipe.oob.lines ≡ []
  pub in_band_played : pipe.in_band.stalled ≡ false → is_oob p.current tasks ≡ false → pipe.in_band.lines ≡ []
  pub oob_staller : pipe.oob.stalled ≡ true → is_oob p.current tasks ≡ true
  pub in_band_staller : pipe.in_band.stalled ≡ true → p.in_band_task ≡ None → ⊥

-- it runs an out-of-band task of its own
pub record IsHeld (c : ℕ) (p : Processor) (tasks : List Task) : Type 0 where
  pub number : ℕ
  pub runs : p.current ≡ Some number
  pub own : IsOobOwn c number tasks

-- the acting one: what settling it needs
pub record IsActing (c : ℕ) (pipe : Pipe) (p : Processor) (tasks : List Task) : Type 0 where
  pub in_band_own : (t : ℕ) → p.in_band_task ≡ Some t → IsOneOf is_in_ready c t tasks
  pub held : pipe.oob.stalled ≡ true → IsHeld c p tasks
  pub in_band_staller : pipe.in_band.stalled ≡ true → p.in_band_task ≡ None → ⊥

-- nothing is counted on another processor where no out-of-band task is current
abbrev pub AreAway : ℕ → Parts → Type 0
AreAway c k = (d : ℕ) → (d ≡ c → ⊥) → is_oob (current d k) k.tasks ≡ false → watch d k ≡ 0

pub record GoodBut (c : ℕ) (k : Parts) : Type 0 where
  pub pipes : EachIsPipe k.pipes
  pub others : (d : ℕ) (pipe : Pipe) (p : Processor) → (d ≡ c → ⊥) → slice_get k.pipes d ≡ Some pipe → slice_get k.processors d ≡ Some p → IsCalm d pipe p k.tasks
  pub own : (pipe : Pipe) (p : Processor) → slice_get k.pipes c ≡ Some pipe → slice_get k.processors c ≡ Some p → IsActing c pipe p k.tasks
  pub away : AreAway c k
  pub shape : IsShaped k

pub calm_of : (c : ℕ) (pipe : Pipe) (p : Processor) (mutexes : List Mutex) (tasks : List Task) → IsSettled c pipe p mutexes tasks → IsCalm c pipe p tasks
calm_of c pipe p mutexes tasks s = record {
  current_own = s.current_own;
  in_band_own = s.in_band_own;
  runs_in_band = s.runs_in_band;
  oob_played = s.oob_played;
  in_band_played = s.in_band_played;
  oob_staller = s.oob_staller;
  in_band_staller = s.in_band_staller;
}

-- where its own tasks are as they were
pub calm-alike : (d : ℕ) (pipe : Pipe) (p : Processor) (tasks new : List Task) → AreAlike d tasks new → IsCalm d pipe p tasks → IsCalm d pipe p new
calm-alike d pipe p tasks new a s =
    let same = alike-oob d p.current tasks new a s.current_own in
    record {
      current_own = λ u e. alike-own d u tasks new a (s.current_own u e);
      in_band_own = λ u e. alike-in_band d u tasks new a (s.in_band_own u e);
      runs_in_band = λ m. s.runs_in_band (sym same ∙ m);
      oob_played = s.oob_played;
      in_band_played = λ v m. s.in_band_played v (sym same ∙ m);
      oob_staller = λ u. same ∙ s.oob_staller u;
      in_band_staller = s.in_band_staller;
    }

-- what another processor runs is its own
others-own : (c d t : ℕ) (k : Parts) → GoodBut c k → (d ≡ c → ⊥) → (o : Option Processor) → slice_get k.processors d ≡ o → current_of o ≡ Some t → IsOwn d t k.tasks
others-own c d t k g n None e h = cc
others-own c d t k g n (Some p) e h =
    let pipe = slice_get-within k.pipes d (omega (arith, g.shape.pipes_count, slice_get-below k.processors d p e)) in
    (g.others d pipe.0 p n pipe.1 e).current_own t h

-- where the others' tasks are as they were, so is what is counted for them
pub away-alike : (c : ℕ) (k new : Parts) → GoodBut c k
    → ((d : ℕ) → (d ≡ c → ⊥) → AreAlike d k.tasks new.tasks × (slice_get new.processors d ≡ slice_get k.processors d) × (slice_get new.watches d ≡ slice_get k.watches d)) → AreAway c new
away-alike c k new g stay d n none =
    let s = stay d n in
    let now : current d new ≡ current d k = ap current_of s.1 in
    let same : is_oob (current d k) new.tasks ≡ is_oob (current d k) k.tasks = alike-oob d (current d k) k.tasks new.tasks s.0 (λ u e. others-own c d u k g n (slice_get k.processors d) refl e) in
    ap or_zero s.2 ∙ g.away d n (sym same ∙ ap (λ (o : Option ℕ). is_oob o new.tasks) (sym now) ∙ none)

oob-ready : (t : ℕ) (task : Task) (tasks : List Task) → slice_get tasks t ≡ Some task → is_oob (Some t) tasks ≡ true → is_oob_ready task.state ≡ true
oob-ready t task tasks e m = rw e at m

pub oob_own : (c t : ℕ) (tasks : List Task) → IsOwn c t tasks → is_oob (Some t) tasks ≡ true → IsOobOwn c t tasks
oob_own c t tasks o m = record { task = o.task; there = o.there; at_home = o.at_home; ready = oob-ready t o.task tasks o.there m }

held-of : (c : ℕ) (p : Processor) (tasks : List Task) (now : Option ℕ) → p.current ≡ now → ((t : ℕ) → p.current ≡ Some t → IsOwn c t tasks) → is_oob now tasks ≡ true → IsHeld c p tasks
held-of c p tasks None e h m = cc
held-of c p tasks (Some t) e h m = record { number = t; runs = e; own = oob_own c t tasks (h t e) m }

pub acting_of : (c : ℕ) (pipe : Pipe) (p : Processor) (mutexes : List Mutex) (tasks : List Task) → IsSettled c pipe p mutexes tasks → IsActing c pipe p tasks
acting_of c pipe p mutexes tasks s = record { in_band_own = s.in_band_own; held = λ u. held-of c p tasks p.current refl s.current_own (s.oob_staller u); in_band_staller = s.in_band_staller }

pub good_but : (c : ℕ) (k : Parts) → Good k → GoodBut c k
good_but c k g = record {
  pipes = g.pipes;
  others = λ d pipe p o e f. calm_of d pipe p k.mutexes k.tasks (g.settled d pipe p e f);
  own = λ pipe p e f. acting_of c pipe p k.mutexes k.tasks (g.settled c pipe p e f);
  away = λ d n none. (g.watched d).away none;
  shape = shaped k g;
}

-- ---- the acting processor, settled out-of-band
record IsOobSettled (c : ℕ) (pipe : Pipe) (p : Processor) (mutexes : List Mutex) (tasks : List Task) : Type 0 where
  current_own : (t : ℕ) → p.current ≡ Some t → IsOwn c t tasks
  in_band_own : (t : ℕ) → p.in_band_task ≡ Some t → IsOneOf is_in_ready c t tasks
  oob_lines : pipe.oob.stalled ≡ false → pipe.oob.lines ≡ []
  oob_staller : pipe.oob.stalled ≡ true → is_oob p.current tasks ≡ true
  in_band_staller : pipe.in_band.stalled ≡ true → p.in_band_task ≡ None → ⊥
  runs : pipe.oob.stalled ≡ false → p.current ≡ best c mutexes tasks
  whole : IsPipe pipe

held-own : (c t : ℕ) (p : Processor) (tasks : List Task) (h : IsHeld c p tasks) → p.current ≡ Some t → IsOwn c t tasks
held-own c t p tasks h e = let is : h.number ≡ t = (let two : Some h.number ≡ Some t = sym h.runs ∙ e in cc) in rw (← is) (own-live c h.number tasks h.own)

-- where it is stalled it stays
stalled-settled : (c : ℕ) (pipe : Pipe) (p : Processor) (mutexes : List Mutex) (tasks : List Task) → pipe.oob.stalled ≡ true → IsPipe pipe → IsActing c pipe p tasks → IsOobSettled c pipe p mutexes tasks
stalled-settled c pipe p mutexes tasks s whole a =
    let h : IsHeld c p tasks = a.held s in
    record {
      current_own = λ t e. held-own c t p tasks h e;
      in_band_own = a.in_band_own;
      oob_lines = λ u. let no : true ≡ false = sym s ∙ u in cc;
      oob_staller = λ u. rw h.runs (own-is_oob c h.number tasks h.own);
      in_band_staller = a.in_band_staller;
      runs = λ u. let no : true ≡ false = sym s ∙ u in cc;
      whole = whole;
    }

oob_settled-if : (was : Option ℕ) (c : ℕ) (k : Parts) (pipe : Pipe) (b : Bool) → pipe.oob.stalled ≡ b → slice_get k.pipes c ≡ Some pipe → GoodBut c k
    → (q : Pipe) (p : Processor) → slice_get (if b then k else run_best c (play_oob_lines was c pipe.oob.lines k)).pipes c ≡ Some q
    → slice_get (if b then k else run_best c (play_oob_lines was c pipe.oob.lines k)).processors c ≡ Some p
    → IsOobSettled c q p (if b then k else run_best c (play_oob_lines was c pipe.oob.lines k)).mutexes (if b then k else run_best c (play_oob_lines was c pipe.oob.lines k)).tasks
oob_settled-if was c k pipe true s e g q p f h =
    let it : pipe ≡ q = cc in
    rw (← it) (stalled-settled c pipe p k.mutexes k.tasks s (g.pipes c pipe e) (g.own pipe p e h))
oob_settled-if was c k pipe false s e g q p f h =
    let ls : List ℕ = pipe.oob.lines in
    let x : Parts = play_oob_lines was c ls k in
    let r : Plays c k x = lines-plays was c ls k g.shape in
    let whole : IsPipe pipe = g.pipes c pipe e in
    let there : slice_get (change (plays_oob ls) k.pipes c) c ≡ Some q = ap (λ (pipes : List Pipe). slice_get pipes c) (sym (play_oob_lines-pipes was c ls k)) ∙ f in
    let it : plays_oob ls pipe ≡ q = changed-is (plays_oob ls) k.pipes c pipe q e there in
    let from = changed-from (λ (p : Processor). record p { current = best c x.mutexes x.tasks }) x.processors c p h in
    let found : slice_get k.processors c ≡ Some from.0 = ap (λ (xs : List Processor). slice_get xs c) (sym r.processors) ∙ from.1 in
    let a = g.own pipe from.0 e found in
    let same = plays_oob-stalls ls pipe in
    rw (from.2, ← it) (record {
      current_own = λ t m. own-live c t x.tasks (best-own c t x.mutexes x.tasks m);
      in_band_own = λ t m. r.in_band t (a.in_band_own t m);
      oob_lines = λ u. plays_oob-empty ls pipe whole refl;
      oob_staller = λ u. let no : true ≡ false = sym u ∙ same.oob ∙ s in cc;
      in_band_staller = λ u. a.in_band_staller (sym same.in_band ∙ u);
      runs = λ u. refl;
      whole = plays_oob-pipe ls pipe whole;
    })

oob_settled-pipe : (was : Option ℕ) (c : ℕ) (k : Parts) (o : Option Pipe) → slice_get k.pipes c ≡ o → GoodBut c k
    → (q : Pipe) (p : Processor) → slice_get (settle_oob_pipe o was c k).pipes c ≡ Some q → slice_get (settle_oob_pipe o was c k).processors c ≡ Some p → IsOobSettled c q p (settle_oob_pipe o was c k).mutexes (settle_oob_pipe o was c k).tasks
oob_settled-pipe was c k None e g q p f h = cc
oob_settled-pipe was c k (Some pipe) e g q p f h = oob_settled-if was c k pipe pipe.oob.stalled refl e g q p f h

oob_settled : (was : Option ℕ) (c : ℕ) (k : Parts) → GoodBut c k → (q : Pipe) (p : Processor) → slice_get (settle_oob was c k).pipes c ≡ Some q → slice_get (settle_oob was c k).processors c ≡ Some p → IsOobSettled c q p (settle_oob was c k).mutexes (settle_oob was c k).tasks
unfolding settle_oob
oob_settled was c k g q p f h = oob_settled-pipe was c k (slice_get k.pipes c) refl g q p f h

-- an out-of-band task is current: where that stage isn't stalled it is the best
settled-oob : (c : ℕ) (q : Pipe) (p : Processor) (mutexes : List Mutex) (tasks : List Task) → IsOobSettled c q p mutexes tasks → is_oob p.current tasks ≡ true → IsSettled c q p mutexes tasks
settled-oob c q p mutexes tasks s o = record {
  current_own = s.current_own;
  in_band_own = s.in_band_own;
  runs_best = λ u v t e. s.runs u ∙ e;
  runs_in_band = λ n. let no : true ≡ false = sym o ∙ n in cc;
  oob_played = s.oob_lines;
  in_band_played = λ u n. let no : true ≡ false = sym o ∙ n in cc;
  oob_staller = λ u. o;
  in_band_staller = s.in_band_staller;
}

-- where none is it isn't stalled
pub is_open : (b m : Bool) → (b ≡ true → m ≡ true) → m ≡ false → b ≡ false
is_open true m h e = let no : true ≡ false = sym (h refl) ∙ e in cc
is_open false m h e = refl

-- none is: the in-band log is played, and the in-band task is current
no_best-is : (c : ℕ) (mutexes : List Mutex) (tasks : List Task) (o : Option ℕ) → best c mutexes tasks ≡ o → is_oob o tasks ≡ false → o ≡ None
no_best-is c mutexes tasks None e n = refl
no_best-is c mutexes tasks (Some t) e n = let no : true ≡ false = sym (best-is_oob c t mutexes tasks e) ∙ n in cc

up-own : (c : ℕ) (tasks : List Task) (held : Option ℕ) (t : ℕ) → ((t : ℕ) → held ≡ Some t → IsOneOf is_in_ready c t tasks) → take_up held (next_in_band c tasks) ≡ Some t → IsOneOf is_in_ready c t tasks
up-own c tasks None t h e = next-own c t tasks e
up-own c tasks (Some u) t h e = h t e

up-none : (held next : Option ℕ) → take_up held next ≡ None → held ≡ None
up-none None next e = refl
up-none (Some u) next e = cc

in_band_pipe-if : (c : ℕ) (k : Parts) (pipe : Pipe) (b : Bool) → pipe.in_band.stalled ≡ b → slice_get k.pipes c ≡ Some pipe → IsPipe pipe → (q : Pipe)
    → slice_get (if b then k else play_in_band_lines c pipe.in_band.lines k).pipes c ≡ Some q → HasSameStalls pipe q × (q.oob ≡ pipe.oob) × (q.in_band.stalled ≡ false → q.in_band.lines ≡ [])
in_band_pipe-if c k pipe true s e w q f = let it : pipe ≡ q = cc in rw (← it) (record { oob = refl; in_band = refl }, refl, λ u. let no : true ≡ false = sym s ∙ u in cc)
in_band_pipe-if c k pipe false s e w q f =
    let ls : List ℕ = pipe.in_band.lines in
    let there : slice_get (change (plays_in_band ls) k.pipes c) c ≡ Some q = ap (λ (pipes : List Pipe). slice_get pipes c) (sym (play_in_band_lines-pipes c ls k)) ∙ f in
    let it : plays_in_band ls pipe ≡ q = changed-is (plays_in_band ls) k.pipes c pipe q e there in
    rw (← it) (plays_in_band-stalls ls pipe, plays_in_band-oob ls pipe, λ u. plays_in_band-empty ls pipe w refl)

rouses-pipe : (c : ℕ) (o : Option Pipe) (k : Parts) → Rouses c k (play_in_band_pipe o c k)
rouses-pipe c None k = rouses-none c k
rouses-pipe c (Some pipe) k = rouses-if c pipe.in_band.stalled k k (play_in_band_lines c pipe.in_band.lines k) (λ e. rouses-none c k) (λ e. rouses-lines c pipe.in_band.lines k)

settled-turn : (c : ℕ) (k x : Parts) (pipe q : Pipe) (p : Processor) → Rouses c k x
    → HasSameStalls pipe q × (q.oob ≡ pipe.oob) × (q.in_band.stalled ≡ false → q.in_band.lines ≡ [])
    → ((p : Processor) → slice_get k.processors c ≡ Some p → IsOobSettled c pipe p k.mutexes k.tasks)
    → ((p : Processor) → slice_get k.processors c ≡ Some p → is_oob p.current k.tasks ≡ false)
    → slice_get (run_in_band c x).processors c ≡ Some p → IsSettled c q p x.mutexes x.tasks
settled-turn c k x pipe q p r same s n h =
    let from = changed-from (λ (p : Processor). run_task (take_up p.in_band_task (next_in_band c x.tasks)) p) x.processors c p h in
    let there : slice_get k.processors c ≡ Some from.0 = ap (λ (xs : List Processor). slice_get xs c) (sym r.processors) ∙ from.1 in
    let z = s from.0 there in
    let free : pipe.oob.stalled ≡ false = is_open pipe.oob.stalled (is_oob from.0.current k.tasks) z.oob_staller (n from.0 there) in
    let none : from.0.current ≡ None = no_best-is c k.mutexes k.tasks from.0.current (sym (z.runs free)) (n from.0 there) in
    let still : q.oob.stalled ≡ false = same.0.oob ∙ free in
    rw from.2 (record {
      current_own = λ t e. own-in_band c t x.tasks (up-own c x.tasks from.0.in_band_task t (λ u f. r.in_band u (z.in_band_own u f)) e);
      in_band_own = λ t e. up-own c x.tasks from.0.in_band_task t (λ u f. r.in_band u (z.in_band_own u f)) e;
      runs_best = λ u v t e. absurd (none-best c t k.mutexes x.mutexes k.tasks x.tasks r.oob (sym (z.runs free) ∙ none) e);
      runs_in_band = λ m. refl;
      oob_played = λ u. ap (λ log. log.lines) same.1 ∙ z.oob_lines free;
      in_band_played = λ u m. same.2 u;
      oob_staller = λ u. let no : true ≡ false = sym u ∙ still in cc;
      in_band_staller = λ u m. z.in_band_staller (sym same.0.in_band ∙ u) (up-none from.0.in_band_task (next_in_band c x.tasks) m);
    })

-- ---- what settling in-band makes, of a processor that has settled out-of-band
record Turned (c : ℕ) (k new : Parts) : Type 0 where
  apart : IsApart c k new
  own : (q : Pipe) (p : Processor) → slice_get new.pipes c ≡ Some q → slice_get new.processors c ≡ Some p → IsSettled c q p new.mutexes new.tasks

turned-pipe : (c : ℕ) (k : Parts) (o : Option Pipe) → slice_get k.pipes c ≡ o
    → ((q : Pipe) (p : Processor) → slice_get k.pipes c ≡ Some q → slice_get k.processors c ≡ Some p → IsOobSettled c q p k.mutexes k.tasks)
    → ((p : Processor) → slice_get k.processors c ≡ Some p → is_oob p.current k.tasks ≡ false)
    → ((q : Pipe) → slice_get k.pipes c ≡ Some q → IsPipe q)
    → (q : Pipe) (p : Processor) → slice_get (play_in_band_pipe o c k).pipes c ≡ Some q → slice_get (run_in_band c (play_in_band_pipe o c k)).processors c ≡ Some p → IsSettled c q p (play_in_band_pipe o c k).mutexes (play_in_band_pipe o c k).tasks
turned-pipe c k None e s n w q p f h = cc
turned-pipe c k (Some pipe) e s n w q p f h =
    settled-turn c k (play_in_band_pipe (Some pipe) c k) pipe q p (rouses-pipe c (Some pipe) k)
    (in_band_pipe-if c k pipe pipe.in_band.stalled refl e (w pipe e) q f) (λ p g. s pipe p e g) n h

turned : (c : ℕ) (k : Parts)
    → ((q : Pipe) (p : Processor) → slice_get k.pipes c ≡ Some q → slice_get k.processors c ≡ Some p → IsOobSettled c q p k.mutexes k.tasks)
    → ((p : Processor) → slice_get k.processors c ≡ Some p → is_oob p.current k.tasks ≡ false)
    → ((q : Pipe) → slice_get k.pipes c ≡ Some q → IsPipe q) → Turned c k (turn_in_band c k)
unfolding turn_in_band
turned c k s n w =
    let x : Parts = play_in_band_pipe (slice_get k.pipes c) c k in
    let r : Rouses c k x = rouses-pipe c (slice_get k.pipes c) k in
    let up : Processor → Processor = λ p. run_task (take_up p.in_band_task (next_in_band c x.tasks)) p in
    record {
      apart = apart-then c k x _ (apart-rouses c k x r) (apart-processor c up x);
      own = λ q p f h. turned-pipe c k (slice_get k.pipes c) refl s n w q p f h;
    }

turned-if : (c : ℕ) (k : Parts) (b : Bool) → is_oob (current c k) k.tasks ≡ b
    → ((q : Pipe) (p : Processor) → slice_get k.pipes c ≡ Some q → slice_get k.processors c ≡ Some p → IsOobSettled c q p k.mutexes k.tasks)
    → ((q : Pipe) → slice_get k.pipes c ≡ Some q → IsPipe q) → Turned c k (if b then k else turn_in_band c k)
turned-if c k true o s w = record {
  apart = apart-none c k;
  own = λ q p f h. settled-oob c q p k.mutexes k.tasks (s q p f h) (rw h at o);
}
turned-if c k false o s w = turned c k s (λ p g. rw g at o) w

settles-in_band : (c : ℕ) (k : Parts)
    → ((q : Pipe) (p : Processor) → slice_get k.pipes c ≡ Some q → slice_get k.processors c ≡ Some p → IsOobSettled c q p k.mutexes k.tasks)
    → ((q : Pipe) → slice_get k.pipes c ≡ Some q → IsPipe q) → Turned c k (settle_in_band c k)
unfolding settle_in_band
settles-in_band c k s w = turned-if c k (is_oob (current c k) k.tasks) refl s w

-- it leaves the ranks
ranked-processor : (c : ℕ) (f : Processor → Processor) (k : Parts) → AreRanked k (on_processor c f k)
ranked-processor c f k = record { mutexes = refl; size = refl; locks = λ u. refl; classes = λ u. refl }

ranked-turn : (c : ℕ) (k : Parts) → AreRanked k (turn_in_band c k)
unfolding turn_in_band
ranked-turn c k =
    let x : Parts = play_in_band_pipe (slice_get k.pipes c) c k in
    ranked-then k x _ (rouses-pipe c (slice_get k.pipes c) k).ranked (ranked-processor c _ x)

ranked-if : (b : Bool) (k x : Parts) → AreRanked k x → AreRanked k (if b then k else x)
ranked-if true k x r = ranked-none k
ranked-if false k x r = r

pub ranked-in_band : (c : ℕ) (k : Parts) → AreRanked k (settle_in_band c k)
unfolding settle_in_band
ranked-in_band c k = ranked-if (is_oob (current c k) k.tasks) k (turn_in_band c k) (ranked-turn c k)

-- ---- settled but for what the watchdog counts, and the others not yet told
record IsUncounted (c : ℕ) (k : Parts) : Type 0 where
  pipes : EachIsPipe k.pipes
  others : (d : ℕ) (pipe : Pipe) (p : Processor) → (d ≡ c → ⊥) → slice_get k.pipes d ≡ Some pipe → slice_get k.processors d ≡ Some p → IsCalm d pipe p k.tasks
  own : (pipe : Pipe) (p : Processor) → slice_get k.pipes c ≡ Some pipe → slice_get k.processors c ≡ Some p → IsSettled c pipe p k.mutexes k.tasks
  away : AreAway c k
  shape : IsShaped k

settles-uncounted : (was : Option ℕ) (c : ℕ) (k : Parts) → GoodBut c k → IsUncounted c (settle_in_band c (settle_oob was c k))
settles-uncounted was c k g =
    let mid : Parts = settle_oob was c k in
    let new : Parts = settle_in_band c mid in
    let t : Turned c mid new = settles-in_band c mid (oob_settled was c k g) (λ x e. are-settle_oob was c k g.pipes c x e) in
    let a : IsApart c k new = apart-then c k mid new (apart-settle_oob was c k g.shape) t.apart in
    record {
      pipes = are-settle_in_band c mid (are-settle_oob was c k g.pipes);
      others = λ d pipe p n e f. let r = a.others d n in calm-alike d pipe p k.tasks new.tasks r.0 (g.others d pipe p n (sym r.1 ∙ e) (sym r.2 ∙ f));
      own = t.own;
      away = away-alike c k new g (λ d n. let r = a.others d n in (r.0, r.2, r.3));
      shape = a.shape g.shape;
    }

-- ---- settled, and the others not yet told
pub record IsUntold (c : ℕ) (k : Parts) : Type 0 where
  pub pipes : EachIsPipe k.pipes
  pub others : (d : ℕ) (pipe : Pipe) (p : Processor) → (d ≡ c → ⊥) → slice_get k.pipes d ≡ Some pipe → slice_get k.processors d ≡ Some p → IsCalm d pipe p k.tasks
  pub own : (pipe : Pipe) (p : Processor) → slice_get k.pipes c ≡ Some pipe → slice_get k.processors c ≡ Some p → IsSettled c pipe p k.mutexes k.tasks
  pub away : AreAway c k
  pub rests : is_oob (current c k) k.tasks ≡ false → watch c k ≡ 0
  pub shape : IsShaped k

zeroed : (o : Option ℕ) → or_zero (option_map (λ n. 0) o) ≡ 0
zeroed None = refl
zeroed (Some n) = refl

watch-rests : (c : ℕ) (k : Parts) → IsUncounted c k → IsUntold c (on_watch c (λ n. 0) k)
watch-rests c k u =
    let none : ℕ → ℕ = λ n. 0 in
    record {
      pipes = u.pipes;
      others = u.others;
      own = u.own;
      away = λ d n e. ap or_zero (change-elsewhere none k.watches c d n) ∙ u.away d n e;
      rests = λ e. ap or_zero (change-here none k.watches c) ∙ zeroed (slice_get k.watches c);
      shape = shaped-watch c none k (λ e. refl) (λ e. positive k.profile.watchdog e) u.shape;
    }

rests-if : (c : ℕ) (b : Bool) (k : Parts) → (b ≡ true → is_oob (current c k) k.tasks ≡ true) → IsUncounted c k → IsUntold c (if b then k else on_watch c (λ n. 0) k)
rests-if c true k on u = record { pipes = u.pipes; others = u.others; own = u.own; away = u.away; rests = λ e. let no : true ≡ false = sym (on refl) ∙ e in cc; shape = u.shape }
rests-if c false k on u = watch-rests c k u

rests-untold : (was : Option ℕ) (c : ℕ) (k : Parts) → IsUncounted c k → IsUntold c (rest_watch was c k)
unfolding rest_watch
rests-untold was c k u =
    rests-if c (is_oob (current c k) k.tasks && not (differs (current c k) was)) k (λ e. (both (is_oob (current c k) k.tasks) (not (differs (current c k) was)) e).0) u

pub settle-untold : (was : Option ℕ) (c : ℕ) (k : Parts) → GoodBut c k → IsUntold c (settle was c k)
unfolding settle
settle-untold was c k g = rests-untold was c _ (settles-uncounted was c k g)
