-- A notice of the acting task is a walk, and a walk makes one at most.
use Rattle.std.proofs.Common.{◌≡◌, ℕ, ◌+◌, ◌≤◌, Bool, true, false, Option, Some, None, refl, ap, sym, ◌∙◌, arith}
use Rattle.std.specs.Prelude.{slice_get, option_map, if◌then◌else◌}
use Rattle.evm_model.specs.Commands.{tick}
use Rattle.evm_model.specs.Notices.{asks_for, keep, notify, is_refused, notify_refused}
use Rattle.evm_model.specs.State.{Parts, Notices}
use Rattle.evm_model.specs.OobCalls.{move_task}
use Rattle.evm_model.specs.Tasks.{restamp, set_policy, set_slice, set_state, demote}
use Rattle.evm_model.specs.Waits.{wake, begin_wait}
use Rattle.evm_model.specs.declared.call.Outcome.{Outcome}
use Rattle.evm_model.specs.declared.errno.Errno.{Errno}
use Rattle.evm_model.specs.declared.notice.Notice.{Notice}
use Rattle.evm_model.specs.declared.notice.NoticeKind.{NoticeKind}
use Rattle.evm_model.specs.declared.notice.NoticeKind.TheVariants.{Overran}
use Rattle.evm_model.specs.Settle.{current}
use Rattle.evm_model.specs.declared.task.Task.{Task}
use Rattle.evm_model.specs.declared.task.TaskState.TheVariants.{InReady}
use Rattle.evm_model.proofs.Lists.{change-here}
use Rattle.law_rules.proofs.Sizes.{of_spend, walk_profile, walk_ticks_at}
use Rattle.law_rules.proofs.Walk.{Actor, Untouched, Noted, IsWatched, IsCalm, Does, spends, notes, alarms, Walk, start, next, quietly, walk_if}

-- ---- the acting task gets one, if it asks for it
pub notifies : (a : Actor) (old : Parts) (n s t : ℕ) (kind : NoticeKind) (k : Parts) → a.task ≡ Some t → Noted a old t kind
    → asks_for kind (slice_get k.tasks t) ≡ asks_for kind (slice_get old.tasks t) → k.notices ≡ old.notices → Walk a old n s k → Walk a old n s (notify kind t k)
unfolding notify
notifies a old n s t kind k own why same none w =
    walk_if a old n s (asks_for kind (slice_get k.tasks t)) _ k (λ e. quietly a old n s k _ (notes t kind k own why (sym same ∙ e) none) w) (λ e. w)

-- a demotion leaves its mode bits
asks-mapped : (kind : NoticeKind) (f : Task → Task) (o : Option Task) → ((x : Task) → (f x).mode ≡ x.mode) → asks_for kind (option_map f o) ≡ asks_for kind o
asks-mapped kind f None same = refl
asks-mapped kind f (Some x) same = rw same refl

demoted-asks : (kind : NoticeKind) (c t : ℕ) (k : Parts) → asks_for kind (slice_get (demote c t k).tasks t) ≡ asks_for kind (slice_get k.tasks t)
unfolding demote restamp set_state
demoted-asks kind c t k =
    ap (asks_for kind) (change-here (λ (x : Task). record x { stamp = k.stamps }) _ t)
    ∙ asks-mapped kind (λ (x : Task). record x { stamp = k.stamps }) _ (λ x. refl)
    ∙ ap (asks_for kind) (change-here (λ (x : Task). record x { state = InReady }) k.tasks t)
    ∙ asks-mapped kind (λ (x : Task). record x { state = InReady }) (slice_get k.tasks t) (λ x. refl)

demoted-notices : (c t : ℕ) (k : Parts) → (demote c t k).notices ≡ k.notices
unfolding demote restamp set_state
demoted-notices c t k = refl

pub notifies_demoted : (a : Actor) (old : Parts) (n s t : ℕ) (kind : NoticeKind) (k : Parts) → a.task ≡ Some t → Noted a old t kind → Untouched old k → Walk a old n s (demote a.cpu t k)
    → Walk a old n s (notify kind t (demote a.cpu t k))
notifies_demoted a old n s t kind k own why fresh w =
    notifies a old n s t kind (demote a.cpu t k) own why (demoted-asks kind a.cpu t k ∙ ap (λ xs. asks_for kind (slice_get xs t)) fresh.tasks) (demoted-notices a.cpu t k ∙ fresh.notices) w

refused_if : (a : Actor) (old : Parts) (n s t : ℕ) (b : Bool) (kind : NoticeKind) (k : Parts) (done : Parts × Outcome) → a.task ≡ Some t → Noted a old t kind → Untouched old k → (b ≡ true → done.0 ≡ k)
    → Walk a old n s done.0 → Walk a old n s (if b then (notify kind t done.0, done.1) else done).0
refused_if a old n s t true kind k done own why fresh rests w =
    let same : done.0 ≡ k = rests refl in
    notifies a old n s t kind done.0 own why (ap (λ (x : Parts). asks_for kind (slice_get x.tasks t)) same ∙ ap (λ xs. asks_for kind (slice_get xs t)) fresh.tasks) (ap (λ (x : Parts). x.notices) same ∙ fresh.notices) w
refused_if a old n s t false kind k done own why fresh rests w = w

-- .. where its call is refused with an error, which changes nothing
pub notifies_refused : (a : Actor) (old : Parts) (n s t : ℕ) (e : Errno) (kind : NoticeKind) (k : Parts) (done : Parts × Outcome) → a.task ≡ Some t → Noted a old t kind → Untouched old k
    → (is_refused e done.1 ≡ true → done.0 ≡ k) → Walk a old n s done.0 → Walk a old n s (notify_refused e kind t done).0
notifies_refused a old n s t e kind k done own why fresh rests w = refused_if a old n s t (is_refused e done.1) kind k done own why fresh rests w

-- ---- of a walk
-- the one that was made
pub record IsNoted (a : Actor) (old : Parts) (notice : Notice) : Type 0 where
  pub acts : a.task ≡ Some notice.task
  pub why : Noted a old notice.task notice.kind
  pub asked : asks_for notice.kind (slice_get old.tasks notice.task) ≡ true
  pub moment : (d : ℕ) → a.may d 0 ≡ false → notice.tick ≡ old.ticks

-- .. by the watchdog, for the task that was current
pub record IsAlarm (a : Actor) (old : Parts) (notice : Notice) : Type 0 where
  pub runs : current a.cpu old ≡ Some notice.task
  pub chooses : a.chooses ≡ true
  pub guarded : old.profile.watchdog ≡ 0 → ⊥
  pub why : notice.kind ≡ Overran
  pub moment : (d : ℕ) → a.may d 0 ≡ false → notice.tick ≡ old.ticks

-- no notice, or one more
pub data NotesOne (a : Actor) (old : Parts) : Notices → Type 0 where
  none : NotesOne a old old.notices
  one : (notice : Notice) → IsNoted a old notice → NotesOne a old (keep notice old.notices)
  alarm : (notice : Notice) → IsAlarm a old notice → NotesOne a old (keep notice old.notices)

module _ (a : Actor) (old : Parts) (calm : a.chooses ≡ true → IsCalm a.cpu old) where
  does_note : (i j m s : ℕ) (k x : Parts) → Does a old i j k x → Walk a old m s k → NotesOne a old k.notices → NotesOne a old x.notices
  unfolding restamp set_state set_policy set_slice move_task wake begin_wait tick
  does_note _ _ _ _ _ _ (spends t x k runs there on) w q = of_spend (λ (y : Parts). NotesOne a old y.notices) t x.slice k q q
  does_note _ _ m s _ _ (notes t kind k own why asked fresh) w q =
      rw fresh (one (record { tick = k.ticks; task = t; kind = kind }) (record { acts = own; why = why; asked = asked; moment = λ d quiet. walk_ticks_at a old d m s k quiet w }))
  does_note _ _ m s _ _ (alarms t k its fresh) w q =
      rw (fresh (calm its.chooses)) (alarm (record { tick = k.ticks; task = t; kind = Overran }) (record {
        runs = its.runs;
        chooses = its.chooses;
        guarded = λ off. its.guarded (ap (λ profile. profile.watchdog) (walk_profile a old m s k w) ∙ off);
        why = refl;
        moment = λ d quiet. walk_ticks_at a old d m s k quiet w;
      }))
  does_note _ _ _ _ _ _ _ w q = q

  pub walk_notes : (n s : ℕ) (k : Parts) → Walk a old n s k → NotesOne a old k.notices
  walk_notes _ _ _ start = none
  walk_notes _ _ _ (next m n s u i j k x h g d w) = does_note i j m s k x d w (walk_notes m s k w)

-- one more at the most
pub one_more : (a : Actor) (old : Parts) (o : Notices) → NotesOne a old o → o.total ≤ old.notices.total + 1
unfolding keep
one_more a old _ none = omega arith
one_more a old _ (one notice n) = omega arith
one_more a old _ (alarm notice n) = omega arith
