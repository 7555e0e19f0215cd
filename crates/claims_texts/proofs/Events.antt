-- A machine that lines have driven: its journal is of events that have a line, within its capacity.
use Rattle.std.proofs.Common.{◌≡◌, ℕ, zero, suc, ◌+◌, ◌<◌, ◌≤◌, List, [], ◌∷◌, ◌++◌, Bool, true, false, Option, Some, None, length, length-append, refl, ap, sym, ◌∙◌, arith, leb-false}
use Rattle.std.specs.Prelude.{Result, Ok, Err, nat_lt, ◌==◌, if◌then◌else◌}
use Rattle.std.specs.List.{AllByRecursion}
use Rattle.std.proofs.lemmas.Bool.Decides.{nat_tests}
use Rattle.evm_ram.specs.Images.{Contents}
use Rattle.evm_serve.specs.evm_history.Runs.{line_of_event}
use Rattle.evm_serve.specs.evm_journal.EventLine.{HasEventLine}
use Rattle.evm_serve.specs.evm_journal.Journal.{HasBootLine, HasJournal}
use Rattle.evm_model.specs.Refusals.{board_refusal, is_full}
use Rattle.evm_model.specs.Replay.{apply, bad_boot, bad_profile, bad_watchdog, bad_cpus, bad_ram, bad_capacity, start, IsReplayOf}
use Rattle.evm_model.specs.State.{State}
use Rattle.evm_model.specs.declared.boot.Boot.{Boot}
use Rattle.evm_model.specs.declared.event.Answer.{Answer}
use Rattle.evm_model.specs.Event.{Event}
use Rattle.evm_model.specs.declared.event.Event.TheVariants.{Step}
use Rattle.evm_model.specs.declared.limits.TheConstants.{CAPACITY_LIMIT}
use Rattle.evm_model.specs.declared.refusal.Refusal.{Refusal}
use Rattle.evm_model.specs.declared.refusal.Refusal.TheVariants.{Full, BadSize}
use Rattle.evm_serve.specs.evm_core.Load.{load, load_unless, load_refusal}
use Rattle.evm_serve.specs.evm_core.Steps.{behind_step, steps}
use Rattle.evm_serve.proofs.law_rules.Replays.{accepted, accepted-journal, IsReplayOf-step, empty_as_replay}
use Rattle.evm_serve.specs.RunOptions.{Attached, image_options}
use Rattle.evm_serve.specs.Starting.{started, with_image}

-- its numbers are good, it began with the image, and what it had since is in its journal
pub record IsDriven (devices : List Attached) (image : Contents) (s : State) : Type 0 where
  pub first : State
  pub fits : bad_boot s.boot ≡ false
  pub numbers : HasBootLine s.boot
  pub loads : load image (start devices s.boot) ≡ Ok first
  pub replays : IsReplayOf first s
  pub each : AllByRecursion (λ event. HasEventLine (line_of_event event)) s.journal
  pub few : length s.journal ≤ s.boot.capacity

-- ---- one event more
all-push : {X : Type 0} (P : X → Type 0) (xs : List X) (x : X) → AllByRecursion P xs → P x → AllByRecursion P (xs ++ x ∷ [])
all-push P [] x h p = (p, tt)
all-push P (y ∷ xs) x h p = (h.0, all-push P xs x h.1 p)

not-full : (s : State) (event : Event) (full : Bool) → is_full s ≡ full → (if full then Some Full else board_refusal event s.board) ≡ None → length s.journal < s.boot.capacity
not-full s event true f e = cc
not-full s event false f e = leb-false s.boot.capacity (length s.journal) f

pub driven-event : (devices : List Attached) (image : Contents) (s new : State) (event : Event) (answer : Answer) → apply s event ≡ Ok (new, answer) → HasEventLine (line_of_event event) → IsDriven devices image s → IsDriven devices image new
driven-event devices image s new event answer e line d =
    let it = accepted s new event answer e in
    let grown : new.journal ≡ s.journal ++ event ∷ [] = accepted-journal s new event answer e in
    let same : new.boot ≡ s.boot = ap (λ (x : State × Answer). x.0.boot) it.1 in
    let room : length s.journal < s.boot.capacity = not-full s event (is_full s) refl it.0 in
    let size : length new.journal ≡ length s.journal + 1 = ap length grown ∙ length-append s.journal (event ∷ []) in
    record {
      first = d.first;
      fits = ap bad_boot same ∙ d.fits;
      numbers = rw same d.numbers;
      loads = ap (λ (boot : Boot). load image (start devices boot)) same ∙ d.loads;
      replays = IsReplayOf-step d.first s new event answer e grown d.replays;
      each = rw grown (all-push (λ event. HasEventLine (line_of_event event)) s.journal event d.each line);
      few = rw same (omega (arith, size, room));
    }

-- so many Steps more
steps-more : (devices : List Attached) (image : Contents) (c count : ℕ) (s new : State) (r : Result (State × Answer) Refusal) → apply s (Step c) ≡ r → c < 256 → IsDriven devices image s
    → ((s : State) → steps c count s ≡ (new, None) → IsDriven devices image s → IsDriven devices image new) → behind_step r s (steps c count) ≡ (new, None) → IsDriven devices image new
steps-more devices image c count s new (Ok after) e cpu d more h = more after.0 h (driven-event devices image s after.0 (Step c) after.1 e (cpu, (omega arith, omega arith, omega arith)) d)
steps-more devices image c count s new (Err refusal) e cpu d more h = let none : ◌≡◌ {A = Option Refusal} (Some refusal) None = ap (λ (x : State × Option Refusal). x.1) h in cc

pub driven-steps : (devices : List Attached) (image : Contents) (c count : ℕ) (s new : State) → steps c count s ≡ (new, None) → c < 256 → IsDriven devices image s → IsDriven devices image new
unfolding steps
driven-steps devices image c zero s new e cpu d = let it : s ≡ new = ap (λ (x : State × Option Refusal). x.0) e in rw (← it) d
driven-steps devices image c (suc count) s new e cpu d = steps-more devices image c count s new (apply s (Step c)) refl cpu d (λ x h g. driven-steps devices image c count x new h cpu g) e

-- ---- a boot
unless-journal : (o : Option Refusal) (image : Contents) (s first : State) → load_unless o image s ≡ Ok first → (first.journal ≡ s.journal) × (first.boot ≡ s.boot)
unless-journal None image s first e = let is : record s { board = first.board } ≡ first = cc in (ap (λ (x : State). x.journal) (sym is), ap (λ (x : State). x.boot) (sym is))
unless-journal (Some refusal) image s first e = cc

pub loaded : (image : Contents) (s first : State) → load image s ≡ Ok first → (first.journal ≡ s.journal) × (first.boot ≡ s.boot)
unfolding load
loaded image s first e = unless-journal (load_refusal image s) image s first e

boot-if : (devices : List Attached) (image : Contents) (boot : Boot) (s : State) (bad : Bool) → bad_boot boot ≡ bad → HasBootLine boot → (if bad then Err BadSize else with_image (Some image) (start devices boot)) ≡ Ok s → IsDriven devices image s
boot-if devices image boot s true b line e = cc
boot-if devices image boot s false b line e =
    let it = loaded image (start devices boot) s e in
    let empty : s.journal ≡ [] = it.0 in
    let same : s.boot ≡ boot = it.1 in
    record {
      first = s;
      fits = ap bad_boot same ∙ b;
      numbers = rw same line;
      loads = ap (λ (x : Boot). load image (start devices x)) same ∙ e;
      replays = empty_as_replay s empty;
      each = rw empty tt;
      few = rw empty (omega arith);
    }

pub driven-boot : (devices : List Attached) (image : Contents) (boot : Boot) (s : State) → HasBootLine boot → started (image_options devices image) boot ≡ Ok s → IsDriven devices image s
driven-boot devices image boot s line e = boot-if devices image boot s (bad_boot boot) refl line e

-- ---- what its journal may hold
if_false : (a b : Bool) → (if a then true else b) ≡ false → (a ≡ false) × (b ≡ false)
if_false true b e = cc
if_false false b e = (refl, e)

within : (n m : ℕ) → nat_lt m n ≡ false → n ≤ m
within n m e = grind (arith, nat_tests)

capacity-within : (boot : Boot) → bad_boot boot ≡ false → boot.capacity ≤ CAPACITY_LIMIT
capacity-within boot e =
    let numbers = if_false (bad_watchdog boot.profile boot.watchdog) _ (if_false (bad_profile boot.profile) _ e).1 in
    let rest = if_false (bad_cpus boot.cpus) (if bad_ram boot.ram then true else bad_capacity boot.capacity) numbers.1 in
    let last = if_false (bad_ram boot.ram) (bad_capacity boot.capacity) rest.1 in
    within boot.capacity CAPACITY_LIMIT (if_false (boot.capacity == 0) (nat_lt CAPACITY_LIMIT boot.capacity) last.1).1

pub driven-journal : (devices : List Attached) (image : Contents) (s : State) → IsDriven devices image s → HasJournal s.boot s.journal
driven-journal devices image s d = let limit = capacity-within s.boot d.fits in let room = d.few in record { numbers = d.numbers; each = d.each; most = omega (arith, limit, room) }
