-- A scripted machine is the replay of its journal.
use Rattle.std.proofs.Common.{◌≡◌, ℕ, zero, suc, Bool, true, false, cond, List, [], ◌∷◌, ◌++◌, Option, Some, None, Result, Ok, Err, refl, sym, ap, subst, ◌∙◌}
use Rattle.evm_ram.specs.Images.{Contents}
use Rattle.evm_devs.specs.Devices.{program_devices}
use Rattle.evm_model.specs.Devices.{Attached}
use Rattle.evm_model.specs.State.{State}
use Rattle.evm_model.specs.Good.{GoodState}
use Rattle.evm_model.specs.Refusals.{refusal}
use Rattle.evm_model.specs.Replay.{start, apply, apply_unless, bad_boot, IsReplayOf}
use Rattle.evm_model.specs.declared.boot.Boot.{Boot}
use Rattle.evm_model.specs.Event.{Event}
use Rattle.evm_model.specs.declared.event.Answer.{Answer}
use Rattle.evm_model.specs.declared.event.Event.TheVariants.{Step}
use Rattle.evm_model.specs.declared.refusal.Refusal.{Refusal}
use Rattle.evm_diagnostics.proofs.law_rules.Replays.{IsReplayOf-left, empty_as_replay}
use Rattle.evm_diagnostics.specs.evm_core.Load.{load, load_unless, load_refusal}
use Rattle.evm_diagnostics.specs.evm_core.Steps.{steps, behind_step}
use Rattle.evm_diagnostics.specs.evm_debug.LineReading.{line_at}
use Rattle.evm_diagnostics.specs.evm_debug.Views.{shown}
use Rattle.evm_diagnostics.specs.evm_debug.declared.line.Line.{Line}
use Rattle.evm_diagnostics.specs.evm_debug.declared.line.Line.TheVariants.{Blank, Boot as Boots, Steps, One, Show}
use Rattle.evm_diagnostics.specs.evm_core.Journaled.{AreJournaled}
use Rattle.evm_diagnostics.proofs.evm_journal.Machines.{machine_journal}
use Rattle.evm_serve.specs.Scripted.{IsScripted, after_event, unless_refused, after_view, after_line, after_read, after_lines, with_state, loaded_state, booted_by, script_machine}
use Rattle.evm_serve.specs.ScriptedMachine.{IsScriptedIn, ReplaysMachine}
use Rattle.evm_serve.specs.Sitting.{Sitting}
use Rattle.evm_serve.proofs.Replays.{loaded_fresh, replays_at}

-- the replay of a journal, from a boot with devices and an image
pub record IsReplayed (devices : List Attached) (image : Contents) (s : State) : Type 0 where
  pub first : State
  pub begun : load image (start devices s.boot) ≡ Ok first
  pub replays : IsReplayOf first s

same_state : (x y : State) → ◌≡◌ {A = Option State} (Some x) (Some y) → x ≡ y
same_state x y e = cc

same_loaded : (x y : State) → ◌≡◌ {A = Result State Refusal} (Ok x) (Ok y) → x ≡ y
same_loaded x y e = cc

same_after : (x y : State × Answer) → ◌≡◌ {A = Result (State × Answer) Refusal} (Ok x) (Ok y) → x ≡ y
same_after x y e = cc

-- ---- no event changes the numbers of the boot

boot_kept : (s : State) (event : Event) (o : Option Refusal) (after : State × Answer) → apply_unless o event s ≡ Ok after → after.0.boot ≡ s.boot
boot_kept s event None after e = ap (λ (a : State × Answer). a.0.boot) (sym (same_after _ after e))
boot_kept s event (Some r) after e = absurd cc

applied_boot : (s : State) (event : Event) (after : State × Answer) → apply s event ≡ Ok after → after.0.boot ≡ s.boot
unfolding apply
applied_boot s event after e = boot_kept s event (refusal event s) after e

one_more : (devices : List Attached) (image : Contents) (s : State) (event : Event) (after : State × Answer) → apply s event ≡ Ok after → IsReplayed devices image s → IsReplayed devices image after.0
one_more devices image s event after e h = record {
  first = h.first;
  begun = ap (λ (boot : Boot). load image (start devices boot)) (applied_boot s event after e) ∙ h.begun;
  replays = IsReplayOf-left h.first s event (Ok after) e h.replays;
}

-- ---- lines

steps_tested : (devices : List Attached) (image : Contents) (c n : ℕ) (s : State) (r : Result (State × Answer) Refusal) → apply s (Step c) ≡ r → IsReplayed devices image s
    → ((v : State) → IsReplayed devices image v → IsReplayed devices image (steps c n v).0) → IsReplayed devices image (behind_step r s (steps c n)).0
steps_tested devices image c n s (Ok after) e h more = more after.0 (one_more devices image s (Step c) after e h)
steps_tested devices image c n s (Err r) e h more = h

steps_more : (devices : List Attached) (image : Contents) (c n : ℕ) (s : State) → IsReplayed devices image s → IsReplayed devices image (steps c n s).0
unfolding steps
steps_more devices image c zero s h = h
steps_more devices image c (suc n) s h = steps_tested devices image c n s (apply s (Step c)) refl h (λ v g. steps_more devices image c n v g)

unrefused : (o : Option Refusal) (s t : State) → unless_refused o s ≡ Some t → s ≡ t
unrefused None s t e = same_state s t e
unrefused (Some r) s t e = absurd cc

viewed : (r : Result (List ℕ) Refusal) (s t : State) → after_view r s ≡ Some t → s ≡ t
viewed (Ok text) s t e = same_state s t e
viewed (Err r) s t e = absurd cc

event_more : (devices : List Attached) (image : Contents) (s t : State) (event : Event) (r : Result (State × Answer) Refusal) → apply s event ≡ r → after_event r ≡ Some t → IsReplayed devices image s → IsReplayed devices image t
event_more devices image s t event (Ok after) is e h = subst (IsReplayed devices image) (same_state after.0 t e) (one_more devices image s event after is h)
event_more devices image s t event (Err r) is e h = absurd cc

line_more : (devices : List Attached) (image : Contents) (line : Line) (s t : State) → after_line line s ≡ Some t → IsReplayed devices image s → IsReplayed devices image t
line_more devices image Blank s t e h = subst (IsReplayed devices image) (same_state s t e) h
line_more devices image (Boots boot) s t e h = absurd cc
line_more devices image (Steps c n) s t e h = subst (IsReplayed devices image) (unrefused (steps c n s).1 (steps c n s).0 t e) (steps_more devices image c n s h)
line_more devices image (One event) s t e h = event_more devices image s t event (apply s event) refl e h
line_more devices image (Show view) s t e h = subst (IsReplayed devices image) (viewed (shown view s) s t e) h

read_more : (devices : List Attached) (image : Contents) (o : Option Line) (s t : State) → after_read o s ≡ Some t → IsReplayed devices image s → IsReplayed devices image t
read_more devices image None s t e h = absurd cc
read_more devices image (Some line) s t e h = line_more devices image line s t e h

-- the others come behind a line
then_more : (devices : List Attached) (image : Contents) (o : Option State) (others : State → Option State) (t : State) → with_state o others ≡ Some t → ((v : State) → o ≡ Some v → IsReplayed devices image v)
    → ((v : State) → IsReplayed devices image v → others v ≡ Some t → IsReplayed devices image t) → IsReplayed devices image t
then_more devices image None others t e h more = absurd cc
then_more devices image (Some s) others t e h more = more s (h s refl) e

lines_more : (devices : List Attached) (image : Contents) (lines : List (List ℕ)) (s t : State) → IsReplayed devices image s → after_lines lines s ≡ Some t → IsReplayed devices image t
lines_more devices image [] s t h e = subst (IsReplayed devices image) (same_state s t e) h
lines_more devices image (line ∷ lines) s t h e =
    then_more devices image (after_read (line_at line) s) (after_lines lines) t e (λ v is. read_more devices image (line_at line) s v is h) (λ v g is. lines_more devices image lines v t g is)

-- ---- the boot

loaded_boot : (o : Option Refusal) (image : Contents) (s first : State) → load_unless o image s ≡ Ok first → first.boot ≡ s.boot
loaded_boot None image s first e = ap (λ (x : State). x.boot) (sym (same_loaded _ first e))
loaded_boot (Some r) image s first e = absurd cc

load_boot : (image : Contents) (s first : State) → load image s ≡ Ok first → first.boot ≡ s.boot
unfolding load
load_boot image s first e = loaded_boot (load_refusal image s) image s first e

loaded_first : (devices : List Attached) (image : Contents) (boot : Boot) (r : Result State Refusal) (t : State) → load image (start devices boot) ≡ r → loaded_state r ≡ Some t → IsReplayed devices image t
loaded_first devices image boot (Ok first) t is e =
    let same = same_state first t e in
    subst (IsReplayed devices image) same (record {
      first = first;
      begun = ap (λ (b : Boot). load image (start devices b)) (load_boot image (start devices boot) first is) ∙ is;
      replays = empty_as_replay first (loaded_fresh devices image boot first is);
    })
loaded_first devices image boot (Err r) t is e = absurd cc

boot_first : (devices : List Attached) (image : Contents) (boot : Boot) (bad : Bool) (t : State) → cond bad None (loaded_state (load image (start devices boot))) ≡ Some t → IsReplayed devices image t
boot_first devices image boot true t e = absurd cc
boot_first devices image boot false t e = loaded_first devices image boot (load image (start devices boot)) t refl e

first_booted : (devices : List Attached) (image : Contents) (o : Option Line) (t : State) → booted_by devices image o ≡ Some t → IsReplayed devices image t
first_booted devices image (Some (Boots boot)) t e = boot_first devices image boot (bad_boot boot) t e
first_booted devices image _ t e = absurd cc

-- ---- a script

pub script_replayed : (devices : List Attached) (image : Contents) (lines : List (List ℕ)) (t : State) → script_machine devices image lines ≡ Some t → IsReplayed devices image t
script_replayed devices image [] t e = absurd cc
script_replayed devices image (line ∷ lines) t e =
    then_more devices image (booted_by devices image (line_at line)) (after_lines lines) t e (λ v is. first_booted devices image (line_at line) v is) (λ v g is. lines_more devices image lines v t g is)

-- the journal of a session's machine brings it back
pub replays : (image : Contents) (s : Sitting) → IsScripted program_devices image s → GoodState s.machine → AreJournaled s.machine.journal → ReplaysMachine image (Some s)
replays image s scripted good journaled =
    let r = script_replayed program_devices image s.lines s.machine scripted.made in
    replays_at s.machine good.boot (machine_journal s.machine good journaled) program_devices image r.first r.begun r.replays

pub replays_in : (image : Contents) (sitting : Option Sitting) (s : Sitting) (m : State) → sitting ≡ Some s → m ≡ s.machine → IsScriptedIn image sitting → GoodState m → AreJournaled m.journal → ReplaysMachine image sitting
replays_in image sitting s m is lent scripted good journaled =
    let here : IsScripted program_devices image s = subst (IsScriptedIn image) is scripted in
    let whole = replays image s here (subst GoodState lent good) (subst (λ (x : State). AreJournaled x.journal) lent journaled) in
    subst (ReplaysMachine image) (sym is) whole
