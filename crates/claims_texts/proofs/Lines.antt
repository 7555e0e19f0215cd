-- Each line of a session goes on in a run, with the machine that it made.
use Rattle.std.proofs.Common.{◌≡◌, ℕ, ◌+◌, Bool, true, false, List, [], ◌∷◌, Option, Some, None, refl, ap, sym, ◌∙◌}
use Rattle.std.specs.Prelude.{Result, Ok, Err, if◌then◌else◌}
use Rattle.evm_ram.specs.Images.{Contents}
use Rattle.evm_model.specs.Devices.{Attached}
use Rattle.evm_model.specs.Event.{Event}
use Rattle.evm_model.specs.Replay.{apply, bad_boot, start}
use Rattle.evm_model.specs.State.{State}
use Rattle.evm_model.specs.declared.boot.Boot.{Boot}
use Rattle.evm_model.specs.declared.event.Answer.{Answer}
use Rattle.evm_model.specs.declared.refusal.Refusal.{Refusal}
use Rattle.evm_model.specs.declared.refusal.Refusal.TheVariants.{BadSize}
use Rattle.evm_serve.specs.evm_core.Load.{load}
use Rattle.evm_serve.specs.evm_core.Steps.{steps}
use Rattle.evm_serve.specs.evm_debug.LineReading.{line_at}
use Rattle.evm_serve.specs.evm_debug.Views.{shown}
use Rattle.evm_serve.specs.evm_debug.declared.line.Line.{Line}
use Rattle.evm_serve.specs.evm_debug.declared.line.Line.TheVariants as lines
use Rattle.evm_serve.specs.evm_debug.declared.line.View.{View}
use Rattle.evm_serve.specs.evm_text.Lines.{text_lines}
use Rattle.evm_serve.specs.RunOptions.{RunOptions, image_options}
use Rattle.evm_serve.specs.Script.{LineOutcome, Goes, Ends, Report, after_steps, behind, boot_outcome, booted_outcome, event_outcome, line_outcome, lines_report, run_on, script_report, unbooted_outcome, view_outcome}
use Rattle.evm_serve.specs.declared.ending.Verdict.TheVariants.{Done}
use Rattle.claims_texts.specs.Scripts as runs
use Rattle.evm_serve.specs.Sitting.{Sitting}
use Rattle.evm_serve.specs.Scripted.{IsScripted, after_event, after_line, after_lines, after_read, after_view, booted_by, with_state, script_of, loaded_state, script_machine, unless_refused}
use Rattle.evm_serve.proofs.SessionTexts.{text_is}
use Rattle.claims_texts.specs.Sessions.{IsRunAgain}

-- the outcome of a line: it goes on with a machine
record GoesWith (t : LineOutcome) (s : State) : Type 0 where
  pub text : List ℕ
  pub same : t ≡ Goes text (Some s)

event-goes : (n : ℕ) (event : Event) (r : Result (State × Answer) Refusal) (s : State) → after_event r ≡ Some s → GoesWith (event_outcome n event r) s
event-goes n event (Ok after) s e = record { text = []; same = ap (Goes []) e }
event-goes n event (Err refusal) s e = cc

steps-go : (n c : ℕ) (s t : State) (o : Option Refusal) → unless_refused o t ≡ Some s → GoesWith (after_steps n c t o) s
steps-go n c s t None e = record { text = []; same = ap (Goes []) e }
steps-go n c s t (Some refusal) e = cc

view-goes : (n : ℕ) (view : View) (s t : State) (r : Result (List ℕ) Refusal) → after_view r t ≡ Some s → GoesWith (view_outcome n view t r) s
view-goes n view s t (Ok text) e = record { text = text; same = ap (Goes text) e }
view-goes n view s t (Err refusal) e = cc

boot-goes : (n : ℕ) (bad : Bool) (r : Result State Refusal) (s : State) → (if bad then None else loaded_state r) ≡ Some s → GoesWith (boot_outcome n (if bad then Err BadSize else r)) s
boot-goes n true r s e = cc
boot-goes n false (Ok t) s e = record { text = []; same = ap (Goes []) e }
boot-goes n false (Err refusal) s e = cc

line-goes : (n : ℕ) (t s : State) (line : Line) → after_line line t ≡ Some s → GoesWith (booted_outcome n t line) s
line-goes n t s lines.Blank e = record { text = []; same = ap (Goes []) e }
line-goes n t s (lines.Boot boot) e = cc
line-goes n t s (lines.Steps c count) e = steps-go n c s (steps c count t).0 (steps c count t).1 e
line-goes n t s (lines.One event) e = event-goes n event (apply t event) s e
line-goes n t s (lines.Show view) e = view-goes n view s t (shown view t) e

read-goes : (options : RunOptions) (n : ℕ) (t s : State) (line : Option Line) → after_read line t ≡ Some s → GoesWith (line_outcome options n (Some t) line) s
read-goes options n t s None e = cc
read-goes options n t s (Some line) e = line-goes n t s line e

first-goes : (devices : List Attached) (image : Contents) (n : ℕ) (s : State) (line : Option Line) → booted_by devices image line ≡ Some s → GoesWith (line_outcome (image_options devices image) n None line) s
first-goes devices image n s None e = cc
first-goes devices image n s (Some lines.Blank) e = cc
first-goes devices image n s (Some (lines.Boot boot)) e = boot-goes n (bad_boot boot) (load image (start devices boot)) s e
first-goes devices image n s (Some (lines.Steps c count)) e = cc
first-goes devices image n s (Some (lines.One event)) e = cc
first-goes devices image n s (Some (lines.Show view)) e = cc

-- the others of a run leave this machine, and are all done
record LeaveFrom (others : Option State → Option State) (report : Option State → Report) (t s : State) : Type 0 where
  pub machine : others (Some t) ≡ Some s
  pub verdict : (report (Some t)).verdict ≡ Done

-- so does a line in front of them
record Leave (t : LineOutcome) (others : Option State → Option State) (report : Option State → Report) (s : State) : Type 0 where
  pub machine : runs.goes_on t others ≡ Some s
  pub verdict : (run_on t report).verdict ≡ Done

leave-on : (t : LineOutcome) (others : Option State → Option State) (report : Option State → Report) (u s : State) → GoesWith t u → LeaveFrom others report u s → Leave t others report s
leave-on t others report u s g h = record {
  machine = ap (λ x. runs.goes_on x others) g.same ∙ h.machine;
  verdict = ap (λ x. (run_on x report).verdict) g.same ∙ h.verdict;
}

lines-next : (o : Option State) (ls : List (List ℕ)) (t : LineOutcome) (others : Option State → Option State) (report : Option State → Report) (s : State)
    → ((u : State) → o ≡ Some u → GoesWith t u) → ((u : State) → after_lines ls u ≡ Some s → LeaveFrom others report u s) → with_state o (after_lines ls) ≡ Some s → Leave t others report s
lines-next None ls t others report s g h e = cc
lines-next (Some u) ls t others report s g h e = leave-on t others report u s (g u refl) (h u e)

lines-go : (options : RunOptions) (n : ℕ) (ls : List (List ℕ)) (t s : State) → after_lines ls t ≡ Some s → LeaveFrom (runs.machine_after options n ls) (lines_report options n ls) t s
unfolding lines_report runs.machine_after
lines-go options n [] t s e = record { machine = e; verdict = refl }
lines-go options n (line ∷ ls) t s e =
    let it = lines-next (after_read (line_at line) t) ls (line_outcome options n (Some t) (line_at line)) (runs.machine_after options (n + 1) ls) (lines_report options (n + 1) ls) s
    (λ u h. read-goes options n t u (line_at line) h) (λ u h. lines-go options (n + 1) ls u s h) e in
    record { machine = it.machine; verdict = it.verdict }

script-goes : (devices : List Attached) (image : Contents) (ls : List (List ℕ)) (s : State) → script_machine devices image ls ≡ Some s
    → (runs.machine_after (image_options devices image) 1 ls None ≡ Some s) × ((lines_report (image_options devices image) 1 ls None).verdict ≡ Done)
unfolding lines_report runs.machine_after
script-goes devices image [] s e = cc
script-goes devices image (line ∷ ls) s e =
    let options = image_options devices image in
    let it = lines-next (booted_by devices image (line_at line)) ls (line_outcome options 1 None (line_at line)) (runs.machine_after options 2 ls) (lines_report options 2 ls) s
    (λ u h. first-goes devices image 1 u (line_at line) h) (λ u h. lines-go options 2 ls u s h) e in
    (it.machine, it.verdict)

pub is_run_again : IsRunAgain
unfolding script_report
is_run_again devices image s h = script-goes devices image (text_lines (script_of s.lines)) s.machine (text_is devices image s h)
