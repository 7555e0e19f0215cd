-- One more line, `journal`, prints the journal behind the rest.
use Rattle.std.proofs.Common.{◌≡◌, ℕ, ◌+◌, List, [], ◌∷◌, ◌++◌, Option, Some, None, refl, ap, sym, ◌∙◌}
use Rattle.std.specs.Prelude.{codes}
use Rattle.std.proofs.lemmas.List.{append-nil, append_assoc}
use Rattle.evm_model.specs.State.{State}
use Rattle.evm_serve.specs.evm_journal.Journal.{journal_text}
use Rattle.evm_serve.specs.evm_debug.LineReading.{line_at}
use Rattle.evm_serve.specs.evm_debug.Views.{shown}
use Rattle.evm_serve.specs.evm_debug.declared.line.Line.TheVariants as lines
use Rattle.evm_serve.specs.evm_debug.declared.line.View.TheVariants.{Journal}
use Rattle.evm_serve.proofs.evm_debug.Lines.{reads_lines}
use Rattle.evm_serve.specs.evm_text.Lines.{text_lines}
use Rattle.evm_serve.specs.RunOptions.{RunOptions}
use Rattle.evm_serve.specs.Script.{Report, LineOutcome, Goes, Ends, behind, run_on, line_outcome, lines_report}
use Rattle.evm_serve.specs.declared.ending.Verdict.TheVariants.{Done}
use Rattle.claims_texts.specs.Scripts.{goes_on, machine_after, PrintsItsJournal}

journal-line : line_at (codes "journal") ≡ Some (lines.Show Journal)
journal-line = (reads_lines (lines.Show Journal) (codes "journal")).1 (refl, tt)

-- a text in front of a report
front : (text : List ℕ) (a b : Report) (more : List ℕ) → a ≡ record { text = b.text ++ more; verdict = Done } → behind text a ≡ record { text = (behind text b).text ++ more; verdict = Done }
front text a b more e = rw e (ap (λ (t : List ℕ). record { text = t; verdict = Done }) (sym (append_assoc text b.text more)))

on-printed : (t : LineOutcome) (long short : Option State → Report) (others : Option State → Option State) (s : State) (more : List ℕ)
    → ((machine : Option State) → others machine ≡ Some s → long machine ≡ record { text = (short machine).text ++ more; verdict = Done })
    → goes_on t others ≡ Some s → run_on t long ≡ record { text = (run_on t short).text ++ more; verdict = Done }
on-printed (Goes text machine) long short others s more h e = front text (long machine) (short machine) more (h machine e)
on-printed (Ends fault) long short others s more h e = cc

last-printed : (options : RunOptions) (n : ℕ) (s : State) → lines_report options n (codes "journal" ∷ []) (Some s) ≡ record { text = journal_text s.boot s.journal; verdict = Done }
unfolding lines_report shown
last-printed options n s = rw journal-line (ap (λ (t : List ℕ). record { text = t; verdict = Done }) (append-nil (journal_text s.boot s.journal)))

prints-on : (options : RunOptions) (n : ℕ) (ls : List (List ℕ)) (machine : Option State) (s : State) → machine_after options n ls machine ≡ Some s
    → lines_report options n (ls ++ codes "journal" ∷ []) machine ≡ record { text = (lines_report options n ls machine).text ++ journal_text s.boot s.journal; verdict = Done }
unfolding machine_after lines_report
prints-on options n [] machine s e = ap (lines_report options n (codes "journal" ∷ [])) e ∙ last-printed options n s
prints-on options n (line ∷ ls) machine s e =
    on-printed (line_outcome options n machine (line_at line)) (lines_report options (n + 1) (ls ++ codes "journal" ∷ [])) (lines_report options (n + 1) ls) (machine_after options (n + 1) ls) s
    (journal_text s.boot s.journal) (λ m h. prints-on options (n + 1) ls m s h) e

pub prints_its_journal : PrintsItsJournal
prints_its_journal options script s e = prints-on options 1 (text_lines script) None s e
