-- The texts of the lines so far and the report of the lines that are left are the report of the script.
use Rattle.std.proofs.Common.{◌≡◌, ℕ, ◌+◌, List, [], ◌++◌, Option, None, refl, ap, sym, ◌∙◌, append_assoc}
use Rattle.std.proofs.lemmas.List.{append-nil}
use Rattle.evm_streams.specs.declared.sink.Writing.{Writing}
use Rattle.evm_streams.specs.Writes.{Took, TookPrefix}
use Rattle.evm_streams.proofs.Calls.{took_none, took_append, prefix_behind, prefix_longer}
use Rattle.evm_serve.specs.RunOptions.{RunOptions}
use Rattle.evm_model.specs.State.{State}
use Rattle.evm_diagnostics.specs.evm_debug.LineReading.{line_at}
use Rattle.evm_diagnostics.specs.evm_text.Lines.{text_of, text_lines, CutsLine}
use Rattle.evm_serve.specs.Serving.{EndsIn}
use Rattle.evm_serve.specs.FaultLines.{fault_text}
use Rattle.evm_serve.specs.declared.ending.Verdict.{Verdict}
use Rattle.evm_serve.specs.declared.ending.Verdict.TheVariants.{Done, Refused}
use Rattle.evm_diagnostics.specs.declared.fault.InputFault.{InputFault}
use Rattle.evm_serve.proofs.Endings.{ends_behind}
use Rattle.evm_serve.specs.Script.{Report, Goes, Ends, script_report, lines_report, line_outcome, behind}

behind-behind : (a b : List ℕ) (t : Report) → behind a (behind b t) ≡ behind (a ++ b) t
behind-behind a b t = ap (λ text. record { text = text; verdict = t.verdict }) (sym (append_assoc a b t.text))

module _ {W : Type 0} (takes : W → Writing → List ℕ → W → Type 0) where
  -- the text so far was written, and the report of the lines that are left comes behind it
  pub record WrittenSoFar (options : RunOptions) (all : Report) (old now : W) (n : ℕ) (rest : List ℕ) (machine : Option State) : Type 0 where
    pub prefix : List ℕ
    pub written : Took takes old prefix now
    pub left : all ≡ behind prefix (lines_report options n (text_lines rest) machine)

  -- at the start nothing is written, and all lines are left
  pub Written-start : (options : RunOptions) (script : List ℕ) (old : W) → WrittenSoFar options (script_report options script) old old 1 script None
  unfolding script_report
  Written-start options script old = record { prefix = []; written = took_none takes old; left = refl }

  -- a line goes on
  pub Written-goes : (options : RunOptions) (all : Report) (old now new : W) (n : ℕ) (rest line after text : List ℕ) (machine machine' : Option State) → WrittenSoFar options all old now n rest machine → CutsLine rest line after → line_outcome options n machine (line_at line) ≡ Goes text machine' → Took takes now text new → WrittenSoFar options all old new (n + 1) after machine'
  unfolding lines_report
  Written-goes options all old now new n rest line after text machine machine' h cut goes written = record {
    prefix = h.prefix ++ text;
    written = took_append takes old now new h.prefix text h.written written;
    left = h.left ∙ ap (behind h.prefix) (rw (cut.lines, goes) refl) ∙ behind-behind h.prefix text (lines_report options (n + 1) (text_lines after) machine');
  }

  -- a line ends the run
  pub Written-ends : (options : RunOptions) (all : Report) (old now : W) (n : ℕ) (rest line after : List ℕ) (fault : InputFault) (machine : Option State) (h : WrittenSoFar options all old now n rest machine) → CutsLine rest line after → line_outcome options n machine (line_at line) ≡ Ends fault → all ≡ record { text = h.prefix ++ fault_text fault; verdict = Refused fault }
  unfolding lines_report
  Written-ends options all old now n rest line after fault machine h cut ends = h.left ∙ ap (behind h.prefix) (rw (cut.lines, ends) refl)

  -- no line is left
  pub Written-done : (options : RunOptions) (all : Report) (old now : W) (n : ℕ) (rest : List ℕ) (machine : Option State) → WrittenSoFar options all old now n rest machine → rest ≡ [] → Took takes old all.text now × (Done ≡ all.verdict)
  unfolding lines_report text_lines text_of
  Written-done options all old now n rest machine h none =
      let over : all ≡ record { text = h.prefix ++ []; verdict = Done } = h.left ∙ ap (λ r. behind h.prefix (lines_report options n (text_lines r) machine)) none in
      rw over (rw (append-nil h.prefix) h.written, refl)

  -- the text so far is a prefix of the report
  pub Written-rest : (options : RunOptions) (all : Report) (old now : W) (n : ℕ) (rest : List ℕ) (machine : Option State) (h : WrittenSoFar options all old now n rest machine) → (rest : List ℕ) × (all.text ≡ h.prefix ++ rest)
  Written-rest options all old now n rest machine h = ((lines_report options n (text_lines rest) machine).text, ap (λ (t : Report). t.text) h.left)

  -- a line goes on, and its text could not be written whole
  pub Written-goes_fault : (options : RunOptions) (all : Report) (old now new : W) (n : ℕ) (rest line after text : List ℕ) (machine machine' : Option State) → WrittenSoFar options all old now n rest machine → CutsLine rest line after → line_outcome options n machine (line_at line) ≡ Goes text machine' → TookPrefix takes now text new → TookPrefix takes old all.text new
  unfolding lines_report
  Written-goes_fault options all old now new n rest line after text machine machine' h cut goes written =
      let others : List ℕ = (lines_report options (n + 1) (text_lines after) machine').text in
      let left : all ≡ behind h.prefix (behind text (lines_report options (n + 1) (text_lines after) machine')) = h.left ∙ ap (behind h.prefix) (rw (cut.lines, goes) refl) in
      rw left (prefix_behind takes old now new h.prefix (text ++ others) h.written (prefix_longer takes now new text others written))

  -- a line ends the run at its fault
  pub Written-ended_in : (options : RunOptions) (all : Report) (old now : W) (n : ℕ) (rest line after : List ℕ) (fault : InputFault) (machine : Option State) → WrittenSoFar options all old now n rest machine → CutsLine rest line after → line_outcome options n machine (line_at line) ≡ Ends fault → (verdict : Verdict) → EndsIn verdict (fault_text fault) → EndsIn verdict all.text
  Written-ended_in options all old now n rest line after fault machine h cut ends verdict is =
      rw (Written-ends options all old now n rest line after fault machine h cut ends) (ends_behind verdict h.prefix (fault_text fault) is)

  -- a line ends the run, and its text was written
  pub Written-ended : (options : RunOptions) (all : Report) (old now new : W) (n : ℕ) (rest line after : List ℕ) (fault : InputFault) (machine : Option State) → WrittenSoFar options all old now n rest machine → CutsLine rest line after → line_outcome options n machine (line_at line) ≡ Ends fault → Took takes now (fault_text fault) new → Took takes old all.text new × (Refused fault ≡ all.verdict)
  Written-ended options all old now new n rest line after fault machine h cut ends written =
      rw (Written-ends options all old now n rest line after fault machine h cut ends) (took_append takes old now new h.prefix (fault_text fault) h.written written, refl)

  -- a line ends the run, and its text could not be written whole
  pub Written-ended_fault : (options : RunOptions) (all : Report) (old now new : W) (n : ℕ) (rest line after : List ℕ) (fault : InputFault) (machine : Option State) → WrittenSoFar options all old now n rest machine → CutsLine rest line after → line_outcome options n machine (line_at line) ≡ Ends fault → TookPrefix takes now (fault_text fault) new → TookPrefix takes old all.text new
  Written-ended_fault options all old now new n rest line after fault machine h cut ends written =
      rw (Written-ends options all old now n rest line after fault machine h cut ends) (prefix_behind takes old now new h.prefix (fault_text fault) h.written written)
