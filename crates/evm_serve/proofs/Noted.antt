-- The notes that were written so far, and those of the lines that are left.
use Rattle.std.proofs.Common.{◌≡◌, ℕ, zero, suc, ◌+◌, List, [], ◌∷◌, ◌++◌, Option, None, Result, Ok, Err, refl, ap, sym, ◌∙◌, subst, append_assoc, add-one}
use Rattle.std.proofs.lemmas.List.{append-nil}
use Rattle.std.specs.Prelude.{slice_get}
use Rattle.evm_diagnostics.specs.evm_debug.LineReading.{line_at}
use Rattle.evm_diagnostics.specs.evm_text.Lines.{text_of, text_lines, CutsLine}
use Rattle.evm_model.specs.State.{Board, State}
use Rattle.evm_streams.specs.declared.sink.Writing.{Writing}
use Rattle.evm_diagnostics.proofs.Notes.{tells_append}
use Rattle.evm_serve.specs.RunOptions.{RunOptions}
use Rattle.evm_streams.specs.Diagnostic.{Place, TellsAll, TellsSome}
use Rattle.evm_diagnostics.specs.Notes.{note_places, ended_places}
use Rattle.evm_serve.specs.RunNotes.{noted_at, lines_noted, notes, PlaysNotes}
use Rattle.evm_serve.specs.Script.{Goes, Ends, line_outcome}
use Rattle.evm_serve.specs.declared.ending.Halt.{Halt}
use Rattle.evm_serve.specs.declared.ending.Verdict.{Verdict}
use Rattle.evm_diagnostics.specs.declared.fault.InputFault.{InputFault}

module _ {E : Type 0} (takes : E → Writing → List ℕ → E → Type 0) where
  pub some_of_all : (a b : E) (places : List Place) → TellsAll takes places a b → TellsSome takes places a b
  some_of_all a b places all = (places, [], sym (append-nil places), all)

  pub plays_notes : (a b : E) (places : List Place) (outcome : Result Verdict Halt) → TellsAll takes places a b → PlaysNotes takes places outcome a b
  plays_notes a b places (Ok verdict) all = all
  plays_notes a b places (Err halt) all = some_of_all a b places all

  -- the notes so far were written, and those of the lines that are left come behind them
  pub record NotedSoFar (options : RunOptions) (name : List ℕ) (all : List Place) (old now : E) (n : ℕ) (rest : List ℕ) (machine : Option State) : Type 0 where
    pub front : List Place
    pub told : TellsAll takes front old now
    pub left : all ≡ front ++ lines_noted options name n (text_lines rest) machine

  pub Noted-start : (options : RunOptions) (name script : List ℕ) (old : E) → NotedSoFar options name (notes options name script) old old 1 script None
  unfolding notes
  Noted-start options name script old = record { front = []; told = refl; left = refl }

  pub Noted-goes : (options : RunOptions) (name : List ℕ) (all : List Place) (old now new : E) (n : ℕ) (rest line after text : List ℕ) (here : List Place) (machine machine' : Option State) → NotedSoFar options name all old now n rest machine → CutsLine rest line after → line_outcome options n machine (line_at line) ≡ Goes text machine' → note_places name n (noted_at machine (line_at line)) ≡ here → TellsAll takes here now new → NotedSoFar options name all old new (n + 1) after machine'
  unfolding lines_noted
  Noted-goes options name all old now new n rest line after text here machine machine' h cut goes noted reports = record {
    front = h.front ++ here;
    told = tells_append takes old now new h.front here h.told reports;
    left = h.left ∙ ap (λ t. h.front ++ t) (rw (cut.lines, goes, noted) refl) ∙ sym (append_assoc h.front here (lines_noted options name (n + 1) (text_lines after) machine'));
  }

  -- a line ends the run
  pub Noted-ends : (options : RunOptions) (name : List ℕ) (all : List Place) (old now : E) (n : ℕ) (rest line after : List ℕ) (fault : InputFault) (machine : Option State) → NotedSoFar options name all old now n rest machine → CutsLine rest line after → line_outcome options n machine (line_at line) ≡ Ends fault → note_places name n (noted_at machine (line_at line)) ≡ [] → TellsAll takes all old now
  unfolding lines_noted
  Noted-ends options name all old now n rest line after fault machine h cut ends noted =
      let whole : all ≡ h.front ++ [] = h.left ∙ ap (λ t. h.front ++ t) (rw (cut.lines, ends, noted) refl) in
      rw whole (rw (append-nil h.front) h.told)

  -- no line is left
  pub Noted-done : (options : RunOptions) (name : List ℕ) (all : List Place) (old now new : E) (n : ℕ) (rest : List ℕ) (machine : Option State) → NotedSoFar options name all old now n rest machine → rest ≡ [] → TellsAll takes (ended_places name machine) now new → TellsAll takes all old new
  unfolding lines_noted text_lines text_of
  Noted-done options name all old now new n rest machine h none reports =
      let whole : all ≡ h.front ++ ended_places name machine = h.left ∙ ap (λ r. h.front ++ lines_noted options name n (text_lines r) machine) none in
      rw whole (tells_append takes old now new h.front (ended_places name machine) h.told reports)

  pub Noted-some : (options : RunOptions) (name : List ℕ) (all : List Place) (old now : E) (n : ℕ) (rest : List ℕ) (machine : Option State) → NotedSoFar options name all old now n rest machine → TellsSome takes all old now
  Noted-some options name all old now n rest machine h = (h.front, lines_noted options name n (text_lines rest) machine, h.left, h.told)
