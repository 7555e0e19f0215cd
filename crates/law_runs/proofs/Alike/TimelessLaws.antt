-- Boards that are alike except for their clocks stay so.
use Rattle.std.proofs.Common.{◌≡◌, ℕ, zero, suc, [], ◌∷◌, refl, sym, ◌∙◌}
use Rattle.evm_model.specs.Deadlines.{deadline}
use Rattle.evm_model.specs.Event.{Event}
use Rattle.evm_model.specs.Load.{load_board}
use Rattle.evm_model.specs.State.{Board, booted, booted_parts, first_task}
use Rattle.evm_model.specs.declared.event.Event.TheVariants.{Step, StepI}
use Rattle.law_runs.specs.Alike.{AlikeBoards}
use Rattle.law_runs.specs.Timeless.{timeless, timeless_board, makes_timed_call, hart_at, is_at_timed_call, may_call_clock, NoTimes, AlikeTimeless, RowsKeepAlikeTimeless, AlikeCallNoClock, BootsHaveNoTimes}
use Rattle.law_runs.proofs.Alike.Changing.{alike_by}
use Rattle.law_runs.proofs.Alike.Reading.{harts-same, current-same}
use Rattle.law_runs.proofs.Alike.Rows.{rows_keep_alike}
use Rattle.law_runs.proofs.Alike.TimelessRows.{timeless_rows}

-- ---- calls
timed_call-same : (a b : Board) → AlikeTimeless a b → (c : ℕ) → is_at_timed_call c b ≡ is_at_timed_call c a
timed_call-same a b s c = sym (λ i. makes_timed_call (hart_at (current-same s.parts c i) (harts-same s.parts i)) (s.memory i))

may_call-same : (e : Event) (a b : Board) → AlikeTimeless a b → may_call_clock e b ≡ may_call_clock e a
may_call-same (Step c) a b s = timed_call-same a b s c
may_call-same (StepI c) a b s = timed_call-same a b s c
may_call-same _ a b s = refl

pub alike_call_no_clock : AlikeCallNoClock
alike_call_no_clock e a b s none = may_call-same e a b s ∙ none

-- ---- rows
boards_timeless : {a b : Board} → AlikeBoards a b → AlikeBoards (timeless_board a) (timeless_board b)
boards_timeless s = record { memory = s.memory; breakpoints = s.breakpoints; parts = alike_by s.parts timeless (λ k. refl) (λ k. refl) (λ k. refl) }

pub rows_keep_alike_timeless : RowsKeepAlikeTimeless
rows_keep_alike_timeless e a b h k none s =
    let x = timeless_rows e a h none in let y = timeless_rows e b k (alike_call_no_clock e a b s none) in
    let rows = rows_keep_alike e (timeless_board a) (timeless_board b) s in
    (rw (x.0, y.0) (boards_timeless rows.0), x.1 ∙ rows.1 ∙ sym y.1, x.2, y.2)

-- ---- a machine that booted
first_deadline : (t : ℕ) → deadline (first_task ∷ []) t ≡ 0
first_deadline zero = refl
first_deadline (suc t) = refl

first_times : NoTimes (first_task ∷ []) []
first_times = record { no_deadline = first_deadline; no_timer = λ n. refl }

pub boots_have_no_times : BootsHaveNoTimes
unfolding booted booted_parts load_board
boots_have_no_times devices boot = (first_times, λ byte entry. first_times)
