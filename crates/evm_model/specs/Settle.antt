-- What follows an event on a processor: it plays what waits, chooses its current task, and asks the others to reschedule.
use Rattle.std.specs.Prelude.{ℕ, List, [], ◌∷◌, Option, Some, None, Bool, true, false, not, ◌==◌, ◌&&◌, if◌then◌else◌, slice_get, length}
use Rattle.evm_lines.specs.Lines.{has_line}
use Rattle.evm_model.specs.Actions.{act, action_at}
pub use Rattle.evm_model.specs.Current.{current_of, current, is_oob_task, is_oob, differs}
use Rattle.evm_model.specs.Deadlines.{end_waits}
use Rattle.evm_model.specs.Lists.{each}
use Rattle.evm_model.specs.Pipes.{Pipe, raise, arrive, play}
use Rattle.evm_model.specs.Ranks.{best, next_in_band}
use Rattle.evm_model.specs.State.{Parts, on_pipe, on_processor}
use Rattle.evm_model.specs.Tasks.{spend_task}
use Rattle.evm_model.specs.Timers.{expire_timers}
use Rattle.evm_model.specs.Waits.{wake_below}
use Rattle.evm_model.specs.Watch.{watch_was, rest_watch}
use Rattle.evm_model.specs.declared.processor.Processor.{Processor}
use Rattle.evm_model.specs.declared.stage.Stage.TheVariants.{OutOfBand, InBand}

-- a tick of the slice of this task, if there is one
unfoldable pub spend : Option ℕ → Parts → Parts
spend None p = p
spend (Some t) p = spend_task (slice_get p.tasks t) t p

-- ---- `was`, from here on, is the task that was current on c before the event
-- the timer's line is played on c: it goes on into the in-band log, for the in-band tick; then deadlines end waits, timers
-- expire, that task's slice takes a tick, and the watchdog counts one
unfoldable pub play_tick : Option ℕ → ℕ → Parts → Parts
play_tick was c p = watch_was was c (spend was (expire_timers c (end_waits c (on_pipe c (arrive InBand 0) p))))

-- what an out-of-band play does, by its line: line 1 has no action
abbrev pub handle_oob : Option ℕ → ℕ → ℕ → Parts → Parts
handle_oob was c l p = if l == 0 then play_tick was c p else act (action_at l p) l p

-- line l is played out-of-band on c
unfoldable pub play_oob : Option ℕ → ℕ → ℕ → Parts → Parts
play_oob was c l p = handle_oob was c l (on_pipe c (play OutOfBand l) p)

-- line l is played in-band on c: the tasks that wait there for it wake
unfoldable pub play_in_band : ℕ → ℕ → Parts → Parts
play_in_band c l p = wake_below c l (length p.tasks) (on_pipe c (play InBand l) p)

-- lines are played one after another, in the order of the list
unfoldable pub play_oob_lines : Option ℕ → ℕ → List ℕ → Parts → Parts
play_oob_lines was c [] p = p
play_oob_lines was c (l ∷ ls) p = play_oob_lines was c ls (play_oob was c l p)

unfoldable pub play_in_band_lines : ℕ → List ℕ → Parts → Parts
play_in_band_lines c [] p = p
play_in_band_lines c (l ∷ ls) p = play_in_band_lines c ls (play_in_band c l p)

-- the best out-of-band task is current, or none
abbrev pub run_best : ℕ → Parts → Parts
run_best c p = on_processor c (λ processor. record processor { current = best c p.mutexes p.tasks }) p

-- the out-of-band part: unless it is stalled the log is played, and the best task is current
abbrev pub settle_oob_pipe : Option Pipe → Option ℕ → ℕ → Parts → Parts
settle_oob_pipe None was c p = p
settle_oob_pipe (Some pipe) was c p = if pipe.oob.stalled then p else run_best c (play_oob_lines was c pipe.oob.lines p)

unfoldable pub settle_oob : Option ℕ → ℕ → Parts → Parts
settle_oob was c p = settle_oob_pipe (slice_get p.pipes c) was c p

-- the in-band current task stays, or the ready one of least stamp is taken up; it is current
abbrev pub take_up : Option ℕ → Option ℕ → Option ℕ
take_up None next = next
take_up (Some t) next = Some t

abbrev pub run_task : Option ℕ → Processor → Processor
run_task task p = record p { current = task; in_band_task = task }

abbrev pub run_in_band : ℕ → Parts → Parts
run_in_band c p = on_processor c (λ processor. run_task (take_up processor.in_band_task (next_in_band c p.tasks)) processor) p

-- unless it is stalled the in-band log is played
abbrev pub play_in_band_pipe : Option Pipe → ℕ → Parts → Parts
play_in_band_pipe None c p = p
play_in_band_pipe (Some pipe) c p = if pipe.in_band.stalled then p else play_in_band_lines c pipe.in_band.lines p

unfoldable pub turn_in_band : ℕ → Parts → Parts
turn_in_band c p = run_in_band c (play_in_band_pipe (slice_get p.pipes c) c p)

-- the in-band part comes where no out-of-band task is current
unfoldable pub settle_in_band : ℕ → Parts → Parts
settle_in_band c p = if is_oob (current c p) p.tasks then p else turn_in_band c p

unfoldable pub settle : Option ℕ → ℕ → Parts → Parts
settle was c p = rest_watch was c (settle_in_band c (settle_oob was c p))

-- processor d has a better task than its current one, and can be nudged: it isn't stalled, and line 1 isn't on its wire
abbrev pub wants_nudge : ℕ → Pipe → Parts → Bool
wants_nudge d pipe p = not pipe.oob.stalled && (not (has_line pipe.wire 1) && differs (best d p.mutexes p.tasks) (current d p))

abbrev pub nudge_pipe : ℕ → Parts → ℕ → Pipe → Pipe
nudge_pipe c p d pipe = if d == c then pipe else (if wants_nudge d pipe p then raise 1 pipe else pipe)

-- line 1 is raised on each other processor than c that wants it
unfoldable pub nudge : ℕ → Parts → Parts
nudge c p = record p { pipes = each (nudge_pipe c p) p.pipes }

-- c settles, and tells the others
unfoldable pub settle_and_nudge : Option ℕ → ℕ → Parts → Parts
settle_and_nudge was c p = nudge c (settle was c p)
