use Rattle.law_runs.proofs.Turns.{lines_rise, logs_play_in_order, mutexes_pass_by_number, waiters_wake_by_number}
use Rattle.law_runs.proofs.goes_in_order.Goals as goal

pub returns : goal.returns
returns c = record { rise = lines_rise; plays = logs_play_in_order; wakes = waiters_wake_by_number; passes = mutexes_pass_by_number }
