-- The watchdog: an out-of-band task that a processor runs for too many ticks in a row goes in-band.
use Rattle.std.specs.Prelude.{ℕ, ◌+◌, ◌==◌, ◌&&◌, Option, Some, None, Bool, not, nat_le, if◌then◌else◌, slice_get}
use Rattle.evm_model.specs.Current.{current, is_oob, differs}
use Rattle.evm_model.specs.Notices.{notify}
use Rattle.evm_model.specs.Ranks.{may_run_oob}
use Rattle.evm_model.specs.State.{Parts, on_watch}
use Rattle.evm_model.specs.Tasks.{restamp, set_state}
use Rattle.evm_model.specs.declared.notice.NoticeKind.TheVariants.{Overran}
use Rattle.evm_model.specs.declared.task.TaskState.TheVariants.{InReady}

abbrev pub or_zero : Option ℕ → ℕ
or_zero None = 0
or_zero (Some n) = n

-- for how many ticks in a row the out-of-band task of processor c has been found current
abbrev pub watch : ℕ → Parts → ℕ
watch c p = or_zero (slice_get p.watches c)

-- task t of processor c goes in-band, with a notice, and nothing is counted; its stage isn't stalled
unfoldable pub overrun : ℕ → ℕ → Parts → Parts
overrun c t p = notify Overran t (restamp t (set_state t InReady (on_watch c (λ _. 0) p)))

-- a tick more for task t of processor c, which is ready out-of-band; at the last one it goes in-band
abbrev pub watch_task : ℕ → ℕ → Parts → Parts
watch_task c t p = if nat_le p.profile.watchdog (watch c p + 1) then overrun c t p else on_watch c (λ n. n + 1) p

-- a tick for the task that was current on c, where there is a watchdog
unfoldable pub watch_was : Option ℕ → ℕ → Parts → Parts
watch_was None c p = p
watch_was (Some t) c p = if not (p.profile.watchdog == 0) && may_run_oob c p.tasks t then watch_task c t p else p

-- nothing is counted unless an out-of-band task stays current
unfoldable pub rest_watch : Option ℕ → ℕ → Parts → Parts
rest_watch was c p = if is_oob (current c p) p.tasks && not (differs (current c p) was) then p else on_watch c (λ _. 0) p
