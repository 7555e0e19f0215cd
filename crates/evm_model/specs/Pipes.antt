-- One processor's pipe of interrupts: its wire, the logs of its two stages, and its counts.
use Rattle.std.specs.Prelude.{ℕ, ◌+◌, List, [], Bool, false, nat_lt, if◌then◌else◌, replicate}
use Rattle.evm_lines.specs.Lines.{has_line, with_line, without_line}
use Rattle.evm_lines.specs.declared.TheConstants.{LINES}
use Rattle.evm_model.specs.Lists.{change}
use Rattle.evm_model.specs.declared.action.Action.{Action}
use Rattle.evm_model.specs.declared.action.Action.TheVariants.{Nothing}
use Rattle.evm_model.specs.declared.counts.Counts.{Counts}
use Rattle.evm_model.specs.declared.counts.Passage.{Passage}
use Rattle.evm_model.specs.declared.stage.Stage.{Stage}
use Rattle.evm_model.specs.declared.stage.Stage.TheVariants.{OutOfBand, InBand}
use Rattle.evm_model.specs.declared.stage.StageLog.{StageLog}

pub record Pipe : Type 0 where
  -- the out-of-band stage's stall bit, and the lines that wait there
  pub oob : StageLog
  -- the in-band stage's
  pub in_band : StageLog
  -- the lines that were raised and not yet received
  pub wire : List ℕ
  -- of each line, how often what happened to it
  pub counts : List Counts

-- where nothing has happened
abbrev pub idle_log : StageLog
idle_log = record { stalled = false; lines = [] }

abbrev pub no_passage : Passage
no_passage = record { arrivals = 0; merged = 0; played = 0 }

abbrev pub no_counts : Counts
no_counts = record { raised = 0; merged = 0; received = 0; oob = no_passage; in_band = no_passage }

abbrev pub idle_pipe : Pipe
idle_pipe = record { oob = idle_log; in_band = idle_log; wire = []; counts = replicate LINES no_counts }

-- line 0 is the timer, line 1 asks a processor to reschedule: these two are the out-of-band stage's
abbrev pub is_oob_line : ℕ → Bool
is_oob_line l = nat_lt l 2

abbrev pub stage_by : Action → Stage
stage_by Nothing = InBand
stage_by _ = OutOfBand

-- the stage that receives a line with this action: out-of-band for these two, and where it has one
abbrev pub stage_of : Action → ℕ → Stage
stage_of action l = if is_oob_line l then OutOfBand else stage_by action

abbrev pub log_of : Stage → Pipe → StageLog
log_of OutOfBand p = p.oob
log_of InBand p = p.in_band

abbrev pub on_log : Stage → (StageLog → StageLog) → Pipe → Pipe
on_log OutOfBand f p = record p { oob = f p.oob }
on_log InBand f p = record p { in_band = f p.in_band }

abbrev pub on_passage : Stage → (Passage → Passage) → Counts → Counts
on_passage OutOfBand f n = record n { oob = f n.oob }
on_passage InBand f n = record n { in_band = f n.in_band }

-- one more, where the test holds
abbrev pub more_if : Bool → ℕ → ℕ
more_if b n = if b then n + 1 else n

abbrev pub count_raise : Bool → Counts → Counts
count_raise merged n = record n { raised = n.raised + 1; merged = more_if merged n.merged }

abbrev pub count_receipt : Counts → Counts
count_receipt n = record n { received = n.received + 1 }

abbrev pub count_arrival : Bool → Passage → Passage
count_arrival merged n = record n { arrivals = n.arrivals + 1; merged = more_if merged n.merged }

abbrev pub count_play : Passage → Passage
count_play n = record n { played = n.played + 1 }

-- the counts of line l changed
abbrev pub on_counts : ℕ → (Counts → Counts) → Pipe → Pipe
on_counts l f p = record p { counts = change f p.counts l }

-- line l is put on the wire, or merges with itself there
unfoldable pub raise : ℕ → Pipe → Pipe
raise l p = on_counts l (count_raise (has_line p.wire l)) (record p { wire = with_line p.wire l })

-- line l arrives in the log of a stage, or merges with itself there
unfoldable pub arrive : Stage → ℕ → Pipe → Pipe
arrive stage l p =
    on_counts l (on_passage stage (count_arrival (has_line (log_of stage p).lines l)))
    (on_log stage (λ log. record log { lines = with_line log.lines l }) p)

-- line l leaves the wire
unfoldable pub leave_wire : ℕ → Pipe → Pipe
leave_wire l p = on_counts l count_receipt (record p { wire = without_line p.wire l })

-- line l is received: it leaves the wire, and arrives in the log of a stage
unfoldable pub receive : Stage → ℕ → Pipe → Pipe
receive stage l p = arrive stage l (leave_wire l p)

-- line l leaves the log of a stage, to be played
unfoldable pub play : Stage → ℕ → Pipe → Pipe
play stage l p =
    on_counts l (on_passage stage count_play) (on_log stage (λ log. record log { lines = without_line log.lines l }) p)

-- a stage is stalled, or not
unfoldable pub set_stall : Stage → Bool → Pipe → Pipe
set_stall stage b p = on_log stage (λ log. record log { stalled = b }) p
