use Rattle.std.proofs.Common.{rules, ◌≡◌}
use Rattle.gdb_tape.specs.Tape.{task_state}
use Rattle.gdb_tape.proofs.Steady.{since_changes, since_stays}
use Rattle.gdb_tape.proofs.Stepping.{one_event}
use Rattle.gdb_tape.proofs.since.follow_one.Goals as goal

pub returns-in-Ok-clause-since : goal.returns-in-Ok-clause-since
returns-in-Ok-clause-since c first replays before =
    let same : task_state c.args.task c.event.new.machine ≡ task_state c.args.task c.args.machine.now = search rules in
    since_stays c.args.task first c.args.machine.now c.event.new.machine _ c.args.since (one_event _ _ _ _ c.in-Ok.ensures.ok) replays (c.in-Ok.ensures.kept.replays first replays) same before

pub returns-in-Ok-2-clause-since : goal.returns-in-Ok-2-clause-since
returns-in-Ok-2-clause-since c first replays before =
    let other : (task_state c.args.task c.event.new.machine ≡ task_state c.args.task c.args.machine.now) → ⊥ = search rules in
    since_changes c.args.task first c.args.machine.now c.event.new.machine _ c.event_count-place.result (one_event _ _ _ _ c.in-Ok-2.ensures.ok) replays (c.in-Ok-2.ensures.kept.replays first replays) c.event_count-place.ensures other
