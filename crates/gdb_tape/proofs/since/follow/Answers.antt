use Rattle.std.proofs.Common.{◌≡◌, ◌-◌, ◌<◌, ◌≤◌, ◌∙◌, sym, ap, List, length, take, arith}
use Rattle.std.proofs.lemmas.Bool.Decides.{nat_tests}
use Rattle.gdb_driving.specs.evm_debug.evm_history.EventLine.{line_lent}
use Rattle.gdb_driving.specs.evm_debug.evm_history.Runs.{runs}
use Rattle.gdb_driving.proofs.Kept.{keeps_more}
use Rattle.gdb_tape.proofs.Lines.{events_again}
use Rattle.gdb_tape.proofs.Stepping.{line_enough, line_last, line_more, within}
use Rattle.gdb_tape.proofs.since.follow.Goals as goal

pub returns-then-left-eq0-clause-made : goal.returns-then-left-eq0-clause-made
returns-then-left-eq0-clause-made c =
    let a = c.saturating_sub-left.ensures in let b = c.event_count.ensures in let t = c.if-left-eq0.true in
    let none : c.args.place - length c.loop-i.machine.journal ≡ 0 = grind (arith, nat_tests) in
    line_enough c.args.place c.loop-i.i (runs c.args.end.now.journal) c.loop-i.machine.journal c.loop-i.invariant.made none ∙ ap (take c.args.place) (events_again c.args.end.now.journal)

pub returns-in-None-clause-made : goal.returns-in-None-clause-made
returns-in-None-clause-made c =
    let past = within (runs c.args.end.now.journal) c.loop-i.i (sym c.in-None.ensures) in
    line_last c.args.place c.loop-i.i (runs c.args.end.now.journal) c.loop-i.machine.journal past c.loop-i.invariant.made ∙ ap (take c.args.place) (events_again c.args.end.now.journal)

pub loop-i-preserved : goal.loop-i-preserved
loop-i-preserved c =
    let a = c.saturating_sub-left.ensures in let b = c.event_count.ensures in
    let some : c.saturating_sub-left.result ≡ c.args.place - length c.loop-i.machine.journal = grind (arith, nat_tests) in
    record {
      made =
          line_more c.args.place c.loop-i.i c.saturating_sub-left.result (runs c.args.end.now.journal) (line_lent c.in-Some.line) c.loop-i.machine.journal c.follow_line.new.machine.journal
          c.loop-i.invariant.made (sym c.in-Some.ensures) some c.in-Ok.ensures.made;
      kept = keeps_more c.args.machine.now c.loop-i.machine c.follow_line.new.machine c.loop-i.invariant.kept c.follow_line.ensures.kept;
      since = λ first h. c.in-Ok.ensures.since first (c.loop-i.invariant.kept.replays first h) (c.loop-i.invariant.since first h);
    }

pub returns-clause-made : goal.returns-clause-made
returns-clause-made c =
    let a = c.journal_line_count-i-end.ensures in let t = c.loop-i-test.false in
    let all : length (runs c.args.end.now.journal) ≤ c.loop-i.i = grind (arith, nat_tests) in
    line_last c.args.place c.loop-i.i (runs c.args.end.now.journal) c.loop-i.machine.journal all c.loop-i.invariant.made ∙ ap (take c.args.place) (events_again c.args.end.now.journal)
