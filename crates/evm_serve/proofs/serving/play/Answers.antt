use Rattle.std.proofs.Common.{◌≡◌, [], refl, arith, rules}
use Rattle.std.specs.String.{string_bytes}
use Rattle.evm_streams.specs.Writes.{Took, TookPrefix}
use Rattle.evm_diagnostics.specs.evm_debug.LineReading.{line_at}
use Rattle.evm_diagnostics.specs.evm_text.Lines.{CutsLine}
use Rattle.evm_serve.specs.Script.{Goes, Ends, line_outcome}
use Rattle.evm_serve.proofs.Endings.{plays_ended}
use Rattle.evm_diagnostics.specs.Notes.{note_places}
use Rattle.evm_serve.specs.RunNotes.{noted_at}
use Rattle.evm_serve.proofs.Noted.{Noted-start, Noted-goes, Noted-ends, Noted-done, Noted-some, plays_notes}
use Rattle.evm_serve.proofs.Runs.{Written-start, Written-goes, Written-done, Written-rest, Written-goes_fault, Written-ended, Written-ended_fault, Written-ended_in}
use Rattle.evm_serve.proofs.serving.play.Goals as goal

pub lines-init : goal.lines-init
lines-init g c = record { report = Written-start _ _ _ _; noted = Noted-start _ _ _ _ _; held = search rules; numbered = omega arith }

pub lines-preserved : goal.lines-preserved
lines-preserved g c =
    let goes : line_outcome c.args.options c.lines.number c.lines.run.machine (line_at c.in-Some.line.now) ≡ Goes (string_bytes c.run_line.new.text) c.run_line.new.run.machine = search (rules, c.run_line.ensures.outcome c.args.options.devices c.lines.invariant.held) in
    let cut : CutsLine c.lines.rest.now c.in-Some.line.now c.in-Some.after.now = search rules in
    let written : Took g.W.Sink.takes c.lines.writer (string_bytes c.run_line.new.text) c.write_all.new.sink = search rules in
    let noted : note_places c.args.script.now.name.now c.lines.number (noted_at c.lines.run.machine (line_at c.in-Some.line.now)) ≡ note_places c.args.script.now.name.now c.lines.number c.in-Ok-Goes.note = search rules in
    record {
      report = Written-goes _ _ _ _ _ _ _ _ _ _ _ _ _ c.lines.invariant.report cut goes written;
      noted = Noted-goes _ _ _ _ _ _ _ _ _ _ _ _ _ _ _ c.lines.invariant.noted cut goes noted c.report_note.ensures;
      held = search (rules, c.run_line.ensures.held c.args.options.devices c.lines.invariant.held);
      numbered = omega (arith, cut.shorter, c.lines.invariant.numbered);
    }

pub returns-in-Err-write_all-clause-report : goal.returns-in-Err-write_all-clause-report
returns-in-Err-write_all-clause-report g c =
    let goes : line_outcome c.args.options c.lines.number c.lines.run.machine (line_at c.in-Some.line.now) ≡ Goes (string_bytes c.run_line.new.text) c.run_line.new.run.machine = search (rules, c.run_line.ensures.outcome c.args.options.devices c.lines.invariant.held) in
    let cut : CutsLine c.lines.rest.now c.in-Some.line.now c.in-Some.after.now = search rules in
    let written : TookPrefix g.W.Sink.takes c.lines.writer (string_bytes c.run_line.new.text) c.write_all.new.sink = search rules in
    Written-goes_fault _ _ _ _ _ _ _ _ _ _ _ _ _ c.lines.invariant.report cut goes written

pub returns-in-Err-write_all-clause-noted : goal.returns-in-Err-write_all-clause-noted
returns-in-Err-write_all-clause-noted g c =
    let goes : line_outcome c.args.options c.lines.number c.lines.run.machine (line_at c.in-Some.line.now) ≡ Goes (string_bytes c.run_line.new.text) c.run_line.new.run.machine = search (rules, c.run_line.ensures.outcome c.args.options.devices c.lines.invariant.held) in
    let cut : CutsLine c.lines.rest.now c.in-Some.line.now c.in-Some.after.now = search rules in
    let noted : note_places c.args.script.now.name.now c.lines.number (noted_at c.lines.run.machine (line_at c.in-Some.line.now)) ≡ note_places c.args.script.now.name.now c.lines.number c.in-Ok-Goes.note = search rules in
    Noted-some _ _ _ _ _ _ _ _ _ (Noted-goes _ _ _ _ _ _ _ _ _ _ _ _ _ _ _ c.lines.invariant.noted cut goes noted c.report_note.ensures)

pub returns-in-Err-clause-report : goal.returns-in-Err-clause-report
returns-in-Err-clause-report g c = (c.in-Err.ensures.memory, (c.lines.invariant.report.prefix, Written-rest _ _ _ _ _ _ _ _ c.lines.invariant.report, c.lines.invariant.report.written))

pub returns-in-Err-clause-noted : goal.returns-in-Err-clause-noted
returns-in-Err-clause-noted g c = Noted-some _ _ _ _ _ _ _ _ _ c.lines.invariant.noted

pub returns-clause-report : goal.returns-clause-report
returns-clause-report g c = let done = Written-done _ _ _ _ _ _ _ _ c.lines.invariant.report (search rules) in (done.0, done.1, tt)

pub returns-clause-noted : goal.returns-clause-noted
returns-clause-noted g c = Noted-done _ _ _ _ _ _ _ _ _ _ c.lines.invariant.noted (search rules) c.report_ended.ensures

pub returns-in-Ok-Ends-clause-report : goal.returns-in-Ok-Ends-clause-report
returns-in-Ok-Ends-clause-report g c =
    let ends : line_outcome c.args.options c.lines.number c.lines.run.machine (line_at c.in-Some.line.now) ≡ Ends c.in-Ok-Ends.fault = search (rules, c.run_line.ensures.outcome c.args.options.devices c.lines.invariant.held) in
    let cut : CutsLine c.lines.rest.now c.in-Some.line.now c.in-Some.after.now = search rules in
    plays_ended _ _ _ _ _ _ _ _ (Written-ended _ _ _ _ _ _ _ _ _ _ _ _ c.lines.invariant.report cut ends) (Written-ended_fault _ _ _ _ _ _ _ _ _ _ _ _ c.lines.invariant.report cut ends)
    (Written-ended_in _ _ _ _ _ _ _ _ _ _ _ c.lines.invariant.report cut ends)
    _ (Written-rest _ _ _ _ _ _ _ _ c.lines.invariant.report) c.lines.invariant.report.written (search rules)

pub returns-in-Ok-Ends-clause-noted : goal.returns-in-Ok-Ends-clause-noted
returns-in-Ok-Ends-clause-noted g c =
    let ends : line_outcome c.args.options c.lines.number c.lines.run.machine (line_at c.in-Some.line.now) ≡ Ends c.in-Ok-Ends.fault = search (rules, c.run_line.ensures.outcome c.args.options.devices c.lines.invariant.held) in
    let cut : CutsLine c.lines.rest.now c.in-Some.line.now c.in-Some.after.now = search rules in
    let noted : note_places c.args.script.now.name.now c.lines.number (noted_at c.lines.run.machine (line_at c.in-Some.line.now)) ≡ [] = search rules in
    plays_notes _ _ _ _ _ (Noted-ends _ _ _ _ _ _ _ _ _ _ _ _ c.lines.invariant.noted cut ends noted)
