use Rattle.std.proofs.Common.{◌≡◌}
use Rattle.gdb_tape.specs.gdb_driving.Shown.{outcome_text}
use Rattle.gdb_answers.specs.Asking.{ArePointsSet, IsCarriedOut}
use Rattle.gdb_answers.proofs.Asking.{holds_asked, holds_on_ok, no_points, no_points_ok}
use Rattle.gdb_answers.proofs.answering.answer.Goals as goal

pub returns-in-Monitor-clause-done : goal.returns-in-Monitor-clause-done
returns-in-Monitor-clause-done g c =
    let s = c.args.session.now in
    holds_on_ok c.answer_digits.result (λ events. IsCarriedOut outcome_text events s.tape.machine c.answer_digits.new.session.tape.machine c.args.reply.now.payload.items c.answer_digits.new.reply.payload.items)
    s.looked c.args.behind.now s.tape.machine c.args.command c.in-Monitor.is c.answer_digits.ensures.done

pub returns-in-Monitor-clause-quiet : goal.returns-in-Monitor-clause-quiet
returns-in-Monitor-clause-quiet g c =
    let s = c.args.session.now in
    holds_asked (λ events. c.answer_digits.new.reply.told ≡ c.args.reply.now.told) s.looked c.args.behind.now s.tape.machine c.args.command c.in-Monitor.is c.answer_digits.ensures.quiet

pub returns-in-Monitor-clause-points : goal.returns-in-Monitor-clause-points
returns-in-Monitor-clause-points g c =
    let s = c.args.session.now in
    no_points_ok c.answer_digits.result (λ outcome. ArePointsSet outcome_text outcome s.points c.answer_digits.new.session.points c.args.reply.now.payload.items c.answer_digits.new.reply.payload.items)
    s.tape.machine s.points c.args.command c.in-Monitor.is

pub returns-in-Monitor-clause-silent : goal.returns-in-Monitor-clause-silent
returns-in-Monitor-clause-silent g c =
    let s = c.args.session.now in no_points (λ outcome. c.answer_digits.new.reply.told ≡ c.args.reply.now.told) s.tape.machine s.points c.args.command c.in-Monitor.is
