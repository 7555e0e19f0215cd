use Rattle.gdb_answers.proofs.Responding.{none_answer, some_answer}
use Rattle.gdb_answers.proofs.serving.answer_payload.Goals as goal

pub returns-in-Some-clause-answer : goal.returns-in-Some-clause-answer
returns-in-Some-clause-answer g c =
    let by = c.answer_command.ensures in
    some_answer c.answer_command.result c.args.session.now c.answer_command.new.session c.args.payload.now c.in-Some.behind.now c.args.response.now.out.items
    c.answer_command.new.response.out.items c.in-Some.command c.in-Some.ensures by.extends by.replies by.said by.unchanged by.done by.points

pub returns-in-None-clause-answer : goal.returns-in-None-clause-answer
returns-in-None-clause-answer g c =
    none_answer c.push_none.result c.args.session.now c.args.payload.now c.args.response.now.out.items c.push_none.new.out.items c.in-None.ensures c.push_none.ensures.ok
