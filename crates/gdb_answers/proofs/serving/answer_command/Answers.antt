use Rattle.std.proofs.Common.{◌≡◌, ◌∙◌, ℕ, List, ◌++◌, string_bytes, length, not, OnOk, ap, subst}
use Rattle.gdb_packets.specs.Framing.{framed}
use Rattle.gdb_answers.proofs.Responding.{text_replies}
use Rattle.gdb_answers.proofs.serving.answer_command.Goals as goal

pub returns-clause-said : goal.returns-clause-said
returns-clause-said g c = λ text e.
    let s = c.args.session.now in
    let out = c.args.response.now.out.items in
    let waits = text_replies s.extended s.looked s.halt s.tape.machine c.args.command text e in
    let loud = ap not (c.has_reply-silent.ensures ∙ waits) in
    let cleared = ap length c.clear.ensures.bytes in
    let untold : length (string_bytes c.answer.new.reply.told) ≡ 0 = rw (c.in_ok-answer.ensures.untold text e) cleared in
    let payload : c.answer.new.reply.payload.items ≡ text = c.in_ok-answer.ensures.said text e ∙ ap (λ (t : List ℕ). t ++ text) c.clear-2.ensures.items in
    subst (λ (t : List ℕ). OnOk c.push_packets.result (c.push_packets.new.response.out.items ≡ out ++ framed t)) payload (c.push_packets.ensures.plain untold loud)
