-- The answer to a payload.
use Rattle.std.proofs.Common.{◌≡◌, ℕ, Bool, true, List, [], ◌++◌, Option, Some, None, refl, sym, ap, subst, ◌∙◌}
use Rattle.std.specs.Prelude.{Result, Ok, Err, OnOk, IfSome}
use Rattle.evm_model.specs.State.{State}
use Rattle.gdb_tape.specs.gdb_driving.declared.stops.TargetHalt.{TargetHalt}
use Rattle.gdb_packets.specs.Commands.{command_at}
use Rattle.gdb_packets.specs.declared.command.Command.{Command}
use Rattle.gdb_packets.specs.declared.command.Command.TheVariants as commands
use Rattle.evm_text.specs.Reading.{◌>>=◌}
use Rattle.gdb_packets.specs.Framing.{framed}
use Rattle.gdb_answers.specs.Answers.{answer_text}
use Rattle.gdb_answers.specs.Asking.{ArePointsSet, IsCarriedOut, asked, points_asked, reply}
use Rattle.gdb_answers.specs.Responding.{IsAnswer, said_text, waits_for_reply}
use Rattle.gdb_answers.specs.Starting.{has_reply}
use Rattle.gdb_answers.specs.Written.{Extends, HasPacket}
use Rattle.gdb_answers.specs.declared.session.GdbSession.{GdbSession}
use Rattle.gdb_answers.proofs.Extending.{extends_by, replies_alone}

-- ---- GDB waits for the answer to a question
pub text_replies : (extended : Bool) (looked : ℕ) (halt : TargetHalt) (s : State) (command : Command) (text : List ℕ) → answer_text looked halt s command ≡ Some text → has_reply extended command ≡ true
text_replies extended looked halt s commands.Kill text e = absurd cc
text_replies extended looked halt s commands.Restart text e = absurd cc
text_replies extended looked halt s _ text e = refl

-- ---- the answer to a payload
some_said : (old : GdbSession) (payload behind : List ℕ) (command : Command) (text : List ℕ) → command_at payload ≡ Some (command, behind) → said_text old (command_at payload) ≡ Some text
    → answer_text old.looked old.halt old.tape.machine command ≡ Some text
some_said old payload behind command text e h = ap (said_text old) (sym e) ∙ h

some_waits : (old : GdbSession) (payload behind : List ℕ) (command : Command) → command_at payload ≡ Some (command, behind) → waits_for_reply old (command_at payload) ≡ true → has_reply old.extended command ≡ true
some_waits old payload behind command e h = ap (waits_for_reply old) (sym e) ∙ h

is_some : (payload behind : List ℕ) (command : Command) → command_at payload ≡ Some (command, behind) → command_at payload ≡ None → ⊥
is_some payload behind command e n = let wrong : ◌≡◌ {A = Option (Command × List ℕ)} None (Some (command, behind)) = sym n ∙ e in absurd cc

-- .. from what the command is answered by
pub some_answer : {E : Type 0} (r : Result (Unit {0}) E) (old new : GdbSession) (payload behind before after : List ℕ) (command : Command) → command_at payload ≡ Some (command, behind)
    → OnOk r (Extends before after)
    → (has_reply old.extended command ≡ true → OnOk r (HasPacket before after))
    → ((text : List ℕ) → answer_text old.looked old.halt old.tape.machine command ≡ Some text → OnOk r (after ≡ before ++ framed text))
    → ((text : List ℕ) → answer_text old.looked old.halt old.tape.machine command ≡ Some text → new ≡ old)
    → OnOk r (IfSome (asked old.looked behind old.tape.machine command) (λ events. IsCarriedOut reply events old.tape.machine new.tape.machine before after))
    → OnOk r (IfSome (points_asked old.tape.machine old.points command) (λ outcome. ArePointsSet reply outcome old.points new.points before after))
    → OnOk r (IsAnswer old new payload before after)
some_answer (Err x) old new payload behind before after command e packets replies said same done points = tt
some_answer (Ok x) old new payload behind before after command e packets replies said same done points = record {
  packets = packets;
  replies = λ waits. replies (some_waits old payload behind command e waits);
  said = λ text is. let known = some_said old payload behind command text e is in (same text known, said text known);
  done = subst (λ (o : Option (Command × List ℕ)). IfSome (o >>= λ (said : Command × List ℕ). asked old.looked said.1 old.tape.machine said.0) (λ events. IsCarriedOut reply events old.tape.machine new.tape.machine before after)) (sym e) done;
  points = subst (λ (o : Option (Command × List ℕ)). IfSome (o >>= λ (said : Command × List ℕ). points_asked old.tape.machine old.points said.0) (λ outcome. ArePointsSet reply outcome old.points new.points before after)) (sym e) points;
  unknown = λ none. absurd (is_some payload behind command e none);
}

pub none_answer : {E : Type 0} (r : Result (Unit {0}) E) (s : GdbSession) (payload before after : List ℕ) → command_at payload ≡ None → OnOk r (after ≡ before ++ framed []) → OnOk r (IsAnswer s s payload before after)
none_answer (Err x) s payload before after e empty = tt
none_answer (Ok x) s payload before after e empty = record {
  packets = extends_by before after [] empty;
  replies = λ waits. replies_alone before after [] empty;
  said = λ text is. let wrong : ◌≡◌ {A = Option (List ℕ)} None (Some text) = ap (said_text s) (sym e) ∙ is in absurd cc;
  done = subst (λ (o : Option (Command × List ℕ)). IfSome (o >>= λ (said : Command × List ℕ). asked s.looked said.1 s.tape.machine said.0) (λ events. IsCarriedOut reply events s.tape.machine s.tape.machine before after)) (sym e) tt;
  points = subst (λ (o : Option (Command × List ℕ)). IfSome (o >>= λ (said : Command × List ℕ). points_asked s.tape.machine s.points said.0) (λ outcome. ArePointsSet reply outcome s.points s.points before after)) (sym e) tt;
  unknown = λ none. (refl, empty);
}

-- ---- the response to an item
-- .. to a packet, behind what it begins with
pub with_sign : {E : Type 0} (r : Result (Unit {0}) E) (old new : GdbSession) (payload before sign after : List ℕ) → before ≡ sign → OnOk r (IsAnswer old new payload before after) → OnOk r (IsAnswer old new payload sign after)
with_sign r old new payload before sign after e h = subst (λ (t : List ℕ). OnOk r (IsAnswer old new payload t after)) e h
