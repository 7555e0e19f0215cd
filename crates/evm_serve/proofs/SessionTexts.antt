-- The text of lines has these lines.
use Rattle.std.proofs.Common.{◌≡◌, ℕ, Bool, true, false, ◌&&◌, ◌==◌, inl, inr, List, [], ◌∷◌, ◌++◌, refl, sym, ◌∙◌, ap}
use Rattle.std.specs.Prelude.{Option, Some, None}
use Rattle.evm_ram.specs.Images.{Contents}
use Rattle.evm_serve.specs.Sitting.{Sitting}
use Rattle.evm_devs.specs.Devices.{program_devices}
use Rattle.evm_serve.specs.ScriptedMachine.{IsScriptedIn, LeavesMachine}
use Rattle.std.proofs.lemmas.Bool.{and_parts, cases_Bool}
use Rattle.evm_diagnostics.specs.evm_text.Lines.{Text, Ended, text_of, with_byte, lines_in, text_lines}
use Rattle.evm_serve.specs.Scripted.{is_one_line, are_lines, script_of, script_machine}
use Rattle.evm_serve.specs.SessionLaws.{TextIsScript}

ended : (line rest : List ℕ) → is_one_line line ≡ true → text_of (line ++ (10 ∷ rest)) ≡ Ended line (text_of rest)
unfolding text_of
ended [] rest h = refl
ended (byte ∷ line) rest h = elim (cases_Bool (byte == 10)) [
  | inl t ↦ let wrong : false ≡ true = rw t at h in absurd (cc)
  | inr f ↦ rw f (ap (with_byte byte) (ended line rest (rw f at h)))
]

lines_are : (lines : List (List ℕ)) → are_lines lines ≡ true → text_lines (script_of lines) ≡ lines
unfolding text_lines text_of
lines_are [] h = refl
lines_are (line ∷ lines) h =
    let parts = and_parts _ _ h in
    ap lines_in (ended line (script_of lines) parts.0) ∙ ap (λ rest. line ∷ rest) (lines_are lines parts.1)

pub text_is : TextIsScript
text_is devices image s scripted = ap (script_machine devices image) (lines_are s.lines scripted.each) ∙ scripted.made

-- a session's lines leave its machine, if there is one
pub leaves : (image : Contents) (sitting : Option Sitting) → IsScriptedIn image sitting → LeavesMachine image sitting
leaves image None h = tt
leaves image (Some s) h = text_is program_devices image s h
