use Rattle.std.proofs.Common.{List, ℕ, ◌∙◌, sym, subst}
use Rattle.std.proofs.lemmas.Result.{on_ok_weaker}
use Rattle.std.specs.Prelude.{OnOk}
use Rattle.gdb_answers.specs.gdb_tape.gdb_driving.evm_debug.evm_journal.JournalLaws.{BringsBack}
use Rattle.gdb_command.specs.Saved.{IsSaved}
use Rattle.gdb_command.proofs.saving.save_as.Goals as goal

pub returns : goal.returns
returns g c =
    let text = c.as_str.ensures.value in
    subst (λ (name : List ℕ). OnOk c.save_file-2.result (IsSaved g.S.System.creates g.S.Created.Sink.takes name c.args.session.now.tape.machine c.args.world.now.files c.save_file-2.new.world.files)) c.as_str-name.ensures.value
    (on_ok_weaker c.save_file-2.result
    (λ second. (
      c.as_str.result.now,
      c.script_of.result.now,
      c.save_file.new.world.files,
      record {
        written = text ∙ c.in-Ok.ensures.written;
        again = λ first h. subst (λ (t : List ℕ). BringsBack t first c.args.session.now.tape.machine) (sym text) (c.in-Ok.ensures.again first h);
      },
      c.in_ok-save_file.ensures,
      second,
    ))
    c.save_file-2.ensures)
