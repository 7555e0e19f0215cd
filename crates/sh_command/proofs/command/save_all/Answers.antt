use Rattle.std.proofs.Common.{◌≡◌, subst, arith}
use Rattle.std.specs.Prelude.{option_copied}
use Rattle.evm_host.specs.evm_serve.Scripted.{script_of}
use Rattle.evm_host.specs.evm_serve.ScriptedMachine.{LeavesMachine, ReplaysMachine, ScriptedMachineState, journal_in, lines_done, machine_in}
use Rattle.sh_command.proofs.Keeping.{kept_if, suite_kept}
use Rattle.sh_command.proofs.command.save_all.Goals as goal

pub returns-clause-saved : goal.returns-clause-saved
returns-clause-saved g c zero =
    let scripted : c.save_script-scripted.result ≡ 0 = omega (arith, zero, c.max.ensures, c.max-2.ensures, c.max-3.ensures) in
    let journaled : c.save_journal-journaled.result ≡ 0 = omega (arith, zero, c.max.ensures, c.max-2.ensures, c.max-3.ensures) in
    let listed : c.save_cases-listed.result ≡ 0 = omega (arith, zero, c.max.ensures, c.max-2.ensures, c.max-3.ensures) in
    record {
      leaves = subst (λ (s : ScriptedMachineState). LeavesMachine s.image s.sitting) c.scripted.ensures c.rules.ensures.script;
      replays = subst (λ (s : ScriptedMachineState). ReplaysMachine s.image s.sitting) c.scripted.ensures c.rules.ensures.journal;
      between = c.save_script-scripted.new.world.files;
      behind = c.save_journal-journaled.new.world.files;
      script = kept_if g.S.System.creates g.S.Created.Sink.takes g.S.Output.Sink.takes g.S.Errors.Sink.takes (option_copied c.args.job.script) (script_of (lines_done c.args.shell.now.scripted.sitting)) c.args.world.now c.save_script-scripted.new.world c.save_script-scripted.result scripted c.save_script-scripted.ensures;
      journal = kept_if g.S.System.creates g.S.Created.Sink.takes g.S.Output.Sink.takes g.S.Errors.Sink.takes (option_copied c.args.job.journal) (journal_in (machine_in c.args.shell.now.scripted.sitting)) c.save_script-scripted.new.world c.save_journal-journaled.new.world c.save_journal-journaled.result journaled c.save_journal-journaled.ensures;
      suite = suite_kept g.S.System.creates g.S.Created.Sink.takes g.S.Output.Sink.takes g.S.Errors.Sink.takes (option_copied c.args.job.junit) c.save_journal-journaled.new.world c.save_cases-listed.new.world c.save_cases-listed.result listed c.save_cases-listed.ensures;
    }
