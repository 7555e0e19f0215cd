use Rattle.std.proofs.Common.{rules, ◌≡◌, Some}
use Rattle.evm_serve.specs.ScriptedMachine.{IsScriptedIn}
use Rattle.evm_serve.proofs.Replayed.{replays_in}
use Rattle.evm_serve.proofs.scripted_machine.ScriptedMachine.rules.Goals as goal

pub returns-in-Some-clause-journal : goal.returns-in-Some-clause-journal
returns-in-Some-clause-journal c =
    let is : c.args.self.now.sitting ≡ Some c.in-Some.session = search rules in
    let lent : c.machine.result.now ≡ c.in-Some.session.machine = search rules in
    let scripted : IsScriptedIn c.args.self.now.image c.args.self.now.sitting = search rules in
    replays_in c.args.self.now.image c.args.self.now.sitting c.in-Some.session c.machine.result.now is lent scripted c.rules.ensures.good c.rules.ensures.journaled
