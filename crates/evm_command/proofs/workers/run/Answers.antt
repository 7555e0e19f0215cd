use Rattle.std.proofs.Common.{◌≡◌, ◌∙◌, Err, ap, sym, refl}
use Rattle.evm_journal.specs.evm_core.Load.{load}
use Rattle.evm_model.specs.Replay.{start}
use Rattle.evm_command.specs.Workers.{loaded_machine}
use Rattle.evm_command.proofs.Loading.{bad_address}
use Rattle.evm_command.proofs.workers.run.Goals as goal

pub returns-in-Err : goal.returns-in-Err
returns-in-Err g c =
    let begun = c.in-Ok.ensures.1 ∙ ap (start c.args.devices) c.run_boot.ensures in
    let e : loaded_machine c.args.devices c.args.image.now ≡ Err c.in-Err.field-0 = ap (load c.args.image.now) (sym begun) ∙ c.in-Err.ensures.err in
    rw e (bad_address c.args.devices c.args.image.now c.in-Err.field-0 e, refl)
