use Rattle.std.proofs.Common.{rules, ◌≡◌, slice_get, Some, refl}
use Rattle.evm_diagnostics.specs.Notes.{task_fault}
use Rattle.evm_diagnostics.proofs.note.report_task.Goals as goal

pub returns : goal.returns
returns g c =
    let fault : task_fault c.args.task.now.state ≡ Some c.in-Some.fault = search rules in
    let hart : slice_get c.args.machine.now.board.parts.harts c.args.t ≡ Some c.in-Some-hart.hart = search rules in
    rw (fault, hart) (c.report.new.errors, c.report.ensures, refl)
