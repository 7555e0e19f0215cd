use Rattle.std.proofs.Common.{List, refl, sym, subst}
use Rattle.evm_streams.specs.Diagnostic.{Place, TellsAll}
use Rattle.evm_diagnostics.proofs.Notes.{places_below-none, places_below-more, tells_append}
use Rattle.evm_diagnostics.proofs.note.report_tasks.Goals as goal

pub loop-t-init : goal.loop-t-init
loop-t-init g c =
    let P : List Place → Type 0 = λ places. TellsAll g.E.Sink.takes places c.args.errors.now c.args.errors.now in
    subst P (sym (places_below-none c.args.name.now c.args.machine.now.board)) refl

pub loop-t-preserved : goal.loop-t-preserved
loop-t-preserved g c =
    let P : List Place → Type 0 = λ places. TellsAll g.E.Sink.takes places c.args.errors.now c.report_numbered.new.errors in
    subst P (sym (places_below-more c.args.name.now c.loop-t.t c.args.machine.now.board)) (tells_append _ _ _ _ _ _ c.loop-t.invariant c.report_numbered.ensures)
