use Rattle.std.proofs.Common.{◌∙◌, List, sym, ap}
use Rattle.evm_asm.specs.declared.item.Placed.{Placed}
use Rattle.evm_asm.specs.Programs.{nothing_spelled, spelled}
use Rattle.evm_asm.specs.Views.{view}
use Rattle.evm_asm.proofs.Programs_as_meant.{meant_fits}
use Rattle.evm_asm.proofs.program.assembled.Goals as goal

pub finished-requires : goal.finished-requires
finished-requires c =
    meant_fits c.as_bytes-source.result.now c.in_ok-items.items.items (view c.in_ok-out.out) c.in_ok-items.ensures
    (ap (λ (items : List Placed). spelled items nothing_spelled) (sym c.as_slice.ensures.value) ∙ c.in_ok-out.ensures)
