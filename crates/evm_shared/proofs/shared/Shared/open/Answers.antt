use Rattle.std.proofs.Common.{List, subst, arith}
use Rattle.std.specs.Prelude.{All}
use mathlib.Core.List.{IsPrefix}
use Rattle.evm_shared.proofs.Counting.{book_fits}
use Rattle.evm_shared.specs.Ports.{PortValue}
use Rattle.evm_shared.specs.declared.receipt.Made.{Made}
use Rattle.evm_shared.proofs.shared.Shared.open.Goals as goal

pub sum_all-totals-requires-clause-fits : goal.sum_all-totals-requires-clause-fits
sum_all-totals-requires-clause-fits g c =
    book_fits g.O.Origin.base c.machine.inside.books c.machine.inside.machine.journal c.machine.invariant.counted (omega (arith, c.event_count-count.ensures, c.event_count-count.type_inv))

pub returns-clause-history : goal.returns-clause-history
returns-clause-history g c =
    let all = c.see_all.new.sight in (
      c.machine.inside.history,
      all,
      c.machine.invariant.made,
      subst (λ (log : List Made). IsPrefix log all) c.sight-sight.ensures c.see_all.ensures.more,
      subst (All (λ (p : PortValue). IsPrefix p.log all)) c.as_slice.ensures.value c.see_all.ensures.all,
    )
