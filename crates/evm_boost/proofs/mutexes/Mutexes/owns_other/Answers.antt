use Rattle.std.proofs.Common.{◌∙◌, ap, sym, arith}
use Rattle.std.specs.Prelude.{not}
use Rattle.evm_boost.proofs.Owning.{owns-others, owns-past}
use Rattle.evm_lines.specs.Lines.{has_none}
use Rattle.evm_boost.proofs.mutexes.Mutexes.owns_other.Goals as goal

pub returns-then-m-count : goal.returns-then-m-count
returns-then-m-count c =
    ap not c.is_empty.ensures.test
    ∙ sym (owns-past _ c.args.t c.args.m _ c.owned-others.ensures.few (omega (arith, c.count.ensures.count, c.if-m-count.true)) c.owned-others.ensures.owned)

pub returns : goal.returns
returns c =
    ap not (c.is_empty-2.ensures.test ∙ ap has_none c.remove.ensures)
    ∙ sym (owns-others _ c.args.t c.args.m _ c.owned-others.ensures.few c.owned-others.ensures.owned)
