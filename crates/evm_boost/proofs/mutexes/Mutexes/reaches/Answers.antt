use Rattle.std.proofs.Common.{sym, ◌∙◌}
use Rattle.evm_boost.proofs.Reaches.{reaches-further, reaches-nowhere, reaches-over, reaches-there}
use Rattle.evm_boost.proofs.mutexes.Mutexes.reaches.Goals as goal

pub returns-then-at-t : goal.returns-then-at-t
returns-then-at-t c = sym (reaches-there _ _ c.loop-link.link _ c.if-at-t.true) ∙ c.loop-link.invariant

pub returns-in_default : goal.returns-in_default
returns-in_default c = sym (reaches-nowhere _ _ c.loop-link.link _ c.loop-link-test.true c.if-at-t.false (sym c.waits_on.ensures ∙ c.in_default.is)) ∙ c.loop-link.invariant

pub loop-link-preserved : goal.loop-link-preserved
loop-link-preserved c = reaches-further _ _ c.loop-link.link _ _ c.loop-link-test.true c.if-at-t.false (sym c.waits_on.ensures ∙ c.in-Some.is) ∙ c.loop-link.invariant

pub returns : goal.returns
returns c = reaches-over _ _ c.loop-link.link _ c.loop-link-test.false ∙ c.loop-link.invariant
