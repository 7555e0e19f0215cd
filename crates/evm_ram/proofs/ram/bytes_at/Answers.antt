use Rattle.std.proofs.Common.{◌∙◌, sym, ap, option_copied}
use Rattle.evm_ram.proofs.Places.{cond_none, bytes_at-no_bytes, bytes_at-placed}
use Rattle.evm_ram.specs.Laws.{cond_some, bytes_at-outside}
use Rattle.evm_ram.proofs.ram.bytes_at.Goals as goal

pub returns-then-count-eq0-clause-found : goal.returns-then-count-eq0-clause-found
returns-then-count-eq0-clause-found c = sym (bytes_at-no_bytes _ _ _ c.if-count-eq0.true)

pub returns-in_err-start-clause-found : goal.returns-in_err-start-clause-found
returns-in_err-start-clause-found c =
    let outside = cond_none _ _ (sym c.place.ensures ∙ c.in_err-start.was) in
    ap option_copied c.from_residual.ensures ∙ sym (bytes_at-outside _ _ _ outside)

pub returns-clause-found : goal.returns-clause-found
returns-clause-found c =
    let inside = cond_some _ _ _ (sym c.place.ensures ∙ c.in_ok-start.was) in
    sym (bytes_at-placed _ _ _ _ inside.0 inside.1)
