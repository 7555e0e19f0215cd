use Rattle.std.proofs.Common.{◌≡◌, ap, sym, ◌∙◌}
use Rattle.evm_calls.proofs.Asked.{asked-call}
use Rattle.evm_calls.proofs.call.call.Goals as goal
use Rattle.evm_model.specs.Profiles.{offered}

-- src/call.rt:180:23
pub call_on-requires-clause-asked : goal.call_on-requires-clause-asked
call_on-requires-clause-asked c =
    rw (← c.parts.view_is)
    (asked-call c.in-Some-offered.call c.in-Some.asked c.args.c c.args.t _ (rw (← c.in-Some.is) c.asked.ensures)
    (ap (offered c.parts.inside.profile) (sym c.of_number.ensures) ∙ sym c.offered.ensures ∙ c.in-Some-offered.is))

-- src/call.rt:169:1
pub returns-in-Some-offered : goal.returns-in-Some-offered
returns-in-Some-offered c =
    let a = call_on-requires-clause-asked c.before in
    c.call_on.ensures a.hart a.by ∙ a.known
