use Rattle.std.proofs.Common.{◌≡◌, rules}
use Rattle.evm_core.proofs.machine.Machine.copy_from.Goals as goal

pub invariant_of-self-in-Ok : goal.invariant_of-self-in-Ok
invariant_of-self-in-Ok g c =
    let boots : c.self-inside-inside.inside.0.0 ≡ c.other.inside.boot = search rules in
    let journals : c.other-inside-inside.inside.0.1.0 ≡ c.other.inside.journal = search rules in
    rw (boots, c.in-Ok.ensures.events, c.in-Ok.ensures.room, c.copy_from-in-Ok.ensures, journals) c.other.invariant
