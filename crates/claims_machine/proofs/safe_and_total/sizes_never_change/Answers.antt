use Rattle.claims_machine.proofs.safe_and_total.sizes_never_change.Goals as goal

pub returns-clause-registers : goal.returns-clause-registers
returns-clause-registers c s events old t hart here =
    let kept = (c.sizes_stay.ensures s events).sizes.registers (λ u h e. record { count = (old u h e).0; zero_first = (old u h e).1 }) t hart here in
    (kept.count, kept.zero_first)
