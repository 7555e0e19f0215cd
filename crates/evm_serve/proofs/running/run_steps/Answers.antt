-- the journal has room for all of the Steps
use Rattle.std.proofs.Common.{◌≡◌, arith, ap, sym, ◌∙◌}
use Rattle.std.specs.Prelude.{Some, None}
use Rattle.evm_serve.proofs.Fitting.{fits}
use Rattle.evm_serve.proofs.running.run_steps.Goals as goal

pub unreachable-requires : goal.unreachable-requires
unreachable-requires g c =
    let none = fits c.args.count c.args.c c.args.machine.now c.rules.ensures.good (omega (arith, c.cpu_count.ensures.count)) (omega (arith, c.room.ensures)) in
    let wrong : Some c.in-Err.field-0 ≡ None = sym (ap (λ x. x.1) c.in-Err.ensures.made) ∙ none in
    absurd (cc)
