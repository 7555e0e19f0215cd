use Rattle.law_runs.specs.Kept.{IsAsBooted}
use Rattle.claims_machine.proofs.Reached.{ran}
use Rattle.claims_machine.proofs.safe_and_total.a_machine_is_as_it_was_booted.Goals as goal

pub returns-clause-boot : goal.returns-clause-boot
returns-clause-boot c boot s r =
    let kept = ran (IsAsBooted r.devices boot) boot s r (c.stays_as_booted.ensures.booted r.devices boot) (λ byte entry. c.stays_as_booted.ensures.loaded r.devices byte entry boot) in
    kept.boot_kept

pub returns-clause-processors : goal.returns-clause-processors
returns-clause-processors c boot s r =
    let kept = ran (IsAsBooted r.devices boot) boot s r (c.stays_as_booted.ensures.booted r.devices boot) (λ byte entry. c.stays_as_booted.ensures.loaded r.devices byte entry boot) in
    kept.processors

pub returns-clause-pipes : goal.returns-clause-pipes
returns-clause-pipes c boot s r =
    let kept = ran (IsAsBooted r.devices boot) boot s r (c.stays_as_booted.ensures.booted r.devices boot) (λ byte entry. c.stays_as_booted.ensures.loaded r.devices byte entry boot) in
    kept.pipes

pub returns-clause-ram : goal.returns-clause-ram
returns-clause-ram c boot s r =
    let kept = ran (IsAsBooted r.devices boot) boot s r (c.stays_as_booted.ensures.booted r.devices boot) (λ byte entry. c.stays_as_booted.ensures.loaded r.devices byte entry boot) in
    kept.ram

pub returns-clause-tasks : goal.returns-clause-tasks
returns-clause-tasks c boot s r =
    let kept = ran (IsAsBooted r.devices boot) boot s r (c.stays_as_booted.ensures.booted r.devices boot) (λ byte entry. c.stays_as_booted.ensures.loaded r.devices byte entry boot) in
    (kept.some_tasks, kept.few_tasks)

pub returns-clause-harts : goal.returns-clause-harts
returns-clause-harts c boot s r =
    let kept = ran (IsAsBooted r.devices boot) boot s r (c.stays_as_booted.ensures.booted r.devices boot) (λ byte entry. c.stays_as_booted.ensures.loaded r.devices byte entry boot) in
    kept.harts

pub returns-clause-registers : goal.returns-clause-registers
returns-clause-registers c boot s t hart r here =
    let kept = ran (IsAsBooted r.devices boot) boot s r (c.stays_as_booted.ensures.booted r.devices boot) (λ byte entry. c.stays_as_booted.ensures.loaded r.devices byte entry boot) in
    (kept.registers t hart here).count

pub returns-clause-x0 : goal.returns-clause-x0
returns-clause-x0 c boot s t hart r here =
    let kept = ran (IsAsBooted r.devices boot) boot s r (c.stays_as_booted.ensures.booted r.devices boot) (λ byte entry. c.stays_as_booted.ensures.loaded r.devices byte entry boot) in
    (kept.registers t hart here).zero_first
