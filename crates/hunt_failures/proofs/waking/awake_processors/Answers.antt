use Rattle.std.proofs.Common.{◌≡◌, ℕ, Some, below_more, arith}
use Rattle.std.specs.Prelude.{slice_get}
use Rattle.hunt_failures.specs.Awake.{IsAwake}
use Rattle.hunt_failures.proofs.waking.awake_processors.Goals as goal

pub cpus-preserved : goal.cpus-preserved
cpus-preserved c =
    let P : ℕ → Type 0 = λ d. IsAwake d c.args.machine.now → (i : ℕ) × (slice_get c.add_awake.new.awake.items i ≡ Some d) in (
      omega arith,
      (λ d less is. below_more P c.cpus.c (λ e h awake. let had = c.cpus.invariant.1 e h awake in (had.0, c.add_awake.ensures.keeps had.0 e had.1)) c.add_awake.ensures.adds d less is),
    )

pub returns : goal.returns
returns c d is = let h = is.there in c.cpus.invariant.1 d (omega arith) is
