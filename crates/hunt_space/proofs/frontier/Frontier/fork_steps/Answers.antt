use Rattle.std.proofs.Common.{◌≡◌, ◌≢◌, ℕ, Some, false, below_more, subst, arith}
use Rattle.std.specs.Prelude.{slice_get}
use Rattle.std.proofs.lemmas.Option.{slice_get_within, get_or_from_slice_get}
use Rattle.hunt_schedules.specs.declared.branch.Choice.TheVariants as choices
use Rattle.hunt_space.specs.Exploring.{HasFork}
use Rattle.hunt_space.proofs.Progress.{fork-still}
use Rattle.hunt_space.proofs.frontier.Frontier.fork_steps.Goals as goal

pub awake-preserved : goal.awake-preserved
awake-preserved c =
    let all = c.awake.invariant in
    let Q : ℕ → Type 0 = λ n. n ≢ c.args.from.now.path.now.cpu → HasFork c.fork_step.new.self.paths.items c.args.from.now.path.now c.args.from.now.steps (choices.Step n) in
    let P : ℕ → Type 0 = λ i. (d : ℕ) → slice_get c.args.awake.now i ≡ Some d → Q d in
    let here : (none : c.fork_step.new.self.cut ≡ false) → P c.awake.cpu-index = λ none d there other. subst Q (get_or_from_slice_get c.args.awake.now c.awake.cpu-index d 0 there) (c.in-Ok.ensures.has none) other in (
      (λ j path h. c.fork_step.ensures.keeps j path (all.0 j path h)),
      (λ none. all.1 (c.fork_step.ensures.cut none)),
      (λ none i d less there other. below_more P c.awake.cpu-index (λ e h f is not. fork-still _ _ c.args.from.now.path.now _ _ c.fork_step.ensures.keeps (all.2 (c.fork_step.ensures.cut none) e f h is not)) (here none) i less d there other),
    )

pub returns-clause-has : goal.returns-clause-has
returns-clause-has c none i d there other = c.awake.invariant.2 none i d (let h = slice_get_within c.args.awake.now i d there in omega arith) there other
