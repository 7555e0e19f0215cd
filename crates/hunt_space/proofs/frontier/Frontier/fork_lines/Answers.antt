use Rattle.std.proofs.Common.{◌≡◌, ◌⊎◌, ◌<◌, ◌||◌, ℕ, List, Bool, true, false, ◌∷◌, nat_eq, inl, inr, refl, subst, arith}
use Rattle.std.proofs.lemmas.Bool.Decides.{nat_tests}
use Rattle.evm_lines.specs.Lines.{has_line}
use Rattle.hunt_schedules.specs.declared.branch.Choice.TheVariants as choices
use Rattle.hunt_space.specs.Exploring.{HasFork}
use Rattle.hunt_space.proofs.Progress.{fork-still}
use Rattle.hunt_space.proofs.frontier.Frontier.fork_lines.Goals as goal

first-or-rest : (a b : Bool) → (a || b) ≡ true → (a ≡ true) ⊎ (b ≡ true)
first-or-rest true b h = inl refl
first-or-rest false b h = inr h

cut-front : (old new : List ℕ) (first line : ℕ) → old ≡ first ∷ new → has_line old line ≡ true → (first ≡ line) ⊎ (has_line new line ≡ true)
cut-front old new first line e h = elim (first-or-rest (nat_eq first line) (has_line new line) (subst (λ (lines : List ℕ). has_line lines line ≡ true) e h)) [
  | inl same ↦ inl (grind (arith, nat_tests))
  | inr there ↦ inr there
]

pub lines-preserved : goal.lines-preserved
lines-preserved c =
    let all = c.lines.invariant in
    let P : ℕ → Type 0 = λ line. (d : ℕ) → d < c.args.cpus → HasFork c.fork_raises.new.self.paths.items c.args.from.now.path.now c.args.from.now.steps (choices.Raise d line) in (
      (λ j path h. c.fork_raises.ensures.keeps j path (all.0 j path h)),
      (λ none. all.1 (c.fork_raises.ensures.cut none)),
      (λ none line there. elim (all.2 (c.fork_raises.ensures.cut none) line there) [
        | inl left ↦ elim (cut-front c.lines.left c.pop.new.self c.in-Some.line line c.in-Some.ensures.least left) [
          | inl same ↦ inr (subst P same (c.in-Ok.ensures.has none))
          | inr later ↦ inl later
        ]
        | inr done ↦ inr (λ d less. fork-still _ _ c.args.from.now.path.now _ _ c.fork_raises.ensures.keeps (done d less))
      ]),
    )
