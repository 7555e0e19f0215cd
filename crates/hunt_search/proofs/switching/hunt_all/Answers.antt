use Rattle.std.proofs.Common.{◌≡◌, ◌+◌, [], ◌∷◌, ◌++◌, List, ℕ, length, sym, ap, subst, ◌∙◌, arith}
use Rattle.std.proofs.lemmas.List.{length_push}
use Rattle.hunt_search.proofs.Branching.{AreSearchedTo, searched-all, searched-more}
use Rattle.hunt_failures.specs.Failures.{FailsAsWanted}
use Rattle.hunt_schedules.specs.Making.{MayMake}
use Rattle.hunt_schedules.specs.Searches.{IsPassed, IsSearched}
use Rattle.hunt_search.proofs.switching.hunt_all.Goals as goal

pub places-preserved : goal.places-preserved
places-preserved g c =
    let all = c.places.invariant in
    let longer = c.in-Ok-push.ensures.items in
    let counted : length c.push.new.self.items ≡ c.places.place + 1 = ap length longer ∙ (length_push c.places.walked.items c.in-Ok-look_at.steps ∙ ap (λ (n : ℕ). n + 1) all.2) in (
      c.in-Ok-look_at.ensures.found,
      c.look_at.ensures.keeps 0 _ all.1,
      counted,
      (λ empty none first begins.
          let branches = c.look_at.new.queue.branches.items in
          let searched = subst (λ (walked : List ℕ). IsSearched (MayMake c.args.target.now.wanted.now.lines) (FailsAsWanted c.args.target.now.wanted.now) first c.args.bounds.now.switches branches (IsPassed first branches (walked ++ c.in-Ok-look_at.steps ∷ [])) c.in-Some.branch c.in-Ok-look_at.steps)
          c.as_slice.ensures.value (c.in-Ok-look_at.ensures.searches empty none first begins) in
          subst (λ (walked : List ℕ). AreSearchedTo c.args.target.now.wanted.now c.args.bounds.now.switches first branches walked (c.places.place + 1)) (sym longer)
          (searched-more c.args.target.now.wanted.now c.args.bounds.now.switches first c.places.queue.branches.items branches c.places.walked.items c.places.place c.in-Ok-look_at.steps c.in-Some.branch
          all.2 c.look_at.ensures.keeps (sym c.in-Some.ensures) searched (all.3 (c.in-Ok-look_at.ensures.rows empty) (c.look_at.ensures.cut none) first begins))),
    )

pub returns-in_default-clause-complete : goal.returns-in_default-clause-complete
returns-in_default-clause-complete g c empty uncut =
    let known = c.is_cut.ensures (sym c.set_cut-in_default.ensures.cut ∙ uncut) in
    let same : c.places.report.rows.items ≡ [] = subst (λ r. r.items ≡ []) c.set_cut-in_default.ensures.rows empty in
    searched-all c.args.target.now.image.now c.args.target.now.boot.now c.args.target.now.wanted.now c.args.bounds.now.switches c.places.queue.branches.items c.places.walked.items c.places.place c.places.invariant.1 known.1
    (λ first begins. c.places.invariant.3 same known.0 first begins)

pub returns-clause-complete : goal.returns-clause-complete
returns-clause-complete g c empty uncut =
    let known = c.is_cut-2.ensures (sym c.set_cut-2.ensures.cut ∙ uncut) in
    let same : c.places.report.rows.items ≡ [] = subst (λ r. r.items ≡ []) c.set_cut-2.ensures.rows empty in
    searched-all c.args.target.now.image.now c.args.target.now.boot.now c.args.target.now.wanted.now c.args.bounds.now.switches c.places.queue.branches.items c.places.walked.items c.places.place c.places.invariant.1 (omega arith)
    (λ first begins. c.places.invariant.3 same known.0 first begins)
