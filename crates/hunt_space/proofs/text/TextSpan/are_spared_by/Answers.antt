use Rattle.std.proofs.Common.{◌≡◌, ℕ, Some, true, below_more, rules, subst, arith}
use Rattle.std.specs.Prelude.{slice_get}
use Rattle.std.proofs.lemmas.Option.{slice_get_within, get_or_from_slice_get}
use Rattle.law_runs.specs.Ahead.{actor}
use Rattle.law_runs.specs.Sparing.{spares_text}
use Rattle.hunt_space.proofs.text.TextSpan.are_spared_by.Goals as goal

pub cpus-preserved : goal.cpus-preserved
cpus-preserved c =
    let b = c.args.machine.now.board in
    let Q : ℕ → Type 0 = λ n. (t : ℕ) → actor n b ≡ Some t → spares_text c.args.self.low c.args.self.high b.memory (slice_get b.parts.harts t) ≡ true in
    let P : ℕ → Type 0 = λ i. (d : ℕ) → slice_get c.args.cpus.now i ≡ Some d → Q d in
    let spared : c.is_spared_by.result ≡ true = search rules in
    let here : P c.cpus.cpu-index = λ d there. subst Q (get_or_from_slice_get c.args.cpus.now c.cpus.cpu-index d 0 there) (c.is_spared_by.ensures spared) in
    λ i d t less there acts. below_more P c.cpus.cpu-index (λ e h f is u on. c.cpus.invariant e f u h is on) here i less d there t acts

pub returns : goal.returns
returns c spared i cpu t there acts = c.cpus.invariant i cpu t (let h = slice_get_within c.args.cpus.now i cpu there in omega arith) there acts
