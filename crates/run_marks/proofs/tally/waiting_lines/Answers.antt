use Rattle.std.proofs.Common.{◌≡◌, Some, None, true, inl, inr, ap, ◌∙◌}
use Rattle.std.specs.Prelude.{slice_get}
use Rattle.evm_journal.specs.evm_core.Views.{stages_in}
use Rattle.evm_lines.specs.Lines.{has_line}
use Rattle.run_marks.proofs.Sets.{waits}
use Rattle.run_marks.proofs.tally.waiting_lines.Goals as goal

pub returns-in-None : goal.returns-in-None
returns-in-None g c =
    λ l h is. waits (slice_get c.args.machine.now.board.parts.pipes c.args.cpu) l (has_line c.new.result l ≡ true) is (λ p at any. let no : None ≡ stages_in (Some p) = c.in-None.ensures ∙ ap stages_in at in absurd cc)

pub returns-in-Some : goal.returns-in-Some
returns-in-Some g c =
    λ l h is.
    waits (slice_get c.args.machine.now.board.parts.pipes c.args.cpu) l (has_line c.joined-in-Some.result l ≡ true) is
    (λ p at any.
    let same : Some c.in-Some.stages ≡ stages_in (Some p) = c.in-Some.ensures ∙ ap stages_in at in
    let wire : c.in-Some.stages.wire ≡ p.wire = cc in
    let oob : c.in-Some.stages.oob ≡ p.oob = cc in
    let in_band : c.in-Some.stages.in_band ≡ p.in_band = cc in
    elim any [
      | inl on ↦ c.joined-in-Some.ensures.one l h (c.joined.ensures.one l h (ap (λ s. has_line s l) wire ∙ on))
      | inr (inl logged) ↦ c.joined-in-Some.ensures.one l h (c.joined.ensures.other l h (ap (λ log. has_line log.lines l) oob ∙ logged))
      | inr (inr logged) ↦ c.joined-in-Some.ensures.other l h (ap (λ log. has_line log.lines l) in_band ∙ logged)
    ])
