use Rattle.std.proofs.Common.{◌≡◌, ◌<◌, ◌+◌, ℕ, List, true, false, inl, inr, sym, ap, subst, ◌∙◌, arith}
use Rattle.std.proofs.lemmas.Bool.{cases_eq}
use Rattle.evm_lines.specs.Laws.{has_line-with_same}
use Rattle.evm_lines.specs.Lines.{has_line, with_line}
use Rattle.evm_lines.specs.declared.TheConstants.{LINES}
use Rattle.evm_model.specs.declared.limits.TheConstants.{DEVICE_LINE}
use Rattle.run_marks.proofs.Sets.{either, still}
use Rattle.run_marks.specs.Tallies.{SameRaised}
use Rattle.run_marks.proofs.tally.with_raised.Goals as goal
use Rattle.run_marks.proofs.tally.with_raised.Goals.{then-not-same_raised, else-not-same_raised}

pub loop-device-preserved : goal.loop-device-preserved
loop-device-preserved c =
    let held = c.loop-device.invariant in
    elim c.if-not-same_raised.branch [
      | then-not-same_raised w ↦
          let line : ℕ = DEVICE_LINE + c.loop-device.device in
          let now : c.if-not-same_raised.all ≡ with_line c.loop-device.all line = w.all-is ∙ w.insert.ensures in
          let small : line < LINES = (let h = c.loop-device-test.true in omega (arith, h)) in
          let keeps : (k : ℕ) → k < LINES → has_line c.loop-device.all k ≡ true → has_line c.if-not-same_raised.all k ≡ true =
          λ k h is. subst (λ (s : List ℕ). has_line s k ≡ true) (sym now) (still c.loop-device.all line k h is) in
          let has : has_line c.if-not-same_raised.all line ≡ true = subst (λ (s : List ℕ). has_line s line ≡ true) (sym now) (has_line-with_same c.loop-device.all line small) in
          record {
            lines = λ k h is. keeps k h (held.lines k h is);
            raised = λ k low high none. elim (cases_eq k line) [
              | inl same ↦ let no : true ≡ false = sym has ∙ ap (has_line c.if-not-same_raised.all) (sym same) ∙ none in absurd cc
              | inr other ↦
                  let below : k < line = omega (arith, high, other) in
                  let was : has_line c.loop-device.all k ≡ false =
                  either (has_line c.loop-device.all k) (has_line c.loop-device.all k ≡ false) (λ is. let no : true ≡ false = sym (keeps k (omega (arith, below, small)) is) ∙ none in absurd cc) (λ is. is) in
                  held.raised k low below was
            ];
          }
      | else-not-same_raised w ↦
          let now : c.if-not-same_raised.all ≡ c.loop-device.all = w.all-is in
          record {
            lines = λ k h is. ap (λ s. has_line s k) now ∙ held.lines k h is;
            raised = λ k low high none. elim (cases_eq k (DEVICE_LINE + c.loop-device.device)) [
              | inl same ↦ subst (λ j. SameRaised j c.args.before.now c.args.after.now) (sym same) (c.same_raised.ensures w.if-not-same_raised.false)
              | inr other ↦ held.raised k low (omega (arith, high, other)) (ap (λ s. has_line s k) (sym now) ∙ none)
            ];
          }
    ]
