use Rattle.std.proofs.Common.{◌≡◌, ℕ, List, true, inl, inr, subst, sym}
use Rattle.evm_lines.specs.Laws.{has_line-with_same}
use Rattle.evm_lines.specs.Lines.{has_line, with_line}
use Rattle.run_marks.proofs.Sets.{cut, still}
use Rattle.run_marks.proofs.tally.joined.Goals as goal

pub lines-preserved : goal.lines-preserved
lines-preserved c =
    let held = c.lines.invariant in
    let now : c.insert.new.self ≡ with_line c.lines.all c.in-Some.line = c.insert.ensures in
    record {
      one = λ k h is. subst (λ (s : List ℕ). has_line s k ≡ true) (sym now) (still c.lines.all c.in-Some.line k h (held.one k h is));
      other = λ k h is. elim (held.other k h is) [
        | inl left ↦ elim (cut c.lines.left c.pop.new.self c.in-Some.line k c.in-Some.ensures.least left) [
          | inl here ↦ inr (subst (λ (s : List ℕ). has_line s k ≡ true) (sym now) (subst (λ j. has_line (with_line c.lines.all c.in-Some.line) j ≡ true) here (has_line-with_same c.lines.all c.in-Some.line c.in-Some.ensures.in_range)))
          | inr later ↦ inl later
        ]
        | inr came ↦ inr (subst (λ (s : List ℕ). has_line s k ≡ true) (sym now) (still c.lines.all c.in-Some.line k h came))
      ];
    }
