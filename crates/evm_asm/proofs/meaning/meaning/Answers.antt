use Rattle.std.proofs.Common.{◌≡◌, ◌∙◌, ◌<◌, ◌+◌, sym, ap, arith, subst, length, rules, List, ℕ, Option}
use Rattle.std.proofs.lemmas.Result.{err_from_is_err_and}
use Rattle.evm_asm_parser.specs.declared.kept.Kept.{Kept}
use Rattle.evm_asm.specs.Kept.{IsKept, AreKept, first_kept, other_kept}
use Rattle.evm_asm_parser.specs.evm_asm_lexer.Characters.{newline}
use Rattle.evm_asm_parser.specs.evm_asm_lexer.Text.{before}
use Rattle.evm_asm.specs.Sources.{source_lines, code_of, source_start, statement_text}
use Rattle.evm_asm.specs.Items.{layout_of, lines_meant, meaning_of}
use Rattle.evm_asm.specs.declared.item.Placed.{Placed}
use Rattle.evm_asm.specs.declared.place.SectionPlace.{SectionPlace}
use Rattle.evm_asm.proofs.Line_by_line.{after-less, kept-rest}
use Rattle.evm_asm.proofs.Line_by_line.{same-line, goes-on, stops, ends, fails-on}
use Rattle.evm_asm.proofs.meaning.meaning.Goals as goal

pub loop-rest-init : goal.loop-rest-init
unfolding meaning_of
loop-rest-init c = record {
  counted = omega arith;
  meant_so_far =
      let l = layout_of c.args.source.now in
      ap (λ (p : SectionPlace). lines_meant l 0 p (source_lines c.args.source.now) c.new-items.result.items) c.source_start-place.ensures
      ∙ ap (λ (i : List Placed). lines_meant l 0 source_start (source_lines c.args.source.now) i) c.new-items.ensures.items;
  kept = subst (λ (k : List (Option Kept)). AreKept k (source_lines c.args.source.now)) (sym c.lines-known.ensures) c.requires.kept;
}

pub push_or_fault-requires : goal.push_or_fault-requires
push_or_fault-requires c =
    let some : 0 < length c.loop-rest.rest.now = search rules in
    let code : c.code_of.result.now ≡ code_of (before newline c.loop-rest.rest.now) = c.code_of.ensures ∙ ap code_of c.cut.ensures.before in
    subst (λ (k : Option Kept). IsKept k (statement_text c.code_of.result.now)) (sym c.first_kept.ensures)
    (subst (λ (t : List ℕ). IsKept (first_kept c.loop-rest.known.now) (statement_text t)) (sym code) (kept-rest c.loop-rest.known.now c.loop-rest.rest.now some c.loop-rest.invariant.kept).0)

pub returns-in_err-place : goal.returns-in_err-place
returns-in_err-place c =
    let some : 0 < length c.loop-rest.rest.now = search rules in
    let l = layout_of c.args.source.now in
    let a = c.args.layout.now in
    let code : c.code_of.result.now ≡ code_of (before newline c.loop-rest.rest.now) = c.code_of.ensures ∙ ap code_of c.cut.ensures.before in
    let p = err_from_is_err_and c.from_residual.result c.from_residual.ensures.1 in
    rw (p.1, p.2)
    (fails-on 1 c.in_err-place.field-0.0 _ (meaning_of c.args.source.now)
    (λ fault h.
    let here = sym (same-line a.labels a.place a.first l c.requires.laid (c.loop-rest.lines + 1) c.loop-rest.place (code_of (before newline c.loop-rest.rest.now)) c.loop-rest.items.items) ∙ h in
    sym c.loop-rest.invariant.meant_so_far ∙ stops l c.loop-rest.lines c.loop-rest.place c.loop-rest.rest.now c.loop-rest.items.items fault some here)
    (rw code at c.in_err-place.ensures))

pub loop-rest-smaller : goal.loop-rest-smaller
loop-rest-smaller c =
    let some : 0 < length c.loop-rest.rest.now = search rules in
    let less = after-less newline c.loop-rest.rest.now some in
    omega (arith, ap (λ (l : List ℕ). length l) c.cut.ensures.after)

pub loop-rest-preserved : goal.loop-rest-preserved
loop-rest-preserved c =
    let some : 0 < length c.loop-rest.rest.now = search rules in
    let less = after-less newline c.loop-rest.rest.now some in
    let l = layout_of c.args.source.now in
    let a = c.args.layout.now in
    let code : c.code_of.result.now ≡ code_of (before newline c.loop-rest.rest.now) = c.code_of.ensures ∙ ap code_of c.cut.ensures.before in
    let here = sym (same-line a.labels a.place a.first l c.requires.laid (c.loop-rest.lines + 1) c.loop-rest.place (code_of (before newline c.loop-rest.rest.now)) c.loop-rest.items.items) ∙ (rw code at c.in_ok-place.ensures) in
    record {
      counted = omega (arith, ap (λ (l : List ℕ). length l) c.cut.ensures.after);
      meant_so_far =
          rw c.cut.ensures.after
          (sym (goes-on l c.loop-rest.lines c.loop-rest.place c.loop-rest.rest.now c.loop-rest.items.items _ c.push_or_fault.new.items.items some here) ∙ c.loop-rest.invariant.meant_so_far);
      kept =
          subst (λ (ks : List (Option Kept)). AreKept ks (source_lines c.cut.result.1.now)) (sym c.other_kept-known.ensures)
          (subst (λ (r : List ℕ). AreKept (other_kept c.loop-rest.known.now) (source_lines r)) (sym c.cut.ensures.after)
          (kept-rest c.loop-rest.known.now c.loop-rest.rest.now some c.loop-rest.invariant.kept).1);
    }

pub returns : goal.returns
returns c =
    let none : length c.loop-rest.rest.now ≡ 0 = search rules in
    sym c.loop-rest.invariant.meant_so_far ∙ ends (layout_of c.args.source.now) c.loop-rest.lines c.loop-rest.place c.loop-rest.rest.now c.loop-rest.items.items none
