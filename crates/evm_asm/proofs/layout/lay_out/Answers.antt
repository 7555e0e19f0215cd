use Rattle.std.proofs.Common.{◌≡◌, ◌∙◌, ◌<◌, ◌≤◌, ◌+◌, ◌++◌, ◌∷◌, [], sym, ap, arith, subst, length, rules, List, ℕ, Option, None}
use Rattle.std.proofs.lemmas.List.{append_assoc, append-nil}
use Rattle.evm_asm_parser.specs.evm_asm_lexer.Characters.{newline}
use Rattle.evm_asm_parser.specs.evm_asm_lexer.Text.{after, before}
use Rattle.evm_asm_parser.specs.declared.kept.Kept.{Kept}
use Rattle.evm_asm_parser.specs.Kept.{kept_statement}
use Rattle.evm_asm_parser.specs.Operands.{Spots}
use Rattle.evm_asm.specs.Kept.{AreKept}
use Rattle.evm_asm.specs.declared.place.SectionPlace.{SectionPlace}
use Rattle.evm_asm.specs.Places.{here, statement_in}
use Rattle.evm_asm.specs.Sources.{laid, source_lines, source_start, Laid, code_of, statement_text}
use Rattle.evm_asm.proofs.Line_by_line.{one-line, line-is, no-lines, after-less, code-within, kept-first, kept-none}
use Rattle.evm_asm.proofs.Statements_without_labels.{is_kept}
use Rattle.evm_asm.proofs.layout.lay_out.Goals as goal

pub loop-rest-init : goal.loop-rest-init
loop-rest-init c = record {
  counted = omega arith;
  laid_so_far =
      ap (λ (p : SectionPlace). laid (record { lines = 0; place = p; labels = c.new-labels.result; first = None }) (source_lines c.args.source.now)) c.source_start-place.ensures
      ∙ ap (λ (l : Spots). laid (record { lines = 0; place = source_start; labels = l; first = None }) (source_lines c.args.source.now)) c.new-labels.ensures;
  kept_so_far = λ more all. subst (λ (k : List (Option Kept)). AreKept (k ++ more) (source_lines c.args.source.now)) (sym c.new-kept.ensures) all;
}

pub returns-in-Err-clause-refused : goal.returns-in-Err-clause-refused
returns-in-Err-clause-refused c =
    let code : c.code_of-code.result.now ≡ code_of (before newline c.loop-rest.rest.now) = c.code_of-code.ensures ∙ ap code_of c.cut.ensures.before in
    let asked : c.in-Err.refused ≤ length (code_of (before newline c.loop-rest.rest.now)) + 1 = rw code at c.in-Err.ensures.refused in
    let within = code-within c.loop-rest.rest.now in
    let counted = c.loop-rest.invariant.counted in
    omega arith

pub loop-rest-smaller : goal.loop-rest-smaller
loop-rest-smaller c =
    let some : 0 < length c.loop-rest.rest.now = search rules in
    let less = after-less newline c.loop-rest.rest.now some in
    omega (arith, ap (λ (l : List ℕ). length l) c.cut.ensures.after)

pub loop-rest-preserved : goal.loop-rest-preserved
loop-rest-preserved c =
    let some : 0 < length c.loop-rest.rest.now = search rules in
    let less = after-less newline c.loop-rest.rest.now some in
    let so_far : Laid = record { lines = c.loop-rest.lines; place = c.loop-rest.place; labels = c.loop-rest.labels; first = c.loop-rest.first } in
    let first = before newline c.loop-rest.rest.now in
    let code : c.code_of-code.result.now ≡ code_of first = c.code_of-code.ensures ∙ ap code_of c.cut.ensures.before in
    let line = line-is so_far first c.lay_line.new.labels c.in-Ok.laid (rw code at c.in-Ok.ensures.laid) in
    let k = kept_statement (here c.loop-rest.place) (statement_in c.lay_line.new.labels c.loop-rest.place (statement_text (code_of first))) in
    let kept : c.lay_line.new.kept ≡ c.loop-rest.kept ++ k ∷ [] = rw code at c.in-Ok.ensures.kept in
    record {
      counted = omega (arith, ap (λ (l : List ℕ). length l) c.cut.ensures.after);
      laid_so_far =
          rw (c.cut.ensures.after, c.first_fault-first.ensures)
          (sym (one-line so_far c.loop-rest.rest.now some ∙ ap (λ (s : Laid). laid s (source_lines (after newline c.loop-rest.rest.now))) line) ∙ c.loop-rest.invariant.laid_so_far);
      kept_so_far = λ more all.
          subst (λ (ks : List (Option Kept)). AreKept ks (source_lines c.args.source.now)) (sym (ap (λ (ks : List (Option Kept)). ks ++ more) kept ∙ append_assoc c.loop-rest.kept (k ∷ []) more))
          (c.loop-rest.invariant.kept_so_far (k ∷ more)
          (kept-first k more c.loop-rest.rest.now some (is_kept c.lay_line.new.labels c.loop-rest.place (statement_text (code_of first)))
          (subst (λ (rest : List ℕ). AreKept more (source_lines rest)) c.cut.ensures.after all)));
    }

pub returns-clause-laid : goal.returns-clause-laid
returns-clause-laid c =
    let none : length c.loop-rest.rest.now ≡ 0 = search rules in
    let so_far : Laid = record { lines = c.loop-rest.lines; place = c.loop-rest.place; labels = c.loop-rest.labels; first = c.loop-rest.first } in
    let whole = sym (no-lines so_far c.loop-rest.rest.now none) ∙ c.loop-rest.invariant.laid_so_far in
    record {
      labels_are = ap (λ (s : Laid). s.labels) whole;
      place_is = ap (λ (s : Laid). s.place) whole;
      first_is = ap (λ (s : Laid). s.first) whole;
    }

pub returns-clause-kept : goal.returns-clause-kept
returns-clause-kept c =
    let none : length c.loop-rest.rest.now ≡ 0 = search rules in
    subst (λ (ks : List (Option Kept)). AreKept ks (source_lines c.args.source.now)) (append-nil c.loop-rest.kept)
    (c.loop-rest.invariant.kept_so_far [] (kept-none c.loop-rest.rest.now none))
