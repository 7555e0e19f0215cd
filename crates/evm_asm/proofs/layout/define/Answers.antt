use Rattle.std.proofs.Common.{ℕ, ◌∙◌, ◌-◌, ◌+◌, ◌≤◌, sym, ap, arith, rules, length}
use Rattle.evm_asm.specs.Sources.{defined, Defined}
use Rattle.evm_asm.proofs.Line_by_line.{label-within, defined-none, defined-some, defined-done, behind_labels-none, behind_labels-some, behind_labels-done}
use Rattle.evm_asm.proofs.layout.define.Goals as goal

pub returns-in-None-clause-defined : goal.returns-in-None-clause-defined
returns-in-None-clause-defined c =
    sym (defined-none (length c.args.text.now - c.loop.counter) c.args.spot c.loop.rest.now (record { labels = c.loop.labels; twice = c.loop.twice }) (sym c.in-None.ensures)) ∙ c.loop.invariant.defined_so_far

pub returns-in_err-twice-in-Some-clause-refused : goal.returns-in_err-twice-in-Some-clause-refused
returns-in_err-twice-in-Some-clause-refused c =
    let cut = label-within c.loop.rest.now c.in-Some.name.now c.in-Some.tail.now (sym c.in-Some.ensures) in
    let longest = cut.0 in
    let within = c.loop.invariant.within in
    let bound : (asked : ℕ) → asked ≤ length c.in-Some.name.now + 1 → asked ≤ length c.args.text.now + 1 = λ asked h. omega arith in
    let most = bound c.in_err-twice-in-Some.field-0.0 c.in_err-twice-in-Some.ensures.refused in
    search (rules, most)

pub loop-preserved : goal.loop-preserved
loop-preserved c =
    let so_far : Defined = record { labels = c.loop.labels; twice = c.loop.twice } in
    let rest = length c.args.text.now - (c.loop.counter + 1) in
    let cut = label-within c.loop.rest.now c.in-Some.name.now c.in-Some.tail.now (sym c.in-Some.ensures) in
    let within = c.loop.invariant.within in
    record {
      within = let shorter = cut.1 in omega arith;
      defined_so_far =
          ap (λ d. defined rest c.args.spot c.in-Some.tail.now d) c.in_ok-twice-in-Some.ensures.added
          ∙ sym (defined-some (length c.args.text.now) c.loop.counter c.args.spot c.loop.rest.now c.in-Some.name.now c.in-Some.tail.now so_far c.loop-test.true (sym c.in-Some.ensures))
          ∙ c.loop.invariant.defined_so_far;
      behind_so_far =
          sym (behind_labels-some (length c.args.text.now) c.loop.counter c.loop.rest.now c.in-Some.name.now c.in-Some.tail.now c.loop-test.true (sym c.in-Some.ensures))
          ∙ c.loop.invariant.behind_so_far;
    }

pub returns-clause-defined : goal.returns-clause-defined
returns-clause-defined c =
    sym (defined-done (length c.args.text.now) c.loop.counter c.args.spot c.loop.rest.now (record { labels = c.loop.labels; twice = c.loop.twice }) c.loop-test.false) ∙ c.loop.invariant.defined_so_far

pub returns-in-None-clause-behind : goal.returns-in-None-clause-behind
returns-in-None-clause-behind c =
    sym (behind_labels-none (length c.args.text.now - c.loop.counter) c.loop.rest.now (sym c.in-None.ensures)) ∙ c.loop.invariant.behind_so_far

pub returns-clause-behind : goal.returns-clause-behind
returns-clause-behind c =
    sym (behind_labels-done (length c.args.text.now) c.loop.counter c.loop.rest.now c.loop-test.false) ∙ c.loop.invariant.behind_so_far
