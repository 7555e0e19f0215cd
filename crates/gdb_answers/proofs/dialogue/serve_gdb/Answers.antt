use Rattle.std.proofs.Common.{true, false, ◌≡◌, ◌∙◌, ℕ, List, Option, None, sym, subst, rules, arith}
use Rattle.gdb_tape.proofs.Keeping.{keeps_same, keeps_more}
use Rattle.gdb_answers.specs.Turns.{AnswersAll, BreaksOff, pause}
use Rattle.gdb_answers.proofs.Turning.{gone_on, served_broken, served_end, served_failed, served_long, served_pause}
use Rattle.gdb_answers.proofs.Turns.{gone_nowhere}
use Rattle.gdb_answers.proofs.dialogue.serve_gdb.Goals as goal

pub parts-init : goal.parts-init
parts-init g c = record { kept = keeps_same _; gone = gone_nowhere g.R.Source.gives g.W.Sink.takes _ _ }

pub returns-in-Err-clause-served : goal.returns-in-Err-clause-served
returns-in-Err-clause-served g c =
    let last = c.parts.dialogue.exchange.response.out.items in
    let broken = subst (λ (heard : List ℕ). BreaksOff g.W.Sink.takes c.in-Err.ended (record { session = c.parts.session; heard = heard; last = last; sink = c.parts.sink }) c.serve_items.new.session c.serve_items.new.sink) c.as_slice-heard.ensures.value c.in-Err.ensures.breaks in
    served_broken g.R.Source.gives g.W.Sink.takes _ c.in-Err.ended _ _ _ _ _ c.parts.invariant.gone broken

pub returns-in-Some-clause-served : goal.returns-in-Some-clause-served
returns-in-Some-clause-served g c =
    let last = c.parts.dialogue.exchange.response.out.items in
    let all = subst (λ (heard : List ℕ). AnswersAll g.W.Sink.takes c.in-Ok.left (record { session = c.parts.session; heard = heard; last = last; sink = c.parts.sink }) c.serve_items.new.session c.serve_items.new.exchange.response.out.items c.serve_items.new.sink) c.as_slice-heard.ensures.value c.in-Ok.ensures.all in
    served_pause g.R.Source.gives g.W.Sink.takes _ _ _ _ _ _ _ _ _ _ c.parts.invariant.gone all c.keep_last.ensures c.in-Some.ended (sym c.pause_of.ensures ∙ c.in-Some.is)

pub returns-in-Ok-false-clause-served : goal.returns-in-Ok-false-clause-served
returns-in-Ok-false-clause-served g c =
    let end : c.in-Ok-false.field-0 ≡ false = search rules in
    let last = c.parts.dialogue.exchange.response.out.items in
    let all = subst (λ (heard : List ℕ). AnswersAll g.W.Sink.takes c.in-Ok.left (record { session = c.parts.session; heard = heard; last = last; sink = c.parts.sink }) c.serve_items.new.session c.serve_items.new.exchange.response.out.items c.serve_items.new.sink) c.as_slice-heard.ensures.value c.in-Ok.ensures.all in
    let goes : pause c.serve_items.new.session ≡ None = search rules in
    served_end g.R.Source.gives g.W.Sink.takes _ _ _ _ _ _ _ _ _ _ c.parts.invariant.gone all c.keep_last.ensures goes c.read_more.new.source c.read_more.new.heard.items (rw end at c.in-Ok-false.ensures)

pub returns-in-Err-read_more-clause-served : goal.returns-in-Err-read_more-clause-served
returns-in-Err-read_more-clause-served g c =
    let last = c.parts.dialogue.exchange.response.out.items in
    let all = subst (λ (heard : List ℕ). AnswersAll g.W.Sink.takes c.in-Ok.left (record { session = c.parts.session; heard = heard; last = last; sink = c.parts.sink }) c.serve_items.new.session c.serve_items.new.exchange.response.out.items c.serve_items.new.sink) c.as_slice-heard.ensures.value c.in-Ok.ensures.all in
    let goes : pause c.serve_items.new.session ≡ None = search rules in
    served_failed g.R.Source.gives g.W.Sink.takes _ _ _ _ _ _ _ _ _ _ c.parts.invariant.gone all c.keep_last.ensures goes c.in-Err-read_more.ended c.read_more.new.source c.read_more.new.heard.items c.in-Err-read_more.ensures

pub parts-preserved : goal.parts-preserved
parts-preserved g c =
    let some : c.in-Ok-true.field-0 ≡ true = search rules in
    let last = c.parts.dialogue.exchange.response.out.items in
    let all = subst (λ (heard : List ℕ). AnswersAll g.W.Sink.takes c.in-Ok.left (record { session = c.parts.session; heard = heard; last = last; sink = c.parts.sink }) c.serve_items.new.session c.serve_items.new.exchange.response.out.items c.serve_items.new.sink) c.as_slice-heard.ensures.value c.in-Ok.ensures.all in
    let goes : pause c.serve_items.new.session ≡ None = search rules in record {
      kept = keeps_more _ _ _ c.parts.invariant.kept c.in-Ok.ensures.kept;
      gone = gone_on g.R.Source.gives g.W.Sink.takes _ _ _ _ _ _ _ _ _ _ c.parts.invariant.gone all c.keep_last.ensures goes c.read_more.new.source c.read_more.new.heard.items (rw some at c.in-Ok-true.ensures);
    }

pub returns-clause-served : goal.returns-clause-served
returns-clause-served g c = served_long g.R.Source.gives g.W.Sink.takes _ _ _ _ _ c.parts.invariant.gone (omega (arith, c.parts-test.false))
