use Rattle.std.proofs.Common.{◌∙◌, ℕ, List, Bool, refl, sym, subst}
use Rattle.evm_streams.specs.Writes.{Took, TookPrefix}
use Rattle.gdb_answers.specs.Responding.{IsResponse, IsWritten, MakesWay, item_sets}
use Rattle.gdb_answers.proofs.serving.serve_item.Goals as goal

pub returns-then-not-is_answered-clause-ok : goal.returns-then-not-is_answered-clause-ok
returns-then-not-is_answered-clause-ok g c =
    let between = c.make_way.new.session in
    let bytes = c.prepare.new.response.out.items in
    let payload = c.as_slice-payload.ensures.value in record {
      between = between;
      way = subst (λ (t : List ℕ). MakesWay (item_sets c.args.item t) c.args.session.now between) payload c.make_way.ensures.way;
      response = subst (λ (t : List ℕ). IsResponse c.args.item t between c.prepare.new.session c.args.exchange.now.response.out.items bytes) payload c.in-Ok.ensures.response;
      written = subst (λ (b : Bool). IsWritten g.W.Sink.takes b bytes c.args.sink.now c.args.sink.now) (sym (sym c.is_answered.ensures ∙ c.if-not-is_answered.true)) refl;
    }

pub returns-in-Ok-write_all-clause-ok : goal.returns-in-Ok-write_all-clause-ok
returns-in-Ok-write_all-clause-ok g c =
    let between = c.make_way.new.session in
    let bytes = c.prepare.new.response.out.items in
    let payload = c.as_slice-payload.ensures.value in record {
      between = between;
      way = subst (λ (t : List ℕ). MakesWay (item_sets c.args.item t) c.args.session.now between) payload c.make_way.ensures.way;
      response = subst (λ (t : List ℕ). IsResponse c.args.item t between c.prepare.new.session c.args.exchange.now.response.out.items bytes) payload c.in-Ok.ensures.response;
      written = subst (λ (b : Bool). IsWritten g.W.Sink.takes b bytes c.args.sink.now c.write_all.new.sink) (sym (sym c.is_answered.ensures ∙ c.if-not-is_answered.false))
          (subst (λ (t : List ℕ). Took g.W.Sink.takes c.args.sink.now t c.write_all.new.sink) c.as_slice.ensures.value c.in-Ok-write_all.ensures);
    }

pub returns-in-Err-write_all-clause-err : goal.returns-in-Err-write_all-clause-err
returns-in-Err-write_all-clause-err g c =
    let between = c.make_way.new.session in
    let bytes = c.prepare.new.response.out.items in
    let payload = c.as_slice-payload.ensures.value in (
      between,
      bytes,
      subst (λ (t : List ℕ). MakesWay (item_sets c.args.item t) c.args.session.now between) payload c.make_way.ensures.way,
      subst (λ (t : List ℕ). IsResponse c.args.item t between c.prepare.new.session c.args.exchange.now.response.out.items bytes) payload c.in-Ok.ensures.response,
      subst (λ (t : List ℕ). TookPrefix g.W.Sink.takes c.args.sink.now t c.write_all.new.sink) c.as_slice.ensures.value c.in-Err-write_all.ensures,
    )
