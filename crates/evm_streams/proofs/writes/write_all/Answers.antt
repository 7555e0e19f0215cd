use Rattle.std.proofs.Common.{◌≡◌, ◌<◌, ℕ, List, [], ◌++◌, ◌-◌, length, take, drop, refl, ap, sym, ◌∙◌, append_assoc, arith, rules, subst, inl, inr, length-drop}
use Rattle.std.proofs.lemmas.List.{append-nil, take-append-drop, take_all}
use Rattle.evm_streams.specs.declared.sink.Writing.TheVariants.{Bytes}
use Rattle.evm_streams.proofs.Calls.{took_none, took_more}
use Rattle.evm_streams.proofs.writes.write_all.Goals as goal

-- the prefix grows by what the sink took
longer : (text prefix rest : List ℕ) (n : ℕ) → text ≡ prefix ++ rest → text ≡ (prefix ++ take n rest) ++ take (length rest - n) (drop n rest)
longer text prefix rest n e =
    let tail : take (length rest - n) (drop n rest) ≡ drop n rest = take_all (length rest - n) (drop n rest) (omega (arith, length-drop n rest)) in
    rw tail (e ∙ ap (λ z. prefix ++ z) (sym (take-append-drop n rest)) ∙ sym (append_assoc prefix (take n rest) (drop n rest)))

pub calls-init : goal.calls-init
calls-init g c = ([], refl, took_none _ _)

pub calls-preserved : goal.calls-preserved
calls-preserved g c =
    let prefix : List ℕ = c.calls.invariant.0 in
    let some : 0 < c.in-Bytes.n = omega arith in (
      prefix ++ take c.in-Bytes.n c.calls.rest.now,
      longer c.args.text.now prefix c.calls.rest.now c.in-Bytes.n c.calls.invariant.1,
      took_more _ _ _ _ prefix c.calls.rest.now c.in-Bytes.n c.calls.invariant.2 some c.in-Bytes.ensures.call,
    )

-- the text, as what was taken, what was offered and no more
whole : (text prefix rest : List ℕ) → text ≡ prefix ++ rest → text ≡ (prefix ++ rest) ++ []
whole text prefix rest e = e ∙ sym (append-nil (prefix ++ rest))

pub returns-in-Failed : goal.returns-in-Failed
returns-in-Failed g c =
    let left : 0 < length c.calls.rest.now = search rules in record {
      prefix = c.calls.invariant.0;
      part = c.calls.rest.now;
      later = [];
      before = c.calls.sink;
      whole = whole c.args.text.now c.calls.invariant.0 c.calls.rest.now c.calls.invariant.1;
      took = c.calls.invariant.2;
      left = left;
      failed = inl (c.in-Failed.cause, c.in-Failed.ensures.call);
    }

pub returns-in-Bytes-eq0 : goal.returns-in-Bytes-eq0
returns-in-Bytes-eq0 g c =
    let left : 0 < length c.calls.rest.now = search rules in
    let P : ℕ → Type 0 = λ n. g.W.Sink.takes c.calls.sink (Bytes n) c.calls.rest.now c.write.new.self in
    let zero : c.in-Bytes-eq0.field-0 ≡ 0 = search rules in
    let none : P 0 = subst P zero c.in-Bytes-eq0.ensures.call in record {
      prefix = c.calls.invariant.0;
      part = c.calls.rest.now;
      later = [];
      before = c.calls.sink;
      whole = whole c.args.text.now c.calls.invariant.0 c.calls.rest.now c.calls.invariant.1;
      took = c.calls.invariant.2;
      left = left;
      failed = inr none;
    }
