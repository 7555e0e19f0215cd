-- One call more.
use Rattle.std.proofs.Common.{◌≡◌, ◌<◌, ℕ, List, [], ◌++◌, take, refl, ap, sym, ◌∙◌, subst, append_assoc}
use Rattle.std.proofs.lemmas.List.{append-nil}
use Rattle.evm_streams.specs.declared.source.Reading.{Reading}
use Rattle.evm_streams.specs.declared.source.Reading.TheVariants as readings
use Rattle.evm_streams.specs.declared.sink.Writing.{Writing}
use Rattle.evm_streams.specs.declared.sink.Writing.TheVariants as writings
use Rattle.evm_streams.specs.Reads.{Gave, none, more}
use Rattle.evm_streams.specs.Writes.{Took, TookPrefix}
use Rattle.evm_streams.specs.Writes as writes

module _ {R : Type 0} (gives : R → Reading → List ℕ → R → Type 0) where
  pub gave_none : (s : R) (bytes : List ℕ) → bytes ≡ [] → Gave gives s bytes s
  gave_none s bytes e = let P : List ℕ → Type 0 = λ z. Gave gives s z s in subst P (sym e) none

  pub gave_more : (s t u : R) (bytes part new : List ℕ) (n : ℕ) → Gave gives s bytes t → 0 < n → gives t (readings.Bytes n) part u → new ≡ bytes ++ take n part → Gave gives s new u
  gave_more s t u bytes part new n gave some call e = let P : List ℕ → Type 0 = λ z. Gave gives s z u in subst P (sym e) (more gave some call)

module _ {W : Type 0} (takes : W → Writing → List ℕ → W → Type 0) where
  pub took_none : (s : W) → Took takes s [] s
  took_none s = writes.none

  pub took_more : (s t u : W) (bytes part : List ℕ) (n : ℕ) → Took takes s bytes t → 0 < n → takes t (writings.Bytes n) part u → Took takes s (bytes ++ take n part) u
  took_more s t u bytes part n took some call = writes.more took some call

  -- more was taken behind what was taken
  pub took_append : (s t u : W) (a b : List ℕ) → Took takes s a t → Took takes t b u → Took takes s (a ++ b) u
  took_append s t u a b took writes.none = let P : List ℕ → Type 0 = λ z. Took takes s z t in subst P (sym (append-nil a)) took
  took_append s t u a b took (writes.more {t = before} {bytes = earlier} {part} {n} behind some call) =
      let P : List ℕ → Type 0 = λ z. Took takes s z u in
      subst P (append_assoc a earlier (take n part)) (writes.more (took_append s t before a earlier took behind) some call)

  -- a prefix was taken behind what was taken
  pub prefix_behind : (s t u : W) (a b : List ℕ) → Took takes s a t → TookPrefix takes t b u → TookPrefix takes s (a ++ b) u
  prefix_behind s t u a b took f = record {
    prefix = a ++ f.prefix;
    part = f.part;
    later = f.later;
    before = f.before;
    whole = rw (f.whole, append_assoc a f.prefix f.part, append_assoc a (f.prefix ++ f.part) f.later) refl;
    took = took_append s t f.before a f.prefix took f.took;
    left = f.left;
    failed = f.failed;
  }

  -- a prefix of a text is one of any longer text
  pub prefix_longer : (s t : W) (text tail : List ℕ) → TookPrefix takes s text t → TookPrefix takes s (text ++ tail) t
  prefix_longer s t text tail f = record {
    prefix = f.prefix;
    part = f.part;
    later = f.later ++ tail;
    before = f.before;
    whole = ap (λ z. z ++ tail) f.whole ∙ append_assoc (f.prefix ++ f.part) f.later tail;
    took = f.took;
    left = f.left;
    failed = f.failed;
  }
