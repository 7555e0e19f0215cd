-- Known bytes over several calls.
use Rattle.std.proofs.Common.{◌≡◌, ◌<◌, ℕ, List, [], ◌++◌, ◌⊎◌, inl, inr, length, take, Option, Some, None, IfSome, refl, ap, ◌∙◌, sym, append_assoc, length-append, arith}
use Rattle.std.specs.Io.KnownBytes.{Appends, Consumes, IsAtEnd, Keeps}
use Rattle.std.proofs.lemmas.List.{append-nil}
use Rattle.evm_streams.specs.declared.cause.Cause.{Cause}
use Rattle.evm_streams.specs.declared.source.Reading.TheVariants as readings
use Rattle.evm_streams.specs.declared.sink.Writing.TheVariants as writings
use Rattle.evm_streams.specs.declared.reads.TheConstants.{FILE_LIMIT}
use Rattle.evm_streams.specs.Reads.{Gave, none, more, Whole}
use Rattle.evm_streams.specs.Writes.{Took, TookPrefix}
use Rattle.evm_streams.specs.Writes as writes
use Rattle.evm_streams.specs.Known.{ReaderGives, WriterTakes, known_read, known_write, KnownRead, KnownWritten}

consumes_none : (a : Option (List ℕ)) → Consumes a a []
consumes_none None = tt
consumes_none (Some p) = refl

consumes_more : (a b c : Option (List ℕ)) (x y : List ℕ) → Consumes a b x → Consumes b c y → Consumes a c (x ++ y)
consumes_more None b c x y h k = tt
consumes_more (Some p) None c x y h k = absurd h
consumes_more (Some p) (Some q) None x y h k = absurd k
consumes_more (Some p) (Some q) (Some r) x y h k = h ∙ ap (λ z. x ++ z) k ∙ sym (append_assoc x y r)

-- what was consumed before the end is all
consumed_all : (a b c : Option (List ℕ)) (x y : List ℕ) → Consumes a b x → Consumes b c [] → IsAtEnd c → IfSome a (λ known. x ≡ known)
consumed_all None b c x y h k e = tt
consumed_all (Some p) None c x y h k e = absurd h
consumed_all (Some p) (Some q) None x y h k e = absurd k
consumed_all (Some p) (Some q) (Some r) x y h k e = sym (h ∙ ap (λ z. x ++ z) (k ∙ e) ∙ append-nil x)

consumed_many : (a b : Option (List ℕ)) (x : List ℕ) → Consumes a b x → FILE_LIMIT < length x → IfSome a (λ known. FILE_LIMIT < length known)
consumed_many None b x h many = tt
consumed_many (Some p) None x h many = absurd h
consumed_many (Some p) (Some q) x h many = rw h (omega (arith, length-append x q))

module _ {R : Type 0} (remaining : R → Option (List ℕ)) where
  gave_known : (s t : R) (bytes : List ℕ) → Gave (ReaderGives remaining) s bytes t → Consumes (remaining s) (remaining t) bytes
  gave_known s t bytes none = consumes_none (remaining s)
  gave_known s t bytes (more {t = before} {bytes = earlier} {part} {n} gave some call) =
      let says = known_read remaining before (readings.Bytes n) part t call in
      consumes_more _ _ _ earlier (take n part) (gave_known s before earlier gave) says.0

  whole_known : (s t : R) (bytes : List ℕ) → Whole (ReaderGives remaining) s bytes t → IfSome (remaining s) (λ known. bytes ≡ known)
  whole_known s t bytes w =
      let says = known_read remaining w.before (readings.Bytes 0) w.part t w.end in
      consumed_all _ _ _ bytes [] (gave_known s w.before bytes w.gave) says.0 (says.1 refl w.room)

  pub reads_known : KnownRead remaining
  reads_known = record {
    gave = gave_known;
    whole = whole_known;
    too_many = λ s t m. consumed_many _ _ m.bytes (gave_known s t m.bytes m.gave) m.many;
  }

appends_none : (a : Option (List ℕ)) → Appends a a []
appends_none None = tt
appends_none (Some p) = sym (append-nil p)

appends_more : (a b c : Option (List ℕ)) (x y : List ℕ) → Appends a b x → Appends b c y → Appends a c (x ++ y)
appends_more None b c x y h k = tt
appends_more (Some p) None c x y h k = absurd h
appends_more (Some p) (Some q) None x y h k = absurd k
appends_more (Some p) (Some q) (Some r) x y h k = k ∙ ap (λ z. z ++ y) h ∙ append_assoc p x y

appends_keeps : (a b c : Option (List ℕ)) (x : List ℕ) → Appends a b x → Keeps b c → Appends a c x
appends_keeps None b c x h k = tt
appends_keeps (Some p) None c x h k = absurd h
appends_keeps (Some p) (Some q) None x h k = absurd k
appends_keeps (Some p) (Some q) (Some r) x h k = k ∙ h

-- a call that took none of them appended none
appended_none : (a b : Option (List ℕ)) → Appends a b [] → Keeps a b
appended_none None b h = tt
appended_none (Some p) None h = absurd h
appended_none (Some p) (Some q) h = h ∙ append-nil p

module _ {W : Type 0} (contents : W → Option (List ℕ)) where
  took_known : (s t : W) (text : List ℕ) → Took (WriterTakes contents) s text t → Appends (contents s) (contents t) text
  took_known s t text writes.none = appends_none (contents s)
  took_known s t text (writes.more {t = before} {bytes = earlier} {part} {n} took some call) =
      appends_more _ _ _ earlier (take n part) (took_known s before earlier took) (known_write contents before (writings.Bytes n) part t call)

  kept : (s t : W) (rest : List ℕ) → ((cause : Cause) × WriterTakes contents s (writings.Failed cause) rest t) ⊎ WriterTakes contents s (writings.Bytes 0) rest t → Keeps (contents s) (contents t)
  kept s t rest (inl call) = known_write contents s (writings.Failed call.0) rest t call.1
  kept s t rest (inr call) = appended_none _ _ (known_write contents s (writings.Bytes 0) rest t call)

  pub writes_known : KnownWritten contents
  writes_known = record {
    whole = took_known;
    failed = λ s t text f. record {
      prefix = f.prefix;
      rest = f.part ++ f.later;
      whole = f.whole ∙ append_assoc f.prefix f.part f.later;
      written = appends_keeps _ _ _ f.prefix (took_known s f.before f.prefix f.took) (kept f.before t f.part f.failed);
    };
  }
