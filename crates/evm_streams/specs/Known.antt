-- Readers and writers of std, whose bytes may be known, as a slice's or a Vec's are.
use Rattle.std.specs.Prelude.{◌≡◌, ◌<◌, ℕ, List, ◌++◌, Option, IfSome, length, take}
use Rattle.std.specs.Io.KnownBytes.{Appends, Consumes, IsAtEnd, Keeps}
use Rattle.evm_streams.specs.declared.source.Reading.{Reading}
use Rattle.evm_streams.specs.declared.source.Reading.TheVariants as readings
use Rattle.evm_streams.specs.declared.sink.Writing.{Writing}
use Rattle.evm_streams.specs.declared.sink.Writing.TheVariants as writings
use Rattle.evm_streams.specs.declared.reads.TheConstants.{FILE_LIMIT}
use Rattle.evm_streams.specs.Reads.{Gave, Whole, TooMany}
use Rattle.evm_streams.specs.Writes.{Took, TookPrefix}

-- What std says of a call of `read`: known bytes lose those that it gave, and are at their end where it gave none of them.
abbrev pub ReadSays : {R : Type 0} → (R → Option (List ℕ)) → R → Reading → List ℕ → R → Type 0
ReadSays remaining s (readings.Bytes n) part t = Consumes (remaining s) (remaining t) (take n part) × (n ≡ 0 → 0 < length part → IsAtEnd (remaining t))
ReadSays remaining s (readings.Failed cause) part t = Keeps (remaining s) (remaining t)

-- What std says of a call of `write`: known contents grow by the bytes that it took.
abbrev pub WriteSays : {W : Type 0} → (W → Option (List ℕ)) → W → Writing → List ℕ → W → Type 0
WriteSays contents s (writings.Bytes n) text t = Appends (contents s) (contents t) (take n text)
WriteSays contents s (writings.Failed cause) text t = Keeps (contents s) (contents t)

-- A call of a reader of std, and of a writer: opaque, so that a proof has it of a call alone.
pub ReaderGives : {R : Type 0} → (R → Option (List ℕ)) → R → Reading → List ℕ → R → Type 0
ReaderGives remaining s reading part t = ReadSays remaining s reading part t

pub WriterTakes : {W : Type 0} → (W → Option (List ℕ)) → W → Writing → List ℕ → W → Type 0
WriterTakes contents s writing text t = WriteSays contents s writing text t

-- What is trusted of a call: the adapters alone cite these two.
pub trusted_read : {R : Type 0} (remaining : R → Option (List ℕ)) (s : R) (reading : Reading) (part : List ℕ) (t : R) → ReadSays remaining s reading part t → ReaderGives remaining s reading part t
unfolding ReaderGives
trusted_read remaining s reading part t h = h

pub trusted_write : {W : Type 0} (contents : W → Option (List ℕ)) (s : W) (writing : Writing) (text : List ℕ) (t : W) → WriteSays contents s writing text t → WriterTakes contents s writing text t
unfolding WriterTakes
trusted_write contents s writing text t h = h

-- what a call did to known bytes
pub known_read : {R : Type 0} (remaining : R → Option (List ℕ)) (s : R) (reading : Reading) (part : List ℕ) (t : R) → ReaderGives remaining s reading part t → ReadSays remaining s reading part t
unfolding ReaderGives
known_read remaining s reading part t h = h

pub known_write : {W : Type 0} (contents : W → Option (List ℕ)) (s : W) (writing : Writing) (text : List ℕ) (t : W) → WriterTakes contents s writing text t → WriteSays contents s writing text t
unfolding WriterTakes
known_write contents s writing text t h = h

-- A reader of known bytes that was read whole gave these, and one that gave too many had too many.
pub record KnownRead {R : Type 0} (remaining : R → Option (List ℕ)) : Type 0 where
  pub gave : (s t : R) (bytes : List ℕ) → Gave (ReaderGives remaining) s bytes t → Consumes (remaining s) (remaining t) bytes
  pub whole : (s t : R) (bytes : List ℕ) → Whole (ReaderGives remaining) s bytes t → IfSome (remaining s) (λ known. bytes ≡ known)
  pub too_many : (s t : R) → TooMany (ReaderGives remaining) s t → IfSome (remaining s) (λ known. FILE_LIMIT < length known)

-- Behind known contents stands a prefix of the text.
pub record AppendsPrefix (old new : Option (List ℕ)) (text : List ℕ) : Type 0 where
  pub prefix : List ℕ
  pub rest : List ℕ
  pub whole : text ≡ prefix ++ rest
  pub written : Appends old new prefix

-- A writer of known contents that took a text holds it behind them, and one that failed a prefix of it.
pub record KnownWritten {W : Type 0} (contents : W → Option (List ℕ)) : Type 0 where
  pub whole : (s t : W) (text : List ℕ) → Took (WriterTakes contents) s text t → Appends (contents s) (contents t) text
  pub failed : (s t : W) (text : List ℕ) → TookPrefix (WriterTakes contents) s text t → AppendsPrefix (contents s) (contents t) text
