-- What the calls of a sink did, one after another. Of what a call takes nothing is known but what the call itself shows.
use Rattle.std.specs.Prelude.{◌≡◌, ◌<◌, ℕ, List, [], ◌++◌, ◌⊎◌, length, take}
use Rattle.evm_streams.specs.declared.cause.Cause.{Cause}
use Rattle.evm_streams.specs.declared.sink.Writing.{Writing}
use Rattle.evm_streams.specs.declared.sink.Writing.TheVariants.{Bytes, Failed}

-- These bytes were taken by calls that led from one state to the other, each of which took some.
pub data Took {W : Type 0} (takes : W → Writing → List ℕ → W → Type 0) : W → List ℕ → W → Type 0 where
  none : {s : W} → Took takes s [] s
  more : {s t u : W} {bytes part : List ℕ} {n : ℕ} → Took takes s bytes t → 0 < n → takes t (Bytes n) part u → Took takes s (bytes ++ take n part) u

module _ {W : Type 0} (takes : W → Writing → List ℕ → W → Type 0) where
  -- A prefix of the text was taken, and the next call, which was offered bytes that follow it, failed or took none of them.
  pub record TookPrefix (s : W) (text : List ℕ) (t : W) : Type 0 where
    pub prefix : List ℕ
    pub part : List ℕ
    pub later : List ℕ
    pub before : W
    pub whole : text ≡ (prefix ++ part) ++ later
    pub took : Took takes s prefix before
    pub left : 0 < length part
    pub failed : ((cause : Cause) × takes before (Failed cause) part t) ⊎ takes before (Bytes 0) part t
