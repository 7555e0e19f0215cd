-- What the calls of a source did, one after another. Of what a call gives nothing is known but what the call itself shows.
use Rattle.std.specs.Prelude.{◌<◌, ◌≤◌, ℕ, List, [], ◌++◌, length, take, Result, Ok, Err, IsUtf8}
use Rattle.evm_room.specs.Growth.{RefusedWithin}
use Rattle.evm_streams.specs.declared.reads.TheConstants.{FILE_LIMIT}
use Rattle.evm_streams.specs.declared.cause.Cause.{Cause}
use Rattle.evm_streams.specs.declared.source.Reading.{Reading}
use Rattle.evm_streams.specs.declared.source.Reading.TheVariants.{Bytes, Failed}
use Rattle.evm_streams.specs.declared.source.ReadFault.TheVariants as faults
use Rattle.evm_streams.specs.declared.source.ReadStop.{ReadStop}
use Rattle.evm_streams.specs.declared.source.ReadStop.TheVariants.{NoMemory, Fault}

-- These bytes were given by calls that led from one state to the other, each of which gave some.
pub data Gave {R : Type 0} (gives : R → Reading → List ℕ → R → Type 0) : R → List ℕ → R → Type 0 where
  none : {s : R} → Gave gives s [] s
  more : {s t u : R} {bytes part : List ℕ} {n : ℕ} → Gave gives s bytes t → 0 < n → gives t (Bytes n) part u → Gave gives s (bytes ++ take n part) u

module _ {R : Type 0} (gives : R → Reading → List ℕ → R → Type 0) where
  -- These bytes were given, and the next call, which had room for more, gave none.
  pub record Whole (s : R) (bytes : List ℕ) (t : R) : Type 0 where
    pub before : R
    pub part : List ℕ
    pub gave : Gave gives s bytes before
    pub room : 0 < length part
    pub end : gives before (Bytes 0) part t

  -- Some bytes were given, and the next call failed for this cause.
  pub record FailedAfter (cause : Cause) (s t : R) : Type 0 where
    pub bytes : List ℕ
    pub before : R
    pub part : List ℕ
    pub gave : Gave gives s bytes before
    pub failed : gives before (Failed cause) part t

  -- More bytes were given than are read.
  pub record TooMany (s t : R) : Type 0 where
    pub bytes : List ℕ
    pub gave : Gave gives s bytes t
    pub many : FILE_LIMIT < length bytes

  -- Some bytes were given.
  pub record GaveSome (s t : R) : Type 0 where
    pub bytes : List ℕ
    pub gave : Gave gives s bytes t

  -- All bytes were read, and are no text.
  pub record NoText (s t : R) : Type 0 where
    pub bytes : List ℕ
    pub whole : Whole s bytes t
    pub within : length bytes ≤ FILE_LIMIT
    pub not_utf8 : ¬ IsUtf8 bytes

  -- Why bytes were not read. Memory is no reason but where room was refused for no more bytes than the limit.
  abbrev pub Stops : R → R → ReadStop → Type 0
  Stops s t NoMemory = GaveSome s t × RefusedWithin FILE_LIMIT
  Stops s t (Fault (faults.Failed cause)) = FailedAfter cause s t
  Stops s t (Fault faults.TooLong) = TooMany s t
  Stops s t (Fault faults.NotUtf8) = ⊥

  -- all bytes, within the limit, or why there are none
  abbrev pub Reads : R → R → Result (List ℕ) ReadStop → Type 0
  Reads s t (Ok bytes) = Whole s bytes t × (length bytes ≤ FILE_LIMIT)
  Reads s t (Err stop) = Stops s t stop

  -- so for a text
  abbrev pub ReadsText : R → R → Result (List ℕ) ReadStop → Type 0
  ReadsText s t (Ok bytes) = Whole s bytes t × (length bytes ≤ FILE_LIMIT) × IsUtf8 bytes
  ReadsText s t (Err (Fault faults.NotUtf8)) = NoText s t
  ReadsText s t (Err stop) = Stops s t stop
