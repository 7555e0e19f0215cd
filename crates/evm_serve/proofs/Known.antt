-- Runs over known bytes.
use Rattle.std.proofs.Common.{◌≡◌, ◌≤◌, ℕ, List, [], ◌++◌, ◌⊎◌, Option, Some, None, Ok, Err, refl, sym, subst, inl, inr, length}
use Rattle.std.specs.Prelude.{IfSome, IsSomeAnd, IsUtf8}
use Rattle.std.specs.Io.KnownBytes.{Keeps}
use Rattle.evm_streams.specs.declared.source.ReadFault.{ReadFault}
use Rattle.evm_streams.specs.declared.source.ReadFault.TheVariants.{Failed, TooLong, NotUtf8}
use Rattle.evm_streams.specs.declared.source.ReadStop.TheVariants as stops
use Rattle.evm_streams.specs.declared.reads.TheConstants.{FILE_LIMIT}
use Rattle.evm_streams.specs.Reads.{Stops}
use Rattle.evm_streams.specs.Known.{ReaderGives, WriterTakes}
use Rattle.evm_streams.proofs.KnownBytes.{reads_known, writes_known}
use Rattle.evm_elf.specs.Faults.{fault_of}
use Rattle.evm_elf.specs.declared.fault.ElfFault.{ElfFault}
use Rattle.evm_elf.specs.evm_asm_lexer.declared.fault.AsmFault.{AsmFault}
use Rattle.evm_serve.specs.Script.{Report}
use Rattle.evm_serve.specs.Serving.{WritesAll, WritesMemory, EndsInMemory, Finishes}
use Rattle.evm_serve.specs.Imaging as imaging
use Rattle.evm_serve.specs.Assembling as assembling
use Rattle.evm_serve.specs.Known.{AppendsAll, AppendsMemory, AppendsReport, IsWithin, IsTextWithin, ImportsKnown, ServesKnown, ServesKnownText, ImportsKnownFile, AssemblesIntoKnown}
use Rattle.evm_serve.specs.declared.ending.Ending.{Ending}
use Rattle.evm_serve.specs.declared.ending.Ending.TheVariants.{Complete, NoMemory, ReadFailed, WriteFailed}

-- what holds of the bytes that were read holds of those that were there
known_of : (known : Option (List ℕ)) (P : List ℕ → Type 0) (bytes : List ℕ) → IfSome known (λ input. bytes ≡ input) → P bytes → IfSome known P
known_of None P bytes is p = tt
known_of (Some input) P bytes is p = subst P is p

known_each : (known : Option (List ℕ)) (P Q : List ℕ → Type 0) → IfSome known P → ((input : List ℕ) → P input → Q input) → IfSome known Q
known_each None P Q p f = tt
known_each (Some input) P Q p f = f input p

none_of : (fault : Option ElfFault) → IsSomeAnd fault (λ f. ⊥) → ⊥
none_of None h = h
none_of (Some f) h = h

known_always : (known : Option (List ℕ)) (P : List ℕ → Type 0) → ((input : List ℕ) → P input) → IfSome known P
known_always None P p = tt
known_always (Some input) P p = p input

keeps_same : (known : Option (List ℕ)) → Keeps known known
keeps_same None = tt
keeps_same (Some bytes) = refl

module _ {W : Type 0} (contents : W → Option (List ℕ)) where
  kept : (w w' : W) → w' ≡ w → Keeps (contents w) (contents w')
  kept w w' same = let P : W → Type 0 = λ z. Keeps (contents w) (contents z) in subst P (sym same) (keeps_same (contents w))

  all_known : (all : Report) (w w' : W) (ending : Ending) → WritesAll (WriterTakes contents) all w w' ending → AppendsAll all (contents w) (contents w') ending
  all_known all w w' (Complete verdict) h = ((writes_known contents).whole w w' all.text h.0, h.1)
  all_known all w w' NoMemory h = absurd h
  all_known all w w' (ReadFailed fault) h = absurd h
  all_known all w w' (WriteFailed fault) h = (writes_known contents).failed w w' all.text h

  memory_known : (prefix : List ℕ) (w w' : W) (ending : Ending) → WritesMemory (WriterTakes contents) prefix w w' ending → AppendsMemory prefix (contents w) (contents w') ending
  memory_known prefix w w' (Complete verdict) h = absurd h
  memory_known prefix w w' NoMemory h = (writes_known contents).whole w w' _ h
  memory_known prefix w w' (ReadFailed fault) h = absurd h
  memory_known prefix w w' (WriteFailed fault) h = (writes_known contents).failed w w' _ h

  -- no read failed
  report_of : (all : Report) (w w' : W) (ending : Ending)
      → AppendsAll all (contents w) (contents w') ending ⊎ ((prefix : List ℕ) × ((rest : List ℕ) × (all.text ≡ prefix ++ rest)) × AppendsMemory prefix (contents w) (contents w') ending)
      → AppendsReport all (contents w) (contents w') ending
  report_of all w w' (Complete verdict) h = h
  report_of all w w' NoMemory h = h
  report_of all w w' (ReadFailed fault) (inl h) = absurd h
  report_of all w w' (ReadFailed fault) (inr h) = absurd h.2
  report_of all w w' (WriteFailed fault) h = h

  finishes_known : (all : Report) (w w' : W) (ending : Ending) → Finishes (WriterTakes contents) all w w' ending → AppendsReport all (contents w) (contents w') ending
  finishes_known all w w' ending (inl h) = report_of all w w' ending (inl (all_known all w w' ending h))
  finishes_known all w w' ending (inr h) = report_of all w w' ending (inr (h.0, h.1, memory_known h.0 w w' ending (h.2).1))

  -- the line `memory` alone is a report of anything
  memory_report : (all : Report) (w w' : W) (ending : Ending) → WritesMemory (WriterTakes contents) [] w w' ending → AppendsReport all (contents w) (contents w') ending
  memory_report all w w' ending h = report_of all w w' ending (inr ([], (all.text, refl), memory_known [] w w' ending h))

  fault_report : (all : Report) (w w' : W) (ending : Ending) (fault : ReadFault) → w' ≡ w → ending ≡ ReadFailed fault → AppendsReport all (contents w) (contents w') ending
  fault_report all w w' ending fault same is = let P : Ending → Type 0 = λ e. AppendsReport all (contents w) (contents w') e in subst P (sym is) (kept w w' same)

  -- what was finished, or ended with `memory`, is within the limit where the input is
  finished_within : (all : Report) (w w' : W) (input : List ℕ) (ending : Ending) → length input ≤ FILE_LIMIT → Finishes (WriterTakes contents) all w w' ending → IsWithin input ending
  finished_within all w w' input (Complete verdict) most h = most
  finished_within all w w' input NoMemory most h = tt
  finished_within all w w' input (ReadFailed fault) most (inl h) = absurd h
  finished_within all w w' input (ReadFailed fault) most (inr h) = absurd (h.2).1
  finished_within all w w' input (WriteFailed fault) most h = tt

  memory_within : (prefix : List ℕ) (w w' : W) (input : List ℕ) (ending : Ending) → WritesMemory (WriterTakes contents) prefix w w' ending → IsWithin input ending
  memory_within prefix w w' input (Complete verdict) h = absurd h
  memory_within prefix w w' input NoMemory h = tt
  memory_within prefix w w' input (ReadFailed fault) h = absurd h
  memory_within prefix w w' input (WriteFailed fault) h = tt

  finished_text : (all : Report) (w w' : W) (input : List ℕ) (ending : Ending) → length input ≤ FILE_LIMIT → IsUtf8 input → Finishes (WriterTakes contents) all w w' ending → IsTextWithin input ending
  finished_text all w w' input (Complete verdict) most utf8 h = (most, utf8)
  finished_text all w w' input NoMemory most utf8 h = tt
  finished_text all w w' input (ReadFailed fault) most utf8 (inl h) = absurd h
  finished_text all w w' input (ReadFailed fault) most utf8 (inr h) = absurd (h.2).1
  finished_text all w w' input (WriteFailed fault) most utf8 h = tt

  memory_text : (prefix : List ℕ) (w w' : W) (input : List ℕ) (ending : Ending) → WritesMemory (WriterTakes contents) prefix w w' ending → IsTextWithin input ending
  memory_text prefix w w' input (Complete verdict) h = absurd h
  memory_text prefix w w' input NoMemory h = tt
  memory_text prefix w w' input (ReadFailed fault) h = absurd h
  memory_text prefix w w' input (WriteFailed fault) h = tt

module _ {R : Type 0} (remaining : R → Option (List ℕ)) where
  -- a fault says what it is of known bytes
  fault_within : (s t : R) (fault : ReadFault) → Stops (ReaderGives remaining) s t (stops.Fault fault) → IfSome (remaining s) (λ input. IsWithin input (ReadFailed fault))
  fault_within s t (Failed cause) h = known_always (remaining s) _ (λ input. tt)
  fault_within s t TooLong h = (reads_known remaining).too_many s t h
  fault_within s t NotUtf8 h = absurd h

module _ {R W : Type 0} (remaining : R → Option (List ℕ)) (contents : W → Option (List ℕ)) where
  pub serves_known : ServesKnown remaining contents
  serves_known report s t w w' (Ok bytes) ending reads h =
      known_of (remaining s) (λ input. AppendsReport (report input) (contents w) (contents w') ending × IsWithin input ending) bytes ((reads_known remaining).whole s t bytes reads.0)
      (finishes_known contents (report bytes) w w' ending h, finished_within contents (report bytes) w w' bytes ending reads.1 h)
  serves_known report s t w w' (Err stops.NoMemory) ending reads h =
      known_always (remaining s) _ (λ input. (memory_report contents (report input) w w' ending h, memory_within contents [] w w' input ending h))
  serves_known report s t w w' (Err (stops.Fault fault)) ending reads h =
      known_each (remaining s) _ _ (fault_within remaining s t fault reads)
      (λ input within. let P : Ending → Type 0 = λ e. IsWithin input e in (fault_report contents (report input) w w' ending fault h.0 h.1, subst P (sym h.1) within))

  -- the same of a text
  text_fault : (report : List ℕ → Report) (s t : R) (w w' : W) (fault : ReadFault) (ending : Ending) → w' ≡ w → ending ≡ ReadFailed fault
      → IfSome (remaining s) (λ input. IsTextWithin input (ReadFailed fault))
      → IfSome (remaining s) (λ input. AppendsReport (report input) (contents w) (contents w') ending × IsTextWithin input ending)
  text_fault report s t w w' fault ending same is h =
      known_each (remaining s) _ _ h
      (λ input within. let P : Ending → Type 0 = λ e. IsTextWithin input e in (fault_report contents (report input) w w' ending fault same is, subst P (sym is) within))

  pub serves_known_text : ServesKnownText remaining contents
  serves_known_text report s t w w' (Ok bytes) ending reads h =
      known_of (remaining s) (λ input. AppendsReport (report input) (contents w) (contents w') ending × IsTextWithin input ending) bytes ((reads_known remaining).whole s t bytes reads.0)
      (finishes_known contents (report bytes) w w' ending h, finished_text contents (report bytes) w w' bytes ending reads.1 reads.2 h)
  serves_known_text report s t w w' (Err stops.NoMemory) ending reads h =
      known_always (remaining s) _ (λ input. (memory_report contents (report input) w w' ending h, memory_text contents [] w w' input ending h))
  serves_known_text report s t w w' (Err (stops.Fault (Failed cause))) ending reads h = text_fault report s t w w' (Failed cause) ending h.0 h.1 (fault_within remaining s t (Failed cause) reads)
  serves_known_text report s t w w' (Err (stops.Fault TooLong)) ending reads h = text_fault report s t w w' TooLong ending h.0 h.1 (fault_within remaining s t TooLong reads)
  serves_known_text report s t w w' (Err (stops.Fault NotUtf8)) ending reads h =
      text_fault report s t w w' NotUtf8 ending h.0 h.1
      (known_of (remaining s) (λ input. ¬ IsUtf8 input) reads.bytes ((reads_known remaining).whole s t reads.bytes reads.whole) reads.not_utf8)

  -- bytes that were checked
  import_of : (file : List ℕ) (w w' : W) (ending : Ending)
      → (IsSomeAnd (fault_of file) (λ fault. AppendsAll (imaging.no_image_report fault) (contents w) (contents w') ending) ⊎ AppendsMemory [] (contents w) (contents w') ending)
      → IsWithin file ending → ImportsKnown file (contents w) (contents w') (Err ending)
  import_of file w w' (Complete verdict) h within = (h, within)
  import_of file w w' NoMemory h within = (h, within)
  import_of file w w' (ReadFailed fault) (inl h) within = absurd (none_of (fault_of file) h)
  import_of file w w' (ReadFailed fault) (inr h) within = absurd h
  import_of file w w' (WriteFailed fault) h within = (h, within)

  some_known : (fault : Option ElfFault) (w w' : W) (ending : Ending) → IsSomeAnd fault (λ f. WritesAll (WriterTakes contents) (imaging.no_image_report f) w w' ending)
      → IsSomeAnd fault (λ f. AppendsAll (imaging.no_image_report f) (contents w) (contents w') ending)
  some_known None w w' ending h = h
  some_known (Some f) w w' ending h = all_known contents (imaging.no_image_report f) w w' ending h

  checked_within : (fault : Option ElfFault) (w w' : W) (file : List ℕ) (ending : Ending) → length file ≤ FILE_LIMIT
      → (IsSomeAnd fault (λ f. WritesAll (WriterTakes contents) (imaging.no_image_report f) w w' ending) ⊎ EndsInMemory (WriterTakes contents) [] w w' ending) → IsWithin file ending
  checked_within fault w w' file ending most (inr h) = memory_within contents [] w w' file ending h.1
  checked_within None w w' file ending most (inl h) = absurd h
  checked_within (Some f) w w' file ending most (inl h) = finished_within contents (imaging.no_image_report f) w w' file ending most (inl h)

  pub imports_known : ImportsKnownFile remaining contents
  imports_known s t w w' (Ok bytes) (Ok image) reads h =
      known_of (remaining s) (λ file. ImportsKnown file (contents w) (contents w') (Ok image)) bytes ((reads_known remaining).whole s t bytes reads.0) (h.0, h.1, kept contents w w' h.2, reads.1)
  imports_known s t w w' (Ok bytes) (Err ending) reads (inl h) =
      known_of (remaining s) (λ file. ImportsKnown file (contents w) (contents w') (Err ending)) bytes ((reads_known remaining).whole s t bytes reads.0)
      (import_of bytes w w' ending (inl (some_known (fault_of bytes) w w' ending h)) (checked_within (fault_of bytes) w w' bytes ending reads.1 (inl h)))
  imports_known s t w w' (Ok bytes) (Err ending) reads (inr h) =
      known_of (remaining s) (λ file. ImportsKnown file (contents w) (contents w') (Err ending)) bytes ((reads_known remaining).whole s t bytes reads.0)
      (import_of bytes w w' ending (inr (memory_known contents [] w w' ending h.1)) (memory_within contents [] w w' bytes ending h.1))
  imports_known s t w w' (Err stop) (Ok image) reads h = absurd h
  imports_known s t w w' (Err stops.NoMemory) (Err ending) reads h =
      known_always (remaining s) _ (λ file. import_of file w w' ending (inr (memory_known contents [] w w' ending h)) (memory_within contents [] w w' file ending h))
  imports_known s t w w' (Err (stops.Fault fault)) (Err ending) reads h =
      known_each (remaining s) _ _ (fault_within remaining s t fault reads)
      (λ file within. let P : Ending → Type 0 = λ e. ImportsKnown file (contents w) (contents w') (Err e) in subst P (sym h.1) (kept contents w w' h.0, within))

module _ {W T : Type 0} (contents : W → Option (List ℕ)) (reported : T → Option (List ℕ)) where
  either_known : (fault : AsmFault) (report report' : T) (ending : Ending)
      → (WritesAll (WriterTakes reported) (assembling.no_program_report fault) report report' ending ⊎ EndsInMemory (WriterTakes reported) [] report report' ending)
      → (AppendsAll (assembling.no_program_report fault) (reported report) (reported report') ending ⊎ AppendsMemory [] (reported report) (reported report') ending)
  either_known fault report report' ending (inl h) = inl (all_known reported _ report report' ending h)
  either_known fault report report' ending (inr h) = inr (memory_known reported [] report report' ending h.1)

  pub assembles_known : AssemblesIntoKnown contents reported
  assembles_known (Ok p) out out' report report' ending (inl h) = inl (all_known contents _ out out' ending h.0, kept reported report report' h.1)
  assembles_known (Ok p) out out' report report' ending (inr h) = inr (kept contents out out' h.0, memory_known reported [] report report' ending (h.1).1)
  assembles_known (Err fault) out out' report report' ending h = (kept contents out out' h.0, either_known fault report report' ending h.1)
