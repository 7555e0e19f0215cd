-- How a run ends, from what it has written on the way.
use Rattle.std.proofs.Common.{◌≡◌, ℕ, List, [], ◌++◌, ◌⊎◌, Result, Ok, Err, refl, ap, sym, ◌∙◌, subst, inl, inr, append_assoc}
use Rattle.evm_streams.specs.declared.sink.WriteFault.{WriteFault}
use Rattle.evm_streams.specs.declared.sink.Writing.{Writing}
use Rattle.evm_streams.specs.Writes.{Took, TookPrefix}
use Rattle.evm_streams.proofs.Calls.{took_append, prefix_behind}
use Rattle.evm_serve.specs.Script.{Report, memory_text}
use Rattle.evm_serve.specs.FaultLines.{fault_text, no_image_text}
use Rattle.evm_serve.specs.Serving.{IsPrefix, EndsIn, WritesAll, WritesMemory, EndsInMemory, Finishes}
use Rattle.evm_serve.specs.Playing.{Plays, WritesOnce, EndsAs}
use Rattle.evm_serve.specs.declared.ending.Verdict.{Verdict}
use Rattle.evm_serve.specs.declared.ending.Verdict.TheVariants.{Done, Refused, ImageRefused}
use Rattle.evm_serve.specs.declared.ending.Halt.{Halt}
use Rattle.evm_serve.specs.declared.ending.Halt.TheVariants as halts
use Rattle.evm_serve.specs.declared.ending.Ending.{Ending}
use Rattle.evm_serve.specs.declared.ending.Ending.TheVariants.{Complete, NoMemory, ReadFailed, WriteFailed}

-- the fault with which a text ends is that of the text with more in front
pub ends_behind : (verdict : Verdict) (prefix text : List ℕ) → EndsIn verdict text → EndsIn verdict (prefix ++ text)
ends_behind Done prefix text is = tt
ends_behind (Refused fault) prefix text is = (prefix ++ is.0, ap (λ (t : List ℕ). prefix ++ t) is.1 ∙ sym (append_assoc prefix is.0 (fault_text fault)))
ends_behind (ImageRefused fault) prefix text is = (prefix ++ is.0, ap (λ (t : List ℕ). prefix ++ t) is.1 ∙ sym (append_assoc prefix is.0 (no_image_text fault)))

module _ {W : Type 0} (takes : W → Writing → List ℕ → W → Type 0) where
  -- a verdict, and no more is written
  complete : (all : Report) (verdict : Verdict) (a b c : W) (ending : Ending) → Took takes a all.text b → verdict ≡ all.verdict → EndsIn verdict all.text → c ≡ b → ending ≡ Complete verdict → WritesAll takes all a c ending
  complete all verdict a b c ending took came fault same is =
      let P : W → Type 0 = λ w. Took takes a all.text w in
      let Q : Ending → Type 0 = λ e. WritesAll takes all a c e in
      subst Q (sym is) (subst P (sym same) took, came, fault)

  -- a write failed, and no more is written
  failed : (all : Report) (a b c : W) (ending : Ending) (fault : WriteFault) → TookPrefix takes a all.text b → c ≡ b → ending ≡ WriteFailed fault → WritesAll takes all a c ending
  failed all a b c ending fault took same is =
      let P : W → Type 0 = λ w. TookPrefix takes a all.text w in
      let Q : Ending → Type 0 = λ e. WritesAll takes all a c e in
      subst Q (sym is) (subst P (sym same) took)

  -- the line `memory` behind a prefix
  memory_behind : (a b c : W) (prefix : List ℕ) (ending : Ending) → Took takes a prefix b → WritesMemory takes [] b c ending → WritesMemory takes prefix a c ending
  memory_behind a b c prefix (Complete verdict) took written = absurd written
  memory_behind a b c prefix NoMemory took written = took_append takes a b c prefix memory_text took written
  memory_behind a b c prefix (ReadFailed fault) took written = absurd written
  memory_behind a b c prefix (WriteFailed fault) took written = prefix_behind takes a b c prefix memory_text took written

  -- a run that wrote several texts
  pub finishes : (all : Report) (a b c : W) (outcome : Result Verdict Halt) (ending : Ending) → Plays takes all a b outcome → EndsAs takes outcome b c ending → Finishes takes all a c ending
  finishes all a b c (Ok verdict) ending plays ends = inl (complete all verdict a b c ending plays.0 plays.1 plays.2 ends.0 ends.1)
  finishes all a b c (Err halts.NoMemory) ending plays ends =
      let written = plays.1 in inr (written.0, written.1, (plays.0, memory_behind a b c written.0 ending written.2 ends))
  finishes all a b c (Err (halts.WriteFailed fault)) ending plays ends = inl (failed all a b c ending fault plays ends.0 ends.1)

  -- a run that wrote one text
  pub writes_once : (all : Report) (a b c : W) (outcome : Result Verdict Halt) (ending : Ending) → WritesOnce takes all a b outcome → EndsAs takes outcome b c ending → WritesAll takes all a c ending ⊎ EndsInMemory takes [] a c ending
  writes_once all a b c (Ok verdict) ending written ends = inl (complete all verdict a b c ending written.0 written.1 written.2 ends.0 ends.1)
  writes_once all a b c (Err halts.NoMemory) ending written ends = let P : W → Type 0 = λ w. WritesMemory takes [] w c ending in inr (written.0, subst P written.1 ends)
  writes_once all a b c (Err (halts.WriteFailed fault)) ending written ends = inl (failed all a b c ending fault written ends.0 ends.1)

  pub finishes_one : (all : Report) (a c : W) (ending : Ending) → WritesAll takes all a c ending ⊎ EndsInMemory takes [] a c ending → Finishes takes all a c ending
  finishes_one all a c ending (inl written) = inl written
  finishes_one all a c ending (inr written) = inr ([], (all.text, refl), written)

  -- the last text of a script was written, or could not be written whole
  pub plays_ended : (all : Report) (a b c : W) (text : List ℕ) (last : Verdict) (outcome : Result Verdict Halt)
      → (Took takes b text c → Took takes a all.text c × (last ≡ all.verdict)) → (TookPrefix takes b text c → TookPrefix takes a all.text c)
      → ((verdict : Verdict) → EndsIn verdict text → EndsIn verdict all.text)
      → (prefix : List ℕ) → IsPrefix prefix all.text → Took takes a prefix b
      → WritesOnce takes (record { text = text; verdict = last }) b c outcome → Plays takes all a c outcome
  plays_ended all a b c text last (Ok verdict) whole part ends prefix is took writes_once = let w = whole writes_once.0 in (w.0, writes_once.1 ∙ w.1, ends verdict writes_once.2)
  plays_ended all a b c text last (Err halts.NoMemory) whole part ends prefix is took writes_once = let P : W → Type 0 = λ w. Took takes a prefix w in (writes_once.0, (prefix, is, subst P (sym writes_once.1) took))
  plays_ended all a b c text last (Err (halts.WriteFailed fault)) whole part ends prefix is took writes_once = part writes_once
