-- What a session keeps: its machine is the replay of the events up to the place.
use Rattle.std.proofs.Common.{◌≡◌, ℕ, zero, suc, ◌≤◌, List, [], ◌∷◌, length, take, Option, Some, None, refl, sym, ap, subst, ◌∙◌, arith}
use Rattle.std.proofs.lemmas.List.{take_all}
use Rattle.evm_ram.specs.Images.{Contents}
use Rattle.evm_model.specs.Event.{Event}
use Rattle.evm_model.specs.Replay.{IsReplayOf}
use Rattle.evm_model.specs.State.{State}
use Rattle.evm_model.specs.declared.boot.Boot.{Boot}
use Rattle.gdb_driving.specs.Kept.{KeepsJournal}
use Rattle.gdb_tape.specs.Tape.{IsBegun, IsFrontOf, IsTape, KeepsTape, end_if, end_of, events}
use Rattle.gdb_tape.specs.declared.tape.Tape.{Tape}

pub keeps_same : (t : Tape) → KeepsTape t t
keeps_same t = record { sound = λ h. h }

pub keeps_more : (a b c : Tape) → KeepsTape a b → KeepsTape b c → KeepsTape a c
keeps_more a b c h k = record { sound = λ s. k.sound (h.sound s) }

-- a session of which the machine is one that fewer events make, and the last one all of them
is_tape : (t : Tape) (image : Contents) (end : State) → t.image ≡ image → end_of t ≡ end → IsFrontOf image end (length t.machine.journal) t.machine → IsFrontOf image end (length end.journal) end → IsTape t
is_tape t image end i e here all = record {
  here = subst (λ (x : Contents). IsFrontOf x (end_of t) (length t.machine.journal) t.machine) (sym i) (subst (λ (s : State). IsFrontOf image s (length t.machine.journal) t.machine) (sym e) here);
  all = subst (λ (x : Contents). IsFrontOf x (end_of t) (length (events t)) (end_of t)) (sym i) (subst (λ (s : State). IsFrontOf image s (length s.journal) s) (sym e) all);
}

-- ---- at the last event
-- a machine behind as many events as it has
in_front : (image : Contents) (end m first : State) → IsBegun image end.boot first → IsReplayOf first m → m.boot ≡ end.boot → IsFrontOf image m (length m.journal) m
in_front image end m first begun replays booted = record {
  first = first;
  begun = subst (λ b. IsBegun image b first) (sym booted) begun;
  replays = replays;
  journal = sym (take_all (length m.journal) m.journal (omega arith));
  booted = refl;
}

-- the machine was changed by events, and stands at its last one now
pub keeps_changed : (old new : Tape) → new.image ≡ old.image → new.last ≡ None → KeepsJournal old.machine new.machine → KeepsTape old new
keeps_changed old new image last kept = record {
  sound = λ s.
      let here = s.here in
      let end : end_of new ≡ new.machine = ap (λ (l : Option State). end_if l new.machine) last in
      let one : IsFrontOf old.image new.machine (length new.machine.journal) new.machine =
      in_front old.image (end_of old) new.machine here.first here.begun (kept.replays here.first here.replays) (kept.booted ∙ here.booted) in
      is_tape new old.image new.machine image end one one;
}

-- a session that has just begun
pub new_tape : (t : Tape) (boot : Boot) (first : State) → IsBegun t.image boot first → first.boot ≡ boot → IsReplayOf first first → KeepsJournal first t.machine → t.last ≡ None → IsTape t
new_tape t boot first begun booted replays kept last =
    let end : end_of t ≡ t.machine = ap (λ (l : Option State). end_if l t.machine) last in
    let one : IsFrontOf t.image t.machine (length t.machine.journal) t.machine =
    in_front t.image first t.machine first (subst (λ b. IsBegun t.image b first) (sym booted) begun) (kept.replays first replays) kept.booted in
    is_tape t t.image t.machine refl end one one

-- ---- at a place
take-front : (n : ℕ) (xs : List Event) → take n xs ≡ take (length (take n xs)) xs
take-front zero xs = refl
take-front (suc n) [] = refl
take-front (suc n) (x ∷ xs) = ap (λ (l : List Event). x ∷ l) (take-front n xs)

-- the machine is one that fewer events make
pub keeps_place : (old new : Tape) (n : ℕ) → new.image ≡ old.image → end_of new ≡ end_of old → IsFrontOf old.image (end_of old) n new.machine → KeepsTape old new
keeps_place old new n image end front = record {
  sound = λ s.
      let same : new.machine.journal ≡ take (length new.machine.journal) (events old) =
      front.journal ∙ take-front n (events old) ∙ ap (λ (l : List Event). take (length l) (events old)) (sym front.journal) in
      let here : IsFrontOf old.image (end_of old) (length new.machine.journal) new.machine =
      record { first = front.first; begun = front.begun; replays = front.replays; journal = same; booted = front.booted } in
      is_tape new old.image (end_of old) image end here s.all;
}

-- all events
pub at_end : (t : Tape) (n : ℕ) → IsTape t → length (events t) ≤ n → IsFrontOf t.image (end_of t) n (end_of t)
at_end t n s h =
    let all = s.all in record { first = all.first; begun = all.begun; replays = all.replays; journal = sym (take_all n (events t) h); booted = refl }

pub keeps_end : (old new : Tape) → new.image ≡ old.image → end_of new ≡ end_of old → new.machine ≡ end_of old → KeepsTape old new
keeps_end old new image end here = record {
  sound = λ s.
      let all = s.all in
      let one : IsFrontOf old.image (end_of old) (length new.machine.journal) new.machine =
      subst (λ (m : State). IsFrontOf old.image (end_of old) (length m.journal) m) (sym here) all in
      is_tape new old.image (end_of old) image end one all;
}
