-- The machine that a session begins with is the replay of its events.
use Rattle.std.proofs.Common.{◌≡◌, ℕ, List, [], length, take, Option, None, refl, sym, ap, subst, ◌∙◌, arith}
use Rattle.std.proofs.lemmas.List.{take_all}
use Rattle.evm_ram.specs.Images.{Contents}
use Rattle.evm_model.specs.Replay.{IsReplayOf}
use Rattle.evm_model.specs.State.{State}
use Rattle.evm_model.specs.declared.boot.Boot.{Boot}
use Rattle.gdb_tape.proofs.Keeping.{keeps_changed}
use Rattle.gdb_tape.specs.gdb_driving.Kept.{KeepsJournal}
use Rattle.gdb_tape.specs.Tape.{IsBegun, IsTape, KeepsTape}
use Rattle.gdb_tape.specs.declared.tape.Tape.{Tape}
use Rattle.gdb_answers.specs.Sessions.{IsMadeFrom}

pub made_first : (image : Contents) (boot : Boot) (m : State) → IsBegun image boot m → m.boot ≡ boot → m.journal ≡ [] → IsReplayOf m m → IsMadeFrom image m
made_first image boot m begun booted fresh replays = record {
  first = m;
  begun = subst (λ (b : Boot). IsBegun image b m) (sym booted) begun;
  replays = replays;
  journal = sym (take_all (length m.journal) m.journal (omega arith));
  booted = refl;
}

pub made_more : (image : Contents) (old new : State) → KeepsJournal old new → IsMadeFrom image old → IsMadeFrom image new
made_more image old new kept h = record {
  first = h.first;
  begun = subst (λ (b : Boot). IsBegun image b h.first) (sym kept.booted) h.begun;
  replays = kept.replays h.first h.replays;
  journal = sym (take_all (length new.journal) new.journal (omega arith));
  booted = refl;
}

-- the session stands at its last event
at_last : (image : Contents) (m : State) → IsMadeFrom image m → IsTape (record { image = image; machine = m; last = None })
at_last image m h = record { here = h; all = h }

pub made_tape : (t : Tape) (m : State) → IsMadeFrom t.image m → KeepsJournal m t.machine → t.last ≡ None → IsTape t
made_tape t m h kept last =
    let before : Tape = record { image = t.image; machine = m; last = None } in
    (keeps_changed before t refl last kept).sound (at_last t.image m h)

-- ---- a session that boots anew

pub stays_tape : (old new : Tape) → new ≡ old → KeepsTape old new
stays_tape old new e = record { sound = λ h. subst IsTape (sym e) h }

pub anew_tape : (old new : Tape) → IsTape new → KeepsTape old new
anew_tape old new h = record { sound = λ before. h }
