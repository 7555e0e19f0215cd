-- What holds of the machine under the lock.
use Rattle.std.proofs.Common.{◌≡◌, ℕ, List, subst, ◌+◌, ◌/◌, ◌^◌, ◌≢◌, inl, inr, [], ◌∷◌, ◌++◌, length, refl, sym, ap, ◌∙◌, arith, ⊎_elim, Err, append_assoc, bit_and, length-append}
use Rattle.std.proofs.lemmas.Bool.{ltb-false}
use Rattle.std.proofs.lemmas.Bool.Decides.{nat_tests}
use Rattle.std.proofs.lemmas.List.{append-nil}
use Rattle.evm_core.proofs.Outcomes.{booted_processors, same_boot, step_refusals, tick_refusals}
use Rattle.evm_model.specs.Good.{GoodState}
use Rattle.evm_model.specs.Replay.{apply, IsReplayOf}
use Rattle.evm_model.specs.Profiles.{line_count}
use Rattle.evm_model.specs.State.{State, profile_of}
use Rattle.evm_model.specs.declared.boot.Boot.{Boot}
use Rattle.evm_model.specs.declared.limits.TheConstants.{WIDE_PROFILE}
use Rattle.evm_model.specs.declared.profile.Profile.{Profile}
use Rattle.evm_lines.specs.declared.TheConstants.{LINES}
use Rattle.evm_model.specs.declared.event.Event.TheVariants as event
use Rattle.evm_model.specs.declared.refusal.Refusal.{Refusal}
use Rattle.evm_shared.proofs.Bells.{bells_off, bells_on}
use Rattle.evm_shared.proofs.Counting.{begins_whole, same_counts}
use Rattle.evm_shared.proofs.Histories.{made_none}
use Rattle.evm_model.specs.declared.event.Answer.{Answer}
use Rattle.evm_model.specs.declared.refusal.Refusal.TheVariants.{Full}
use Rattle.evm_shared.specs.EventCounts.{kind_counts, none}
use Rattle.evm_shared.specs.Ports.{IsAccounted, lacks_lines, MakesOne, PortValue, RefusesCpu}
use Rattle.evm_shared.specs.declared.event_counts.EventCounts.{EventCounts}
use Rattle.evm_shared.specs.declared.receipt.Made.{Made}
use Rattle.std.specs.Prelude.{Result, Ok, IfErr, false, nat_lt, ◌<◌, ◌≤◌}
use Rattle.evm_shared.specs.Receipts.{bells_below}

-- the machine has the boot of the one that was shared
pub booted_as : (start s : State) → IsReplayOf start s → s.boot ≡ start.boot
booted_as start s replays = sym (ap (λ (t : State). t.boot) replays.replayed) ∙ same_boot start s.journal

pub cpus_of : (start s : State) → GoodState s → IsReplayOf start s → length s.board.parts.processors ≡ start.boot.cpus
cpus_of start s good replays = booted_processors s good ∙ ap (λ (b : Boot). b.cpus) (booted_as start s replays)

-- the lines of a machine of a wide profile
wide : (p : Profile) → WIDE_PROFILE ≤ p.version → line_count p ≡ LINES
wide p all = let late : nat_lt p.version WIDE_PROFILE ≡ false = grind (arith, nat_tests) in rw late refl

pub is_line : (s : State) (line : ℕ) → GoodState s → WIDE_PROFILE ≤ s.boot.profile → line < LINES → line < line_count s.board.parts.profile
is_line s line good all low =
    let whole : line_count s.board.parts.profile ≡ LINES = ap line_count good.profile ∙ wide (profile_of s.boot) all in
    omega (arith, low, whole)

-- a machine that has all lines comes under the lock
pub accounted : (start opened s : State) (base book : EventCounts) (log : List Made) → IsReplayOf start s → s ≡ opened → lacks_lines s.boot ≡ false → kind_counts s.journal ≡ base → book ≡ none → log ≡ []
    → IsAccounted start opened base s book log
accounted start opened s base book log replays same wide counted unused empty = record {
  replays = replays;
  lines = omega (arith, ltb-false s.boot.profile WIDE_PROFILE wide, ap (λ (b : Boot). b.profile) (booted_as start s replays));
  counted = same_counts _ _
      (omega (arith, ap (λ (x : EventCounts). x.steps) counted, ap (λ (x : EventCounts). x.steps) unused))
      (omega (arith, ap (λ (x : EventCounts). x.bells) counted, ap (λ (x : EventCounts). x.bells) unused))
      (omega (arith, ap (λ (x : EventCounts). x.others) counted, ap (λ (x : EventCounts). x.others) unused));
  begins = begins_whole base s.journal counted;
  opened = subst (IsReplayOf start) same replays;
  made = rw (← same, empty) (made_none s);
}

-- a machine under the lock has the processors of the one that came under it
pub cpus_opened : (start opened s : State) → GoodState s → IsReplayOf start s → IsReplayOf start opened → length s.board.parts.processors ≡ opened.boot.cpus
cpus_opened start opened s good replays before = cpus_of start s good replays ∙ sym (ap (λ (b : Boot). b.cpus) (booted_as start opened before))

-- why a Step is refused there
pub refuses : (start opened s : State) (c : ℕ) (why : Refusal) → GoodState s → IsReplayOf start s → IsReplayOf start opened → apply s (event.Step c) ≡ Err why → RefusesCpu opened c why
refuses start opened s c why good replays before e = ⊎_elim (λ x. inl x.0) (λ x. inr (x.0, omega (arith, x.1, cpus_opened start opened s good replays before))) (step_refusals s c why e)

-- ---- the Bells of a word, one after the other

-- how far they have come
pub record AreRung (c word n count : ℕ) (old now : State) : Type 0 where
  pub counted : count ≡ length (bells_below c word n)
  pub journaled : now.journal ≡ old.journal ++ bells_below c word n
  pub replays : (first : State) → IsReplayOf first old → IsReplayOf first now
  pub processors : length now.board.parts.processors ≡ length old.board.parts.processors
  pub capacity : now.boot ≡ old.boot

pub rung_none : (c word : ℕ) (s : State) → AreRung c word 0 0 s s
unfolding bells_below
rung_none c word s = record { counted = refl; journaled = sym (append-nil s.journal); replays = λ first h. h; processors = refl; capacity = refl }

pub rung_more : (c word n count : ℕ) (old now new : State) → bit_and (word / 2 ^ n) 1 ≡ 1 → AreRung c word n count old now
    → new.journal ≡ now.journal ++ event.Bell c n ∷ [] → new.boot ≡ now.boot → length new.board.parts.processors ≡ length now.board.parts.processors
    → ((first : State) → IsReplayOf first now → IsReplayOf first new) → AreRung c word (n + 1) (count + 1) old new
rung_more c word n count old now new on h journal boot processors replays =
    let more = bells_on c word n on in record {
      counted = omega (arith, h.counted, ap length more, length-append (bells_below c word n) (event.Bell c n ∷ []));
      journaled = journal ∙ ap (λ es. es ++ event.Bell c n ∷ []) h.journaled ∙ append_assoc old.journal (bells_below c word n) (event.Bell c n ∷ []) ∙ ap (λ es. old.journal ++ es) (sym more);
      replays = λ first r. replays first (h.replays first r);
      processors = processors ∙ h.processors;
      capacity = boot ∙ h.capacity;
    }

pub rung_same : (c word n count : ℕ) (old now : State) → bit_and (word / 2 ^ n) 1 ≢ 1 → AreRung c word n count old now → AreRung c word (n + 1) count old now
rung_same c word n count old now off h =
    let same = bells_off c word n off in record {
      counted = h.counted ∙ ap length (sym same);
      journaled = h.journaled ∙ ap (λ es. old.journal ++ es) (sym same);
      replays = h.replays;
      processors = h.processors;
      capacity = h.capacity;
    }

-- ---- calls

-- a tick is refused as Full alone
pub tick_full : (start : State) (result : Result Answer Refusal) (old new : PortValue) → MakesOne start event.Tick result old new → IfErr result (λ why. why ≡ Full)
tick_full start (Ok answer) old new h = tt
tick_full start (Err why) old new h = (tick_refusals h.1 why h.4.0).0
