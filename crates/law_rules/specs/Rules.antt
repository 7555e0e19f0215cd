-- Laws: the rules hold after every event, and what an instruction does that changes only its task's registers.
use Rattle.std.specs.Prelude.{◌≡◌, ℕ, ◌<◌, ◌%◌, ◌++◌, ◌&&◌, List, [], ◌∷◌, Some, false, not, Ok, slice_get, length}
use Rattle.evm_exec.specs.Does.{does}
use Rattle.evm_exec.specs.declared.hart.Hart.{Hart}
use Rattle.evm_exec.specs.declared.outcome.Effect.TheVariants.{Next}
use Rattle.evm_isa.specs.Decoded.{decoded}
use Rattle.evm_isa.specs.declared.inst.Inst.{Inst}
use Rattle.evm_model.specs.Commands.{is_set}
use Rattle.evm_model.specs.Devices.{Attached}
use Rattle.evm_model.specs.Event.{Event}
use Rattle.evm_model.specs.Good.{AreDevices, Good, GoodState}
use Rattle.evm_model.specs.Harts.{set_pc, set_register}
use Rattle.evm_model.specs.Instructions.{stop}
use Rattle.evm_model.specs.Load.{start_loaded}
use Rattle.evm_model.specs.Memory.{fetch}
use Rattle.evm_model.specs.Replay.{apply, bad_boot, start, replay}
use Rattle.evm_model.specs.Settle.{settle_and_nudge}
use Rattle.evm_model.specs.State.{State, Parts, on_hart, on_parts, on_processor}
use Rattle.evm_model.specs.declared.boot.Boot.{Boot}
use Rattle.evm_model.specs.declared.event.Answer.TheVariants.{Ran}
use Rattle.evm_model.specs.declared.event.Event.TheVariants.{Step}
use Rattle.evm_model.specs.declared.processor.Processor.{Processor}
use Rattle.law_rules.specs.Rests.{IsClear}

-- ---- the rules hold
abbrev pub RulesHold : Type 0
RulesHold = (devices : List Attached) (boot : Boot) → AreDevices devices → bad_boot boot ≡ false → (events : List Event) → GoodState (replay (start devices boot) events)

-- also where an image was loaded before
abbrev pub RulesHoldLoaded : Type 0
RulesHoldLoaded = (devices : List Attached) (byte : ℕ → ℕ) (entry : ℕ) (boot : Boot) → AreDevices devices → bad_boot boot ≡ false → entry % 4 ≡ 0 → (events : List Event)
    → GoodState (replay (start_loaded devices byte entry boot) events)

-- ---- nothing to settle
-- a processor that runs a task and has nothing on its wire settles nothing where registers change
abbrev pub RowsSettleNothing : Type 0
RowsSettleNothing = (c t : ℕ) (k : Parts) (harts : List Hart) → Good k → IsClear c t k → settle_and_nudge (Some t) c (record k { harts = harts }) ≡ record k { harts = harts }

-- nor where its skip bit goes off too
abbrev pub PassedRowsSettleNothing : Type 0
PassedRowsSettleNothing = (c t : ℕ) (k : Parts) (harts : List Hart) → Good k → IsClear c t k
    → settle_and_nudge (Some t) c (record (on_processor c (λ p. record p { skip = false }) k) { harts = harts }) ≡ record (on_processor c (λ p. record p { skip = false }) k) { harts = harts }

-- nor where it is stopped too
abbrev pub StopsSettleNothing : Type 0
StopsSettleNothing = (c t : ℕ) (k : Parts) (harts : List Hart) → Good k → IsClear c t k
    → settle_and_nudge (Some t) c (stop c (record (on_processor c (λ p. record p { skip = false }) k) { harts = harts })) ≡ stop c (record (on_processor c (λ p. record p { skip = false }) k) { harts = harts })

-- ---- a private row
-- processor c goes, has nothing on its wire, and its current task is about to do an instruction that gives one register a value and goes on at a pc; no breakpoint stops it, or the skip bit passes it
pub record IsAtPrivateRow (c t rd value pc : ℕ) (hart : Hart) (s : State) : Type 0 where
  pub processor : Processor
  pub word : ℕ
  pub inst : Inst
  pub clear : IsClear c t s.board.parts
  pub at : slice_get s.board.parts.processors c ≡ Some processor
  pub goes : processor.stopped ≡ false
  pub has : slice_get s.board.parts.harts t ≡ Some hart
  pub passes : (is_set s.board.breakpoints hart.pc && not processor.skip) ≡ false
  pub fetched : fetch hart.pc s.board.memory ≡ Some word
  pub decodes : decoded word ≡ Some inst
  pub private : does inst hart.regs hart.pc ≡ Next rd value pc

-- its Step gives the register its value and the task its pc, and turns the skip bit off; nothing else changes but the journal
abbrev pub PrivateRowsChangeOneHart : Type 0
PrivateRowsChangeOneHart = (c t rd value pc : ℕ) (hart : Hart) (s : State) → GoodState s → length s.journal < s.boot.capacity → IsAtPrivateRow c t rd value pc hart s
    → apply s (Step c) ≡ Ok (
      record s {
        journal = s.journal ++ Step c ∷ [];
        board = on_parts (λ k. on_hart t (λ hart. set_pc pc (set_register rd value hart)) (on_processor c (λ p. record p { skip = false }) k)) s.board;
      },
      Ran t,
    )
