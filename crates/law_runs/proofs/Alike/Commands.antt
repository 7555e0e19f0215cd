-- Ticks and the debugger's commands on alike parts.
use Rattle.std.proofs.Common.{◌≡◌, ℕ, ◌+◌, List, [], ◌∷◌, Bool, true, Option, Some, None, map, refl, ap, ap₂, subst}
use Rattle.evm_exec.specs.declared.hart.Hart.{Hart}
use Rattle.evm_model.specs.Commands.{tick, set_bits, on_number, on_current, set_breakpoint, unset_breakpoint, with_breakpoint, without_breakpoint}
use Rattle.evm_model.specs.Current.{current}
use Rattle.evm_model.specs.Devices.{tick_device, raise_by_ticks, tick_devices}
use Rattle.evm_model.specs.Instructions.{stop}
use Rattle.evm_model.specs.Memory.{poke}
use Rattle.evm_model.specs.Pipes.{Pipe, raise}
use Rattle.evm_model.specs.State.{Board, Memory, Parts, on_memory}
use Rattle.law_runs.specs.Alike.{uncounted, erased, Alike, AlikeBoards}
use Rattle.law_runs.proofs.Alike.Changing.{alike_by, alike_hart, alike_processor}
use Rattle.law_runs.proofs.Alike.Devices.{uncounted-raise, alike_ticks}
use Rattle.law_runs.proofs.Alike.Reading.{current-same}

map-raise : (pipes : List Pipe) → map uncounted (map (raise 0) pipes) ≡ map (raise 0) (map uncounted pipes)
map-raise [] = refl
map-raise (x ∷ pipes) = ap₂ (λ (y : Pipe) (ys : List Pipe). y ∷ ys) (uncounted-raise 0 x) (map-raise pipes)

module _ {p q : Parts} (a : Alike p q) where
  pub alike_tick : Alike (tick p) (tick q)
  unfolding tick
  alike_tick = alike_by a tick (λ k. ap (λ pipes. record (erased k) { ticks = k.ticks + 1; pipes = pipes }) (map-raise k.pipes)) (λ k. refl) (λ k. refl)

  pub alike_bits : (stopped skip : Bool) (c : ℕ) → Alike (set_bits stopped skip c p) (set_bits stopped skip c q)
  unfolding set_bits
  alike_bits stopped skip c = alike_processor a c (λ cpu. record cpu { stopped = stopped; skip = skip })

  pub alike_stop : (c : ℕ) → Alike (stop c p) (stop c q)
  unfolding stop
  alike_stop c = alike_processor a c (λ processor. record processor { stopped = true })

  alike_number : (o : Option ℕ) (f : Hart → Hart) → Alike (on_number o f p) (on_number o f q)
  alike_number None f = a
  alike_number (Some t) f = alike_hart a t f

  pub alike_current : (c : ℕ) (f : Hart → Hart) → Alike (on_current c f p) (on_current c f q)
  alike_current c f = rw (current-same a c) (alike_number (current c q) f)

-- ---- boards
module _ {a b : Board} (s : AlikeBoards a b) where
  alike_by_ticks : Alike (raise_by_ticks 0 a.memory.devices a.parts) (raise_by_ticks 0 b.memory.devices b.parts)
  alike_by_ticks =
      subst (λ (m : Memory). Alike (raise_by_ticks 0 a.memory.devices a.parts) (raise_by_ticks 0 m.devices b.parts)) s.memory (alike_ticks 0 a.memory.devices s.parts)

  pub boards_tick : AlikeBoards (tick_devices a) (tick_devices b)
  unfolding tick_devices
  boards_tick = record {
    memory = ap (λ (m : Memory). record m { devices = map tick_device m.devices }) s.memory;
    breakpoints = s.breakpoints;
    parts = alike_by_ticks;
  }

  pub boards_poke : (address : ℕ) (bytes : List ℕ) → AlikeBoards (on_memory (poke address bytes) a) (on_memory (poke address bytes) b)
  boards_poke address bytes = record { memory = ap (poke address bytes) s.memory; breakpoints = s.breakpoints; parts = s.parts }

  pub boards_break : (address : ℕ) → AlikeBoards (set_breakpoint address a) (set_breakpoint address b)
  unfolding set_breakpoint
  boards_break address = record { memory = s.memory; breakpoints = ap (λ addresses. with_breakpoint addresses address) s.breakpoints; parts = s.parts }

  pub boards_unbreak : (address : ℕ) → AlikeBoards (unset_breakpoint address a) (unset_breakpoint address b)
  unfolding unset_breakpoint
  boards_unbreak address = record { memory = s.memory; breakpoints = ap (λ addresses. without_breakpoint addresses address) s.breakpoints; parts = s.parts }
