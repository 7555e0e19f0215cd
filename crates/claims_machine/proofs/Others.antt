-- What every event but a Tick and a step leaves.
use Rattle.std.proofs.Common.{◌≡◌, ◌≢◌, ℕ, refl, ap}
use Rattle.evm_model.specs.Event.{Event}
use Rattle.evm_model.specs.State.{Board}
use Rattle.evm_model.specs.declared.event.Event.TheVariants.{Step, Tick, Raise, Bell, Stop, Go, StepI, SetReg, SetPc, Poke, Break, Unbreak}
use Rattle.law_runs.specs.Changes.{ChangesOnly}

pub devices_stand : (event : Event) (old new : Board) → event ≢ Tick → ((c : ℕ) → (event ≢ Step c) × (event ≢ StepI c)) → ChangesOnly event old new → new.memory.devices ≡ old.memory.devices
devices_stand (Step c) old new tick step s = absurd ((step c).0 refl)
devices_stand Tick old new tick step s = absurd (tick refl)
devices_stand (Raise c l) old new tick step s = ap (λ (b : Board). b.memory.devices) s.rest
devices_stand (Bell c l) old new tick step s = ap (λ (b : Board). b.memory.devices) s.rest
devices_stand (Stop c) old new tick step s = ap (λ (b : Board). b.memory.devices) s.rest
devices_stand (Go c) old new tick step s = ap (λ (b : Board). b.memory.devices) s.rest
devices_stand (StepI c) old new tick step s = absurd ((step c).1 refl)
devices_stand (SetReg c r value) old new tick step s = ap (λ (b : Board). b.memory.devices) s.rest
devices_stand (SetPc c pc) old new tick step s = ap (λ (b : Board). b.memory.devices) s.rest
devices_stand (Poke address bytes) old new tick step s = ap (λ (b : Board). b.memory.devices) s.rest
devices_stand (Break address) old new tick step s = ap (λ (b : Board). b.memory.devices) s.rest
devices_stand (Unbreak address) old new tick step s = ap (λ (b : Board). b.memory.devices) s.rest

pub notices_stand : (event : Event) (old new : Board) → ((c : ℕ) → (event ≢ Step c) × (event ≢ StepI c)) → ChangesOnly event old new → new.parts.notices ≡ old.parts.notices
notices_stand (Step c) old new step s = absurd ((step c).0 refl)
notices_stand Tick old new step s = ap (λ (b : Board). b.parts.notices) s.rest
notices_stand (Raise c l) old new step s = ap (λ (b : Board). b.parts.notices) s.rest
notices_stand (Bell c l) old new step s = ap (λ (b : Board). b.parts.notices) s.rest
notices_stand (Stop c) old new step s = ap (λ (b : Board). b.parts.notices) s.rest
notices_stand (Go c) old new step s = ap (λ (b : Board). b.parts.notices) s.rest
notices_stand (StepI c) old new step s = absurd ((step c).1 refl)
notices_stand (SetReg c r value) old new step s = ap (λ (b : Board). b.parts.notices) s.rest
notices_stand (SetPc c pc) old new step s = ap (λ (b : Board). b.parts.notices) s.rest
notices_stand (Poke address bytes) old new step s = ap (λ (b : Board). b.parts.notices) s.rest
notices_stand (Break address) old new step s = ap (λ (b : Board). b.parts.notices) s.rest
notices_stand (Unbreak address) old new step s = ap (λ (b : Board). b.parts.notices) s.rest
