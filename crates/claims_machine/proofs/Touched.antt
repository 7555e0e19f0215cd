-- What a step changes of RAM and of devices, in the words of the claims.
use Rattle.std.proofs.Common.{◌≡◌, ℕ, Option, Some, ◌⊎◌, inl, inr, refl, ap, ◌∙◌}
use Rattle.std.specs.Prelude.{option_map}
use Rattle.evm_dev.specs.declared.touch.Op.{Op}
use Rattle.evm_exec.specs.Does.{does}
use Rattle.evm_exec.specs.declared.hart.Hart.{Hart}
use Rattle.evm_exec.specs.declared.outcome.Effect.{Effect}
use Rattle.evm_exec.specs.declared.outcome.Effect.TheVariants.{Store}
use Rattle.evm_model.specs.Devices.{Attached}
use Rattle.evm_model.specs.Settle.{current}
use Rattle.evm_model.specs.State.{Board, Memory}
use Rattle.evm_model.specs.declared.event.Answer.{Answer}
use Rattle.evm_ram.specs.Ram.{write_at}
use Rattle.evm_ram.specs.declared.width.Width.{Width}
use Rattle.law_runs.specs.Touching.{Accesses, loads as loaded, stores as stored, DeviceTouched, MemoryChanges, stands, written, touches as touched}
use Rattle.claims_machine.specs.About.{IsAbout}
use Rattle.claims_machine.specs.Devices.{IsAccess, loads, stores, IsTouched, DevicesAfter, stand, touches}

access_of : (address value : ℕ) (effect : Effect) (op : Op) → Accesses address effect op value → IsAccess address effect op value
access_of address _ _ _ (loaded op rd wide) = loads op rd wide
access_of address _ _ _ (stored value) = stores value

module _ (c : ℕ) (answer : Answer) (old new : Board) where
  touched_of : (line : Option ℕ) → DeviceTouched c answer line old new → IsTouched (current c old.parts) old.parts.harts old.memory new.memory.devices line
  touched_of line d = record {
    task = d.task;
    hart = d.hart;
    effect = does d.inst d.hart.regs d.hart.pc;
    op = d.op;
    address = d.address;
    value = d.value;
    i = d.device;
    r = d.register;
    device = d.attached;
    after = d.after;
    number = d.number;
    does_it = record { word = d.word; inst = d.inst; current = d.runs; has = d.has; fetched = d.fetched; decodes = d.decodes; effect_is = refl };
    accesses = access_of d.address d.value _ d.op d.accesses;
    place = d.place;
    there = d.there;
    row = d.row;
    answers = d.answers;
    here = d.devices.here ∙ ap (option_map (λ (one : Attached). record one { words = d.after.words })) d.there;
    others = d.devices.others;
    raises = d.raises;
  }

  pub devices_of : (line : Option ℕ) → MemoryChanges c answer old new line → DevicesAfter (current c old.parts) old.parts.harts old.memory new.memory.devices line
  devices_of _ (stands same) = stand (ap (λ (m : Memory). m.devices) same)
  devices_of _ (written w) = stand (ap (λ (m : Memory). m.devices) w.rest)
  devices_of _ (touched line d) = touches line (touched_of line d)

  pub ram_of : (line : Option ℕ) → MemoryChanges c answer old new line
      → ((task address value : ℕ) (hart : Hart) (width : Width) → IsAbout (current c old.parts) task hart (Store width address value) old.parts.harts old.memory → ⊥) → new.memory.ram ≡ old.memory.ram
  ram_of _ (stands same) never = ap (λ (m : Memory). m.ram) same
  ram_of _ (written w) never =
      absurd (never w.task w.address w.value w.hart w.width (record { word = w.word; inst = w.inst; current = w.runs; has = w.has; fetched = w.fetched; decodes = w.decodes; effect_is = w.stores }))
  ram_of _ (touched line d) never = ap (λ (m : Memory). m.ram) d.rest

  pub written_of : (line : Option ℕ) → MemoryChanges c answer old new line → (task address value : ℕ) (hart : Hart) (width : Width) → IsAbout (current c old.parts) task hart (Store width address value) old.parts.harts old.memory
      → (new.memory.ram ≡ old.memory.ram) ⊎ (write_at old.memory.ram address width value ≡ Some new.memory.ram)
  written_of _ (stands same) task address value hart width i = inl (ap (λ (m : Memory). m.ram) same)
  written_of _ (touched line d) task address value hart width i = inl (ap (λ (m : Memory). m.ram) d.rest)
  written_of _ (written w) task address value hart width i =
      let runs = i.current in
      let has = i.has in
      let fetched = i.fetched in
      let decodes = i.decodes in
      let stores = i.effect_is in
      let at : w.task ≡ task = cc in
      let of : w.hart ≡ hart = cc in
      let reads : w.word ≡ i.word = cc in
      let same : w.inst ≡ i.inst = cc in
      let wide : w.width ≡ width = cc in
      let place : w.address ≡ address = cc in
      let number : w.value ≡ value = cc in
      inr (cc)
