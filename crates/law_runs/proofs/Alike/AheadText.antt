-- A Step of an instruction that stores outside the text leaves the text.
use Rattle.std.proofs.Common.{◌≡◌, ℕ, ◌+◌, ◌≤◌, List, Bool, true, false, not, ◌&&◌, ◌||◌, Option, Some, None, refl, ap, sym, ◌∙◌, ◌⊎◌, inl, inr, arith}
use Rattle.std.specs.Prelude.{slice_get, if◌then◌else◌, nat_le, nat_lt}
use Rattle.std.proofs.lemmas.Bool.Decides.{nat_tests}
use Rattle.evm_dev.specs.Attached.{Attached}
use Rattle.evm_dev.specs.Touched.{Touched}
use Rattle.evm_dev.specs.declared.touch.Op.{Op}
use Rattle.evm_dev.specs.declared.touch.Op.TheVariants.{Fetch, Put}
use Rattle.evm_dev.specs.Rows.{touched}
use Rattle.evm_isa.specs.Decoded.{decoded}
use Rattle.evm_isa.specs.declared.inst.Inst.{Inst}
use Rattle.evm_isa.specs.declared.inst.LoadOp.{LoadOp}
use Rattle.evm_lines.specs.Lines.{least_line}
use Rattle.evm_exec.specs.Does.{does}
use Rattle.evm_exec.specs.Memory.{width_of_load}
use Rattle.evm_exec.specs.declared.hart.Hart.{Hart}
use Rattle.evm_exec.specs.declared.outcome.Effect.{Effect}
use Rattle.evm_exec.specs.declared.outcome.Effect.TheVariants.{Next, Load, Store, Call, Break, Misaligned}
use Rattle.evm_ram.specs.Laws.{read_at-elsewhere}
use Rattle.evm_ram.specs.Ram.{read_at, write_at}
use Rattle.evm_ram.specs.Width.{bytes_of}
use Rattle.evm_ram.specs.declared.width.Width.{Width}
use Rattle.evm_ram.specs.declared.width.Width.TheVariants.{Word, Double}
use Rattle.evm_model.specs.Commands.{is_set}
use Rattle.evm_model.specs.Devices.{Accessed, answered_by, touch_device, touch_register, register_at, touch}
use Rattle.evm_model.specs.Instructions.{stop, finish_load, finish_store, finish, execute_inst, execute_word, execute}
use Rattle.evm_model.specs.Memory.{fetch, access_device, read_ram, read, write_ram, write}
use Rattle.evm_model.specs.Pipes.{Pipe}
use Rattle.evm_model.specs.Rows.{run, step_hart, step_current, step_wire, step_pipe, step_processor, step, row}
use Rattle.evm_model.specs.State.{Memory, Board, on_parts, on_processor}
use Rattle.evm_model.specs.declared.event.Answer.TheVariants.{Stopped, Hit}
use Rattle.evm_model.specs.declared.event.Event.TheVariants.{Step}
use Rattle.evm_model.specs.declared.processor.Processor.{Processor}
use Rattle.law_runs.specs.Ahead.{SameText, TasksAhead, actor_now, actor_on, actor_among, actor}
use Rattle.law_runs.specs.Sparing.{effect_spares, inst_spares, word_spares, spares_text, StepsSpareText, SparingStepsKeepAhead}
use Rattle.law_runs.proofs.Alike.AheadLaws.{steps_keep_ahead}
use Rattle.law_runs.proofs.Alike.AheadReading.{hart-same}
use Rattle.law_runs.proofs.Alike.AheadRows.{actor-same}

-- ---- a device's registers aren't in RAM
abbrev KeepsRam : Memory → Option Accessed → Type 0
KeepsRam m None = Unit {0}
KeepsRam m (Some access) = access.memory.ram ≡ m.ram

answered-ram : (o : Option ℕ) (i : ℕ) (after : Touched) (m : Memory) → KeepsRam m (answered_by o i after m)
answered-ram None i after m = tt
answered-ram (Some answer) i after m = refl

device-ram : (o : Option Attached) (i : ℕ) (op : Op) (r value : ℕ) (m : Memory) → KeepsRam m (touch_device o i op r value m)
device-ram None i op r value m = tt
device-ram (Some device) i op r value m = answered-ram (touched device.kind op r value device.words).touch.answer i (touched device.kind op r value device.words) m

register-ram : (o : Option (ℕ × ℕ)) (op : Op) (value : ℕ) (m : Memory) → KeepsRam m (touch_register o op value m)
register-ram None op value m = tt
register-ram (Some place) op value m = device-ram (slice_get m.devices place.0) place.0 op place.1 value m

touch-ram : (op : Op) (address value : ℕ) (m : Memory) → KeepsRam m (touch op address value m)
unfolding touch
touch-ram op address value m = register-ram (register_at address) op value m

access-ram : (op : Op) (width : Width) (address value : ℕ) (m : Memory) → KeepsRam m (access_device op width address value m)
access-ram op Double address value m = touch-ram op address value m
access-ram op _ address value m = tt

module _ (low high : ℕ) where
  same-ram : (m n : Memory) → n.ram ≡ m.ram → SameText low high m n
  same-ram m n e pc = ap (λ (ram : List ℕ). if nat_le low pc && nat_lt pc high then read_at ram pc Word else None) e

  -- ---- an access
  abbrev KeepsText : Memory → Option Accessed → Type 0
  KeepsText m None = Unit {0}
  KeepsText m (Some access) = SameText low high m access.memory

  by_ram : (m : Memory) (o : Option Accessed) → KeepsRam m o → KeepsText m o
  by_ram m None k = tt
  by_ram m (Some access) k = same-ram m access.memory k

  read-ram_text : (o : Option ℕ) (device : Option Accessed) (m : Memory) → KeepsText m device → KeepsText m (read_ram o device m)
  read-ram_text None device m k = k
  read-ram_text (Some number) device m k = λ pc. refl

  read-text : (address : ℕ) (width : Width) (m : Memory) → KeepsText m (read address width m)
  read-text address width m =
      read-ram_text (read_at m.ram address width) (access_device Fetch width address 0 m) m (by_ram m (access_device Fetch width address 0 m) (access-ram Fetch width address 0 m))

  either : (a b : Bool) → (a || b) ≡ true → (a ≡ true) ⊎ (b ≡ true)
  either true b e = inl refl
  either false b e = inr e

  both : (a b : Bool) → (a && b) ≡ true → (a ≡ true) × (b ≡ true)
  both true b e = (refl, e)
  both false b e = cc

  -- a word of the text lies apart from what is stored
  apart : (address size pc : ℕ) → (nat_le low pc && nat_lt pc high) ≡ true → (nat_le (address + size) low || nat_le (high + 3) address) ≡ true → (address + size ≤ pc) ⊎ (pc + 4 ≤ address)
  apart address size pc e f =
      let in_text = both (nat_le low pc) (nat_lt pc high) e in
      elim (either (nat_le (address + size) low) (nat_le (high + 3) address) f) [
        | inl g ↦ inl (grind (arith, nat_tests))
        | inr g ↦ inr (grind (arith, nat_tests))
      ]

  word-stays : (inside : Bool) (pc : ℕ) (x y : Option ℕ) → (inside ≡ true → x ≡ y) → (if inside then x else None) ≡ (if inside then y else None)
  word-stays true pc x y e = e refl
  word-stays false pc x y e = refl

  stored-text : (width : Width) (address value : ℕ) (ram : List ℕ) (m : Memory) → effect_spares low high (Store width address value) ≡ true → write_at m.ram address width value ≡ Some ram
      → SameText low high m (record m { ram = ram })
  stored-text width address value ram m e f pc =
      word-stays (nat_le low pc && nat_lt pc high) pc (read_at ram pc Word) (read_at m.ram pc Word)
      (λ g. read_at-elsewhere m.ram address width value ram pc Word f (apart address (bytes_of width) pc g e))

  write-ram_text : (o : Option (List ℕ)) (device : Option Accessed) (m : Memory) → KeepsText m device → ((ram : List ℕ) → o ≡ Some ram → SameText low high m (record m { ram = ram })) → KeepsText m (write_ram o device m)
  write-ram_text None device m k f = k
  write-ram_text (Some ram) device m k f = f ram refl

  write-text : (width : Width) (address value : ℕ) (m : Memory) → effect_spares low high (Store width address value) ≡ true → KeepsText m (write address width value m)
  write-text width address value m e =
      write-ram_text (write_at m.ram address width value) (access_device Put width address value m) m (by_ram m (access_device Put width address value m) (access-ram Put width address value m))
      (λ ram f. stored-text width address value ram m e f)

  -- ---- an instruction
  module _ (c t : ℕ) where
    load-text : (o : Option Accessed) (op : LoadOp) (rd : ℕ) (b : Board) → KeepsText b.memory o → SameText low high b.memory (finish_load o op rd c t b).memory
    load-text None op rd b k pc = refl
    load-text (Some access) op rd b k pc = k pc

    store-text : (o : Option Accessed) (b : Board) → KeepsText b.memory o → SameText low high b.memory (finish_store o c t b).memory
    store-text None b k pc = refl
    store-text (Some access) b k pc = k pc

    finish-text : (effect : Effect) (b : Board) → effect_spares low high effect ≡ true → SameText low high b.memory (finish effect c t b).memory
    unfolding finish
    finish-text (Next rd value next) b e pc = refl
    finish-text (Load op rd address) b e pc = load-text (read address (width_of_load op) b.memory) op rd b (read-text address (width_of_load op) b.memory) pc
    finish-text (Store width address value) b e pc = store-text (write address width value b.memory) b (write-text width address value b.memory e) pc
    finish-text Call b e pc = refl
    finish-text Break b e pc = refl
    finish-text Misaligned b e pc = refl

    inst-text : (o : Option Inst) (hart : Hart) (b : Board) → inst_spares low high o hart ≡ true → SameText low high b.memory (execute_inst o hart c t b).memory
    inst-text None hart b e pc = refl
    inst-text (Some inst) hart b e pc = finish-text (does inst hart.regs hart.pc) b e pc

    word-text : (o : Option ℕ) (hart : Hart) (b : Board) → word_spares low high o hart ≡ true → SameText low high b.memory (execute_word o hart c t b).memory
    word-text None hart b e pc = refl
    word-text (Some word) hart b e pc = inst-text (decoded word) hart b e pc

    execute-text : (hart : Hart) (b : Board) → spares_text low high b.memory (Some hart) ≡ true → SameText low high b.memory (execute hart c t b).memory
    unfolding execute
    execute-text hart b e pc = word-text (fetch hart.pc b.memory) hart b e pc

  -- ---- a Step
  -- what is found, if it is, is a task whose instruction spares the text
  abbrev Spares : Option ℕ → Board → Type 0
  Spares o b = (t : ℕ) → o ≡ Some t → spares_text low high b.memory (slice_get b.parts.harts t) ≡ true

  hart-if_text : (hit : Bool) (hart : Hart) (c t : ℕ) (b : Board) → spares_text low high b.memory (Some hart) ≡ true
      → SameText low high b.memory (if hit then (on_parts (stop c) b, Hit) else run hart c t b).0.memory
  hart-if_text true hart c t b e pc = refl
  hart-if_text false hart c t b e pc = execute-text c t hart (on_parts (on_processor c (λ p. record p { skip = false })) b) e pc

  hart-text : (o : Option Hart) (p : Processor) (c t : ℕ) (b : Board) → spares_text low high b.memory o ≡ true → SameText low high b.memory (step_hart o p c t b).0.memory
  hart-text None p c t b e pc = refl
  hart-text (Some hart) p c t b e pc = hart-if_text (is_set b.breakpoints hart.pc && not p.skip) hart c t b e pc

  current-text : (o : Option ℕ) (p : Processor) (c : ℕ) (b : Board) → Spares o b → SameText low high b.memory (step_current o p c b).0.memory
  current-text None p c b h pc = refl
  current-text (Some t) p c b h pc = hart-text (slice_get b.parts.harts t) p c t b (h t refl) pc

  wire-text : (o : Option ℕ) (p : Processor) (c : ℕ) (b : Board) → Spares (actor_now o p) b → SameText low high b.memory (step_wire o p c b).0.memory
  wire-text None p c b h pc = current-text p.current p c b h pc
  wire-text (Some l) p c b h pc = refl

  pipe-text : (o : Option Pipe) (p : Processor) (c : ℕ) (b : Board) → Spares (actor_on o p) b → SameText low high b.memory (step_pipe o p c b).0.memory
  pipe-text None p c b h pc = refl
  pipe-text (Some pipe) p c b h pc = wire-text (least_line pipe.wire) p c b h pc

  stopped-text : (stopped : Bool) (p : Processor) (c : ℕ) (b : Board) → Spares (if stopped then None else actor_on (slice_get b.parts.pipes c) p) b
      → SameText low high b.memory (if stopped then (b, Stopped) else step_pipe (slice_get b.parts.pipes c) p c b).0.memory
  stopped-text true p c b h pc = refl
  stopped-text false p c b h pc = pipe-text (slice_get b.parts.pipes c) p c b h pc

  processor-text : (o : Option Processor) (c : ℕ) (b : Board) → Spares (actor_among o (slice_get b.parts.pipes c)) b → SameText low high b.memory (step_processor o c b).0.memory
  processor-text None c b h pc = refl
  processor-text (Some p) c b h pc = stopped-text p.stopped p c b h pc

  step-text : (c : ℕ) (b : Board) → Spares (actor c b) b → SameText low high b.memory (row (Step c) b).0.memory
  unfolding row step
  step-text c b h pc = processor-text (slice_get b.parts.processors c) c b h pc

pub steps_spare_text : StepsSpareText
steps_spare_text low high c b h = step-text low high c b h

-- the one that is ahead shows what the other's row does to the text
actor-spares : (low high : ℕ) (rows : ℕ → ℕ) (a b : Board) (t : ℕ) → TasksAhead low high rows a b → rows t ≡ 0 → spares_text low high b.memory (slice_get b.parts.harts t) ≡ true → spares_text low high a.memory (slice_get a.parts.harts t) ≡ true
actor-spares low high rows a b t s z e = ap (λ o. spares_text low high a.memory o) (hart-same s.parts t z) ∙ ap (λ m. spares_text low high m (slice_get b.parts.harts t)) s.memory ∙ e

pub sparing_steps_keep_ahead : SparingStepsKeepAhead
sparing_steps_keep_ahead low high rows c a b s h =
    let same = actor-same s c in
    steps_keep_ahead low high rows c a b s (λ t e. (h t (sym same ∙ e)).0)
    (steps_spare_text low high c a (λ t e. let of = h t (sym same ∙ e) in actor-spares low high rows a b t s of.0 of.1))
