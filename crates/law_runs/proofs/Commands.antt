-- A command changes only the place that it names, and an accepted event is in the journal afterwards.
use Rattle.std.proofs.Common.{◌≡◌, ℕ, suc, ◌+◌, ◌≤◌, List, [], ◌∷◌, Bool, true, false, cond, Option, Some, None, Ok, length, refl, ap, sym, ◌∙◌, subst, arith}
use Rattle.std.specs.Prelude.{◌==◌, map, slice_get, option_map, is_none, nat_lt, if◌then◌else◌}
use Rattle.std.proofs.lemmas.Option.{slice_get-map}
use Rattle.std.proofs.lemmas.List.{length-map}
use Rattle.evm_exec.specs.Registers.{with_register}
use Rattle.evm_exec.specs.declared.hart.Hart.{Hart}
use Rattle.evm_lines.specs.Lines.{has_line}
use Rattle.evm_ram.specs.Laws.{length-poke_at}
use Rattle.evm_ram.specs.Ram.{bytes_at, poke_at, is_inside}
use Rattle.evm_model.specs.declared.refusal.Refusal.{Refusal}
use Rattle.evm_model.specs.declared.refusal.Refusal.TheVariants.{Full, NoTask, BadAddress}
use Rattle.evm_model.specs.Commands.{tick, set_bits, on_number, set_breakpoint, unset_breakpoint}
use Rattle.evm_dev.specs.Rows.{ticked}
use Rattle.evm_model.specs.Devices.{Attached, line_if, raise_line, raise_by_ticks, tick_device, tick_devices}
use Rattle.evm_model.specs.Good.{Good}
use Rattle.evm_model.specs.Harts.{set_register, set_pc}
use Rattle.evm_model.specs.Instructions.{stop}
use Rattle.evm_model.specs.Memory.{poke, ram_or}
use Rattle.evm_model.specs.Pipes.{Pipe, raise, count_raise}
use Rattle.evm_model.specs.Refusals.{board_refusal, is_full, bad_bytes}
use Rattle.evm_model.specs.Replay.{accept, apply, apply_unless}
use Rattle.evm_model.specs.Rows.{row, step, single_step}
use Rattle.evm_model.specs.Settle.{current, current_of}
use Rattle.evm_model.specs.State.{State, Board, Parts, on_processor, on_pipe, on_parts, on_memory}
use Rattle.evm_model.specs.declared.event.Answer.{Answer}
use Rattle.evm_model.specs.Event.{Event}
use Rattle.evm_model.specs.declared.event.Event.TheVariants.{Step, Tick, Raise, Bell, Stop, Go, StepI, SetReg, SetPc, Poke, Break, Unbreak}
use Rattle.evm_model.specs.declared.limits.TheConstants.{DEVICE_LIMIT, DEVICE_LINE, POKE_LIMIT}
use Rattle.evm_model.specs.declared.processor.Processor.{Processor}
use Rattle.evm_model.proofs.Lists.{change-here, change-elsewhere, length-change}
use Rattle.law_rules.proofs.Refused.{passes}
use Rattle.law_runs.specs.Changes.{RaisesOneLine, ProcessorChanges, CurrentChanges, RamChanges, ClockTicks, StepsOnce, ChangesOnly, AnswersDone, EventChanges, EventsChangeOnly}
use Rattle.law_runs.specs.Kept.{kinds}
use Rattle.law_runs.specs.Touching.{tick_pipe}
use Rattle.law_runs.proofs.Breakpoints.{set-changes, unset-changes}
use Rattle.law_runs.proofs.Fares.{one_change}
use Rattle.law_runs.proofs.Added.{change-registers}
use Rattle.law_runs.proofs.Counts.{SameCounts, same_then, step_counts}
use Rattle.law_runs.proofs.Steps.{MayStep, may_step, step_done}

pub raises_one_line : RaisesOneLine
unfolding raise
raises_one_line l p = record { rest = refl; counts = one_change l (count_raise (has_line p.wire l)) p.counts }

-- ---- what each changes
processor-changes : (c : ℕ) (f : Processor → Processor) (b : Board) → ProcessorChanges c f b (on_parts (on_processor c f) b)
processor-changes c f b = record { rest = refl; processors = one_change c f b.parts.processors }

number-changes : (c : ℕ) (f : Hart → Hart) (b : Board) (o : Option ℕ) → current c b.parts ≡ o → is_none o ≡ false → CurrentChanges c f b (on_parts (on_number o f) b)
number-changes c f b None runs some = cc
number-changes c f b (Some t) runs some = record { task = t; runs = runs; rest = refl; harts = one_change t f b.parts.harts }

poke-changes : (address : ℕ) (bytes : List ℕ) (b : Board) (o : Option (List ℕ)) → poke_at b.memory.ram address bytes ≡ o → is_none o ≡ false
    → RamChanges address bytes b (on_memory (ram_or o) b)
poke-changes address bytes b None there some = cc
poke-changes address bytes b (Some ram) there some = record { rest = refl; ram = there }

-- what can be read can be written
poke_at-some : (ram : List ℕ) (address : ℕ) (bytes : List ℕ) → is_none (bytes_at ram address (length bytes)) ≡ false → is_none (poke_at ram address bytes) ≡ false
unfolding bytes_at poke_at
poke_at-some ram address bytes h = either (is_inside ram address (length bytes)) _ _ h
  where
    either : (test : Bool) (read written : List ℕ) → is_none (cond test (Some read) None) ≡ false → is_none (cond test (Some written) None) ≡ false
    either true read written h = refl
    either false read written h = cc

last : (a b c : Bool) → (if a then true else (if b then true else c)) ≡ false → c ≡ false
last true b c h = cc
last false true c h = cc
last false false c h = h

pokes : (address : ℕ) (bytes : List ℕ) (b : Board) → bad_bytes address (length bytes) b ≡ false → RamChanges address bytes b (on_memory (poke address bytes) b)
unfolding poke
pokes address bytes b good = poke-changes address bytes b (poke_at b.memory.ram address bytes) refl
    (poke_at-some b.memory.ram address bytes (last (length bytes == 0) (nat_lt POKE_LIMIT (length bytes)) _ good))

-- devices raise their lines on processor 0, and nothing else changes
only_line : (o : Option ℕ) (k : Parts) → raise_line o k ≡ record k { pipes = (raise_line o k).pipes }
only_line None k = refl
only_line (Some l) k = refl

only_pipes : (i : ℕ) (devices : List Attached) (k : Parts) → raise_by_ticks i devices k ≡ record k { pipes = (raise_by_ticks i devices k).pipes }
unfolding raise_by_ticks
only_pipes i [] k = refl
only_pipes i (device ∷ devices) k =
    let line : Option ℕ = line_if (ticked device.kind device.words).raise i in
    let next : Parts = raise_by_ticks (suc i) devices (raise_line line k) in
    only_pipes (suc i) devices (raise_line line k) ∙ ap (λ (x : Parts). record x { pipes = next.pipes }) (only_line line k)

raised_first : (b : Bool) (i : ℕ) (k : Parts) → slice_get (raise_line (line_if b i) k).pipes 0 ≡ option_map (λ p. if b then raise (DEVICE_LINE + i) p else p) (slice_get k.pipes 0)
raised_first true i k = change-here (raise (DEVICE_LINE + i)) k.pipes 0
raised_first false i k = none_changes (slice_get k.pipes 0)
  where
    none_changes : (o : Option Pipe) → o ≡ option_map (λ p. p) o
    none_changes None = refl
    none_changes (Some p) = refl

mapped_twice : (f g : Pipe → Pipe) (o : Option Pipe) → option_map g (option_map f o) ≡ option_map (λ p. g (f p)) o
mapped_twice f g None = refl
mapped_twice f g (Some p) = refl

same_first : (o : Option Pipe) → o ≡ option_map (λ p. p) o
same_first None = refl
same_first (Some p) = refl

first_ticks : (i : ℕ) (devices : List Attached) (k : Parts) → slice_get (raise_by_ticks i devices k).pipes 0 ≡ option_map (tick_pipe i devices) (slice_get k.pipes 0)
unfolding raise_by_ticks tick_pipe
first_ticks i [] k = same_first (slice_get k.pipes 0)
first_ticks i (device ∷ devices) k =
    let b : Bool = (ticked device.kind device.words).raise in
    first_ticks (suc i) devices (raise_line (line_if b i) k)
    ∙ ap (option_map (tick_pipe (suc i) devices)) (raised_first b i k)
    ∙ mapped_twice (λ p. if b then raise (DEVICE_LINE + i) p else p) (tick_pipe (suc i) devices) (slice_get k.pipes 0)

raised_other : (o : Option ℕ) (c : ℕ) (k : Parts) → (c ≡ 0 → ⊥) → slice_get (raise_line o k).pipes c ≡ slice_get k.pipes c
raised_other None c k other = refl
raised_other (Some l) c k other = change-elsewhere (raise l) k.pipes 0 c other

others_rest : (i : ℕ) (devices : List Attached) (c : ℕ) (k : Parts) → (c ≡ 0 → ⊥) → slice_get (raise_by_ticks i devices k).pipes c ≡ slice_get k.pipes c
unfolding raise_by_ticks
others_rest i [] c k other = refl
others_rest i (device ∷ devices) c k other =
    let line : Option ℕ = line_if (ticked device.kind device.words).raise i in others_rest (suc i) devices c (raise_line line k) other ∙ raised_other line c k other

ticks : (b : Board) → ClockTicks b (on_parts tick (tick_devices b))
unfolding tick tick_devices
ticks b =
    let k : Parts = raise_by_ticks 0 b.memory.devices b.parts in
    record {
      rest = ap (λ (x : Parts). record b { memory = record b.memory { devices = map tick_device b.memory.devices }; parts = record x { ticks = x.ticks + 1; pipes = map (raise 0) x.pipes } }) (only_pipes 0 b.memory.devices b.parts);
      devices = refl;
      first = slice_get-map (raise 0) k.pipes 0 ∙ ap (option_map (raise 0)) (first_ticks 0 b.memory.devices b.parts) ∙ mapped_twice (tick_pipe 0 b.memory.devices) (raise 0) (slice_get b.parts.pipes 0);
      others = λ c other. slice_get-map (raise 0) k.pipes c ∙ ap (option_map (raise 0)) (others_rest 0 b.memory.devices c b.parts other);
    }

-- the bits of a processor are nothing that a step asks for
freed_fits : (c : ℕ) (k : Parts) → MayStep c k → MayStep c (set_bits false true c k)
unfolding set_bits
freed_fits c k fit = record {
  runs = λ t x now there. fit.runs t x (sym (same_bits (slice_get k.processors c)) ∙ sym (ap current_of (change-here bits k.processors c)) ∙ now) there;
  named = fit.named;
  calm = record { are = record { each = fit.calm.are.each }; played = fit.calm.played };
}
  where
    bits : Processor → Processor
    bits p = record p { stopped = false; skip = true }

    same_bits : (o : Option Processor) → current_of (option_map bits o) ≡ current_of o
    same_bits None = refl
    same_bits (Some p) = refl

steps_once : (c : ℕ) (b : Board) → Good b.parts → length b.memory.devices ≤ DEVICE_LIMIT → StepsOnce c b (single_step c b)
unfolding single_step set_bits
steps_once c b good few =
    let freed : Board = on_parts (set_bits false true c) b in
    record {
      freed = freed;
      goes = processor-changes c _ b;
      steps = step_done c freed few (freed_fits c b.parts (may_step c b.parts good));
      stops = processor-changes c _ (step c freed).0;
    }

row-changes : (event : Event) (b : Board) → board_refusal event b ≡ None → ChangesOnly event b (row event b).0
unfolding row stop set_bits
row-changes (Step c) b e = λ good few. step_done c b few (may_step c b.parts good)
row-changes Tick b e = ticks b
row-changes (Raise c l) b e = record { rest = refl; pipes = one_change c (raise l) b.parts.pipes }
row-changes (Bell c l) b e = record { rest = refl; pipes = one_change c (raise l) b.parts.pipes }
row-changes (Stop c) b e = processor-changes c _ b
row-changes (Go c) b e = processor-changes c _ b
row-changes (StepI c) b e = λ good few. steps_once c b good few
row-changes (SetReg c r value) b e = number-changes c (set_register r value) b (current c b.parts) refl (passes (SetReg c r value) b NoTask e)
row-changes (SetPc c pc) b e = number-changes c (set_pc pc) b (current c b.parts) refl (passes (SetPc c pc) b NoTask e)
row-changes (Poke address bytes) b e = pokes address bytes.items b (passes (Poke address bytes) b BadAddress e)
row-changes (Break address) b e = set-changes address b
row-changes (Unbreak address) b e = unset-changes address b

row-done : (event : Event) (b : Board) → AnswersDone event (row event b).1
unfolding row
row-done (Step c) b = tt
row-done Tick b = refl
row-done _ b = refl

outcome : (old new : State) (event : Event) (answer : Answer) (full : Bool) (own : Option Refusal) → board_refusal event old.board ≡ own
    → apply_unless (if full then Some Full else own) event old ≡ Ok (new, answer) → EventChanges event answer old new
outcome old new event answer true own none e = cc
outcome old new event answer false (Some refusal) none e = cc
outcome old new event answer false None none e =
    let after : State × Answer = accept event (row event old.board) old in
    let same : after ≡ (new, answer) = cc in
    let state : after.0 ≡ new = ap (λ (p : State × Answer). p.0) same in
    let answers : after.1 ≡ answer = ap (λ (p : State × Answer). p.1) same in
    let changes : EventChanges event after.1 old after.0 = record {
      rest = refl;
      journal = refl;
      board = row-changes event old.board none;
      answers = row-done event old.board;
    } in
    rw (← state, ← answers) changes

pub events_change_only : EventsChangeOnly
unfolding apply
events_change_only old new event answer e = outcome old new event answer (is_full old) (board_refusal event old.board) refl e

-- ---- how many there are of each
same_board : (b : Board) → SameCounts b b
same_board b = record { processors = refl; pipes = refl; ram = refl; devices = refl; tasks = omega arith; harts = omega arith; few_tasks = λ few. few; a_hart_each = λ each. each; registers = λ h. h }

processor-counts : (c : ℕ) (f : Processor → Processor) (b : Board) → SameCounts b (on_parts (on_processor c f) b)
processor-counts c f b = record { processors = length-change f b.parts.processors c; pipes = refl; ram = refl; devices = refl; tasks = omega arith; harts = omega arith; few_tasks = λ few. few; a_hart_each = λ each. each; registers = λ h. h }

pipe-counts : (c : ℕ) (f : Pipe → Pipe) (b : Board) → SameCounts b (on_parts (on_pipe c f) b)
pipe-counts c f b = record { processors = refl; pipes = length-change f b.parts.pipes c; ram = refl; devices = refl; tasks = omega arith; harts = omega arith; few_tasks = λ few. few; a_hart_each = λ each. each; registers = λ h. h }

number-counts : (o : Option ℕ) (r value : ℕ) (f : Hart → Hart) (b : Board) → ((x : Hart) → (f x).regs ≡ with_register x.regs r value) → SameCounts b (on_parts (on_number o f) b)
number-counts None r value f b g = same_board b
number-counts (Some t) r value f b g = record { processors = refl; pipes = refl; ram = refl; devices = refl; tasks = omega arith; harts = omega (arith, length-change f b.parts.harts t); few_tasks = λ few. few; a_hart_each = λ each. length-change f b.parts.harts t ∙ each; registers = change-registers t r value f b.parts.harts g }

poke-counts : (address : ℕ) (bytes : List ℕ) (b : Board) (o : Option (List ℕ)) → poke_at b.memory.ram address bytes ≡ o → SameCounts b (on_memory (ram_or o) b)
poke-counts address bytes b None e = same_board b
poke-counts address bytes b (Some ram) e = record { processors = refl; pipes = refl; ram = length-poke_at b.memory.ram address bytes ram e; devices = refl; tasks = omega arith; harts = omega arith; few_tasks = λ few. few; a_hart_each = λ each. each; registers = λ h. h }

same_kinds : (devices : List Attached) → kinds (map tick_device devices) ≡ kinds devices
same_kinds [] = refl
same_kinds (device ∷ devices) = ap (λ ks. device.kind ∷ ks) (same_kinds devices)

ticks_count : (i : ℕ) (devices : List Attached) (k : Parts) → length (raise_by_ticks i devices k).pipes ≡ length k.pipes
unfolding raise_by_ticks
ticks_count i [] k = refl
ticks_count i (device ∷ devices) k = ticks_count (suc i) devices _ ∙ line_count (line_if (ticked device.kind device.words).raise i)
  where
    line_count : (o : Option ℕ) → length (raise_line o k).pipes ≡ length k.pipes
    line_count None = refl
    line_count (Some l) = length-change (raise l) k.pipes 0

tick-counts : (b : Board) → SameCounts b (on_parts tick (tick_devices b))
unfolding tick tick_devices
tick-counts b =
    let k : Parts = raise_by_ticks 0 b.memory.devices b.parts in
    let rest : k ≡ record b.parts { pipes = k.pipes } = only_pipes 0 b.memory.devices b.parts in
    let counts : SameCounts b (record b { memory = record b.memory { devices = map tick_device b.memory.devices }; parts = record b.parts { ticks = b.parts.ticks + 1; pipes = map (raise 0) k.pipes } }) = record {
      processors = refl;
      pipes = length-map k.pipes (raise 0) ∙ ticks_count 0 b.memory.devices b.parts;
      ram = refl;
      devices = same_kinds b.memory.devices;
      tasks = omega arith;
      harts = omega arith;
      few_tasks = λ few. few;
      a_hart_each = λ each. each;
      registers = λ h. h;
    } in
    subst (λ (x : Parts). SameCounts b (record b { memory = record b.memory { devices = map tick_device b.memory.devices }; parts = record x { ticks = x.ticks + 1; pipes = map (raise 0) k.pipes } })) (sym rest) counts

pub row-counts : (event : Event) (b : Board) → SameCounts b (row event b).0
unfolding row stop set_bits single_step poke set_breakpoint unset_breakpoint
row-counts (Step c) b = step_counts c b
row-counts Tick b = tick-counts b
row-counts (Raise c l) b = pipe-counts c (raise l) b
row-counts (Bell c l) b = pipe-counts c (raise l) b
row-counts (Stop c) b = processor-counts c _ b
row-counts (Go c) b = processor-counts c _ b
row-counts (StepI c) b =
    let freed : Board = on_parts (set_bits false true c) b in
    same_then b freed _ (processor-counts c _ b) (same_then freed (step c freed).0 _ (step_counts c freed) (processor-counts c _ (step c freed).0))
row-counts (SetReg c r value) b = number-counts (current c b.parts) r value (set_register r value) b (λ x. refl)
row-counts (SetPc c pc) b = number-counts (current c b.parts) 0 0 (set_pc pc) b (λ x. refl)
row-counts (Poke address bytes) b = poke-counts address bytes.items b (poke_at b.memory.ram address bytes.items) refl
row-counts (Break address) b = record { processors = refl; pipes = refl; ram = refl; devices = refl; tasks = omega arith; harts = omega arith; few_tasks = λ few. few; a_hart_each = λ each. each; registers = λ h. h }
row-counts (Unbreak address) b = record { processors = refl; pipes = refl; ram = refl; devices = refl; tasks = omega arith; harts = omega arith; few_tasks = λ few. few; a_hart_each = λ each. each; registers = λ h. h }
