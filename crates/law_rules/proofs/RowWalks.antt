-- One lemma a row: the row is a walk.
use Rattle.std.proofs.Common.{◌≡◌, ℕ, ◌+◌, ◌*◌, ◌<◌, ◌≤◌, List, [], ◌∷◌, Bool, true, false, Option, Some, None, length, refl, ap, sym, ◌∙◌, ◌⊎◌, inl, inr, arith}
use Rattle.std.specs.Prelude.{◌-◌, slice_get, option_map, ◌==◌, ◌&&◌, ◌||◌, nat_le, not, if◌then◌else◌}
use Rattle.std.proofs.lemmas.Bool.Decides.{nat_tests}
use Rattle.evm_lines.specs.Lines.{has_line, least_line}
use Rattle.evm_lines.specs.declared.TheConstants.{LINES}
use Rattle.evm_isa.specs.Decoded.{decoded}
use Rattle.evm_isa.specs.declared.inst.Inst.{Inst}
use Rattle.evm_isa.specs.declared.inst.LoadOp.{LoadOp}
use Rattle.evm_exec.specs.Does.{does}
use Rattle.evm_exec.specs.Memory.{loaded_value, width_of_load}
use Rattle.evm_exec.specs.declared.hart.Hart.{Hart}
use Rattle.evm_exec.specs.declared.outcome.Effect.{Effect}
use Rattle.evm_exec.specs.declared.outcome.Effect.TheVariants.{Next, Load, Store, Call, Break as Breaks, Misaligned}
use Rattle.evm_model.specs.Bounds.{STAMPS_PER_EVENT}
use Rattle.evm_model.specs.Commands.{set_bits, on_number, is_set, set_breakpoint, unset_breakpoint}
use Rattle.evm_model.specs.Devices.{Accessed, raise_line, raise_by_ticks, tick_devices}
use Rattle.evm_model.specs.Harts.{set_register, advance}
use Rattle.evm_model.specs.Instructions.{fault, stop, finish, finish_load, finish_store, execute, execute_inst, execute_word}
use Rattle.evm_model.specs.Memory.{fetch, read, write}
use Rattle.evm_model.specs.Actions.{action_at, receive_line}
use Rattle.evm_model.specs.Notices.{notify}
use Rattle.evm_model.specs.Pipes.{Pipe, raise, is_oob_line, stage_by, stage_of, receive}
use Rattle.evm_model.specs.declared.action.Action.{Action}
use Rattle.evm_model.specs.declared.stage.Stage.{Stage}
use Rattle.evm_model.specs.declared.stage.Stage.TheVariants.{OutOfBand}
use Rattle.evm_model.specs.Refusals.{board_refusal}
use Rattle.evm_model.specs.Rows.{run, step_hart, step_current, step_wire, step_pipe, step_processor, step, single_step, row}
use Rattle.evm_model.specs.Settle.{current, current_of, is_oob, run_best, settle_oob_pipe, settle_oob, play_in_band_pipe, turn_in_band, settle_in_band, settle, nudge_pipe, nudge, settle_and_nudge, wants_nudge, play_oob_lines}
use Rattle.evm_model.specs.State.{Board, Parts, on_hart, on_processor, on_pipe, on_parts}
use Rattle.evm_model.specs.Tasks.{demote}
use Rattle.evm_model.specs.declared.event.Answer.{Answer}
use Rattle.evm_model.specs.declared.event.Answer.TheVariants.{Stopped}
use Rattle.evm_model.specs.Event.{Event}
use Rattle.evm_model.specs.declared.fault.Fault.{Fault}
use Rattle.evm_model.specs.declared.event.Event.TheVariants.{Step, Tick, Raise, Bell, Stop, Go, StepI, SetReg, SetPc, Poke, Break, Unbreak}
use Rattle.evm_model.specs.declared.limits.TheConstants.{DEVICE_LIMIT, DEVICE_LINE}
use Rattle.evm_model.specs.declared.notice.NoticeKind.TheVariants.{DemotedByFault}
use Rattle.evm_model.specs.declared.processor.Processor.{Processor}
use Rattle.evm_model.specs.declared.task.TaskState.TheVariants.{Faulted}
use Rattle.evm_model.specs.declared.refusal.Refusal.TheVariants.{NoSuchLine}
use Rattle.evm_model.proofs.Lists.{change-here}
use Rattle.law_rules.proofs.Calls.{walks_closely}
use Rattle.law_rules.proofs.Fresh.{execute-fresh}
use Rattle.law_rules.proofs.DeviceWalks.{AreRaised, raises_line, MayTick, ticks_devices, effect_line}
use Rattle.law_rules.proofs.NoticeWalks.{notifies_demoted}
use Rattle.law_rules.proofs.PassingWalks.{ends}
use Rattle.law_rules.proofs.PlayingWalks.{first_on, OOB_STAMPS, stamps_all, stamps_few, IsFresh, unnoted, gone, unplayed, IsQuiet, silent, left, walks_oob_lines, walks_in_band_lines}
use Rattle.law_rules.proofs.Refused.{passes, is_line}
use Rattle.law_rules.proofs.Sets.{length-set, walk_pipes}
use Rattle.law_rules.proofs.Tasks.{demotes, rests_watch}
use Rattle.law_rules.proofs.Walk.{Actor, ArePipes, IsCalm, Untouched, unchanged, by_fault, raises, receives, hart, marks, picks, moves, tells, clock, Walk, start, quietly, counted, slack, walk_if}
use Rattle.evm_model.specs.Boosts.{is_number}
pub use Rattle.law_rules.specs.Raising.{access_of, inst_access, word_access, hart_access, task_access, step_access, line_of, by_device, may_raise}

-- ---- settling
-- the stamps of an in-band log, and of both
abbrev pub IN_BAND_STAMPS : ℕ
IN_BAND_STAMPS = 64 * LINES

abbrev pub SETTLING_STAMPS : ℕ
SETTLING_STAMPS = OOB_STAMPS + IN_BAND_STAMPS

-- a log that is played has a line only if no notice was made, or the task is gone
quiet_lines : (c : ℕ) (was : Option ℕ) (old k : Parts) (pipe : Pipe) → slice_get k.pipes c ≡ Some pipe → pipe.oob.stalled ≡ false → has_line pipe.oob.lines 0 ≡ true → IsFresh c was old k → IsQuiet was old k
quiet_lines c was old k pipe e free on (unnoted same) = silent same
quiet_lines c was old k pipe e free on (gone away) = left away
quiet_lines c was old k pipe e free on (unplayed empty) = let none : has_line pipe.oob.lines 0 ≡ false = ap (λ ls. has_line ls 0) (empty pipe e free) in cc

module _ (a : Actor) (old : Parts) (may : a.chooses ≡ true) where
  settles_pipe : (was : Option ℕ) (o : Option Pipe) (n s : ℕ) (k : Parts) → slice_get k.pipes a.cpu ≡ o → current a.cpu old ≡ was → (IsCalm a.cpu old → IsFresh a.cpu was old k) → Walk a old n s k
      → Walk a old (n + LINES) (s + OOB_STAMPS) (settle_oob_pipe o was a.cpu k)
  settles_pipe was None n s k e runs fresh w = slack a old n (n + LINES) s (s + OOB_STAMPS) k (λ p. omega arith) (λ p. omega arith) w
  settles_pipe was (Some pipe) n s k e runs fresh w =
      let ls : List ℕ = pipe.oob.lines in
      let played : Parts = play_oob_lines was a.cpu ls k in
      let few : ArePipes old → length ls ≤ LINES = λ are. length-set ls ((walk_pipes a old n s k w are).each a.cpu pipe e).oob in
      let cheap : ArePipes old → stamps_all ls ≤ OOB_STAMPS = λ are. stamps_few ls ((walk_pipes a old n s k w are).each a.cpu pipe e).oob in
      walk_if a old (n + LINES) (s + OOB_STAMPS) pipe.oob.stalled k (run_best a.cpu played)
      (λ stalled. slack a old n (n + LINES) s (s + OOB_STAMPS) k (λ p. omega arith) (λ p. omega arith) w)
      (λ free. slack a old (n + length ls) (n + LINES) (s + stamps_all ls) (s + OOB_STAMPS) _ (λ are. omega (arith, few are)) (λ p. omega (arith, cheap p.pipes))
      (quietly a old (n + length ls) (s + stamps_all ls) played _ (picks _ played may)
      (walks_oob_lines a old was runs may ls n s k pipe e (λ are. record { same = refl; pipe = (walk_pipes a old n s k w are).each a.cpu pipe e })
      (λ on calm. quiet_lines a.cpu was old k pipe e free on (fresh calm)) w)))

  pub settles_oob : (was : Option ℕ) (n s : ℕ) (k : Parts) → current a.cpu old ≡ was → (IsCalm a.cpu old → IsFresh a.cpu was old k) → Walk a old n s k → Walk a old (n + LINES) (s + OOB_STAMPS) (settle_oob was a.cpu k)
  unfolding settle_oob
  settles_oob was n s k runs fresh w = settles_pipe was (slice_get k.pipes a.cpu) n s k refl runs fresh w

  plays_pipe : (o : Option Pipe) (n s : ℕ) (k : Parts) → slice_get k.pipes a.cpu ≡ o → Walk a old n s k → Walk a old (n + LINES) (s + IN_BAND_STAMPS) (play_in_band_pipe o a.cpu k)
  plays_pipe None n s k e w = slack a old n (n + LINES) s (s + IN_BAND_STAMPS) k (λ p. omega arith) (λ p. omega arith) w
  plays_pipe (Some pipe) n s k e w =
      let ls : List ℕ = pipe.in_band.lines in
      let few : ArePipes old → length ls ≤ LINES = λ are. length-set ls ((walk_pipes a old n s k w are).each a.cpu pipe e).in_band in
      walk_if a old (n + LINES) (s + IN_BAND_STAMPS) pipe.in_band.stalled k _
      (λ stalled. slack a old n (n + LINES) s (s + IN_BAND_STAMPS) k (λ p. omega arith) (λ p. omega arith) w)
      (λ free. slack a old (n + length ls) (n + LINES) (s + 64 * length ls) (s + IN_BAND_STAMPS) _ (λ are. omega (arith, few are)) (λ p. omega (arith, few p.pipes))
      (walks_in_band_lines a old ls n s k pipe e (λ are. record { same = refl; pipe = (walk_pipes a old n s k w are).each a.cpu pipe e }) w))

  turns_in_band : (n s : ℕ) (k : Parts) → Walk a old n s k → Walk a old (n + LINES) (s + IN_BAND_STAMPS) (turn_in_band a.cpu k)
  unfolding turn_in_band
  turns_in_band n s k w =
      let played : Parts = play_in_band_pipe (slice_get k.pipes a.cpu) a.cpu k in
      quietly a old (n + LINES) (s + IN_BAND_STAMPS) played _ (picks _ played may) (plays_pipe (slice_get k.pipes a.cpu) n s k refl w)

  pub settles_in_band : (n s : ℕ) (k : Parts) → Walk a old n s k → Walk a old (n + LINES) (s + IN_BAND_STAMPS) (settle_in_band a.cpu k)
  unfolding settle_in_band
  settles_in_band n s k w =
      walk_if a old (n + LINES) (s + IN_BAND_STAMPS) (is_oob (current a.cpu k) k.tasks) k _ (λ oob. slack a old n (n + LINES) s (s + IN_BAND_STAMPS) k (λ p. omega arith) (λ p. omega arith) w)
      (λ e. turns_in_band n s k w)

  pub settles : (was : Option ℕ) (n s : ℕ) (k : Parts) → current a.cpu old ≡ was → (IsCalm a.cpu old → IsFresh a.cpu was old k) → Walk a old n s k → Walk a old (n + 2 * LINES) (s + SETTLING_STAMPS) (settle was a.cpu k)
  unfolding settle
  settles was n s k runs fresh w =
      let counts : n + 2 * LINES ≡ n + LINES + LINES = omega arith in
      let gives : s + SETTLING_STAMPS ≡ s + OOB_STAMPS + IN_BAND_STAMPS = omega arith in
      rw (counts, gives)
      (rests_watch a old (n + LINES + LINES) (s + OOB_STAMPS + IN_BAND_STAMPS) (settle_in_band a.cpu (settle_oob was a.cpu k)) may
      (settles_in_band (n + LINES) (s + OOB_STAMPS) (settle_oob was a.cpu k) (settles_oob was n s k runs fresh w)) was)

-- ---- the others are told
nudged : (own wants may : Bool) (p : Pipe) → may ≡ true → ((if own then p else (if wants then raise 1 p else p)) ≡ p) ⊎ (((if own then p else (if wants then raise 1 p else p)) ≡ raise 1 p) × (may ≡ true))
nudged true wants may p e = inl refl
nudged false true may p e = inr (refl, e)
nudged false false may p e = inl refl

pub nudges : (a : Actor) (old : Parts) (n s : ℕ) (k : Parts) → ((d : ℕ) → a.may d 1 ≡ true) → Walk a old n s k → Walk a old (n + 1) s (nudge a.cpu k)
unfolding nudge
nudges a old n s k may w = counted a old n s k _ 1 (tells 1 (nudge_pipe a.cpu k) k (omega arith) (λ d p. nudged (d == a.cpu) (wants_nudge d p k) (a.may d 1) p (may d))) w

-- ---- an instruction
-- whether the instruction of a hart is an ECALL
abbrev pub is_call : Effect → Bool
is_call Call = true
is_call _ = false

abbrev pub inst_calls : Option Inst → Hart → Bool
inst_calls None x = false
inst_calls (Some inst) x = is_call (does inst x.regs x.pc)

abbrev pub word_calls : Option ℕ → Hart → Bool
word_calls None x = false
word_calls (Some word) x = inst_calls (decoded word) x

-- the line of a device, if there is one, may be raised
abbrev pub Touches : Actor → Option ℕ → Type 0
Touches a o = (l : ℕ) → DEVICE_LINE ≤ l → o ≡ Some l → a.may 0 l ≡ true

module _ (a : Actor) (old k : Parts) (t : ℕ) (own : a.task ≡ Some t) (fresh : Untouched old k) (w : Walk a old 0 0 k) where
  pub faults : a.faults ≡ true → (f : Fault) → Walk a old 0 32 (fault a.cpu t f k)
  faults may f =
      walk_if a old 0 32 (is_oob (Some t) k.tasks) (notify DemotedByFault t (demote a.cpu t k)) _
      (λ oob. notifies_demoted a old 0 32 t DemotedByFault k own (by_fault may (ap (is_oob (Some t)) (sym fresh.tasks) ∙ oob)) fresh
      (slack a old 0 0 1 32 _ (λ p. omega arith) (λ p. omega arith) (demotes a old 0 0 t k own (inl (ap length fresh.tasks)) w)))
      (λ e. slack a old 0 0 (0 + length k.mutexes) 32 _ (λ p. omega arith) (λ few. omega (arith, few.mutexes, ap length fresh.mutexes))
      (ends a old 0 t own 0 (Faulted f) k refl fresh.mutexes fresh.tasks w))

  up : (s : ℕ) (x : Parts) → s ≤ 65 → Walk a old 0 s x → Walk a old 1 65 x
  up s x h v = slack a old 0 1 s 65 x (λ p. omega arith) (λ p. h) v

  -- a register and the pc
  goes_on : (r value : ℕ) (f : Hart → Hart) → ((x : Hart) → (f x).regs ≡ (set_register r value x).regs) → Walk a old 0 0 (on_hart t f k)
  goes_on r value f same = quietly a old 0 0 k _ (hart t r value f k own same (inr (ap length fresh.harts))) w

module _ (a : Actor) (old : Parts) (t : ℕ) (own : a.task ≡ Some t) (may_fault : a.faults ≡ true) (b : Board) (fresh : Untouched old b.parts) (w : Walk a old 0 0 b.parts) where
  faulted : (f : Fault) → Walk a old 1 65 (fault a.cpu t f b.parts)
  faulted f = up a old b.parts t own fresh w 32 _ (omega arith) (faults a old b.parts t own fresh w may_fault f)

  went : (r value : ℕ) (f : Hart → Hart) → ((x : Hart) → (f x).regs ≡ (set_register r value x).regs) → Walk a old 1 65 (on_hart t f b.parts)
  went r value f same = up a old b.parts t own fresh w 0 _ (omega arith) (goes_on a old b.parts t own fresh w r value f same)

  -- .. and the line of a device
  accesses : (o : Option ℕ) (r value : ℕ) (f : Hart → Hart) → AreRaised a o → ((x : Hart) → (f x).regs ≡ (set_register r value x).regs) → Walk a old 1 65 (raise_line o (on_hart t f b.parts))
  accesses o r value f are same = slack a old 1 1 0 65 _ (λ p. omega arith) (λ p. omega arith) (raises_line a old 0 0 _ (goes_on a old b.parts t own fresh w r value f same) o are)

  loads : (o : Option Accessed) (op : LoadOp) (rd : ℕ) → AreRaised a (line_of o) → Walk a old 1 65 (finish_load o op rd a.cpu t b).parts
  loads None op rd are = faulted _
  loads (Some access) op rd are = accesses access.line rd (loaded_value op access.number) _ are (λ x. refl)

  stores : (o : Option Accessed) → AreRaised a (line_of o) → Walk a old 1 65 (finish_store o a.cpu t b).parts
  stores None are = faulted _
  stores (Some access) are = accesses access.line 0 0 advance are (λ x. refl)

  effects : (effect : Effect) → (is_call effect ≡ true → a.calls ≡ true) → AreRaised a (line_of (access_of effect b.memory)) → Walk a old 1 65 (finish effect a.cpu t b).parts
  unfolding finish stop
  effects (Next rd value pc) may are = went rd value _ (λ x. refl)
  effects (Load op rd address) may are = loads (read address (width_of_load op) b.memory) op rd are
  effects (Store width address value) may are = stores (write address width value b.memory) are
  effects Call may are = walks_closely a old b.parts t own fresh w (may refl)
  effects Breaks may are = quietly a old 1 65 (on_hart t advance b.parts) _ (marks (λ p. record p { stopped = true }) (on_hart t advance b.parts) (λ p. refl)) (went 0 0 advance (λ x. refl))
  effects Misaligned may are = faulted _

  -- an access raises the line of a device
  raised_by : (effect : Effect) → length b.memory.devices ≤ DEVICE_LIMIT → Touches a (line_of (access_of effect b.memory)) → AreRaised a (line_of (access_of effect b.memory))
  raised_by effect few touches = let its = effect_line b.memory few effect in record { small = its.small; may = λ l e. touches l (its.least l e) e }

  insts : (o : Option Inst) (x : Hart) → length b.memory.devices ≤ DEVICE_LIMIT → (inst_calls o x ≡ true → a.calls ≡ true) → Touches a (line_of (inst_access o x b.memory)) → Walk a old 1 65 (execute_inst o x a.cpu t b).parts
  insts None x few may touches = faulted _
  insts (Some inst) x few may touches = effects (does inst x.regs x.pc) may (raised_by (does inst x.regs x.pc) few touches)

  words : (o : Option ℕ) (x : Hart) → length b.memory.devices ≤ DEVICE_LIMIT → (word_calls o x ≡ true → a.calls ≡ true) → Touches a (line_of (word_access o x b.memory)) → Walk a old 1 65 (execute_word o x a.cpu t b).parts
  words None x few may touches = faulted _
  words (Some word) x few may touches = insts (decoded word) x few may touches

  pub executes : (x : Hart) → length b.memory.devices ≤ DEVICE_LIMIT → (word_calls (fetch x.pc b.memory) x ≡ true → a.calls ≡ true) → Touches a (line_of (word_access (fetch x.pc b.memory) x b.memory))
      → Walk a old 1 65 (execute x a.cpu t b).parts
  unfolding execute
  executes x few may touches = words (fetch x.pc b.memory) x few may touches

-- ---- a Step
-- what a step counts, and how many stamps it gives: an instruction's, and settling
abbrev pub STEP_MOVES : ℕ
STEP_MOVES = 1 + 2 * LINES

abbrev pub STEP_STAMPS : ℕ
STEP_STAMPS = 65 + SETTLING_STAMPS

-- a walk, after which the others may have been told
pub record Stepped (a : Actor) (old new : Parts) : Type 0 where
  pub between : Parts
  pub walk : Walk a old STEP_MOVES STEP_STAMPS between
  pub told : (new ≡ between) ⊎ (new ≡ nudge a.cpu between)

stepped : (a : Actor) (old : Parts) (n s : ℕ) (k : Parts) → n ≤ STEP_MOVES → s ≤ STEP_STAMPS → Walk a old n s k → Stepped a old k
stepped a old n s k h g w = record { between = k; walk = slack a old n STEP_MOVES s STEP_STAMPS k (λ p. h) (λ p. g) w; told = inl refl }

finishes : (a : Actor) (old : Parts) (was : Option ℕ) (n s : ℕ) (k : Parts) → a.chooses ≡ true → n ≤ 1 → s ≤ 65 → current a.cpu old ≡ was → (IsCalm a.cpu old → IsFresh a.cpu was old k) → Walk a old n s k → Stepped a old (settle_and_nudge was a.cpu k)
unfolding settle_and_nudge
finishes a old was n s k may h g runs fresh w = record {
  between = settle was a.cpu k;
  walk = slack a old (n + 2 * LINES) STEP_MOVES (s + SETTLING_STAMPS) STEP_STAMPS _ (λ p. omega (arith, h)) (λ p. omega (arith, g)) (settles a old may was n s k runs fresh w);
  told = inr refl;
}

either_steps : (a : Actor) (old : Parts) (b : Bool) (x y : Board × Answer) → Stepped a old x.0.parts → Stepped a old y.0.parts → Stepped a old (if b then x else y).0.parts
either_steps a old true x y p q = p
either_steps a old false x y p q = q

pub stops : (a : Actor) (old : Parts) (n s : ℕ) (k : Parts) → Walk a old n s k → Walk a old n s (stop a.cpu k)
unfolding stop
stops a old n s k w = quietly a old n s k _ (marks (λ p. record p { stopped = true }) k (λ p. refl)) w

-- what a step wants of who acts: the task that is current on the processor, unless a line is on its wire; and it calls where its instruction does
pub record MaySteps (a : Actor) (b : Board) : Type 0 where
  pub chooses : a.chooses ≡ true
  pub faults : a.faults ≡ true
  pub acts : (pipe : Pipe) → slice_get b.parts.pipes a.cpu ≡ Some pipe → least_line pipe.wire ≡ None → a.task ≡ current a.cpu b.parts
  pub calls : (t : ℕ) (x : Hart) → current a.cpu b.parts ≡ Some t → slice_get b.parts.harts t ≡ Some x → word_calls (fetch x.pc b.memory) x ≡ true → a.calls ≡ true
  -- .. and it may raise the line of the device that its instruction touches
  pub devices : length b.memory.devices ≤ DEVICE_LIMIT
  pub touches : (t : ℕ) (x : Hart) → current a.cpu b.parts ≡ Some t → slice_get b.parts.harts t ≡ Some x → Touches a (line_of (word_access (fetch x.pc b.memory) x b.memory))

module _ (a : Actor) (old : Parts) (b : Board) (may : MaySteps a b) (fresh : Untouched old b.parts) (piped : b.parts.pipes ≡ old.pipes) (same : current a.cpu old ≡ current a.cpu b.parts) (w : Walk a old 0 0 b.parts) where
  calm_there : IsCalm a.cpu old → IsCalm a.cpu b.parts
  calm_there calm = record { are = record { each = λ c p e. calm.are.each c p (ap (λ (pipes : List Pipe). slice_get pipes c) (sym piped) ∙ e) }; played = λ p e. calm.played p (ap (λ (pipes : List Pipe). slice_get pipes a.cpu) (sym piped) ∙ e) }

  -- fresh since what differs from the parts before is not spoken of
  from_there : (was : Option ℕ) (k : Parts) → IsFresh a.cpu was b.parts k → IsFresh a.cpu was old k
  from_there was k (unnoted e) = unnoted (e ∙ fresh.notices)
  from_there was k (gone g) = gone g
  from_there was k (unplayed g) = unplayed g

  passed_fresh : (t : ℕ) (x : Hart) → IsCalm a.cpu old → IsFresh a.cpu (Some t) b.parts (execute x a.cpu t (on_parts (on_processor a.cpu (λ (p : Processor). record p { skip = false })) b)).parts
  passed_fresh t x calm = as_before (execute-fresh a.cpu t passed (record { are = record { each = there.are.each }; played = there.played }) x)
    where
      passed : Board
      passed = on_parts (on_processor a.cpu (λ (p : Processor). record p { skip = false })) b

      there : IsCalm a.cpu b.parts
      there = calm_there calm

      as_before : IsFresh a.cpu (Some t) passed.parts (execute x a.cpu t passed).parts → IsFresh a.cpu (Some t) b.parts (execute x a.cpu t passed).parts
      as_before (unnoted e) = unnoted e
      as_before (gone g) = gone g
      as_before (unplayed g) = unplayed g

  runs : (x : Hart) (t : ℕ) → a.task ≡ Some t → current a.cpu b.parts ≡ Some t → slice_get b.parts.harts t ≡ Some x → Stepped a old (run x a.cpu t b).0.parts
  runs x t own now has =
      let skips : Processor → Processor = λ p. record p { skip = false } in
      let passed : Board = on_parts (on_processor a.cpu skips) b in
      let done : Parts = (execute x a.cpu t passed).parts in
      let begun : Walk a old 0 0 passed.parts = quietly a old 0 0 b.parts _ (marks skips b.parts (λ p. refl)) w in
      let begins : Untouched old passed.parts = record {
        tasks = fresh.tasks;
        harts = fresh.harts;
        mutexes = fresh.mutexes;
        console = fresh.console;
        notices = fresh.notices;
        ticks = fresh.ticks;
        semaphores = fresh.semaphores;
        events = fresh.events;
        flags = fresh.flags;
        timers = fresh.timers;
        actions = fresh.actions;
      } in
      finishes a old (Some t) 1 65 done may.chooses (omega arith) (omega arith) (same ∙ now) (λ calm. from_there (Some t) done (passed_fresh t x calm)) (executes a old t own may.faults passed begins begun x may.devices (may.calls t x now has) (may.touches t x now has))

  hart_steps : (o : Option Hart) (p : Processor) (t : ℕ) → a.task ≡ Some t → current a.cpu b.parts ≡ Some t → slice_get b.parts.harts t ≡ o → Stepped a old (step_hart o p a.cpu t b).0.parts
  hart_steps None p t own now has = stepped a old 0 0 b.parts (omega arith) (omega arith) w
  hart_steps (Some x) p t own now has =
      either_steps a old (is_set b.breakpoints x.pc && not p.skip) _ (run x a.cpu t b) (stepped a old 0 0 _ (omega arith) (omega arith) (stops a old 0 0 b.parts w)) (runs x t own now has)

  current_steps : (o : Option ℕ) (p : Processor) → a.task ≡ o → current a.cpu b.parts ≡ o → Stepped a old (step_current o p a.cpu b).0.parts
  current_steps None p own now = finishes a old None 0 0 b.parts may.chooses (omega arith) (omega arith) (same ∙ now) (λ calm. unnoted fresh.notices) w
  current_steps (Some t) p own now = hart_steps (slice_get b.parts.harts t) p t own now refl

  least_on : (set : List ℕ) (l : ℕ) → least_line set ≡ Some l → has_line set l ≡ true
  least_on [] l e = cc
  least_on (x ∷ xs) l e = let same : x ≡ l = cc in rw same (first_on l xs)

  stage_if : (b : Bool) (action : Action) → b ≡ true → (if b then OutOfBand else stage_by action) ≡ OutOfBand
  stage_if true action e = refl
  stage_if false action e = cc

  fixed_stage : (action : Action) (l : ℕ) → l < 2 → stage_of action l ≡ OutOfBand
  fixed_stage action l small = stage_if (is_oob_line l) action (grind (arith, nat_tests))

  wire_steps : (o : Option ℕ) (p : Processor) (pipe : Pipe) → slice_get b.parts.pipes a.cpu ≡ Some pipe → slice_get b.parts.processors a.cpu ≡ Some p → least_line pipe.wire ≡ o → Stepped a old (step_wire o p a.cpu b).0.parts
  unfolding receive_line
  wire_steps None p pipe e f wire = let now : current a.cpu b.parts ≡ p.current = ap current_of f in current_steps p.current p (may.acts pipe e wire ∙ now) now
  wire_steps (Some l) p pipe e f wire =
      let stage : Stage = stage_of (action_at l b.parts) l in
      finishes a old p.current 1 0 (receive_line a.cpu l b.parts) may.chooses (omega arith) (omega arith) (same ∙ ap current_of f) (λ calm. unnoted fresh.notices)
      (counted a old 0 0 b.parts _ 1
      (moves 1 (receive stage l) b.parts (λ are q d. let one : pipe ≡ q = (let two : Some pipe ≡ Some q = sym e ∙ d in cc) in receives stage l q (fixed_stage (action_at l b.parts) l) (least_on q.wire l (rw (← one) wire)))) w)

  pipe_steps : (o : Option Pipe) (p : Processor) → slice_get b.parts.pipes a.cpu ≡ o → slice_get b.parts.processors a.cpu ≡ Some p → Stepped a old (step_pipe o p a.cpu b).0.parts
  pipe_steps None p e f = stepped a old 0 0 b.parts (omega arith) (omega arith) w
  pipe_steps (Some pipe) p e f = wire_steps (least_line pipe.wire) p pipe e f refl

  processor_steps : (o : Option Processor) → slice_get b.parts.processors a.cpu ≡ o → Stepped a old (step_processor o a.cpu b).0.parts
  processor_steps None f = stepped a old 0 0 b.parts (omega arith) (omega arith) w
  processor_steps (Some p) f = either_steps a old p.stopped (b, Stopped) _ (stepped a old 0 0 b.parts (omega arith) (omega arith) w) (pipe_steps (slice_get b.parts.pipes a.cpu) p refl f)

  pub steps : Stepped a old (step a.cpu b).0.parts
  unfolding step
  steps = processor_steps (slice_get b.parts.processors a.cpu) refl

-- the whole of it, where line 1 may be raised
pub stepped_walk : (a : Actor) (old new : Parts) → ((d : ℕ) → a.may d 1 ≡ true) → Stepped a old new → Walk a old (STEP_MOVES + 1) STEP_STAMPS new
stepped_walk a old new may d = elim d.told [
  | inl same ↦ rw same (slack a old STEP_MOVES (STEP_MOVES + 1) STEP_STAMPS STEP_STAMPS d.between (λ p. omega arith) (λ p. omega arith) d.walk)
  | inr told ↦ rw told (nudges a old STEP_MOVES STEP_STAMPS d.between may d.walk)
]

-- ---- commands
-- the processor that an event is of
abbrev pub actor : Event → ℕ
actor (Step c) = c
actor (Raise c l) = c
actor (Bell c l) = c
actor (Stop c) = c
actor (Go c) = c
actor (StepI c) = c
actor (SetReg c r value) = c
actor (SetPc c pc) = c
actor _ = 0

abbrev pub acting : Event → Board → Actor
acting event b = record { cpu = actor event; task = current (actor event) b.parts; may = may_raise event b; chooses = true; calls = true; faults = true }

-- no event counts more, which leaves one to spare
abbrev pub MOVES : ℕ
MOVES = 255

bits : (a : Actor) (old : Parts) (n s : ℕ) (k : Parts) (stopped skip : Bool) → Walk a old n s k → Walk a old n s (set_bits stopped skip a.cpu k)
unfolding set_bits
bits a old n s k stopped skip w = quietly a old n s k _ (marks (λ p. record p { stopped = stopped; skip = skip }) k (λ p. refl)) w

bits_current : (c : ℕ) (stopped skip : Bool) (k : Parts) → current c (set_bits stopped skip c k) ≡ current c k
unfolding set_bits
bits_current c stopped skip k = ap current_of (change-here (λ (p : Processor). record p { stopped = stopped; skip = skip }) k.processors c) ∙ same_bits (slice_get k.processors c)
  where
    same_bits : (o : Option Processor) → current_of (option_map (λ (p : Processor). record p { stopped = stopped; skip = skip }) o) ≡ current_of o
    same_bits None = refl
    same_bits (Some p) = refl

-- the line of the instruction of the current task
own_line : (c t l : ℕ) (x : Hart) (b : Board) → current c b.parts ≡ Some t → slice_get b.parts.harts t ≡ Some x → DEVICE_LINE ≤ l → line_of (word_access (fetch x.pc b.memory) x b.memory) ≡ Some l
    → (l == 1 || by_device 0 l (is_number (line_of (step_access c b)) l)) ≡ true
own_line c t l x b now has least e =
    let here : step_access c b ≡ word_access (fetch x.pc b.memory) x b.memory = ap (λ o. task_access o b) now ∙ ap (λ o. hart_access o b.memory) has in
    let line : line_of (step_access c b) ≡ Some l = ap line_of here ∙ e in
    let other : (l == 1) ≡ false = grind (arith, nat_tests) in
    let from : nat_le DEVICE_LINE l ≡ true = grind (arith, nat_tests) in
    let itself : (l == l) ≡ true = grind (arith, nat_tests) in
    rw (line, other, from, itself) refl

set_number : (a : Actor) (o : Option ℕ) (k : Parts) (r value : ℕ) (f : Hart → Hart) → a.task ≡ o → ((x : Hart) → (f x).regs ≡ (set_register r value x).regs) → Walk a k 0 0 (on_number o f k)
set_number a None k r value f own same = start
set_number a (Some t) k r value f own same = goes_on a k k t own (unchanged k) start r value f same

set_bits_untouched : (c : ℕ) (stopped skip : Bool) (k : Parts) → Untouched k (set_bits stopped skip c k)
unfolding set_bits
set_bits_untouched c stopped skip k = record {
  tasks = refl;
  harts = refl;
  mutexes = refl;
  console = refl;
  notices = refl;
  ticks = refl;
  semaphores = refl;
  events = refl;
  flags = refl;
  timers = refl;
  actions = refl;
}

both_same : (c l : ℕ) → (c == c && l == l) ≡ true
both_same c l = let one : (c == c) ≡ true = grind (arith, nat_tests) in let two : (l == l) ≡ true = grind (arith, nat_tests) in rw (one, two) refl

raised : (event : Event) (c l : ℕ) (b : Board) → actor event ≡ c → may_raise event b c l ≡ true → l < LINES → Walk (acting event b) b.parts 1 0 (on_pipe (actor event) (raise l) b.parts)
raised event c l b same may small = counted (acting event b) b.parts 0 0 b.parts _ 1 (moves 1 (raise l) b.parts (λ are p e. raises l p small (rw same may))) start

single : (c : ℕ) (b : Board) → length b.memory.devices ≤ DEVICE_LIMIT → Walk (acting (StepI c) b) b.parts (STEP_MOVES + 1) STEP_STAMPS (single_step c b).parts
unfolding single_step set_bits
single c b few =
    let a : Actor = acting (StepI c) b in
    let freed : Board = on_parts (set_bits false true c) b in
    let begun : Walk a b.parts 0 0 freed.parts = bits a b.parts 0 0 b.parts false true start in
    let same : current c b.parts ≡ current c freed.parts = sym (bits_current c false true b.parts) in
    bits a b.parts (STEP_MOVES + 1) STEP_STAMPS (step c freed).0.parts true false
    (stepped_walk a b.parts (step c freed).0.parts (λ d. refl)
    (steps a b.parts freed
    (record { chooses = refl; faults = refl; acts = λ pipe e wire. same; calls = λ t x now has e. refl; devices = few; touches = λ t x now has l least e. own_line c t l x b (same ∙ now) has least e })
    (set_bits_untouched c false true b.parts) refl same begun))

-- a tick of the devices
ticks : (b : Board) → length b.memory.devices ≤ DEVICE_LIMIT → MayTick (acting Tick b) 0 b.memory.devices
ticks b few = record {
  few = omega (arith, few);
  may = λ j device e raised.
      let l : ℕ = DEVICE_LINE + (0 + j) in
      let its : slice_get b.memory.devices (l - DEVICE_LINE) ≡ Some device = (let same : l - DEVICE_LINE ≡ j = omega arith in rw same e) in
      let other : (l == 0) ≡ false = grind (arith, nat_tests) in
      let from : nat_le DEVICE_LINE l ≡ true = grind (arith, nat_tests) in
      rw (its, other, from) raised;
}

module _ (event : Event) (b : Board) where
  -- as much at most as an event may
  most : (n s : ℕ) (x : Parts) → n ≤ MOVES → s ≤ STAMPS_PER_EVENT → Walk (acting event b) b.parts n s x → Walk (acting event b) b.parts MOVES STAMPS_PER_EVENT x
  most n s x h g w = slack (acting event b) b.parts n MOVES s STAMPS_PER_EVENT x (λ p. h) (λ p. g) w

pub row_walks : (event : Event) (b : Board) → length b.memory.devices ≤ DEVICE_LIMIT → board_refusal event b ≡ None → Walk (acting event b) b.parts MOVES STAMPS_PER_EVENT (row event b).0.parts
unfolding row tick_devices set_breakpoint unset_breakpoint
row_walks (Step c) b few e =
    most (Step c) b (STEP_MOVES + 1) STEP_STAMPS _ (omega arith) (omega arith)
    (stepped_walk (acting (Step c) b) b.parts (step c b).0.parts (λ d. refl)
    (steps (acting (Step c) b) b.parts b
    (record { chooses = refl; faults = refl; acts = λ pipe f wire. refl; calls = λ t x now has g. refl; devices = few; touches = λ t x now has l least g. own_line c t l x b now has least g })
    (unchanged b.parts) refl refl start))
row_walks Tick b few e =
    let a : Actor = acting Tick b in
    most Tick b (0 + length b.memory.devices + 1) 0 _ (omega (arith, few)) (omega arith)
    (counted a b.parts (0 + length b.memory.devices) 0 _ _ 1 (clock (raise_by_ticks 0 b.memory.devices b.parts) (λ d. refl)) (ticks_devices a b.parts 0 0 0 b.memory.devices b.parts (ticks b few) start))
row_walks (Raise c l) b few e = most (Raise c l) b 1 0 _ (omega arith) (omega arith) (raised (Raise c l) c l b refl (both_same c l) (is_line l b (passes (Raise c l) b NoSuchLine e)))
row_walks (Bell c l) b few e = most (Bell c l) b 1 0 _ (omega arith) (omega arith) (raised (Bell c l) c l b refl (both_same c l) (is_line l b (passes (Bell c l) b NoSuchLine e)))
row_walks (Stop c) b few e = most (Stop c) b 0 0 _ (omega arith) (omega arith) (stops (acting (Stop c) b) b.parts 0 0 b.parts start)
row_walks (Go c) b few e = most (Go c) b 0 0 _ (omega arith) (omega arith) (bits (acting (Go c) b) b.parts 0 0 b.parts false true start)
row_walks (StepI c) b few e = most (StepI c) b (STEP_MOVES + 1) STEP_STAMPS _ (omega arith) (omega arith) (single c b few)
row_walks (SetReg c r value) b few e = most (SetReg c r value) b 0 0 _ (omega arith) (omega arith) (set_number (acting (SetReg c r value) b) (current c b.parts) b.parts r value _ refl (λ x. refl))
row_walks (SetPc c pc) b few e = most (SetPc c pc) b 0 0 _ (omega arith) (omega arith) (set_number (acting (SetPc c pc) b) (current c b.parts) b.parts 0 0 _ refl (λ x. refl))
row_walks (Poke address bytes) b few e = most (Poke address bytes) b 0 0 _ (omega arith) (omega arith) start
row_walks (Break address) b few e = most (Break address) b 0 0 _ (omega arith) (omega arith) start
row_walks (Unbreak address) b few e = most (Unbreak address) b 0 0 _ (omega arith) (omega arith) start
