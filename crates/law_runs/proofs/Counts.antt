-- How many there are of each after a step, whoever acts in it and however many devices there are.
use Rattle.std.proofs.Common.{◌≡◌, ℕ, ◌+◌, ◌≤◌, List, Option, Some, None, length, ◌⊎◌, inl, inr, refl, ap, sym, ◌∙◌, arith}
use Rattle.std.specs.Prelude.{slice_get, option_map}
use Rattle.std.proofs.lemmas.Bool.{cases_eq}
use Rattle.evm_model.specs.Devices.{raise_line}
use Rattle.evm_model.specs.Pipes.{raise}
use Rattle.evm_model.specs.Rows.{step}
use Rattle.evm_model.specs.Settle.{nudge}
use Rattle.evm_model.specs.State.{Board, Memory, Parts, on_parts}
use Rattle.evm_model.specs.declared.limits.TheConstants.{TASK_LIMIT}
use Rattle.evm_model.proofs.Lists.{change-here, change-elsewhere, length-change}
use Rattle.law_rules.proofs.RowWalks.{SETTLING_STAMPS}
use Rattle.law_rules.proofs.Sizes.{walk_sizes, walk_ticks}
use Rattle.law_rules.proofs.Walk.{Actor, Walk, start}
use Rattle.law_runs.specs.Balance.{line_of_step}
use Rattle.law_runs.specs.Changes.{Added}
use Rattle.law_runs.specs.Kept.{kinds, AllHaveRegisters}
use Rattle.law_runs.proofs.Added.{walk_registers, walk_added, walk_other_pipes}
use Rattle.law_runs.proofs.Executing.{SETTLING_MOVES, doer, settler, StepParts, line_ticks, step_parts}
use Rattle.law_runs.proofs.Instructions.{step_writes}
use Rattle.law_runs.proofs.Raised.{teller, nudge_walk}

-- as many of each, but for tasks, of which there may be more, a hart for each; devices of the same kinds; and tasks keep their registers
pub record SameCounts (old new : Board) : Type 0 where
  pub processors : length new.parts.processors ≡ length old.parts.processors
  pub pipes : length new.parts.pipes ≡ length old.parts.pipes
  pub ram : length new.memory.ram ≡ length old.memory.ram
  pub devices : kinds new.memory.devices ≡ kinds old.memory.devices
  pub tasks : length old.parts.tasks ≤ length new.parts.tasks
  pub harts : length old.parts.harts ≤ length new.parts.harts
  pub few_tasks : length old.parts.tasks ≤ TASK_LIMIT → length new.parts.tasks ≤ TASK_LIMIT
  pub a_hart_each : length old.parts.harts ≡ length old.parts.tasks → length new.parts.harts ≡ length new.parts.tasks
  pub registers : AllHaveRegisters old.parts.harts → AllHaveRegisters new.parts.harts

pub same_then : (x y z : Board) → SameCounts x y → SameCounts y z → SameCounts x z
same_then x y z p q = record {
  processors = q.processors ∙ p.processors;
  pipes = q.pipes ∙ p.pipes;
  ram = q.ram ∙ p.ram;
  devices = q.devices ∙ p.devices;
  tasks = omega (arith, p.tasks, q.tasks);
  harts = omega (arith, p.harts, q.harts);
  few_tasks = λ few. q.few_tasks (p.few_tasks few);
  a_hart_each = λ each. q.a_hart_each (p.a_hart_each each);
  registers = λ h. q.registers (p.registers h);
}

each_more : (x y : Parts) → Added x y → length x.harts ≡ length x.tasks → length y.harts ≡ length y.tasks
each_more x y p each = elim p [
  | inl same ↦ same.1 ∙ each ∙ sym same.0
  | inr a ↦ a.harts ∙ ap (λ n. n + 1) each ∙ sym a.tasks
]

-- .. of parts
parts_counts : (a : Actor) (m : Memory) (breakpoints : List ℕ) (old : Parts) (n s : ℕ) (k : Parts) → Walk a old n s k
    → SameCounts (record { memory = m; breakpoints = breakpoints; parts = old }) (record { memory = m; breakpoints = breakpoints; parts = k })
parts_counts a m breakpoints old n s k w =
    let z = walk_sizes a old n s k w in
    record {
      processors = z.processors;
      pipes = z.pipes;
      ram = refl;
      devices = refl;
      tasks = z.tasks;
      harts = z.harts;
      few_tasks = z.few;
      a_hart_each = each_more old k (walk_added a old n s k w);
      registers = walk_registers a old n s k w;
    }

line_counts : (o : Option ℕ) (b : Board) → SameCounts b (on_parts (raise_line o) b)
line_counts None b = record { processors = refl; pipes = refl; ram = refl; devices = refl; tasks = omega arith; harts = omega arith; few_tasks = λ few. few; a_hart_each = λ each. each; registers = λ h. h }
line_counts (Some l) b = record {
  processors = refl;
  pipes = length-change (raise l) b.parts.pipes 0;
  ram = refl;
  devices = refl;
  tasks = omega arith;
  harts = omega arith;
  few_tasks = λ few. few;
  a_hart_each = λ each. each;
  registers = λ h. h;
}

-- ---- a step
module _ (c : ℕ) (b : Board) where
  abbrev new : Board
  new = (step c b).0

  abbrev p : StepParts c b (step c b)
  p = step_parts c b

  abbrev line : Option ℕ
  line = line_of_step (step c b).1 b

  line_others : (o : Option ℕ) (x : Parts) (d : ℕ) → slice_get x.pipes d ≡ slice_get b.parts.pipes d → slice_get (raise_line o x).pipes d ≡ slice_get (raise_line o b.parts).pipes d
  line_others None x d e = e
  line_others (Some l) x d e = elim (cases_eq d 0) [
    | inl same ↦ rw same (change-here (raise l) x.pipes 0 ∙ ap (option_map (raise l)) (rw same at e) ∙ sym (change-here (raise l) b.parts.pipes 0))
    | inr other ↦ change-elsewhere (raise l) x.pipes 0 d other ∙ e ∙ sym (change-elsewhere (raise l) b.parts.pipes 0 d other)
  ]

  -- the pipes of others, before they are told
  pub settled_others : (d : ℕ) → (d ≡ c → ⊥) → slice_get p.settled.pipes d ≡ slice_get (raise_line line b.parts).pipes d
  settled_others d other =
      let before : slice_get p.before.pipes d ≡ slice_get b.parts.pipes d = walk_other_pipes (doer c p.task) b.parts d other (λ e l. refl) 1 65 p.before p.acts in
      walk_other_pipes (settler c) (raise_line line p.before) d other (λ e l. refl) SETTLING_MOVES SETTLING_STAMPS p.settled p.settles ∙ line_others line p.before d before

  -- the board on which only the parts have changed
  abbrev part : Parts → Board
  part k = record b { parts = k }

  told_counts : (k : Parts) → (k ≡ p.settled) ⊎ (k ≡ nudge c p.settled) → SameCounts (part p.settled) (part k)
  told_counts k (inl same) = rw same (parts_counts (teller c) b.memory b.breakpoints p.settled 0 0 p.settled start)
  told_counts k (inr told) = rw told (parts_counts (teller c) b.memory b.breakpoints p.settled 1 0 (nudge c p.settled) (nudge_walk c p.settled))

  pub step_counts : SameCounts b new
  step_counts =
      let w = step_writes c b in
      let before = parts_counts (doer c p.task) b.memory b.breakpoints b.parts 1 65 p.before p.acts in
      let raised = line_counts line (part p.before) in
      let settled = parts_counts (settler c) b.memory b.breakpoints (raise_line line p.before) SETTLING_MOVES SETTLING_STAMPS p.settled p.settles in
      let s = same_then b (part p.before) (part new.parts) before (same_then (part p.before) (part (raise_line line p.before)) (part new.parts) raised (same_then (part (raise_line line p.before)) (part p.settled) (part new.parts) settled (told_counts new.parts p.told))) in
      record {
        processors = s.processors;
        pipes = s.pipes;
        ram = w.ram;
        devices = w.kinds;
        tasks = s.tasks;
        harts = s.harts;
        few_tasks = s.few_tasks;
        a_hart_each = s.a_hart_each;
        registers = s.registers;
      }

  told_ticks : (k : Parts) → (k ≡ p.settled) ⊎ (k ≡ nudge c p.settled) → k.ticks ≡ p.settled.ticks
  unfolding nudge
  told_ticks k (inl same) = ap (λ (x : Parts). x.ticks) same
  told_ticks k (inr told) = ap (λ (x : Parts). x.ticks) told

  pub step_ticks : new.parts.ticks ≡ b.parts.ticks
  step_ticks =
      told_ticks new.parts p.told
      ∙ walk_ticks (settler c) (raise_line line p.before) SETTLING_MOVES SETTLING_STAMPS p.settled refl p.settles
      ∙ line_ticks line p.before
      ∙ walk_ticks (doer c p.task) b.parts 1 65 p.before refl p.acts
