use Rattle.std.proofs.Common.{◌≡◌, ℕ, zero, suc, List, Bool, true, false, Option, Some, None, length, refl, ap, sym, ◌∙◌}
use Rattle.std.specs.Prelude.{slice_get, option_map, if◌then◌else◌}
use Rattle.evm_model.specs.Boosts.{is_number}
use Rattle.evm_model.proofs.Lists.{change-here, change-elsewhere}
use Rattle.evm_model.specs.Good.{is_ready}
use Rattle.evm_model.specs.Instructions.{fault, execute}
use Rattle.evm_model.specs.Lists.{change}
use Rattle.evm_model.specs.Memory.{fetch}
use Rattle.evm_model.specs.Mutexes.{owner}
use Rattle.evm_model.specs.Notices.{asks_for, notify}
use Rattle.evm_model.specs.Passing.{hand_over_to, hand_over, hand_over_below, end_task}
use Rattle.evm_model.specs.Pipes.{set_stall}
use Rattle.evm_model.specs.Ranks.{is_oob_ready}
use Rattle.evm_model.specs.Settle.{is_oob, is_oob_task}
use Rattle.evm_model.specs.State.{Parts}
use Rattle.evm_model.specs.Tasks.{demote, restamp, set_state, leave_in_band}
use Rattle.evm_model.specs.Waits.{first_waiter, wake}
use Rattle.evm_model.specs.declared.fault.Fault.{Fault}
use Rattle.evm_model.specs.declared.notice.NoticeKind.{NoticeKind}
use Rattle.evm_model.specs.declared.notice.NoticeKind.TheVariants.{DemotedByFault}
use Rattle.evm_model.specs.declared.processor.Processor.{Processor}
use Rattle.evm_model.specs.declared.stage.Stage.TheVariants.{InBand, OutOfBand}
use Rattle.evm_model.specs.declared.task.Task.{Task}
use Rattle.evm_model.specs.declared.task.TaskState.TheVariants.{InReady, Faulted}
use Rattle.evm_model.specs.declared.task.Wait.TheVariants.{Lock}
use Rattle.law_runs.proofs.Owning.{hands_over_below}
use Rattle.claims_machine.proofs.Faulting.{words}
use Rattle.claims_machine.proofs.faults.a_fault_takes_its_task_in_band_or_ends_it.Goals as goal

pub returns-clause-only : goal.returns-clause-only
unfolding execute
returns-clause-only g c t hart b e = words c t b (fetch hart.pc b.memory) hart e

-- ---- out-of-band
-- a notice leaves these
record Leaves (k x : Parts) : Type 0 where
  tasks : x.tasks ≡ k.tasks
  harts : x.harts ≡ k.harts
  mutexes : x.mutexes ≡ k.mutexes
  pipes : x.pipes ≡ k.pipes

noted : (b : Bool) (k x : Parts) → Leaves k x → Leaves k (if b then x else k)
noted true k x l = l
noted false k x l = record { tasks = refl; harts = refl; mutexes = refl; pipes = refl }

notify_leaves : (kind : NoticeKind) (t : ℕ) (k : Parts) → Leaves k (notify kind t k)
unfolding notify
notify_leaves kind t k = noted (asks_for kind (slice_get k.tasks t)) k _ (record { tasks = refl; harts = refl; mutexes = refl; pipes = refl })

faults_oob : (c t : ℕ) (f : Fault) (k : Parts) (task : Task) → slice_get k.tasks t ≡ Some task → is_oob_ready task.state ≡ true → Leaves (demote c t k) (fault c t f k)
faults_oob c t f k task there on =
    let e : is_oob (Some t) k.tasks ≡ true = ap is_oob_task there ∙ on in
    rw e (notify_leaves DemotedByFault t (demote c t k))

pub returns-clause-oob : goal.returns-clause-oob
unfolding demote restamp set_state
returns-clause-oob g c t f k task there is =
    let left = faults_oob c t f k task there (ap is_oob_ready is) in
    let ready : Task → Task = λ y. record y { state = InReady } in
    let stamped : Task → Task = λ y. record y { stamp = k.stamps } in (
      ap (λ tasks. slice_get tasks t) left.tasks ∙ change-here stamped (change ready k.tasks t) t ∙ ap (option_map stamped) (change-here ready k.tasks t ∙ ap (option_map ready) there),
      left.harts,
      left.mutexes,
    )

pub returns-clause-opens_oob : goal.returns-clause-opens_oob
unfolding demote restamp set_state set_stall
returns-clause-opens_oob g c t f k task there is =
    let left = faults_oob c t f k task there (ap is_oob_ready is) in (
      (λ pipe at. ap (λ pipes. slice_get pipes c) left.pipes ∙ change-here (set_stall OutOfBand false) k.pipes c ∙ ap (option_map (set_stall OutOfBand false)) at),
      (λ d other. ap (λ pipes. slice_get pipes d) left.pipes ∙ change-elsewhere (set_stall OutOfBand false) k.pipes c d other),
    )

-- ---- in-band
faults_in_band : (c t : ℕ) (f : Fault) (k : Parts) (task : Task) → slice_get k.tasks t ≡ Some task → is_oob_ready task.state ≡ false → fault c t f k ≡ end_task c t (Faulted f) k
faults_in_band c t f k task there on =
    let e : is_oob (Some t) k.tasks ≡ false = ap is_oob_task there ∙ on in
    ap (λ (b : Bool). if b then notify DemotedByFault t (demote c t k) else end_task c t (Faulted f) k) e

pub returns-clause-in_band : goal.returns-clause-in_band
unfolding end_task set_state leave_in_band
returns-clause-in_band g c t f k task hart there is has =
    let same : fault c t f k ≡ end_task c t (Faulted f) k = faults_in_band c t f k task there (ap is_oob_ready is) in
    let passed : Parts = hand_over_below t (length k.mutexes) k in
    let apart = hands_over_below t task k there (ap is_ready is) (length k.mutexes) in
    let ended : Task → Task = λ y. record y { state = Faulted f } in
    let left : Processor → Processor = λ p. record p { in_band_task = None } in (
      ap (λ (x : Parts). slice_get x.tasks t) same ∙ change-here ended passed.tasks t ∙ ap (option_map ended) (apart.task ∙ there),
      ap (λ (x : Parts). slice_get x.harts t) same ∙ apart.hart ∙ has,
      (λ p at. gone c passed.processors p (ap (λ (x : Parts). slice_get x.processors c) (sym same) ∙ at)),
    )
  where
    none_of : (o : Option Processor) (p : Processor) → option_map (λ (q : Processor). record q { in_band_task = None }) o ≡ Some p → p.in_band_task ≡ None
    none_of None p e = cc
    none_of (Some q) p e = let one : record q { in_band_task = None } ≡ p = cc in ap (λ (x : Processor). x.in_band_task) (sym one)

    gone : (c : ℕ) (processors : List Processor) (p : Processor) → slice_get (change (λ (q : Processor). record q { in_band_task = None }) processors c) c ≡ Some p → p.in_band_task ≡ None
    gone c processors p at = none_of (slice_get processors c) p (sym (change-here (λ (q : Processor). record q { in_band_task = None }) processors c) ∙ at)

-- mutexes that pass on leave the pipes
passed_to : (o : Option ℕ) (m : ℕ) (k : Parts) → (hand_over_to o m k).pipes ≡ k.pipes
unfolding wake restamp
passed_to None m k = refl
passed_to (Some t) m k = refl

passed_if : (b : Bool) (k x : Parts) → x.pipes ≡ k.pipes → (if b then x else k).pipes ≡ k.pipes
passed_if true k x e = e
passed_if false k x e = refl

passed_below : (t m : ℕ) (k : Parts) → (hand_over_below t m k).pipes ≡ k.pipes
unfolding hand_over_below hand_over
passed_below t zero k = refl
passed_below t (suc m) k =
    let before : Parts = hand_over_below t m k in
    passed_if (is_number (owner before.mutexes m) t) before (hand_over m before) (passed_to (first_waiter (Lock m) before) m before) ∙ passed_below t m k

pub returns-clause-opens_in_band : goal.returns-clause-opens_in_band
unfolding end_task set_state leave_in_band set_stall
returns-clause-opens_in_band g c t f k task there is =
    let same : fault c t f k ≡ end_task c t (Faulted f) k = faults_in_band c t f k task there (ap is_oob_ready is) in
    let passed : Parts = hand_over_below t (length k.mutexes) k in
    let pipes : passed.pipes ≡ k.pipes = passed_below t (length k.mutexes) k in (
      (λ pipe at. ap (λ (x : Parts). slice_get x.pipes c) same ∙ change-here (set_stall InBand false) passed.pipes c ∙ ap (option_map (set_stall InBand false)) (ap (λ all. slice_get all c) pipes ∙ at)),
      (λ d other. ap (λ (x : Parts). slice_get x.pipes d) same ∙ change-elsewhere (set_stall InBand false) passed.pipes c d other ∙ ap (λ all. slice_get all d) pipes),
    )
