-- A quiet Step changes only registers and RAM.
use Rattle.std.proofs.Common.{◌≡◌, ℕ, zero, suc, List, Bool, true, false, not, ◌&&◌, Option, Some, None, Result, Ok, Err, refl, sym, ap, subst, ◌∙◌, inl, inr, arith}
use Rattle.std.specs.Prelude.{is_none, is_ok, is_some, slice_get, if◌then◌else◌}
use Rattle.evm_board.proofs.Idle.{made-idle, made-stopped}
use Rattle.evm_board.proofs.law_rules.Places.{on_processor-same}
use Rattle.evm_board.proofs.law_rules.Private.{IsClear, good-rests, private_row}
use Rattle.evm_core.proofs.Rules.{room-fits}
use Rattle.evm_dev.specs.declared.touch.Op.TheVariants.{Fetch, Put}
use Rattle.evm_diagnostics.specs.evm_board.Steps.{Makes, RunsNothing, after_all_steps}
use Rattle.evm_diagnostics.specs.evm_core.Steps.{behind_step, steps}
use Rattle.evm_exec.specs.Does.{does}
use Rattle.evm_exec.specs.Memory.{width_of_load}
use Rattle.evm_exec.specs.declared.hart.Hart.{Hart}
use Rattle.evm_exec.specs.declared.outcome.Effect.{Effect}
use Rattle.evm_exec.specs.declared.outcome.Effect.TheVariants.{Next, Load, Store, Call, Break, Misaligned}
use Rattle.evm_isa.specs.Decoded.{decoded}
use Rattle.evm_isa.specs.declared.inst.Inst.{Inst}
use Rattle.evm_isa.specs.declared.inst.LoadOp.{LoadOp}
use Rattle.evm_lines.specs.Lines.{least_line}
use Rattle.evm_model.specs.Bounds.{HasRoom, STAMPS_PER_EVENT}
use Rattle.evm_model.specs.Commands.{is_set}
use Rattle.evm_model.specs.Devices.{Accessed}
use Rattle.evm_model.specs.Event.{Event}
use Rattle.evm_model.specs.Good.{Good, GoodState}
use Rattle.evm_model.specs.Instructions.{execute, execute_inst, execute_word, finish, finish_load, finish_store, stop}
use Rattle.evm_model.specs.Memory.{access_device, read_ram, write_ram}
use Rattle.evm_model.specs.Pipes.{Pipe}
use Rattle.evm_model.specs.Ranks.{next_in_band}
use Rattle.evm_model.specs.Refusals.{refusal}
use Rattle.evm_model.specs.Replay.{accept, apply, apply_unless}
use Rattle.evm_model.specs.Rows.{row, run, step, step_current, step_hart, step_pipe, step_processor, step_wire}
use Rattle.evm_model.specs.Settle.{settle_and_nudge}
use Rattle.evm_model.specs.State.{Board, Memory, Parts, State, on_parts, on_processor}
use Rattle.evm_model.specs.declared.event.Answer.{Answer}
use Rattle.evm_model.specs.declared.event.Answer.TheVariants.{Hit, Idle, Stopped}
use Rattle.evm_model.specs.declared.event.Event.TheVariants.{Step}
use Rattle.evm_model.specs.declared.processor.Processor.{Processor}
use Rattle.evm_model.specs.declared.refusal.Refusal.{Refusal}
use Rattle.evm_quiet.specs.Quiet.{Left, quiet, quiet_effect, quiet_inst, quiet_load, quiet_store, quiet_word}
use Rattle.evm_quiet.specs.declared.stop.Stop.{Stop}
use Rattle.evm_quiet.specs.declared.stop.Stop.TheVariants.{Breakpoint}
use Rattle.evm_ram.specs.Ram.{read_at, write_at}
use Rattle.evm_ram.specs.declared.width.Width.{Width}
use Rattle.evm_ram.specs.declared.width.Width.TheVariants.{Word}
use Rattle.run_walk.specs.Quiet.{IsLoudNext, OnlyRuns, StepOnlyRuns, StepsChangeNothing, is_unhindered, is_wire_clear, is_quiet, is_quiet_task, is_quiet_at, is_quiet_cpu, is_still, is_still_cpu, is_still_task}

-- ---- Steps behind Steps
pub runs-none : (b : Board) → OnlyRuns b b
runs-none b = record { parts = refl; memory = refl; breakpoints = refl }

pub runs-then : (a b c : Board) → OnlyRuns a b → OnlyRuns b c → OnlyRuns a c
runs-then a b c f g = record {
  parts = g.parts ∙ ap (λ (k : Parts). record k { harts = c.parts.harts }) f.parts;
  memory = g.memory ∙ ap (λ (m : Memory). record m { ram = c.memory.ram }) f.memory;
  breakpoints = g.breakpoints ∙ f.breakpoints;
}

-- ---- what a quiet instruction does
loads : (device : Option Accessed) (o : Option ℕ) (op : LoadOp) (rd address c t : ℕ) (b : Board) (hart : Hart) → is_ok (quiet_load o op rd address hart b.memory.ram) ≡ true
    → OnlyRuns b (finish_load (read_ram o device b.memory) op rd c t b)
loads device None op rd address c t b hart h = cc
loads device (Some n) op rd address c t b hart h = record { parts = refl; memory = refl; breakpoints = refl }

stores : (device : Option Accessed) (o : Option (List ℕ)) (width : Width) (address value c t : ℕ) (b : Board) (hart : Hart) → is_ok (quiet_store o width address value hart) ≡ true
    → OnlyRuns b (finish_store (write_ram o device b.memory) c t b)
stores device None width address value c t b hart h = cc
stores device (Some ram) width address value c t b hart h = record { parts = refl; memory = refl; breakpoints = refl }

finishes : (effect : Effect) (c t : ℕ) (b : Board) (hart : Hart) → is_ok (quiet_effect None effect hart b.memory.ram) ≡ true → OnlyRuns b (finish effect c t b)
unfolding finish quiet_effect
finishes (Next rd value pc) c t b hart h = record { parts = refl; memory = refl; breakpoints = refl }
finishes (Load op rd address) c t b hart h = loads (access_device Fetch (width_of_load op) address 0 b.memory) (read_at b.memory.ram address (width_of_load op)) op rd address c t b hart h
finishes (Store width address value) c t b hart h = stores (access_device Put width address value b.memory) (write_at b.memory.ram address width value) width address value c t b hart h
finishes Call c t b hart h = cc
finishes Break c t b hart h = cc
finishes Misaligned c t b hart h = cc

inst-runs : (o : Option Inst) (c t : ℕ) (b : Board) (hart : Hart) → is_ok (quiet_inst None o hart b.memory.ram) ≡ true → OnlyRuns b (execute_inst o hart c t b)
inst-runs None c t b hart h = cc
inst-runs (Some inst) c t b hart h = finishes (does inst hart.regs hart.pc) c t b hart h

word-runs : (o : Option ℕ) (c t : ℕ) (b : Board) (hart : Hart) → is_ok (quiet_word None o hart b.memory.ram) ≡ true → OnlyRuns b (execute_word o hart c t b)
word-runs None c t b hart h = cc
word-runs (Some word) c t b hart h = inst-runs (decoded word) c t b hart h

executes : (c t : ℕ) (b : Board) (hart : Hart) → is_ok (quiet_word None (read_at b.memory.ram hart.pc Word) hart b.memory.ram) ≡ true → OnlyRuns b (execute hart c t b)
unfolding execute
executes c t b hart h = word-runs (read_at b.memory.ram hart.pc Word) c t b hart h

-- ---- a Step of a task
-- nothing follows
settles : (c t : ℕ) (b new : Board) → Good b.parts → IsClear c t b.parts → OnlyRuns b new → on_parts (settle_and_nudge (Some t) c) new ≡ new
settles c t b new good clear h =
    ap (λ (k : Parts). record new { parts = k })
    (ap (settle_and_nudge (Some t) c) h.parts ∙ private_row c t b.parts new.parts.harts good clear ∙ sym h.parts)

unskipped : (c : ℕ) (b : Board) (p : Processor) → slice_get b.parts.processors c ≡ Some p → p.skip ≡ false → on_parts (on_processor c (λ p. record p { skip = false })) b ≡ b
unskipped c b p at off = ap (λ (k : Parts). record b { parts = k }) (on_processor-same c (λ q. record q { skip = false }) b.parts (λ q g.
    let it : p ≡ q = (let same : Some p ≡ Some q = sym at ∙ g in cc) in
    let unset : q.skip ≡ false = ap (λ (x : Processor). x.skip) (sym it) ∙ off in
    ap (λ (s : Bool). record q { skip = s }) (sym unset)))

task-runs : (c t : ℕ) (b : Board) (p : Processor) (hart : Hart) → Good b.parts → IsClear c t b.parts → slice_get b.parts.processors c ≡ Some p → p.skip ≡ false
    → is_ok (quiet_word None (read_at b.memory.ram hart.pc Word) hart b.memory.ram) ≡ true → OnlyRuns b (run hart c t b).0
task-runs c t b p hart good clear at off h =
    let new : Board = execute hart c t b in
    let only : OnlyRuns b new = executes c t b hart h in
    let same : (run hart c t b).0 ≡ new =
    ap (λ (x : Board). on_parts (settle_and_nudge (Some t) c) (execute hart c t x)) (unskipped c b p at off) ∙ settles c t b new good clear only in
    subst (λ (x : Board). OnlyRuns b x) (sym same) only

stands-off : (set : Bool) (left : Left) → is_ok {E = Stop} (if set then Err Breakpoint else left) ≡ true → (set ≡ false) × (is_ok left ≡ true)
stands-off true left h = cc
stands-off false left h = (refl, h)

hart-runs : (c t : ℕ) (b : Board) (p : Processor) (hart : Hart) → Good b.parts → IsClear c t b.parts → slice_get b.parts.processors c ≡ Some p → p.skip ≡ false
    → is_ok (quiet None b.breakpoints hart b.memory.ram) ≡ true → OnlyRuns b (step_hart (Some hart) p c t b).0
unfolding quiet
hart-runs c t b p hart good clear at off h =
    let two = stands-off (is_set b.breakpoints hart.pc) (quiet_word None (read_at b.memory.ram hart.pc Word) hart b.memory.ram) h in
    subst (λ (s : Bool). OnlyRuns b (if s && not p.skip then (on_parts (stop c) b, Hit) else run hart c t b).0) (sym two.0) (task-runs c t b p hart good clear at off two.1)

-- ---- a Step
record Goes (c : ℕ) (p : Processor) (pipe : Pipe) (b : Board) : Type 0 where
  at : slice_get b.parts.processors c ≡ Some p
  goes : p.stopped ≡ false
  off : p.skip ≡ false
  there : slice_get b.parts.pipes c ≡ Some pipe
  clear : least_line pipe.wire ≡ None

goes-on : (c : ℕ) (p : Processor) (pipe : Pipe) (b : Board) → Goes c p pipe b → step c b ≡ step_current p.current p c b
unfolding step
goes-on c p pipe b h =
    ap (λ (o : Option Processor). step_processor o c b) h.at
    ∙ ap (λ (s : Bool). if s then (b, Stopped) else step_pipe (slice_get b.parts.pipes c) p c b) h.goes
    ∙ ap (λ (o : Option Pipe). step_pipe o p c b) h.there
    ∙ ap (λ (o : Option ℕ). step_wire o p c b) h.clear

-- no task
idles : (c : ℕ) (p : Processor) (pipe : Pipe) (b : Board) → Good b.parts → HasRoom STAMPS_PER_EVENT b.parts → Goes c p pipe b → p.current ≡ None → next_in_band c b.parts.tasks ≡ None → (step c b).0 ≡ b
unfolding after_all_steps
idles c p pipe b good room g none waits =
    let nothing : RunsNothing c b = record {
      rests = good-rests b.parts good;
      pipe = pipe;
      there = g.there;
      clear = g.clear;
      processor = p;
      at = g.at;
      idles = none;
      goes = g.goes;
      pipes = good.pipes;
      room = room;
    } in
    let made : Makes 1 1 c Idle b b = made-idle 1 c b (omega arith) nothing waits in
    ap (λ (x : Board × Answer). x.0) (sym made.each)

-- a stopped processor
stops : (c : ℕ) (p : Processor) (b : Board) → slice_get b.parts.processors c ≡ Some p → p.stopped ≡ true → (step c b).0 ≡ b
unfolding after_all_steps
stops c p b at stopped =
    let made : Makes 1 1 c Stopped b b = made-stopped 1 c b p (omega arith) at stopped in
    ap (λ (x : Board × Answer). x.0) (sym made.each)

pub runs-same : (b new : Board) → new ≡ b → OnlyRuns b new
runs-same b new same = subst (λ (x : Board). OnlyRuns b x) (sym same) (runs-none b)

hart-steps : (o : Option Hart) (c t : ℕ) (p : Processor) (pipe : Pipe) (b : Board) → Good b.parts → Goes c p pipe b → p.current ≡ Some t → is_quiet_at o b ≡ true → OnlyRuns b (step_hart o p c t b).0
hart-steps None c t p pipe b good g runs h = cc
hart-steps (Some hart) c t p pipe b good g runs h =
    hart-runs c t b p hart good (record { pipe = pipe; there = g.there; clear = g.clear; processor = p; at = g.at; runs = runs }) g.at g.off h

none-waits : (o : Option ℕ) → is_none o ≡ true → o ≡ None
none-waits None h = refl
none-waits (Some t) h = cc

current-steps : (o : Option ℕ) (c : ℕ) (p : Processor) (pipe : Pipe) (b : Board) → Good b.parts → HasRoom STAMPS_PER_EVENT b.parts → Goes c p pipe b → p.current ≡ o → is_quiet_task o c b ≡ true → OnlyRuns b (step c b).0
current-steps None c p pipe b good room g runs h = runs-same b (step c b).0 (idles c p pipe b good room g runs (none-waits (next_in_band c b.parts.tasks) h))
current-steps (Some t) c p pipe b good room g runs h =
    subst (λ (x : Board × Answer). OnlyRuns b x.0) (sym (goes-on c p pipe b g ∙ ap (λ (o : Option ℕ). step_current o p c b) runs))
    (hart-steps (slice_get b.parts.harts t) c t p pipe b good g runs h)

both : (a b : Bool) → (a && b) ≡ true → (a ≡ true) × (b ≡ true)
both true b h = (refl, h)
both false b h = cc

off : (a : Bool) → not a ≡ true → a ≡ false
off true h = cc
off false h = refl

pipe-steps : (o : Option Pipe) (c : ℕ) (p : Processor) (b : Board) → Good b.parts → HasRoom STAMPS_PER_EVENT b.parts → slice_get b.parts.processors c ≡ Some p → p.stopped ≡ false → p.skip ≡ false → slice_get b.parts.pipes c ≡ o
    → is_wire_clear o ≡ true → is_quiet_task p.current c b ≡ true → OnlyRuns b (step c b).0
pipe-steps None c p b good room at goes unset there clear h = cc
pipe-steps (Some pipe) c p b good room at goes unset there clear h =
    current-steps p.current c p pipe b good room (record { at = at; goes = goes; off = unset; there = there; clear = none-waits (least_line pipe.wire) clear }) refl h

processor-steps : (o : Option Processor) (c : ℕ) (b : Board) → Good b.parts → HasRoom STAMPS_PER_EVENT b.parts → slice_get b.parts.processors c ≡ o → is_quiet_cpu o c b ≡ true → OnlyRuns b (step c b).0
processor-steps None c b good room at h = cc
processor-steps (Some p) c b good room at h = by p.stopped refl
  where
    by : (stop : Bool) → p.stopped ≡ stop → OnlyRuns b (step c b).0
    by true stopped = runs-same b (step c b).0 (stops c p b at stopped)
    by false goes =
        let rest : Bool = is_quiet_task p.current c b in
        let one = both (is_unhindered p c b) rest (sym (ap (λ (s : Bool). if s then true else (is_unhindered p c b && rest)) goes) ∙ h) in
        let two = both (not p.skip) (is_wire_clear (slice_get b.parts.pipes c)) one.0 in
        pipe-steps (slice_get b.parts.pipes c) c p b good room at goes (off p.skip two.0) refl two.1 one.1

pub quiet-steps : (c : ℕ) (b : Board) → Good b.parts → HasRoom STAMPS_PER_EVENT b.parts → is_quiet c b ≡ true → OnlyRuns b (step c b).0
unfolding is_quiet
quiet-steps c b good room h = processor-steps (slice_get b.parts.processors c) c b good room refl h

-- ---- an event
unless-board : (r : Option Refusal) (s new : State) (event : Event) (answer : Answer) → apply_unless r event s ≡ Ok (new, answer) → (row event s.board).0 ≡ new.board
unless-board (Some why) s new event answer e = absurd cc
unless-board None s new event answer e = let same : accept event (row event s.board) s ≡ (new, answer) = cc in ap (λ (x : State × Answer). x.0.board) same

applied : (s new : State) (c : ℕ) (answer : Answer) → apply s (Step c) ≡ Ok (new, answer) → (step c s.board).0 ≡ new.board
unfolding apply row
applied s new c answer e = unless-board (refusal (Step c) s) s new (Step c) answer e

-- where the rules hold, the next Step of a processor changes nothing else if it is quiet
pub quiet_steps-run : (c : ℕ) (s : State) → GoodState s → is_quiet c s.board ≡ true → StepOnlyRuns c s
quiet_steps-run c s good h new answer e =
    subst (λ (b : Board). OnlyRuns s.board b) (applied s new c answer e) (quiet-steps c s.board good.good (room-fits s good) h)

-- ---- a Step that is made, or refused
one-runs : (r : Result (State × Answer) Refusal) (c : ℕ) (s t : State) (why : Option Refusal) → apply s (Step c) ≡ r → behind_step r s (λ v. (v, None)) ≡ (t, why) → StepOnlyRuns c s → OnlyRuns s.board t.board
one-runs (Ok after) c s t why e made only =
    subst (λ (v : State). OnlyRuns s.board v.board) (ap (λ (x : State × Option Refusal). x.0) made) (only after.0 after.1 e)
one-runs (Err refusal) c s t why e made only =
    subst (λ (v : State). OnlyRuns s.board v.board) (ap (λ (x : State × Option Refusal). x.0) made) (runs-none s.board)

pub made-runs : (c : ℕ) (s t : State) (why : Option Refusal) → steps c 1 s ≡ (t, why) → StepOnlyRuns c s → OnlyRuns s.board t.board
unfolding steps
made-runs c s t why made only = one-runs (apply s (Step c)) c s t why refl made only

pub unrefused : (why : Option Refusal) → is_some why ≡ false → why ≡ None
unrefused None h = refl
unrefused (Some refusal) h = cc

-- a Step that is refused leaves the machine
one-refused : (r : Result (State × Answer) Refusal) (s t : State) (why : Refusal) → behind_step r s (λ v. (v, None)) ≡ (t, Some why) → (t ≡ s) × (r ≡ Err why)
one-refused (Ok after) s t why made = let no : None ≡ Some why = ap (λ (x : State × Option Refusal). x.1) made in absurd cc
one-refused (Err refusal) s t why made =
    let same : Some refusal ≡ Some why = ap (λ (x : State × Option Refusal). x.1) made in
    (sym (ap (λ (x : State × Option Refusal). x.0) made), (let it : refusal ≡ why = cc in ap Err it))

refused : (c : ℕ) (s t : State) (why : Refusal) → steps c 1 s ≡ (t, Some why) → (t ≡ s) × (apply s (Step c) ≡ Err why)
unfolding steps
refused c s t why made = one-refused (apply s (Step c)) s t why made

pub refused-loud : (c : ℕ) (s t : State) (why : Option Refusal) → steps c 1 s ≡ (t, why) → is_some why ≡ true → IsLoudNext c t
refused-loud c s t None made h = cc
refused-loud c s t (Some why) made h = let two = refused c s t why made in inr (why, subst (λ (v : State). apply v (Step c) ≡ Err why) (sym two.0) two.1)

pub refused-same : (c : ℕ) (s t : State) (why : Option Refusal) → steps c 1 s ≡ (t, why) → is_some why ≡ true → t ≡ s
refused-same c s t None made h = cc
refused-same c s t (Some why) made h = (refused c s t why made).0

made-refused : (r : Result (State × Answer) Refusal) (s t : State) (why : Refusal) → behind_step r s (λ v. (v, None)) ≡ (t, None) → r ≡ Err why → ⊥
made-refused (Ok after) s t why made e = cc
made-refused (Err refusal) s t why made e = let no : Some refusal ≡ None = ap (λ (x : State × Option Refusal). x.1) made in cc

-- one that is made was not quiet, if the run of quiet ones ended there
pub made-loud : (c : ℕ) (s t : State) → steps c 1 s ≡ (t, None) → IsLoudNext c s → is_quiet c s.board ≡ false
unfolding steps
made-loud c s t made h = elim h [ inl loud ↦ loud | inr why ↦ absurd (made-refused (apply s (Step c)) s t why.0 made why.1) ]

-- ---- Steps that change nothing
still-current : (o : Option ℕ) (c : ℕ) (p : Processor) (pipe : Pipe) (b : Board) → Good b.parts → HasRoom STAMPS_PER_EVENT b.parts → Goes c p pipe b → p.current ≡ o → is_still_task o c b ≡ true → (step c b).0 ≡ b
still-current None c p pipe b good room g runs h = idles c p pipe b good room g runs (none-waits (next_in_band c b.parts.tasks) h)
still-current (Some t) c p pipe b good room g runs h = cc

still-pipe : (o : Option Pipe) (c : ℕ) (p : Processor) (b : Board) → Good b.parts → HasRoom STAMPS_PER_EVENT b.parts → slice_get b.parts.processors c ≡ Some p → p.stopped ≡ false → p.skip ≡ false → slice_get b.parts.pipes c ≡ o
    → is_wire_clear o ≡ true → is_still_task p.current c b ≡ true → (step c b).0 ≡ b
still-pipe None c p b good room at goes unset there clear h = cc
still-pipe (Some pipe) c p b good room at goes unset there clear h =
    still-current p.current c p pipe b good room (record { at = at; goes = goes; off = unset; there = there; clear = none-waits (least_line pipe.wire) clear }) refl h

still-processor : (o : Option Processor) (c : ℕ) (b : Board) → Good b.parts → HasRoom STAMPS_PER_EVENT b.parts → slice_get b.parts.processors c ≡ o → is_still_cpu o c b ≡ true → (step c b).0 ≡ b
still-processor None c b good room at h = cc
still-processor (Some p) c b good room at h = by p.stopped refl
  where
    by : (stop : Bool) → p.stopped ≡ stop → (step c b).0 ≡ b
    by true stopped = stops c p b at stopped
    by false goes =
        let rest : Bool = is_still_task p.current c b in
        let one = both (is_unhindered p c b) rest (sym (ap (λ (s : Bool). if s then true else (is_unhindered p c b && rest)) goes) ∙ h) in
        let two = both (not p.skip) (is_wire_clear (slice_get b.parts.pipes c)) one.0 in
        still-pipe (slice_get b.parts.pipes c) c p b good room at goes (off p.skip two.0) refl two.1 one.1

still-step : (c : ℕ) (b : Board) → Good b.parts → HasRoom STAMPS_PER_EVENT b.parts → is_still c b ≡ true → (step c b).0 ≡ b
unfolding is_still
still-step c b good room h = still-processor (slice_get b.parts.processors c) c b good room refl h

-- one behind the other
still-behind : (r : Result (State × Answer) Refusal) (c n : ℕ) (s t : State) (why : Option Refusal) → apply s (Step c) ≡ r → (step c s.board).0 ≡ s.board → behind_step r s (steps c n) ≡ (t, why)
    → ((u : State) → (step c u.board).0 ≡ u.board → steps c n u ≡ (t, why) → t.board ≡ u.board) → t.board ≡ s.board
still-behind (Ok after) c n s t why e still made others =
    let same : after.0.board ≡ s.board = sym (applied s after.0 c after.1 e) ∙ still in
    others after.0 (rw same still) made ∙ same
still-behind (Err refusal) c n s t why e still made others = ap (λ (x : State × Option Refusal). x.0.board) (sym made)

still-all : (c n : ℕ) (s t : State) (why : Option Refusal) → (step c s.board).0 ≡ s.board → steps c n s ≡ (t, why) → t.board ≡ s.board
unfolding steps
still-all c zero s t why still made = ap (λ (x : State × Option Refusal). x.0.board) (sym made)
still-all c (suc n) s t why still made = still-behind (apply s (Step c)) c n s t why refl still made (λ u. still-all c n u t why)

pub still_steps-change : (c : ℕ) (s : State) → GoodState s → is_still c s.board ≡ true → StepsChangeNothing c s
still_steps-change c s good h n new why made = still-all c n s new why (still-step c s.board good.good (room-fits s good) h) made

-- the Step behind the last is refused as it was
refused-behind : (r : Result (State × Answer) Refusal) (c n : ℕ) (s t : State) (why : Refusal) → apply s (Step c) ≡ r → behind_step r s (steps c n) ≡ (t, Some why)
    → ((u : State) → steps c n u ≡ (t, Some why) → apply t (Step c) ≡ Err why) → apply t (Step c) ≡ Err why
refused-behind (Ok after) c n s t why e made others = others after.0 made
refused-behind (Err refusal) c n s t why e made others =
    let same : s ≡ t = ap (λ (x : State × Option Refusal). x.0) made in
    let it : Some refusal ≡ Some why = ap (λ (x : State × Option Refusal). x.1) made in
    subst (λ (v : State). apply v (Step c) ≡ Err why) same (e ∙ (let is : refusal ≡ why = cc in ap Err is))

still-refused : (c n : ℕ) (s t : State) (why : Refusal) → steps c n s ≡ (t, Some why) → apply t (Step c) ≡ Err why
unfolding steps
still-refused c zero s t why made = let no : None ≡ Some why = ap (λ (x : State × Option Refusal). x.1) made in absurd cc
still-refused c (suc n) s t why made = refused-behind (apply s (Step c)) c n s t why refl made (λ u. still-refused c n u t why)

pub still-loud : (c n : ℕ) (s t : State) (why : Option Refusal) → steps c n s ≡ (t, why) → (why ≡ None → ⊥) → IsLoudNext c t
still-loud c n s t None made some = absurd (some refl)
still-loud c n s t (Some why) made some = inr (why, still-refused c n s t why made)
