-- The rules of a processor, after any events.
use Rattle.std.proofs.Common.{◌≡◌, ℕ, List, [], true, false, Option, Some, None, refl, sym, ◌∙◌}
use Rattle.std.specs.Prelude.{slice_get}
use Rattle.evm_lines.specs.Lines.{has_line}
use Rattle.evm_model.specs.Good.{IsSettled}
use Rattle.evm_model.specs.Pipes.{Pipe}
use Rattle.evm_model.specs.Ranks.{best}
use Rattle.evm_model.specs.Settle.{is_oob}
use Rattle.evm_model.specs.State.{State, Parts}
use Rattle.evm_model.specs.declared.boot.Boot.{Boot}
use Rattle.evm_model.specs.declared.mutex.Mutex.{Mutex}
use Rattle.evm_model.specs.declared.processor.Processor.{Processor}
use Rattle.evm_model.specs.declared.task.Task.{Task}
use Rattle.law_rules.proofs.Firsts.{best-is_oob}
use Rattle.law_rules.specs.Rests.{IsClear}
use Rattle.law_rules.specs.Rules.{RulesHold, RulesHoldLoaded}
use Rattle.claims_machine.specs.Reached.{Reached}
use Rattle.claims_machine.proofs.Reached.{good}

pub settled : RulesHold → RulesHoldLoaded → (boot : Boot) (s : State) (c : ℕ) (pipe : Pipe) (p : Processor) → Reached boot s
    → slice_get s.board.parts.pipes c ≡ Some pipe → slice_get s.board.parts.processors c ≡ Some p → IsSettled c pipe p s.board.parts.mutexes s.board.parts.tasks
settled plain loaded boot s c pipe p reached e f = (good plain loaded boot s reached).good.settled c pipe p e f

-- where the current task isn't out-of-band none is ready there
none-if : (c : ℕ) (pipe : Pipe) (p : Processor) (mutexes : List Mutex) (tasks : List Task) (o : Option ℕ) → best c mutexes tasks ≡ o → IsSettled c pipe p mutexes tasks → pipe.oob.stalled ≡ false → has_line pipe.wire 1 ≡ false → is_oob p.current tasks ≡ false → o ≡ None
none-if c pipe p mutexes tasks None b s u v m = refl
none-if c pipe p mutexes tasks (Some t) b s u v m =
    let now : p.current ≡ Some t = s.runs_best u v t b in
    let no : is_oob (Some t) tasks ≡ false = rw now at m in
    let two : true ≡ false = sym (best-is_oob c t mutexes tasks b) ∙ no in cc

pub none-ready : (c : ℕ) (pipe : Pipe) (p : Processor) (mutexes : List Mutex) (tasks : List Task) → IsSettled c pipe p mutexes tasks → pipe.oob.stalled ≡ false → has_line pipe.wire 1 ≡ false → is_oob p.current tasks ≡ false → best c mutexes tasks ≡ None
none-ready c pipe p mutexes tasks s u v m = none-if c pipe p mutexes tasks (best c mutexes tasks) refl s u v m

-- a processor that has a current task and nothing on its wire
pub clear : (c t : ℕ) (k : Parts) (pipe : Pipe) (p : Processor) → slice_get k.pipes c ≡ Some pipe → slice_get k.processors c ≡ Some p → pipe.wire ≡ [] → p.current ≡ Some t → IsClear c t k
clear c t k pipe p e f w r = record { pipe = pipe; there = e; clear = rw w refl; processor = p; at = f; runs = r }
