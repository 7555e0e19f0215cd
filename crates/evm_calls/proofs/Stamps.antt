-- How many stamps a call gives at most: a law of its row.
use Rattle.std.proofs.Common.{◌≡◌, ℕ, ◌+◌, ◌≤◌, Bool, Some, true, false, refl, ap, arith}
use Rattle.std.specs.Prelude.{not, slice_get, ◌&&◌, if◌then◌else◌}
use Rattle.evm_calls.specs.Asking.{IsMade}
use Rattle.evm_model.specs.Bounds.{PER_CALL, HasRoom, HasStamps}
use Rattle.evm_exec.specs.declared.hart.Hart.{Hart}
use Rattle.evm_model.specs.Calls.{answered, call, finish_call, is_weak_oob, perform, return_weak}
use Rattle.evm_model.specs.Harts.{answer}
use Rattle.evm_model.specs.Mutexes.{owns_any}
use Rattle.evm_model.specs.State.{Parts, on_hart}
use Rattle.evm_model.specs.Tasks.{demote, restamp, set_state}
use Rattle.evm_model.specs.declared.call.Call.{Call}
use Rattle.evm_model.specs.declared.call.Outcome.{Outcome}
use Rattle.evm_model.specs.declared.call.Outcome.TheVariants.{Returns, Blocks, Exits}
use Rattle.evm_parts.specs.evm_task.Asks.{AskedBy}
use Rattle.evm_parts.specs.evm_task.declared.harts.Asked.{Asked}
use Rattle.law_rules.proofs.Calls.{walks_closely}
use Rattle.law_rules.proofs.Sizes.{walk_most}
use Rattle.law_rules.proofs.Walk.{Actor, AreFew, start, unchanged}

-- task t calls on processor c
abbrev calls : ℕ → ℕ → Actor
calls c t = record { cpu = c; task = Some t; may = λ d l. false; chooses = false; calls = true; faults = false }

most : (c t : ℕ) (k : Parts) → AreFew k → (call c t k).stamps ≤ k.stamps + 65
most c t k few = walk_most (calls c t) k 1 65 (call c t k) few (walks_closely (calls c t) k k t refl (unchanged k) start refl)

-- an answer takes none back
least-if : (b : Bool) (x y : Parts) → x.stamps ≤ y.stamps → x.stamps ≤ (if b then y else x).stamps
least-if true x y h = h
least-if false x y h = omega arith

demote-least : (c t : ℕ) (x : Parts) → x.stamps ≤ (demote c t x).stamps
unfolding demote restamp set_state
demote-least c t x = omega arith

weak-least : (c t : ℕ) (x : Parts) → x.stamps ≤ (return_weak c t x).stamps
unfolding return_weak
weak-least c t x = least-if (is_weak_oob (slice_get x.tasks t) && not (owns_any t x.mutexes)) x (demote c t x) (demote-least c t x)

answered-least : (outcome : Outcome) (c t : ℕ) (x : Parts) → x.stamps ≤ (answered outcome c t x).stamps
answered-least (Returns value) c t x = weak-least c t (on_hart t (answer value) x)
answered-least Blocks c t x = omega arith
answered-least Exits c t x = omega arith

pub few-left : (named : Call) (x : Hart) (c t : ℕ) (k : Parts) → AreFew k → HasRoom PER_CALL k → finish_call c t (perform named x c t k) ≡ call c t k → HasStamps 1 (perform named x c t k).0
few-left named x c t k few room done =
    let least : (perform named x c t k).0.stamps ≤ (finish_call c t (perform named x c t k)).stamps = answered-least (perform named x c t k).1 c t (perform named x c t k).0 in
    let same : (finish_call c t (perform named x c t k)).stamps ≡ (call c t k).stamps = ap (λ (z : Parts). z.stamps) done in
    omega (arith, least, same, most c t k few, room.stamps)

-- once the call has done what it does, its task can still go in-band
pub stamps-left : (named : Call) (asked : Asked) (c t : ℕ) (k new : Parts) (outcome : Outcome) → AreFew k → HasRoom PER_CALL k → IsMade named asked c t k
    → ((hart : Hart) → AskedBy asked hart → (new, outcome) ≡ perform named hart c t k) → HasStamps 1 new
stamps-left named asked c t k new outcome few room made row =
    let is : new ≡ (perform named made.hart c t k).0 = ap (λ (done : Parts × Outcome). done.0) (row made.hart made.by) in
    rw is (few-left named made.hart c t k few room made.done)
