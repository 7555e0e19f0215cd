-- What is shown, and what is asked for it.
use Rattle.std.proofs.Common.{◌≡◌, ℕ, ◌≤◌, List, [], length, sym, ap}
use Rattle.std.specs.Prelude.{Result, Ok, Err, IsOkAnd}
use Rattle.evm_model.specs.declared.refusal.Refusal.{Refusal}
use Rattle.evm_room.specs.Growth.{RefusedWithin}
use Rattle.evm_debug.specs.Views.{Shows, LacksMemory}

-- behind nothing
pub shows_all : (shown : Result (List ℕ) Refusal) (text : List ℕ) → Shows shown [] text → shown ≡ Ok text
shows_all (Ok text) new is = ap (λ (t : List ℕ). Ok t) (sym is)
shows_all (Err r) new never = absurd never

pub lacks : (shown : Result (List ℕ) Refusal) (asked : ℕ) → IsOkAnd shown (λ text. asked ≤ length text) → ((most : ℕ) → asked ≤ most → RefusedWithin most) → LacksMemory shown
lacks (Ok text) asked few within = within (length text) few
lacks (Err r) asked never within = absurd never
