-- Bytes that are inside RAM.
use Rattle.std.proofs.Common.{◌≡◌, ℕ, ◌+◌, ◌^◌, ◌<◌, ◌≤◌, inl, inr, Bool, true, false, cond, List, refl, arith}
use Rattle.std.proofs.lemmas.Bool.Decides.{nat_tests}
use Rattle.std.specs.Prelude.{Some, None, is_some, nat_lt, if◌then◌else◌}
use Rattle.evm_ram.specs.Laws.{inside}
use Rattle.evm_ram.specs.Ram.{is_inside, bytes_at}
use Rattle.evm_ram.specs.declared.ram.TheConstants.{SIZE_LIMIT}
use Rattle.evm_model.specs.Good.{GoodState}
use Rattle.evm_model.specs.Replay.{bad_boot, bad_profile, bad_watchdog, bad_cpus, bad_ram, bad_capacity}
use Rattle.evm_model.specs.State.{State}
use Rattle.evm_model.specs.declared.boot.Boot.{Boot}
use Rattle.evm_model.specs.declared.limits.TheConstants.{RAM_LEAST}

some-if : (test : Bool) (bytes : List ℕ) → is_some (cond test (Some bytes) None) ≡ test
some-if true bytes = refl
some-if false bytes = refl

pub found_inside : (ram : List ℕ) (address count : ℕ) → is_some (bytes_at ram address count) ≡ is_inside ram address count
unfolding bytes_at
found_inside ram address count = some-if (is_inside ram address count) _

either-false : (a b : Bool) → (if a then true else b) ≡ false → (a ≡ false) × (b ≡ false)
either-false true b e = absurd cc
either-false false b e = (refl, e)

ram-within : (boot : Boot) → bad_boot boot ≡ false → boot.ram ≤ SIZE_LIMIT
ram-within boot e =
    let profile = either-false (bad_profile boot.profile) _ e in
    let watchdog = either-false (bad_watchdog boot.profile boot.watchdog) _ profile.1 in
    let rest = either-false (bad_cpus boot.cpus) (if bad_ram boot.ram then true else bad_capacity boot.capacity) watchdog.1 in
    let ram = either-false (bad_ram boot.ram) (bad_capacity boot.capacity) rest.1 in
    let large = either-false (nat_lt boot.ram RAM_LEAST) _ ram.0 in
    let few : nat_lt SIZE_LIMIT boot.ram ≡ false = (either-false (nat_lt SIZE_LIMIT boot.ram) _ large.1).0 in
    grind (arith, nat_tests)

-- RAM ends far below 2^64
pub ends_below : (s : State) (address count : ℕ) → GoodState s → address < 2 ^ 64 → is_inside s.board.memory.ram address count ≡ true → address + count ≤ 2 ^ 64
ends_below s address count good low h =
    let within = ram-within s.boot good.boot in
    let long = good.ram in
    elim (inside s.board.memory.ram address count h) [ inl none ↦ omega arith | inr bounds ↦ omega arith ]
