-- What the claims on sharings, on bells and on the machine say together.
use Rattle.std.proofs.Common.{◌≡◌, ℕ, ◌+◌, ◌%◌, ◌^◌, ◌<◌, ◌≤◌, List, length, length-drop, drop, sym, subst, refl, ◌∙◌, ◌⊎◌, inl, inr, arith, Bool, true, false}
use Rattle.std.proofs.Math.Nat.{mod-eq_of_lt}
use Rattle.std.proofs.lemmas.Bool.{ltb-false}
use Rattle.std.proofs.lemmas.List.Sums.{count_by-le-length}
use Rattle.std.proofs.lemmas.Nat.Bits.{bit_at-lt}
use Rattle.std.specs.Int.{bit_at}
use Rattle.std.specs.Prelude.{◌==◌, nat_lt, count_by, if◌then◌else◌}
use Rattle.claims_machine.specs.Reached.{Ran}
use Rattle.evm_model.specs.Devices.{Attached}
use Rattle.evm_model.specs.Event.{Event}
use Rattle.evm_model.specs.Good.{GoodState}
use Rattle.evm_model.specs.Load.{start_loaded}
use Rattle.evm_model.specs.Replay.{bad_boot, bad_capacity, bad_cpus, bad_profile, bad_ram, bad_watchdog, replay, start}
use Rattle.evm_model.specs.State.{State}
use Rattle.evm_model.specs.declared.boot.Boot.{Boot}
use Rattle.evm_model.specs.declared.limits.TheConstants.{CAPACITY_LIMIT}
use Rattle.claims_threads.specs.Passing.{IsBooted}

-- ---- a machine that began with a boot, and is its journal's replay, is one that was run

abbrev From : List Attached → Boot → State → List Event → State → Type 0
From devices boot first events s =
    (s ≡ replay (start devices boot) events) ⊎ ((byte : ℕ → ℕ) × ((entry : ℕ) × (s ≡ replay (start_loaded devices byte entry boot) events)))

from_begin : (devices : List Attached) (boot : Boot) (first s : State) (events : List Event) → replay first events ≡ s
    → ((first ≡ start devices boot) ⊎ ((byte : ℕ → ℕ) × ((entry : ℕ) × (first ≡ start_loaded devices byte entry boot))))
    → From devices boot first events s
from_begin devices boot first s events replayed (inl is) = inl (sym (subst (λ x. replay x events ≡ s) is replayed))
from_begin devices boot first s events replayed (inr is) = inr (is.0, (is.1.0, sym (subst (λ x. replay x events ≡ s) is.1.1 replayed)))

pub run_from : (boot : Boot) (first s : State) → IsBooted boot first → replay first s.journal ≡ s → Ran boot s
run_from boot first s b replayed = record { devices = b.devices; few = b.few; events = s.journal; from = from_begin b.devices boot first s s.journal replayed b.from }

-- ---- counters are exact, since a journal is short

if_false : (a b : Bool) → (if a then true else b) ≡ false → (a ≡ false) × (b ≡ false)
if_false true b e = absurd cc
if_false false b e = (refl, e)

capacity_within : (boot : Boot) → bad_boot boot ≡ false → boot.capacity ≤ CAPACITY_LIMIT
capacity_within boot e =
    let first = if_false (bad_profile boot.profile) _ e in
    let second = if_false (bad_watchdog boot.profile boot.watchdog) _ first.1 in
    let rest = if_false (bad_cpus boot.cpus) (if bad_ram boot.ram then true else bad_capacity boot.capacity) second.1 in
    let last = if_false (bad_ram boot.ram) (bad_capacity boot.capacity) rest.1 in
    ltb-false CAPACITY_LIMIT boot.capacity (if_false (boot.capacity == 0) (nat_lt CAPACITY_LIMIT boot.capacity) last.1).1

-- a count of events of a journal, and a bit
pub exact : (s : State) (such : Event → Bool) (word l counter counted : ℕ) → GoodState s → counter ≡ counted % 2 ^ 64 → counted ≡ count_by such s.journal + bit_at word l
    → counter ≡ count_by such s.journal + bit_at word l
exact s such word l counter counted good is sum =
    let low : counted < 2 ^ 64 = omega (arith, sum, count_by-le-length such s.journal, good.journal, capacity_within s.boot good.boot, bit_at-lt word l) in
    is ∙ mod-eq_of_lt low ∙ sum

-- .. and of the events of it behind the first n
pub exact_since : (s : State) (such : Event → Bool) (n word l counter counted : ℕ) → GoodState s → counter ≡ counted % 2 ^ 64 → counted ≡ count_by such (drop n s.journal) + bit_at word l
    → counter ≡ count_by such (drop n s.journal) + bit_at word l
exact_since s such n word l counter counted good is sum =
    let fewer = length-drop n s.journal in
    let low : counted < 2 ^ 64 = omega (arith, sum, fewer, count_by-le-length such (drop n s.journal), good.journal, capacity_within s.boot good.boot, bit_at-lt word l) in
    is ∙ mod-eq_of_lt low ∙ sum
