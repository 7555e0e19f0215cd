-- What holds of each state that a run reaches.
use Rattle.std.proofs.Common.{◌≡◌, ℕ, ◌%◌, ◌<◌, List, false, ◌⊎◌, inl, inr, sym, subst, arith}
use Rattle.std.specs.Prelude.{◌^◌}
use Rattle.evm_model.specs.Bounds.{UpTo}
use Rattle.evm_model.specs.Event.{Event}
use Rattle.evm_model.specs.Devices.{Attached}
use Rattle.evm_model.specs.Good.{AreDevices, GoodState}
use Rattle.evm_model.specs.Load.{start_loaded}
use Rattle.evm_model.specs.Replay.{bad_boot, start, replay}
use Rattle.evm_model.specs.State.{State}
use Rattle.evm_model.specs.declared.boot.Boot.{Boot}
use Rattle.evm_model.specs.declared.counts.Counts.{Counts}
use Rattle.law_rules.specs.Rules.{RulesHold, RulesHoldLoaded}
use Rattle.claims_machine.specs.Reached.{AreSmall, Ran, Reached}

ran_by : (P : State → Type 0) (devices : List Attached) (boot : Boot) (s : State) (events : List Event) → P (replay (start devices boot) events) → ((byte : ℕ → ℕ) (entry : ℕ) → P (replay (start_loaded devices byte entry boot) events))
    → (s ≡ replay (start devices boot) events) ⊎ ((byte : ℕ → ℕ) × ((entry : ℕ) × (s ≡ replay (start_loaded devices byte entry boot) events))) → P s
ran_by P devices boot s events plain loaded (inl e) = subst P (sym e) plain
ran_by P devices boot s events plain loaded (inr (byte, (entry, e))) = subst P (sym e) (loaded byte entry)

-- what holds after each boot with its devices, with an image or none, holds of what ran
pub ran : (P : State → Type 0) (boot : Boot) (s : State) (r : Ran boot s) → ((events : List Event) → P (replay (start r.devices boot) events)) → ((byte : ℕ → ℕ) (entry : ℕ) (events : List Event) → P (replay (start_loaded r.devices byte entry boot) events)) → P s
ran P boot s r plain loaded = ran_by P r.devices boot s r.events (plain r.events) (λ byte entry. loaded byte entry r.events) r.from

reached_by : RulesHold → RulesHoldLoaded → (devices : List Attached) (boot : Boot) (s : State) (events : List Event) → AreDevices devices → bad_boot boot ≡ false
    → (s ≡ replay (start devices boot) events) ⊎ ((byte : ℕ → ℕ) × ((entry : ℕ) × ((entry % 4 ≡ 0) × (s ≡ replay (start_loaded devices byte entry boot) events)))) → GoodState s
reached_by plain loaded devices boot s events are fits (inl e) = rw e (plain devices boot are fits events)
reached_by plain loaded devices boot s events are fits (inr (byte, (entry, e))) = rw e.1 (loaded devices byte entry boot are fits e.0 events)

-- the rules hold of what was reached
pub good : RulesHold → RulesHoldLoaded → (boot : Boot) (s : State) → Reached boot s → GoodState s
good plain loaded boot s r = reached_by plain loaded r.devices boot s r.events r.are r.fits r.from

-- a bound is far below what 64 bits hold
pub small : (bound : ℕ) (n : Counts) → bound < 2 ^ 29 → UpTo bound n → AreSmall n
small bound n few most = record {
  raised = omega (arith, most.raised, few);
  merged = omega (arith, most.merged, few);
  received = omega (arith, most.received, few);
  oob_arrivals = omega (arith, most.oob.arrivals, few);
  oob_merged = omega (arith, most.oob.merged, few);
  oob_played = omega (arith, most.oob.played, few);
  inband_arrivals = omega (arith, most.in_band.arrivals, few);
  inband_merged = omega (arith, most.in_band.merged, few);
  inband_played = omega (arith, most.in_band.played, few);
}
