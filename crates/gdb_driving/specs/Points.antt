-- Where a session stops: how breakpoints and watchpoints are set and taken away.
use Rattle.std.specs.Prelude.{◌≡◌, ℕ, ◌==◌, Bool, true, not, ◌&&◌, List, [], ◌∷◌, ◌++◌, Result, Ok, Err, length, nat_le, is_none, if◌then◌else◌, filter}
use Rattle.std.specs.List.{list_any}
use Rattle.gdb_packets.specs.declared.command.BreakKind.{BreakKind}
use Rattle.gdb_packets.specs.declared.command.BreakKind.TheVariants.{Software, Hardware}
use Rattle.gdb_packets.specs.declared.command.WatchKind.{WatchKind}
use Rattle.gdb_packets.specs.declared.command.WatchKind.TheVariants.{Write, Read, Access}
use Rattle.evm_model.specs.Commands.{is_set, without_breakpoint}
use Rattle.evm_model.specs.Refusals.{bad_place}
use Rattle.evm_model.specs.State.{Board}
use Rattle.evm_model.specs.declared.limits.TheConstants.{BREAKPOINT_LIMIT}
use Rattle.evm_model.specs.declared.refusal.Refusal.{Refusal}
use Rattle.evm_model.specs.declared.refusal.Refusal.TheVariants.{BadAddress, NoSlot, NoBreakpoint}
use Rattle.evm_ram.specs.Ram.{bytes_at}
use Rattle.gdb_driving.specs.declared.points.Points.{Points}
use Rattle.gdb_driving.specs.declared.points.WatchPoint.{WatchPoint}
use Rattle.gdb_driving.specs.declared.points.TheConstants.{WATCH_LIMIT}

-- what becomes of something: the new value, or what it was where that is refused
abbrev pub IsSetTo : {A : Type 0} → Result A Refusal → Result (Unit {0}) Refusal → A → A → Type 0
IsSetTo (Ok after) result old new = (result ≡ Ok tt) × (new ≡ after)
IsSetTo (Err refusal) result old new = (result ≡ Err refusal) × (new ≡ old)

-- ---- breakpoints of one kind, by their addresses
abbrev pub inserted : ℕ → List ℕ → Result (List ℕ) Refusal
inserted address points =
    if is_set points address then Ok points else (if nat_le BREAKPOINT_LIMIT (length points) then Err NoSlot else Ok (points ++ address ∷ []))

abbrev pub removed : ℕ → List ℕ → Result (List ℕ) Refusal
removed address points = if is_set points address then Ok (without_breakpoint points address) else Err NoBreakpoint

abbrev pub with_software : Result (List ℕ) Refusal → Points → Result Points Refusal
with_software (Ok list) points = Ok (record points { software = list })
with_software (Err refusal) points = Err refusal

abbrev pub with_hardware : Result (List ℕ) Refusal → Points → Result Points Refusal
with_hardware (Ok list) points = Ok (record points { hardware = list })
with_hardware (Err refusal) points = Err refusal

abbrev pub on_kind : BreakKind → (List ℕ → Result (List ℕ) Refusal) → Points → Result Points Refusal
on_kind Software f points = with_software (f points.software) points
on_kind Hardware f points = with_hardware (f points.hardware) points

-- one more, which may stand at a multiple of 4 inside RAM
abbrev pub with_break : BreakKind → ℕ → Board → Points → Result Points Refusal
with_break kind address b points = if bad_place address b then Err BadAddress else on_kind kind (inserted address) points

abbrev pub without_break : BreakKind → ℕ → Points → Result Points Refusal
without_break kind address points = on_kind kind (removed address) points

-- ---- watchpoints
abbrev pub watch_number : WatchKind → ℕ
watch_number Write = 2
watch_number Read = 3
watch_number Access = 4

abbrev pub is_same_watch : WatchPoint → WatchPoint → Bool
is_same_watch one other = watch_number one.kind == watch_number other.kind && (one.address == other.address && one.count == other.count)

abbrev pub has_watch : List WatchPoint → WatchPoint → Bool
has_watch watches point = list_any (λ one. is_same_watch one point) watches

abbrev pub watched : WatchPoint → List WatchPoint → Result (List WatchPoint) Refusal
watched point watches =
    if has_watch watches point then Ok watches else (if nat_le WATCH_LIMIT (length watches) then Err NoSlot else Ok (watches ++ point ∷ []))

abbrev pub without : List WatchPoint → WatchPoint → List WatchPoint
without watches point = filter (λ one. not (is_same_watch one point)) watches

abbrev pub unwatched : WatchPoint → List WatchPoint → Result (List WatchPoint) Refusal
unwatched point watches = if has_watch watches point then Ok (without watches point) else Err NoBreakpoint

-- it has no byte, or one outside RAM
abbrev pub bad_watch : WatchPoint → List ℕ → Bool
bad_watch point ram = if point.count == 0 then true else is_none (bytes_at ram point.address point.count)

abbrev pub with_watches : Result (List WatchPoint) Refusal → Points → Result Points Refusal
with_watches (Ok list) points = Ok (record points { watches = record { items = list } })
with_watches (Err refusal) points = Err refusal

abbrev pub with_watch : WatchPoint → List ℕ → Points → Result Points Refusal
with_watch point ram points = if bad_watch point ram then Err BadAddress else with_watches (watched point points.watches.items) points

abbrev pub without_watch : WatchPoint → Points → Result Points Refusal
without_watch point points = with_watches (unwatched point points.watches.items) points
