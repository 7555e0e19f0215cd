-- The ticks of one device after another are those of all.
use Rattle.std.proofs.Common.{◌≡◌, ℕ, zero, suc, ◌+◌, ◌≤◌, List, [], ◌∷◌, Bool, Option, Some, None, drop, map, refl, sym, ap, ◌∙◌, arith, leb-true, leb-false}
use Rattle.std.specs.Prelude.{false, true, slice_get, nat_le, option_map}
use Rattle.std.proofs.lemmas.Option.{slice_get-map}
use Rattle.evm_devs.specs.Bus.{AreIdleFrom, tick_bus, tick_bus_device}
use Rattle.evm_dev.specs.Attached.{Attached}
use Rattle.evm_dev.specs.Rows.{ticked}
use Rattle.evm_dev.specs.Touched.{Ticked}
use Rattle.evm_model.specs.Bounds.{PipesUpTo}
use Rattle.evm_model.specs.Devices.{line_if, raise_line, raise_by_ticks, tick_device as device_ticked, tick_devices}
use Rattle.evm_model.specs.Lists.{change, change_some}
use Rattle.evm_model.specs.State.{Board, Parts}
use Rattle.evm_model.proofs.Lists.{same_elements}
use Rattle.law_rules.proofs.Counting.{on_raise-up}
use Rattle.evm_settle.proofs.Nudges.{changed_below, changed_below-more, changed_below-none, changed_below-reached, changed_below-unreached}
use Rattle.law_rules.proofs.Counted.{PipesUpTo-more}
use Rattle.evm_board.specs.Ticks.{ticked_once}
use Rattle.evm_board.proofs.Accesses.{line-ticks}

-- ---- the devices
abbrev pub one_ticked : ℕ → Attached → Attached
one_ticked i device = device_ticked device

ticked-some : (o : Option Attached) (i : ℕ) (devices : List Attached) → slice_get devices i ≡ o → (tick_bus_device o i devices).0 ≡ change device_ticked devices i
ticked-some None i devices e = ap (λ (o : Option Attached). change_some o device_ticked devices i) (sym e)
ticked-some (Some device) i devices e =
    ap (λ (o : Option Attached). change_some o (λ d. record d { words = (ticked device.kind device.words).words }) devices i) e
    ∙ ap (λ (o : Option Attached). change_some o device_ticked devices i) (sym e)

pub ticked-more : (i : ℕ) (devices : List Attached) → (tick_bus i (changed_below one_ticked i devices)).0 ≡ changed_below one_ticked (i + 1) devices
ticked-more i devices =
    ticked-some (slice_get (changed_below one_ticked i devices) i) i (changed_below one_ticked i devices) refl ∙ sym (changed_below-more one_ticked i devices)

-- an idle device that has ticked is as it was
kept-at : (n i : ℕ) (xs : List Attached) (o : Option Attached) → slice_get xs i ≡ o → n ≤ i → AreIdleFrom n xs → o ≡ option_map device_ticked o
kept-at n i xs None at past idle = refl
kept-at n i xs (Some device) at past idle =
    let same : device_ticked device ≡ device = ap (λ (t : Ticked). record device { words = t.words }) (idle i device past at) in
    ap (λ (d : Attached). Some d) (sym same)

all-map : (n i : ℕ) (xs : List Attached) (b : Bool) → nat_le n i ≡ b → AreIdleFrom n xs → slice_get (changed_below one_ticked n xs) i ≡ slice_get (map device_ticked xs) i
all-map n i xs true e idle =
    let past : n ≤ i = leb-true n i e in
    changed_below-unreached one_ticked n i xs past ∙ kept-at n i xs (slice_get xs i) refl past idle ∙ sym (slice_get-map device_ticked xs i)
all-map n i xs false e idle = changed_below-reached one_ticked n i xs (leb-false n i e) ∙ sym (slice_get-map device_ticked xs i)

pub ticked-all : (n : ℕ) (xs : List Attached) → AreIdleFrom n xs → changed_below one_ticked n xs ≡ map device_ticked xs
ticked-all n xs idle = same_elements (changed_below one_ticked n xs) (map device_ticked xs) (λ i. all-map n i xs (nat_le n i) refl idle)

-- ---- their lines
abbrev raises_at : Option Attached → ℕ → Parts → Parts
raises_at None i k = k
raises_at (Some device) i k = raise_line (line_if (ticked device.kind device.words).raise i) k

tick-raises : (o : Option Attached) (i : ℕ) (devices : List Attached) (k : Parts) → raise_line (line_if (tick_bus_device o i devices).1 i) k ≡ raises_at o i k
tick-raises None i devices k = refl
tick-raises (Some device) i devices k = refl

-- what is left to raise
abbrev pub left_to_raise : ℕ → List Attached → Parts → Parts
left_to_raise i devices k = raise_by_ticks i (drop i devices) k

rest-more : (n i : ℕ) (devices : List Attached) (k : Parts) → raise_by_ticks n (drop i devices) k ≡ raise_by_ticks (suc n) (drop (suc i) devices) (raises_at (slice_get devices i) n k)
unfolding raise_by_ticks
rest-more n zero [] k = refl
rest-more n (suc i) [] k = refl
rest-more n zero (device ∷ devices) k = refl
rest-more n (suc i) (device ∷ devices) k = rest-more n i devices k

pub raised-more : (i : ℕ) (devices : List Attached) (k : Parts)
    → left_to_raise i devices k ≡ left_to_raise (i + 1) devices (raise_line (line_if (tick_bus i (changed_below one_ticked i devices)).1 i) k)
raised-more i devices k =
    let seen : List Attached = changed_below one_ticked i devices in
    let one : suc i ≡ i + 1 = omega arith in
    let here : raise_line (line_if (tick_bus i seen).1 i) k ≡ raises_at (slice_get devices i) i k =
    tick-raises (slice_get seen i) i seen k ∙ ap (λ (o : Option Attached). raises_at o i k) (changed_below-unreached one_ticked i i devices (omega arith)) in
    rest-more i i devices k
    ∙ ap (λ (j : ℕ). left_to_raise j devices (raises_at (slice_get devices i) i k)) one
    ∙ ap (left_to_raise (i + 1) devices) (sym here)

none-left : (i n : ℕ) (devices : List Attached) (k : Parts) → AreIdleFrom n devices → raise_by_ticks i (drop n devices) k ≡ k
unfolding raise_by_ticks
none-left i zero [] k idle = refl
none-left i (suc n) [] k idle = refl
none-left i zero (device ∷ devices) k idle =
    let quiet : (ticked device.kind device.words).raise ≡ false = ap (λ (t : Ticked). t.raise) (idle 0 device (omega arith) refl) in
    ap (λ (raise : Bool). raise_by_ticks (suc i) devices (raise_line (line_if raise i) k)) quiet
    ∙ none-left (suc i) zero devices k (λ j d past there. idle (suc j) d (omega arith) there)
none-left i (suc n) (device ∷ devices) k idle = none-left i n devices k (λ j d past there. idle (suc j) d (omega (arith, past)) there)

pub raised-all : (n : ℕ) (devices : List Attached) (k : Parts) → AreIdleFrom n devices → left_to_raise n devices k ≡ k
raised-all n devices k idle = none-left n n devices k idle

-- ---- room
pub line-up : (b : ℕ) (line : Option ℕ) (k : Parts) → PipesUpTo b k.pipes → PipesUpTo (b + 1) (raise_line line k).pipes
line-up b None k h = PipesUpTo-more b (b + 1) k.pipes (omega arith) h
line-up b (Some l) k h = on_raise-up b 0 l k h

-- ---- the board, where the devices below i have ticked
abbrev pub seen : ℕ → Board → Parts → Board
seen i b k = record b { memory = record b.memory { devices = changed_below one_ticked i b.memory.devices }; parts = k }

with_devices : Board → Parts → List Attached → Board
with_devices b k devices = record b { memory = record b.memory { devices = devices }; parts = k }

pub seen-none : (b : Board) → b ≡ seen 0 b b.parts
unfolding with_devices
seen-none b = ap (with_devices b b.parts) (sym (changed_below-none one_ticked b.memory.devices))

once-more : (i : ℕ) (b x new : Board) → x ≡ seen i b x.parts → new ≡ ticked_once i x → new ≡ ticked_once i (seen i b x.parts)
once-more i b x new was is = is ∙ ap (ticked_once i) was

pub parts-more : (i : ℕ) (b x new : Board) → x ≡ seen i b x.parts → new ≡ ticked_once i x
    → new.parts ≡ raise_line (line_if (tick_bus i (changed_below one_ticked i b.memory.devices)).1 i) x.parts
parts-more i b x new was is = ap (λ (y : Board). y.parts) (once-more i b x new was is)

pub seen-more : (i : ℕ) (b x new : Board) → x ≡ seen i b x.parts → new ≡ ticked_once i x → new ≡ seen (i + 1) b new.parts
unfolding with_devices
seen-more i b x new was is =
    let k : Parts = raise_line (line_if (tick_bus i (changed_below one_ticked i b.memory.devices)).1 i) x.parts in
    once-more i b x new was is ∙ ap (with_devices b k) (ticked-more i b.memory.devices) ∙ ap (λ (p : Parts). seen (i + 1) b p) (sym (parts-more i b x new was is))

pub lines-more : (i : ℕ) (b x new : Board) → x ≡ seen i b x.parts → new ≡ ticked_once i x → raise_by_ticks 0 b.memory.devices b.parts ≡ left_to_raise i b.memory.devices x.parts
    → raise_by_ticks 0 b.memory.devices b.parts ≡ left_to_raise (i + 1) b.memory.devices new.parts
lines-more i b x new was is before =
    before ∙ raised-more i b.memory.devices x.parts ∙ ap (left_to_raise (i + 1) b.memory.devices) (sym (parts-more i b x new was is))

pub clock-more : (i : ℕ) (b x new : Board) → x ≡ seen i b x.parts → new ≡ ticked_once i x → new.parts.ticks ≡ x.parts.ticks
clock-more i b x new was is = ap (λ (k : Parts). k.ticks) (parts-more i b x new was is) ∙ line-ticks _ x.parts

pub room-more : (n i : ℕ) (b x new : Board) → x ≡ seen i b x.parts → new ≡ ticked_once i x → PipesUpTo (n + i) x.parts.pipes → PipesUpTo (n + (i + 1)) new.parts.pipes
room-more n i b x new was is h =
    let sum : n + (i + 1) ≡ n + i + 1 = omega arith in
    rw (parts-more i b x new was is, sum) (line-up (n + i) _ x.parts h)

pub all-ticked : (n : ℕ) (b x : Board) → AreIdleFrom n b.memory.devices → x ≡ seen n b x.parts → raise_by_ticks 0 b.memory.devices b.parts ≡ left_to_raise n b.memory.devices x.parts → x ≡ tick_devices b
unfolding tick_devices with_devices
all-ticked n b x idle was lines =
    was
    ∙ ap (with_devices b x.parts) (ticked-all n b.memory.devices idle)
    ∙ ap (λ (k : Parts). with_devices b k (map device_ticked b.memory.devices)) (sym (lines ∙ raised-all n b.memory.devices x.parts idle))
