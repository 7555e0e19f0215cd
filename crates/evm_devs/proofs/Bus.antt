-- A list of devices as contracts see it, after one of them was touched or has ticked.
use Rattle.std.proofs.Common.{◌≡◌, ℕ, zero, suc, ◌+◌, ◌≤◌, ◌<◌, ◌⊎◌, Bool, true, List, [], ◌∷◌, length, map, Option, Some, None, IsSome, inl, inr, refl, sym, ap, subst, ◌∙◌, arith}
use Rattle.std.specs.Prelude.{false, is_some, slice_get, slice_set, option_map, IfNone}
use Rattle.std.proofs.lemmas.Bool.{cases_lt}
use Rattle.std.proofs.lemmas.List.{length-map}
use Rattle.std.proofs.lemmas.Option.{slice_get-map, slice_get_within}
use Rattle.evm_dev.specs.Attached.{Attached, IsDevice}
use Rattle.evm_dev.specs.Mailbox.{oldest_taken}
use Rattle.evm_dev.specs.Rows.{rows, ticked, touched}
use Rattle.evm_dev.specs.Touched.{Ticked, Touched, answers, at_register}
use Rattle.evm_dev.specs.declared.kind.Kind.{Kind}
use Rattle.evm_dev.specs.declared.kind.Kind.TheVariants.{Console, Mailbox, Pins}
use Rattle.evm_dev.specs.declared.touch.Op.{Op}
use Rattle.evm_dev.specs.declared.touch.Op.TheVariants.{Fetch, Put}
use Rattle.evm_dev.specs.declared.touch.Touch.{Touch}
use Rattle.evm_model.specs.Good.{AreDevices}
use Rattle.evm_model.specs.declared.limits.TheConstants.{DEVICE_LIMIT}
use Rattle.evm_model.specs.Lists.{change, change_some}
use Rattle.evm_model.proofs.Lists.{change-same, slice_get-set_other, slice_get-slice_set}
use Rattle.evm_devs.specs.Bus.{AreIdleFrom, IsIdle, tick_bus, tick_bus_device, touch_bus, touch_bus_device, bus_with_words}

-- ---- one element of a list, as it is seen
pub map-slice_set : {A : Type 0} {B : Type 0} (f : A → B) (xs : List A) (i : ℕ) (y : A) → map f (slice_set xs i y) ≡ slice_set (map f xs) i (f y)
map-slice_set f [] i y = refl
map-slice_set f (x ∷ xs) zero y = refl
map-slice_set {B = B} f (x ∷ xs) (suc i) y = ap (λ (ys : List B). f x ∷ ys) (map-slice_set f xs i y)

pub seen-at : {A : Type 0} (f : A → Attached) (xs : List A) (i : ℕ) (x : A) → slice_get xs i ≡ Some x → slice_get (map f xs) i ≡ Some (f x)
seen-at f xs i x e = slice_get-map f xs i ∙ ap (λ (o : Option _). option_map f o) e

pub same-device : (a b : Attached) → a.kind ≡ b.kind → a.words ≡ b.words → a ≡ b
same-device a b kind words =
    ap (λ (k : Kind). record a { kind = k }) kind ∙ ap (λ (ws : List ℕ). record b { words = ws }) words

-- a device has other words
with_words-at : {A : Type 0} (f : A → Attached) (xs : List A) (i : ℕ) (x y : A) (words : List ℕ) → slice_get xs i ≡ Some x → (f y).kind ≡ (f x).kind → (f y).words ≡ words
    → map f (slice_set xs i y) ≡ bus_with_words i words (map f xs)
with_words-at f xs i x y words at kind is =
    let here : change (λ (device : Attached). record device { words = words }) (map f xs) i ≡ slice_set (map f xs) i (record (f x) { words = words }) =
    ap (λ (o : Option Attached). change_some o (λ (device : Attached). record device { words = words }) (map f xs) i) (seen-at f xs i x at) in
    let same : f y ≡ record (f x) { words = words } = same-device (f y) (record (f x) { words = words }) kind is in
    map-slice_set f xs i y ∙ ap (λ (device : Attached). slice_set (map f xs) i device) same ∙ sym here

-- ---- a touch
pub touched-at : {A : Type 0} (f : A → Attached) (xs : List A) (i : ℕ) (x y : A) (op : Op) (register value : ℕ) (t : Touch) → slice_get xs i ≡ Some x
    → (f y).kind ≡ (f x).kind → (f y).words ≡ (touched (f x).kind op register value (f x).words).words → t ≡ (touched (f x).kind op register value (f x).words).touch
    → ◌≡◌ {A = List Attached × Touch} (map f (slice_set xs i y), t) (touch_bus i op register value (map f xs))
touched-at f xs i x y op register value t at kind words answer =
    let here : touch_bus i op register value (map f xs) ≡ touch_bus_device (Some (f x)) i op register value (map f xs) =
    ap (λ (o : Option Attached). touch_bus_device o i op register value (map f xs)) (seen-at f xs i x at) in
    let all = with_words-at f xs i x y (touched (f x).kind op register value (f x).words).words at kind words in
    let both : ◌≡◌ {A = List Attached × Touch} (map f (slice_set xs i y), t) (touch_bus_device (Some (f x)) i op register value (map f xs)) = cc in
    both ∙ sym here

-- ---- a tick
pub ticked-at : {A : Type 0} (f : A → Attached) (xs : List A) (i : ℕ) (x y : A) (raise : Bool) → slice_get xs i ≡ Some x
    → (f y).kind ≡ (f x).kind → (f y).words ≡ (ticked (f x).kind (f x).words).words → raise ≡ (ticked (f x).kind (f x).words).raise
    → ◌≡◌ {A = List Attached × Bool} (map f (slice_set xs i y), raise) (tick_bus i (map f xs))
ticked-at f xs i x y raise at kind words is =
    let here : tick_bus i (map f xs) ≡ tick_bus_device (Some (f x)) i (map f xs) = ap (λ (o : Option Attached). tick_bus_device o i (map f xs)) (seen-at f xs i x at) in
    let all = with_words-at f xs i x y (ticked (f x).kind (f x).words).words at kind words in
    let both : ◌≡◌ {A = List Attached × Bool} (map f (slice_set xs i y), raise) (tick_bus_device (Some (f x)) i (map f xs)) = cc in
    both ∙ sym here

-- ---- no answer
answered : (row : Touched) → IsSome row.touch.answer → row.touch.answer ≡ None → ⊥
answered row some none = let wrong : is_some row.touch.answer ≡ false = rw none refl in cc

-- each row of a kind answers, so that only a missing one leaves a touch without an answer
AllAnswer : List Touched → Type 0
AllAnswer [] = Unit {0}
AllAnswer (row ∷ all) = IsSome row.touch.answer × AllAnswer all

missing-row : (all : List Touched) (register : ℕ) (words : List ℕ) → AllAnswer all → (at_register all register words).touch.answer ≡ None → (at_register all register words).words ≡ words
unfolding AllAnswer
missing-row [] register words each none = refl
missing-row (row ∷ all) zero words each none = absurd (answered row each.0 none)
missing-row (row ∷ all) (suc register) words each none = missing-row all register words each.1 none

taken-answers : (words : List ℕ) → IsSome (oldest_taken words).touch.answer
taken-answers [] = refl
taken-answers (word ∷ words) = refl

same-answer : (words all : List ℕ) → AllAnswer (map (answers words) all)
unfolding AllAnswer
same-answer words [] = tt
same-answer words (word ∷ all) = (refl, same-answer words all)

puts-answer : (value : ℕ) (words : List ℕ) → AllAnswer (rows Pins Put value words)
unfolding AllAnswer
puts-answer value [] = tt
puts-answer value (a ∷ []) = tt
puts-answer value (a ∷ b ∷ []) = tt
puts-answer value (a ∷ b ∷ c ∷ []) = (refl, (refl, (refl, tt)))
puts-answer value (a ∷ b ∷ c ∷ d ∷ rest) = tt

all-answer : (kind : Kind) (op : Op) (value : ℕ) (words : List ℕ) → AllAnswer (rows kind op value words)
unfolding AllAnswer
all-answer Console Fetch value words = (refl, tt)
all-answer Console Put value words = (refl, tt)
all-answer Mailbox Fetch value words = (taken-answers words, (refl, tt))
all-answer Mailbox Put value words = (refl, (refl, tt))
all-answer Pins Fetch value words = same-answer words words
all-answer Pins Put value words = puts-answer value words

unanswered-device : (device : Attached) (op : Op) (register value : ℕ) → (touched device.kind op register value device.words).touch.answer ≡ None
    → record device { words = (touched device.kind op register value device.words).words } ≡ device
unanswered-device device op register value none =
    let same = missing-row (rows device.kind op value device.words) register device.words (all-answer device.kind op value device.words) none in
    ap (λ (words : List ℕ). record device { words = words }) same

unanswered-by : (o : Option Attached) (i : ℕ) (op : Op) (register value : ℕ) (devices : List Attached) → slice_get devices i ≡ o
    → (touch_bus_device o i op register value devices).1.answer ≡ None → (touch_bus_device o i op register value devices).0 ≡ devices
unanswered-by None i op register value devices at none = refl
unanswered-by (Some device) i op register value devices at none =
    change-same (λ (d : Attached). record d { words = (touched device.kind op register value device.words).words }) devices i
    (λ d there. let same : d ≡ device = let e : Some d ≡ Some device = sym there ∙ at in cc in subst (λ (x : Attached). record x { words = (touched device.kind op register value device.words).words } ≡ x) (sym same) (unanswered-device device op register value none))

-- a touch without an answer changes nothing
pub unanswered : (i : ℕ) (op : Op) (register value : ℕ) (devices new : List Attached) (t : Touch) → ◌≡◌ {A = List Attached × Touch} (new, t) (touch_bus i op register value devices)
    → t.answer ≡ None → new ≡ devices
unanswered i op register value devices new t done none =
    let answer : (touch_bus i op register value devices).1.answer ≡ None = ap (λ (x : List Attached × Touch). x.1.answer) (sym done) ∙ none in
    ap (λ (x : List Attached × Touch). x.0) done ∙ unanswered-by (slice_get devices i) i op register value devices refl answer

by-answer : (o : Option ℕ) (new devices : List Attached) → (o ≡ None → new ≡ devices) → IfNone o (new ≡ devices)
by-answer None new devices h = h refl
by-answer (Some answer) new devices h = tt

pub unanswered-if : (i : ℕ) (op : Op) (register value : ℕ) (devices new : List Attached) (t : Touch) → ◌≡◌ {A = List Attached × Touch} (new, t) (touch_bus i op register value devices)
    → IfNone t.answer (new ≡ devices)
unanswered-if i op register value devices new t done = by-answer t.answer new devices (unanswered i op register value devices new t done)

-- ---- the rules
abbrev pub AreFirst : ℕ → List Attached → Type 0
AreFirst n devices = (i : ℕ) (device : Attached) → i < n → slice_get devices i ≡ Some device → IsDevice device

pub first-more : {A : Type 0} (f : A → Attached) (xs ys : List A) (n : ℕ) (x : A) (devices : List Attached) → map f ys ≡ devices → xs ≡ ys → AreFirst n devices → slice_get xs n ≡ Some x → IsDevice (f x) → AreFirst (n + 1) devices
first-more f xs ys n x devices seen same before at is i device below there =
    elim (cases_lt i n) [
      | inl h ↦ before i device h there
      | inr h ↦
          let last : i ≡ n = omega arith in
          let here : slice_get devices n ≡ Some (f x) = ap (λ (ds : List Attached). slice_get ds n) (sym seen) ∙ seen-at f ys n x (rw (← same) at) in
          let it : Some device ≡ Some (f x) = sym there ∙ ap (λ (k : ℕ). slice_get devices k) last ∙ here in
          let one : device ≡ f x = cc in
          subst IsDevice (sym one) is
    ]

pub all-first : {A : Type 0} (f : A → Attached) (xs : List A) (devices : List Attached) (n : ℕ) → map f xs ≡ devices → length xs ≤ n → length xs ≤ DEVICE_LIMIT → AreFirst n devices → AreDevices devices
all-first f xs devices n seen past few all =
    let count : length devices ≡ length xs = ap length (sym seen) ∙ length-map xs f in
    record { few = omega (arith, count, few); each = λ i device there. all i device (omega (arith, slice_get_within devices i device there, count, past)) there }

-- ---- the devices that a tick leaves alone
-- another device at a place below the idle ones
pub idle-touched : {A : Type 0} (f : A → Attached) (xs : List A) (i n : ℕ) (y : A) (m : ℕ) → n ≤ m → i < m → AreIdleFrom n (map f xs) → AreIdleFrom m (map f (slice_set xs i y))
idle-touched f xs i n y m more past idle j device from there =
    let other : j ≡ i → ⊥ = λ same. omega (arith, same, past, from) in
    let here : slice_get (map f xs) j ≡ Some device =
    sym (slice_get-set_other (map f xs) i j (f y) other) ∙ ap (λ (ds : List Attached). slice_get ds j) (sym (map-slice_set f xs i y)) ∙ there in
    idle j device (omega (arith, more, from)) here

-- a tick of an idle device leaves it so
still-idle : (a b : Attached) → b.kind ≡ a.kind → b.words ≡ (ticked a.kind a.words).words → IsIdle a → IsIdle b
still-idle a b kind words idle =
    let same : b ≡ a = same-device b a kind (words ∙ ap (λ (t : Ticked). t.words) idle) in
    subst IsIdle (sym same) idle

pub idle-ticked : {A : Type 0} (f : A → Attached) (xs : List A) (i n : ℕ) (x y : A) (m : ℕ) (is_idle : Bool) → slice_get xs i ≡ Some x
    → (f y).kind ≡ (f x).kind → (f y).words ≡ (ticked (f x).kind (f x).words).words → (is_idle ≡ true → IsIdle (f y))
    → (m ≡ n) ⊎ ((m ≡ i) × (n ≡ i + 1) × (is_idle ≡ true)) → AreIdleFrom n (map f xs) → AreIdleFrom m (map f (slice_set xs i y))
idle-ticked f xs i n x y m is_idle at kind words test left idle j device from there =
    let set : slice_get (slice_set (map f xs) i (f y)) j ≡ Some device = ap (λ (ds : List Attached). slice_get ds j) (sym (map-slice_set f xs i y)) ∙ there in
    elim (slice_get-slice_set (map f xs) i j (f y) device set) [
      | inl here ↦
          elim left [
            | inl same ↦
                let was : IsIdle (f x) = idle i (f x) (omega (arith, same, from, here.0)) (seen-at f xs i x at) in
                subst IsIdle (sym here.1) (still-idle (f x) (f y) kind words was)
            | inr less ↦ subst IsIdle (sym here.1) (test less.2)
          ]
      | inr other ↦
          elim left [
            | inl same ↦ idle j device (omega (arith, same, from)) other.1
            | inr less ↦
                elim (cases_lt i j) [
                  | inl above ↦ idle j device (omega (arith, less.1, above)) other.1
                  | inr below ↦ absurd (other.0 (omega (arith, less.0, from, below)))
                ]
          ]
    ]

pub fewer-active : (n m i : ℕ) (is_idle : Bool) → (m ≡ n) ⊎ ((m ≡ i) × (n ≡ i + 1) × (is_idle ≡ true)) → m ≤ n
fewer-active n m i is_idle left =
    elim left [
      | inl same ↦ omega (arith, same)
      | inr less ↦ omega (arith, less.0, less.1)
    ]
