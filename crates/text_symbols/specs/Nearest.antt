-- The symbol that an address belongs to.
use Rattle.std.specs.Prelude.{◌≡◌, ◌<◌, ◌≤◌, ◌⊎◌, ℕ, ◌+◌, ◌-◌, Bool, true, false, ◌&&◌, ◌||◌, ◌==◌, nat_lt, nat_le, if◌then◌else◌, List, [], ◌∷◌, Option, Some, None}
use Rattle.std.specs.List.{AllByRecursion}
use Rattle.std.specs.Str.{bytes_eq}
use Rattle.text_symbols.specs.declared.symbol.SymbolKind.{SymbolKind}
use Rattle.text_symbols.specs.declared.symbol.SymbolKind.TheVariants.{Function, Object, Label, Absolute}
use Rattle.text_symbols.specs.declared.nearest.Search.{Search}
use Rattle.text_symbols.specs.declared.nearest.Search.TheVariants.{Typed, Labels}
use Rattle.text_symbols.specs.Named.{Named}

-- the symbol begins at the address or below it
abbrev pub begins : ℕ → Named → Bool
begins address s = nat_le s.value address

-- the address is within the symbol's size, if it has one
abbrev pub holds : ℕ → Named → Bool
holds address s = s.size == 0 || nat_lt address (s.value + s.size)

abbrev pub is_typed : SymbolKind → Bool
is_typed Function = true
is_typed Object = true
is_typed Label = false
is_typed Absolute = false

abbrev pub is_label : SymbolKind → Bool
is_label Label = true
is_label Function = false
is_label Object = false
is_label Absolute = false

-- Functions and objects hold an address, labels only begin.
abbrev pub passes : Search → ℕ → Named → Bool
passes Typed address s = begins address s && (is_typed s.kind && holds address s)
passes Labels address s = begins address s && is_label s.kind

-- ---- the one of greatest value, the first of those

abbrev pub better : Named → Option Named → Option Named
better s None = Some s
better s (Some t) = if nat_le t.value s.value then Some s else Some t

abbrev pub nearer : Bool → Named → Option Named → Option Named
nearer b s best = if b then better s best else best

abbrev pub nearest : (Named → Bool) → List Named → Option Named
nearest test [] = None
nearest test (s ∷ symbols) = nearer (test s) s (nearest test symbols)

-- the same as a relation: it passes, none before it that passes is as great, and none after it is greater
abbrev pub IsNearest : (Named → Bool) → Named → List Named → Type 0
IsNearest test s [] = ⊥
IsNearest test s (t ∷ symbols) =
    ((t ≡ s) × (test s ≡ true) × AllByRecursion (λ u. test u ≡ true → u.value ≤ s.value) symbols)
    ⊎ ((test t ≡ true → t.value < s.value) × IsNearest test s symbols)

abbrev pub NonePasses : (Named → Bool) → List Named → Type 0
NonePasses test symbols = AllByRecursion (λ s. test s ≡ false) symbols

-- ---- the place of an address: a function or an object that holds it, or else a label

abbrev pub or_label : Option Named → Option Named → Option Named
or_label (Some s) label = Some s
or_label None label = label

abbrev pub place_of : List Named → ℕ → Option Named
place_of symbols address = or_label (nearest (passes Typed address) symbols) (nearest (passes Labels address) symbols)

-- its name, and how far behind it the address is
abbrev pub name_and_offset : ℕ → Option Named → Option (List ℕ × ℕ)
name_and_offset address None = None
name_and_offset address (Some s) = Some (s.name, address - s.value)

-- what a place is
abbrev pub IsPlaceOf : List Named → ℕ → Named → Type 0
IsPlaceOf symbols address s = IsNearest (passes Typed address) s symbols ⊎ (NonePasses (passes Typed address) symbols × IsNearest (passes Labels address) s symbols)

abbrev pub IsPlace : List Named → ℕ → Option Named → Type 0
IsPlace symbols address None = NonePasses (passes Typed address) symbols × NonePasses (passes Labels address) symbols
IsPlace symbols address (Some s) = IsPlaceOf symbols address s × (s.value ≤ address)

-- ---- the value of a name

abbrev pub is_named : List ℕ → Named → Bool
is_named name s = bytes_eq s.name name

abbrev pub valued : Option Named → Option ℕ
valued None = None
valued (Some s) = Some s.value
