-- XML that is being written.
use Rattle.std.specs.Prelude.{◌≡◌, ℕ, List, [], ◌∷◌, ◌++◌, Bool, true, false}
use Rattle.text_markup.specs.Xml.{Attribute, Forest, shares_in, shares_on, start_tag, xml}
use Rattle.text_markup.specs.declared.names.Share.{Share}
use Rattle.text_markup.specs.declared.names.Tag.{Tag}

-- what a draft shows: the elements that are open, the innermost first, whether the start tag of the innermost is still open too, and the events for
-- which elements stand so far
pub record Draft : Type 0 where
  pub tags : List Tag
  pub in_tag : Bool
  pub shares : List Share

-- written so far, with these elements open, the innermost first; nothing stands outside the outermost

abbrev pub SoFar : List Tag → List Share → List ℕ → Type 0
SoFar [] shares bytes = (bytes ≡ []) × (shares ≡ [])
SoFar (t ∷ tags) shares bytes =
    (front : List ℕ) × (before : List Share) × SoFar tags before front × (attributes : List Attribute) × (inside : Forest)
    × (bytes ≡ front ++ (start_tag t attributes ++ (62 ∷ xml inside)))
    × (shares ≡ before ++ (shares_on attributes ++ shares_in inside))

-- .. and the start tag of the innermost is open
abbrev pub InTag : List Tag → List Share → List ℕ → Type 0
InTag [] shares bytes = ⊥
InTag (t ∷ tags) shares bytes =
    (front : List ℕ) × (before : List Share) × SoFar tags before front × (attributes : List Attribute)
    × (bytes ≡ front ++ start_tag t attributes)
    × (shares ≡ before ++ shares_on attributes)

abbrev pub IsDraft : Bool → List Tag → List Share → List ℕ → Type 0
IsDraft true tags shares bytes = InTag tags shares bytes
IsDraft false tags shares bytes = SoFar tags shares bytes
