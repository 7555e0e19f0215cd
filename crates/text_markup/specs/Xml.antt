-- XML: trees of elements and text, and their bytes.
use Rattle.std.specs.Prelude.{◌≡◌, ◌==◌, ℕ, List, [], ◌∷◌, ◌++◌, codes, nat_lt, if◌then◌else◌}
use Rattle.evm_text.specs.Written.{decimal}
use Rattle.text_markup.specs.declared.names.Key.{Key}
use Rattle.text_markup.specs.declared.names.Key.TheVariants as key
use Rattle.text_markup.specs.declared.names.Share.{Share}
use Rattle.text_markup.specs.declared.names.Tag.{Tag}
use Rattle.text_markup.specs.declared.names.Tag.TheVariants as tag

-- the names of elements
abbrev pub tag_text : Tag → List ℕ
tag_text tag.Svg = codes "svg"
tag_text tag.Style = codes "style"
tag_text tag.Title = codes "title"
tag_text tag.Group = codes "g"
tag_text tag.Rectangle = codes "rect"
tag_text tag.Line = codes "line"
tag_text tag.Circle = codes "circle"
tag_text tag.Polygon = codes "polygon"
tag_text tag.Text = codes "text"

-- the names of attributes
abbrev pub key_text : Key → List ℕ
key_text key.Namespace = codes "xmlns"
key_text key.ViewBox = codes "viewBox"
key_text key.Width = codes "width"
key_text key.Height = codes "height"
key_text key.Class = codes "class"
key_text key.X = codes "x"
key_text key.Y = codes "y"
key_text key.X1 = codes "x1"
key_text key.Y1 = codes "y1"
key_text key.X2 = codes "x2"
key_text key.Y2 = codes "y2"
key_text key.CenterX = codes "cx"
key_text key.CenterY = codes "cy"
key_text key.Radius = codes "r"
key_text key.Points = codes "points"
key_text key.Anchor = codes "text-anchor"

-- a byte of a character that is no markup; a blank for those that XML has not
abbrev pub plain_byte : ℕ → List ℕ
plain_byte byte = if nat_lt byte 32 then 32 ∷ [] else byte ∷ []

-- a byte of a text: those that could be markup by their entities
abbrev pub escaped_byte : ℕ → List ℕ
escaped_byte byte =
    if byte == 38 then codes "&amp;"
    else if byte == 60 then codes "&lt;"
    else if byte == 62 then codes "&gt;"
    else if byte == 34 then codes "&quot;"
    else plain_byte byte

unfoldable pub escaped_text : List ℕ → List ℕ
escaped_text [] = []
escaped_text (byte ∷ bytes) = escaped_byte byte ++ escaped_text bytes

-- an attribute: its name and its value, which is any text; or which events an element stands for
pub data Attribute : Type 0 where
  Named : (key : Key) (value : List ℕ) → Attribute
  Events : (share : Share) → Attribute

-- the four numbers of a share
abbrev pub share_text : Share → List ℕ
share_text share = decimal share.lane ++ (32 ∷ (decimal share.first ++ (32 ∷ (decimal share.count ++ (32 ∷ decimal share.events)))))

abbrev pub attribute_text : Attribute → List ℕ
attribute_text (Named key value) = 32 ∷ (key_text key ++ (codes "=\"" ++ (escaped_text value ++ 34 ∷ [])))
attribute_text (Events share) = codes " data-events=\"" ++ (share_text share ++ 34 ∷ [])

unfoldable pub attributes_text : List Attribute → List ℕ
attributes_text [] = []
attributes_text (a ∷ attributes) = attribute_text a ++ attributes_text attributes

-- the events for which an element stands, by its attributes
abbrev pub shares_by : Attribute → List Share
shares_by (Named key value) = []
shares_by (Events share) = share ∷ []

unfoldable pub shares_on : List Attribute → List Share
shares_on [] = []
shares_on (a ∷ attributes) = shares_by a ++ shares_on attributes

-- what stands one behind the other inside an element: text, elements with nothing inside, and elements
pub data Forest : Type 0 where
  Nothing : Forest
  Characters : (characters : List ℕ) (others : Forest) → Forest
  Leaf : (tag : Tag) (attributes : List Attribute) (others : Forest) → Forest
  Element : (tag : Tag) (attributes : List Attribute) (inside others : Forest) → Forest

-- a start tag without its end
abbrev pub start_tag : Tag → List Attribute → List ℕ
start_tag t attributes = 60 ∷ (tag_text t ++ attributes_text attributes)

-- an end tag
abbrev pub close : Tag → List ℕ
close t = codes "</" ++ (tag_text t ++ 62 ∷ [])

-- its bytes: each element is closed, each text is escaped
unfoldable pub xml : Forest → List ℕ
xml Nothing = []
xml (Characters characters others) = escaped_text characters ++ xml others
xml (Leaf t attributes others) = (start_tag t attributes ++ codes "/>") ++ xml others
xml (Element t attributes inside others) = (start_tag t attributes ++ (62 ∷ (xml inside ++ close t))) ++ xml others

-- the events for which its elements stand, in their order
unfoldable pub shares_in : Forest → List Share
shares_in Nothing = []
shares_in (Characters characters others) = shares_in others
shares_in (Leaf t attributes others) = shares_on attributes ++ shares_in others
shares_in (Element t attributes inside others) = shares_on attributes ++ (shares_in inside ++ shares_in others)

-- the bytes of one element, whatever is inside it, which stands for these events
pub record IsElement (t : Tag) (shares : List Share) (bytes : List ℕ) : Type 0 where
  pub attributes : List Attribute
  pub inside : Forest
  pub written : bytes ≡ start_tag t attributes ++ (62 ∷ (xml inside ++ close t))
  pub told : shares ≡ shares_on attributes ++ shares_in inside
