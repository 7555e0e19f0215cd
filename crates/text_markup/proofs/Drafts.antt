-- How a draft grows.
use Rattle.std.proofs.Common.{◌≡◌, ℕ, ◌<◌, List, [], ◌∷◌, ◌++◌, length, reverse, refl, sym, ap, ◌∙◌, subst, append_assoc, arith, Bool, true, false}
use Rattle.std.proofs.Math.Logic.{∥∥₁_map}
use Rattle.std.proofs.lemmas.List.{append-nil, reverse-append}
use Rattle.std.specs.Prelude.{codes}
use Rattle.text_markup.specs.Draft.{InTag, IsDraft, SoFar}
use Rattle.text_markup.specs.Xml.{Attribute, Named, Events, Forest, Nothing, Characters, Leaf, Element, attribute_text, attributes_text, close, escaped_text, shares_by, shares_in, shares_on, start_tag, tag_text, xml, IsElement}
use Rattle.text_markup.specs.declared.names.Key.{Key}
use Rattle.text_markup.specs.declared.names.Share.{Share}
use Rattle.text_markup.specs.declared.names.Tag.{Tag}
use Rattle.text_markup.specs.declared.names.Tag.TheVariants as tag

-- one forest behind another
append : Forest → Forest → Forest
append Nothing g = g
append (Characters characters f) g = Characters characters (append f g)
append (Leaf t attributes f) g = Leaf t attributes (append f g)
append (Element t attributes inside f) g = Element t attributes inside (append f g)

xml-append : (f g : Forest) → xml (append f g) ≡ xml f ++ xml g
unfolding append xml
xml-append Nothing g = refl
xml-append (Characters characters f) g = ap (λ x. escaped_text characters ++ x) (xml-append f g) ∙ sym (append_assoc (escaped_text characters) (xml f) (xml g))
xml-append (Leaf t attributes f) g =
    ap (λ x. (start_tag t attributes ++ codes "/>") ++ x) (xml-append f g) ∙ sym (append_assoc (start_tag t attributes ++ codes "/>") (xml f) (xml g))
xml-append (Element t attributes inside f) g =
    let front : List ℕ = start_tag t attributes ++ (62 ∷ (xml inside ++ close t)) in
    ap (λ x. front ++ x) (xml-append f g) ∙ sym (append_assoc front (xml f) (xml g))

shares-append : (f g : Forest) → shares_in (append f g) ≡ shares_in f ++ shares_in g
unfolding append shares_in
shares-append Nothing g = refl
shares-append (Characters characters f) g = shares-append f g
shares-append (Leaf t attributes f) g = ap (λ x. shares_on attributes ++ x) (shares-append f g) ∙ sym (append_assoc (shares_on attributes) (shares_in f) (shares_in g))
shares-append (Element t attributes inside f) g =
    ap (λ x. shares_on attributes ++ (shares_in inside ++ x)) (shares-append f g)
    ∙ ap (λ x. shares_on attributes ++ x) (sym (append_assoc (shares_in inside) (shares_in f) (shares_in g)))
    ∙ sym (append_assoc (shares_on attributes) (shares_in inside ++ shares_in f) (shares_in g))

shares-more : (attributes : List Attribute) (a : Attribute) → shares_on (attributes ++ a ∷ []) ≡ shares_on attributes ++ shares_by a
unfolding shares_on
shares-more [] a = append-nil (shares_by a)
shares-more (b ∷ attributes) a = ap (λ x. shares_by b ++ x) (shares-more attributes a) ∙ sym (append_assoc (shares_by b) (shares_on attributes) (shares_by a))

attributes-more : (attributes : List Attribute) (a : Attribute) → attributes_text (attributes ++ a ∷ []) ≡ attributes_text attributes ++ attribute_text a
unfolding attributes_text
attributes-more [] a = append-nil (attribute_text a)
attributes-more (b ∷ attributes) a = ap (λ x. attribute_text b ++ x) (attributes-more attributes a) ∙ sym (append_assoc (attribute_text b) (attributes_text attributes) (attribute_text a))

start-more : (t : Tag) (attributes : List Attribute) (a : Attribute) → start_tag t (attributes ++ a ∷ []) ≡ start_tag t attributes ++ attribute_text a
start-more t attributes a =
    ap (λ x. 60 ∷ (tag_text t ++ x)) (attributes-more attributes a) ∙ ap (λ x. 60 ∷ x) (sym (append_assoc (tag_text t) (attributes_text attributes) (attribute_text a)))

-- ---- inside an element more stands behind what stands there
grows : (t : Tag) (tags : List Tag) (shares : List Share) (bytes : List ℕ) (h : Forest) → SoFar (t ∷ tags) shares bytes → SoFar (t ∷ tags) (shares ++ shares_in h) (bytes ++ xml h)
grows t tags shares bytes h s =
    let e : bytes ++ xml h ≡ s.0 ++ (start_tag t s.3 ++ (62 ∷ xml (append s.4 h))) =
    rw (s.5, xml-append s.4 h) (append_assoc s.0 (start_tag t s.3 ++ (62 ∷ xml s.4)) (xml h) ∙ ap (λ x. s.0 ++ x) (append_assoc (start_tag t s.3) (62 ∷ xml s.4) (xml h))) in
    let f : shares ++ shares_in h ≡ s.1 ++ (shares_on s.3 ++ shares_in (append s.4 h)) =
    rw (s.6, shares-append s.4 h) (append_assoc s.1 (shares_on s.3 ++ shares_in s.4) (shares_in h) ∙ ap (λ x. s.1 ++ x) (append_assoc (shares_on s.3) (shares_in s.4) (shares_in h))) in
    (s.0, s.1, s.2, s.3, append s.4 h, e, f)

begins : (t : Tag) (tags : List Tag) (shares : List Share) (bytes : List ℕ) → SoFar tags shares bytes → InTag (t ∷ tags) shares (bytes ++ start_tag t [])
unfolding shares_on
begins t tags shares bytes s = (bytes, shares, s, [], refl, sym (append-nil shares))

attributed : (tags : List Tag) (shares : List Share) (bytes : List ℕ) (a : Attribute) → InTag tags shares bytes → InTag tags (shares ++ shares_by a) (bytes ++ attribute_text a)
attributed [] shares bytes a s = s
attributed (t ∷ tags) shares bytes a s =
    let e : bytes ++ attribute_text a ≡ s.0 ++ start_tag t (s.3 ++ a ∷ []) =
    rw (s.4, start-more t s.3 a) (append_assoc s.0 (start_tag t s.3) (attribute_text a)) in
    let f : shares ++ shares_by a ≡ s.1 ++ shares_on (s.3 ++ a ∷ []) =
    rw (s.5, shares-more s.3 a) (append_assoc s.1 (shares_on s.3) (shares_by a)) in
    (s.0, s.1, s.2, s.3 ++ a ∷ [], e, f)

entered : (tags : List Tag) (shares : List Share) (bytes : List ℕ) → InTag tags shares bytes → SoFar tags shares (bytes ++ 62 ∷ [])
unfolding xml shares_in
entered [] shares bytes s = absurd s
entered (t ∷ tags) shares bytes s =
    let e : bytes ++ 62 ∷ [] ≡ s.0 ++ (start_tag t s.3 ++ (62 ∷ xml Nothing)) = rw s.4 (append_assoc s.0 (start_tag t s.3) (62 ∷ [])) in
    let f : shares ≡ s.1 ++ (shares_on s.3 ++ shares_in Nothing) = s.5 ∙ ap (λ x. s.1 ++ x) (sym (append-nil (shares_on s.3))) in
    (s.0, s.1, s.2, s.3, Nothing, e, f)

texted : (tags : List Tag) (shares : List Share) (bytes text : List ℕ) → 0 < length tags → SoFar tags shares bytes → SoFar tags shares (bytes ++ escaped_text text)
unfolding xml shares_in
texted [] shares bytes text inside s = absurd (omega arith)
texted (t ∷ tags) shares bytes text inside s =
    subst (λ x. SoFar (t ∷ tags) x (bytes ++ escaped_text text)) (append-nil shares)
    (subst (λ x. SoFar (t ∷ tags) (shares ++ []) (bytes ++ x)) (append-nil (escaped_text text)) (grows t tags shares bytes (Characters text Nothing) s))

ended : (t : Tag) (tags : List Tag) (shares : List Share) (bytes : List ℕ) → 0 < length tags → InTag (t ∷ tags) shares bytes → SoFar tags shares (bytes ++ codes "/>")
unfolding xml shares_in
ended t [] shares bytes inside s = absurd (omega arith)
ended t (u ∷ tags) shares bytes inside s =
    let whole : s.0 ++ xml (Leaf t s.3 Nothing) ≡ bytes ++ codes "/>" =
    rw s.4 (ap (λ x. s.0 ++ x) (append-nil (start_tag t s.3 ++ codes "/>")) ∙ sym (append_assoc s.0 (start_tag t s.3) (codes "/>"))) in
    let all : s.1 ++ shares_in (Leaf t s.3 Nothing) ≡ shares = ap (λ x. s.1 ++ x) (append-nil (shares_on s.3)) ∙ sym s.5 in
    subst (λ x. SoFar (u ∷ tags) x (bytes ++ codes "/>")) all
    (subst (λ x. SoFar (u ∷ tags) (s.1 ++ shares_in (Leaf t s.3 Nothing)) x) whole (grows u tags s.1 s.0 (Leaf t s.3 Nothing) s.2))

inner : (t : Tag) (front : List ℕ) (attributes : List Attribute) (inside : Forest)
    → front ++ (start_tag t attributes ++ (62 ∷ (xml inside ++ close t))) ≡ (front ++ (start_tag t attributes ++ (62 ∷ xml inside))) ++ close t
inner t front attributes inside =
    sym (append_assoc front (start_tag t attributes ++ (62 ∷ xml inside)) (close t) ∙ ap (λ x. front ++ x) (append_assoc (start_tag t attributes) (62 ∷ xml inside) (close t)))

closed : (t : Tag) (tags : List Tag) (shares : List Share) (bytes : List ℕ) → 0 < length tags → SoFar (t ∷ tags) shares bytes → SoFar tags shares (bytes ++ close t)
unfolding xml shares_in
closed t [] shares bytes inside s = absurd (omega arith)
closed t (u ∷ tags) shares bytes inside s =
    let one : List ℕ = start_tag t s.3 ++ (62 ∷ (xml s.4 ++ close t)) in
    let whole : s.0 ++ xml (Element t s.3 s.4 Nothing) ≡ bytes ++ close t = rw s.5 (ap (λ x. s.0 ++ x) (append-nil one) ∙ inner t s.0 s.3 s.4) in
    let all : s.1 ++ shares_in (Element t s.3 s.4 Nothing) ≡ shares = ap (λ x. s.1 ++ (shares_on s.3 ++ x)) (append-nil (shares_in s.4)) ∙ sym s.6 in
    subst (λ x. SoFar (u ∷ tags) x (bytes ++ close t)) all
    (subst (λ x. SoFar (u ∷ tags) (s.1 ++ shares_in (Element t s.3 s.4 Nothing)) x) whole (grows u tags s.1 s.0 (Element t s.3 s.4 Nothing) s.2))

all : (shares : List Share) (bytes : List ℕ) → SoFar (tag.Svg ∷ []) shares bytes → IsElement tag.Svg shares (bytes ++ close tag.Svg)
all shares bytes s =
    let e : bytes ++ close tag.Svg ≡ start_tag tag.Svg s.3 ++ (62 ∷ (xml s.4 ++ close tag.Svg)) = rw (s.5, s.2.0) (append_assoc (start_tag tag.Svg s.3) (62 ∷ xml s.4) (close tag.Svg)) in
    let f : shares ≡ shares_on s.3 ++ shares_in s.4 = rw (s.6, s.2.1) refl in
    record { attributes = s.3; inside = s.4; written = e; told = f }

-- ---- the same of what a draft keeps
-- the innermost stands last
last-first : (items before : List Tag) (t : Tag) → items ≡ before ++ t ∷ [] → reverse items ≡ t ∷ reverse before
last-first items before t e = rw (e, reverse-append before (t ∷ [])) refl

pub opened : (b : Bool) (items before : List Tag) (shares : List Share) (out front : List ℕ) (t : Tag) → ∥ IsDraft b (reverse before) shares front ∥₁ → b ≡ false → items ≡ before ++ t ∷ [] → out ≡ front ++ start_tag t []
    → ∥ IsDraft true (reverse items) shares out ∥₁
opened b items before shares out front t d content more written =
    rw (last-first items before t more, written) (∥∥₁_map (subst (λ x. ∥ IsDraft x (reverse before) shares front ∥₁) content d) (λ s. begins t (reverse before) shares front s))

-- the outermost
pub first_tag : (items before : List Tag) (shares : List Share) (out front : List ℕ) → before ≡ [] → shares ≡ [] → front ≡ [] → items ≡ before ++ tag.Svg ∷ [] → out ≡ front ++ start_tag tag.Svg []
    → ∥ IsDraft true (reverse items) shares out ∥₁
first_tag items before shares out front none unshared empty more written =
    let first : reverse items ≡ tag.Svg ∷ [] = rw (more, none) refl in
    rw (first, written, empty, unshared) (∣ (begins tag.Svg [] [] [] (refl, refl)) ∣₁)

pub with_attribute : (b : Bool) (items : List Tag) (shares : List Share) (out front : List ℕ) (key : Key) (value : List ℕ) → ∥ IsDraft b (reverse items) shares front ∥₁ → b ≡ true → out ≡ front ++ attribute_text (Named key value)
    → ∥ IsDraft b (reverse items) shares out ∥₁
with_attribute b items shares out front key value d inside written =
    rw (inside, written) (∥∥₁_map (subst (λ x. ∥ IsDraft x (reverse items) shares front ∥₁) inside d)
    (λ s. subst (λ x. IsDraft true (reverse items) x (front ++ attribute_text (Named key value))) (append-nil shares) (attributed (reverse items) shares front (Named key value) s)))

pub with_events : (b : Bool) (items : List Tag) (shares before : List Share) (out front : List ℕ) (share : Share) → ∥ IsDraft b (reverse items) before front ∥₁ → b ≡ true → out ≡ front ++ attribute_text (Events share)
    → shares ≡ before ++ share ∷ [] → ∥ IsDraft b (reverse items) shares out ∥₁
with_events b items shares before out front share d inside written more =
    rw (inside, written, more) (∥∥₁_map (subst (λ x. ∥ IsDraft x (reverse items) before front ∥₁) inside d) (λ s. attributed (reverse items) before front (Events share) s))

pub after_enter : (b : Bool) (items : List Tag) (shares : List Share) (out front : List ℕ) → ∥ IsDraft b (reverse items) shares front ∥₁ → b ≡ true → out ≡ front ++ 62 ∷ [] → ∥ IsDraft false (reverse items) shares out ∥₁
after_enter b items shares out front d inside written =
    rw written (∥∥₁_map (subst (λ x. ∥ IsDraft x (reverse items) shares front ∥₁) inside d) (λ s. entered (reverse items) shares front s))

pub with_text : (b : Bool) (items : List Tag) (shares : List Share) (out front text : List ℕ) → ∥ IsDraft b (reverse items) shares front ∥₁ → b ≡ false → 0 < length (reverse items) → out ≡ front ++ escaped_text text
    → ∥ IsDraft b (reverse items) shares out ∥₁
with_text b items shares out front text d content inside written =
    rw (content, written) (∥∥₁_map (subst (λ x. ∥ IsDraft x (reverse items) shares front ∥₁) content d) (λ s. texted (reverse items) shares front text inside s))

pub after_end : (b : Bool) (items before : List Tag) (shares : List Share) (t : Tag) (out front : List ℕ) → ∥ IsDraft b (reverse before) shares front ∥₁ → b ≡ true → 1 < length (reverse before) → before ≡ items ++ t ∷ []
    → out ≡ front ++ codes "/>" → ∥ IsDraft false (reverse items) shares out ∥₁
after_end b items before shares t out front d inside more popped written =
    let first = last-first before items t popped in
    let some : 0 < length (reverse items) = let h : 1 < length (t ∷ reverse items) = subst (λ x. 1 < length x) first more in omega (arith, h) in
    let here : ∥ InTag (t ∷ reverse items) shares front ∥₁ = subst (λ x. ∥ InTag x shares front ∥₁) first (subst (λ x. ∥ IsDraft x (reverse before) shares front ∥₁) inside d) in
    rw written (∥∥₁_map here (λ s. ended t (reverse items) shares front some s))

pub after_close : (b : Bool) (items before : List Tag) (shares : List Share) (t : Tag) (out front : List ℕ) → ∥ IsDraft b (reverse before) shares front ∥₁ → b ≡ false → 1 < length (reverse before) → before ≡ items ++ t ∷ []
    → out ≡ front ++ close t → ∥ IsDraft false (reverse items) shares out ∥₁
after_close b items before shares t out front d content more popped written =
    let first = last-first before items t popped in
    let some : 0 < length (reverse items) = let h : 1 < length (t ∷ reverse items) = subst (λ x. 1 < length x) first more in omega (arith, h) in
    let here : ∥ SoFar (t ∷ reverse items) shares front ∥₁ = subst (λ x. ∥ SoFar x shares front ∥₁) first (subst (λ x. ∥ IsDraft x (reverse before) shares front ∥₁) content d) in
    rw written (∥∥₁_map here (λ s. closed t (reverse items) shares front some s))

pub after_all : (b : Bool) (items : List Tag) (shares : List Share) (out front : List ℕ) → ∥ IsDraft b (reverse items) shares front ∥₁ → b ≡ false → reverse items ≡ tag.Svg ∷ [] → out ≡ front ++ close tag.Svg → ∥ IsElement tag.Svg shares out ∥₁
after_all b items shares out front d content outermost written =
    rw written (∥∥₁_map (subst (λ x. ∥ SoFar x shares front ∥₁) outermost (subst (λ x. ∥ IsDraft x (reverse items) shares front ∥₁) content d)) (λ s. all shares front s))
