-- The characters that the language names, by their codes in a file.
use Rattle.std.specs.Prelude.{◌≡◌, ℕ, [], ◌∷◌, codes}

abbrev pub tab : ℕ
tab = 9

abbrev pub newline : ℕ
newline = 10

abbrev pub carriage_return : ℕ
carriage_return = 13

abbrev pub blank : ℕ
blank = 32

abbrev pub hash : ℕ
hash = 35

abbrev pub dollar : ℕ
dollar = 36

abbrev pub left_parenthesis : ℕ
left_parenthesis = 40

abbrev pub right_parenthesis : ℕ
right_parenthesis = 41

abbrev pub comma : ℕ
comma = 44

abbrev pub minus : ℕ
minus = 45

abbrev pub dot : ℕ
dot = 46

abbrev pub digit_0 : ℕ
digit_0 = 48

abbrev pub digit_9 : ℕ
digit_9 = 57

abbrev pub colon : ℕ
colon = 58

abbrev pub capital_a : ℕ
capital_a = 65

abbrev pub capital_f : ℕ
capital_f = 70

abbrev pub capital_z : ℕ
capital_z = 90

abbrev pub underscore : ℕ
underscore = 95

abbrev pub small_a : ℕ
small_a = 97

abbrev pub small_f : ℕ
small_f = 102

abbrev pub small_z : ℕ
small_z = 122

-- These are the codes of the characters that a text writes so.
abbrev pub CharactersAreNamed : Type 0
CharactersAreNamed =
    (blank ∷ hash ∷ dollar ∷ left_parenthesis ∷ right_parenthesis ∷ comma ∷ minus ∷ dot ∷ digit_0 ∷ digit_9 ∷ colon ∷ [] ≡ codes " #$(),-.09:")
    × (capital_a ∷ capital_f ∷ capital_z ∷ underscore ∷ small_a ∷ small_f ∷ small_z ∷ [] ≡ codes "AFZ_afz")
