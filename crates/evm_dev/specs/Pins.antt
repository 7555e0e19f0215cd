-- Pins have three words: the level, a bit for each pin; the mask of the pins that are watched; and a count of ticks.
use Rattle.std.specs.Prelude.{ℕ, zero, suc, ◌-◌, nat_eq, Bool, false, not, ◌&&◌, ◌||◌, List, [], ◌∷◌, map}
use Rattle.std.specs.Int.{bit_at}
use Rattle.evm_dev.specs.Touched.{Touched, Ticked, answers, raises_if, unmoved}

abbrev pub is_high : ℕ → ℕ → Bool
is_high level pin = nat_eq (bit_at level pin) 1

-- whether a pin is watched and goes from 0 to 1
abbrev pub is_rising : ℕ → ℕ → ℕ → ℕ → Bool
is_rising mask before after pin = is_high mask pin && not (is_high before pin) && is_high after pin

-- whether one of the first pins passes a test
unfoldable pub any_pin : (ℕ → Bool) → ℕ → Bool
any_pin test zero = false
any_pin test (suc pins) = test pins || any_pin test pins

-- whether one of the 64 pins rises
unfoldable pub rises : ℕ → ℕ → ℕ → Bool
rises mask before after = any_pin (is_rising mask before after) 64

-- registers 0, 1 and 2: the word of that number
abbrev pub pins_fetches : List ℕ → List Touched
pins_fetches words = map (answers words) words

-- registers 0, 1 and 2: that word is the value; the first raises if a watched pin rises
abbrev pub pins_puts : ℕ → List ℕ → List Touched
pins_puts value (level ∷ mask ∷ count ∷ []) =
    raises_if (rises mask level value) (answers (value ∷ mask ∷ count ∷ []) 0)
    ∷ answers (level ∷ value ∷ count ∷ []) 0
    ∷ answers (level ∷ mask ∷ value ∷ []) 0
    ∷ []
pins_puts value words = []

-- a count above 0 falls by one, and raises when it becomes 0
abbrev pub pins_ticked : List ℕ → Ticked
pins_ticked (level ∷ mask ∷ count ∷ []) = record { words = level ∷ mask ∷ (count - 1) ∷ []; raise = nat_eq count 1 }
pins_ticked words = unmoved words
