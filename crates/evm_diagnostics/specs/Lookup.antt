-- Lines of a script or a journal that explain a fault: the faulty one, and the boot line.
use Rattle.std.specs.Prelude.{ℕ, ◌-◌, Bool, List, [], ◌∷◌, Option, Some, None, slice_get, true, false}
use Rattle.evm_debug.specs.LineReading.{line_at}
use Rattle.evm_debug.specs.declared.line.Line.{Line}
use Rattle.evm_debug.specs.declared.line.Line.TheVariants as lines
use Rattle.evm_debug.specs.evm_text.Lines.{text_lines}
use Rattle.evm_model.specs.declared.boot.Boot.{Boot}

-- the line of a number of a text, whose first is line 1
abbrev pub line_numbered : ℕ → List ℕ → Option (List ℕ)
line_numbered number text = slice_get (text_lines text) (number - 1)

-- the numbers of a boot line
abbrev pub boot_in : Option Line → Option Boot
boot_in (Some (lines.Boot boot)) = Some boot
boot_in (Some lines.Blank) = None
boot_in (Some (lines.Steps c count)) = None
boot_in (Some (lines.One event)) = None
boot_in (Some (lines.Show view)) = None
boot_in None = None

abbrev pub boot_of : List ℕ → Option Boot
boot_of line = boot_in (line_at line)

abbrev pub first_boot : Option Boot → Option Boot → Option Boot
first_boot (Some boot) others = Some boot
first_boot None others = others

-- those of the first boot line
unfoldable pub boot_among : List (List ℕ) → Option Boot
boot_among [] = None
boot_among (line ∷ rest) = first_boot (boot_of line) (boot_among rest)

abbrev pub is_there : Option Boot → Bool
is_there (Some boot) = true
is_there None = false

-- a script has a boot line
abbrev pub has_boot : List ℕ → Bool
has_boot text = is_there (boot_among (text_lines text))
