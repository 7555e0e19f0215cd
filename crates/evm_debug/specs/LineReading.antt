-- A line of a script read from its front.
use Rattle.std.specs.Prelude.{◌≡◌, ◌↔◌, ℕ, List, Option, Some, None, codes, option_map, if◌then◌else◌}
use Rattle.evm_journal.specs.evm_text.Reading.{after_word}
use Rattle.evm_journal.specs.evm_text.Rows.{keyword, rows_at, said_at}
use Rattle.evm_model.specs.declared.boot.Boot.{Boot as Numbers}
use Rattle.evm_debug.specs.declared.line.Line.{Line}
use Rattle.evm_debug.specs.declared.line.Line.TheVariants.{Blank, Boot}
use Rattle.evm_debug.specs.Line.{script_rows, script_unwatched, script_watched, is_blank_line, IsSpelled}

-- what is read in one form, or else in another
abbrev pub either_form : Option Numbers → Option Numbers → Option Numbers
either_form (Some boot) other = Some boot
either_form None other = other

-- the three numbers of a boot line, or else four, behind its keyword and a blank
abbrev pub script_boot_at : List ℕ → Option Numbers
script_boot_at bytes = either_form (said_at script_unwatched bytes) (said_at script_watched bytes)

unfoldable pub line_at : List ℕ → Option Line
line_at bytes =
    if is_blank_line bytes then Some Blank
    else keyword (after_word (codes "boot ") bytes) (λ rest. option_map Boot (script_boot_at rest)) (rows_at script_rows bytes)

-- a line is read if and only if the bytes spell it
abbrev pub ReadsLines : Type 0
ReadsLines = (line : Line) (bytes : List ℕ) → (line_at bytes ≡ Some line) ↔ IsSpelled line bytes
