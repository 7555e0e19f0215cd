-- The first boot line of a text, by the text's first line.
use Rattle.std.proofs.Common.{◌≡◌, ℕ, List, ◌∷◌, Option, Some, None, refl}
use Rattle.evm_debug.specs.evm_text.Lines.{text_lines}
use Rattle.evm_model.specs.declared.boot.Boot.{Boot}
use Rattle.evm_diagnostics.specs.Lookup.{boot_among, boot_of, first_boot}

-- it is that line
pub boot_first : (bytes line rest : List ℕ) (boot : Boot) → text_lines bytes ≡ line ∷ text_lines rest → Some boot ≡ boot_of line → Some boot ≡ boot_among (text_lines bytes)
unfolding boot_among
boot_first bytes line rest boot lines is = rw (lines, ← is) refl

-- it comes after that line
pub boot_next : (bytes line rest : List ℕ) → text_lines bytes ≡ line ∷ text_lines rest → ◌≡◌ {A = Option Boot} None (boot_of line) → boot_among (text_lines rest) ≡ boot_among (text_lines bytes)
unfolding boot_among
boot_next bytes line rest lines is = rw (lines, ← is) refl
