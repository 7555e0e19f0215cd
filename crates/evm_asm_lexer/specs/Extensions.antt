-- Mnemonics of the extensions of RV64I, none of which this machine has.
use Rattle.std.specs.Prelude.{ℕ, ◌||◌, if◌then◌else◌, List, [], ◌∷◌, take, Option, Some, None, codes}
use Rattle.std.specs.Str.{bytes_eq}
use Rattle.evm_asm_lexer.specs.declared.extensions.Extension.{Extension}
use Rattle.evm_asm_lexer.specs.declared.extensions.Extension.TheVariants.{Multiply, Atomic, Float, Compressed, Status, FenceI}
use Rattle.evm_asm_lexer.specs.Names.{named}

abbrev pub extension_name : Extension → List ℕ
extension_name Multiply = codes "M"
extension_name Atomic = codes "A"
extension_name Float = codes "F or D"
extension_name Compressed = codes "C"
extension_name Status = codes "Zicsr"
extension_name FenceI = codes "Zifencei"

unfoldable pub products : List (List ℕ × Extension)
products =
    (codes "mul", Multiply) ∷ (codes "mulh", Multiply) ∷ (codes "mulhsu", Multiply) ∷ (codes "mulhu", Multiply) ∷ (codes "mulw", Multiply) ∷ []

unfoldable pub quotients : List (List ℕ × Extension)
quotients =
    (codes "div", Multiply) ∷ (codes "divu", Multiply) ∷ (codes "divw", Multiply) ∷ (codes "divuw", Multiply) ∷ (codes "rem", Multiply) ∷ (codes "remu", Multiply) ∷ (codes "remw", Multiply) ∷ (codes "remuw", Multiply) ∷ []

unfoldable pub others : List (List ℕ × Extension)
others =
    (codes "fence.i", FenceI) ∷ (codes "rdcycle", Status) ∷ (codes "rdtime", Status) ∷ (codes "rdinstret", Status) ∷ (codes "flw", Float) ∷ (codes "fsw", Float) ∷ (codes "fld", Float) ∷ (codes "fsd", Float) ∷ []

unfoldable pub by_beginning : List ℕ → Option Extension
by_beginning name =
    if bytes_eq (take 3 name) (codes "csr") then Some Status
    else (if bytes_eq (take 3 name) (codes "amo") || (bytes_eq (take 3 name) (codes "lr.") || bytes_eq (take 3 name) (codes "sc.")) then Some Atomic
    else (if bytes_eq (take 2 name) (codes "c.") then Some Compressed
    else None))

abbrev pub first_extension : Option Extension → Option Extension → Option Extension
first_extension (Some extension) next = Some extension
first_extension None next = next

-- the extension whose mnemonic has this name
abbrev pub extension_of : List ℕ → Option Extension
extension_of name = first_extension (named products name) (first_extension (named quotients name) (first_extension (named others name) (by_beginning name)))
