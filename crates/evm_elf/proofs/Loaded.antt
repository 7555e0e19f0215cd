-- The words of an assembled program in the image of its file.
use Rattle.std.proofs.Common.{◌≡◌, ◌∙◌, ℕ, ◌+◌, ◌-◌, ◌≤◌, List, drop, get_or, ap, sym, subst, arith}
use Rattle.std.proofs.lemmas.List.{get_or-take, get_or-drop}
use Rattle.evm_asm.specs.declared.output.ProgramLine.{ProgramLine}
use Rattle.evm_asm.specs.Assembled.{StandsIn}
use Rattle.evm_asm.specs.Bounds.{ProgramsFit, WordsStand}
use Rattle.evm_ram.specs.Images.{Contents, byte_at, range_start}
use Rattle.evm_elf.specs.Files.{image_of_bytes}
use Rattle.evm_elf.specs.Programs.{AssembledIsRead, Holds, WordsAreLoaded}
use Rattle.evm_elf.proofs.Written.{no_fault, image_is, memory_is}

pub assembled_read : ProgramsFit → AssembledIsRead
assembled_read fit source p h = let few = fit source p h in (no_fault p.bytes few, image_is p.bytes (omega arith))

at_start : (address i : ℕ) → range_start ≤ address → address + i ≡ range_start + (address - range_start + i)
at_start address i h = omega arith

-- a line's bytes in memory
line_held : (bytes : List ℕ) (l : ProgramLine) → StandsIn bytes l → Holds (image_of_bytes bytes) l
line_held bytes l h i few =
    let k : ℕ = l.address - range_start in
    ap (byte_at (image_of_bytes bytes)) (at_start l.address i h.above) ∙ memory_is bytes (k + i)
    ∙ sym (get_or-drop k bytes i 0) ∙ sym (get_or-take 4 (drop k bytes) i 0 few) ∙ ap (λ (b : List ℕ). get_or b i 0) h.bytes_are

pub words_loaded : ProgramsFit → WordsStand → WordsAreLoaded
words_loaded fit stand source p h = λ k d inside.
    let held : Holds (image_of_bytes p.bytes) (get_or p.lines k d) = line_held p.bytes (get_or p.lines k d) (stand source p h k d inside) in
    subst (λ (image : Contents). Holds image (get_or p.lines k d)) (sym (assembled_read fit source p h).1) held
