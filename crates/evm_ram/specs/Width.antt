use Rattle.std.specs.Prelude.{ℕ}
use Rattle.evm_ram.specs.declared.width.Width.{Width}
use Rattle.evm_ram.specs.declared.width.Width.TheVariants.{Byte, Half, Word, Double}

-- how many bytes an access of this width touches
abbrev pub bytes_of : Width → ℕ
bytes_of Byte = 1
bytes_of Half = 2
bytes_of Word = 4
bytes_of Double = 8
