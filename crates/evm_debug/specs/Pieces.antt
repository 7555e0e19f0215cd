-- The pieces of a line, as the code strings them together; the words of which a line is made.
use Rattle.std.specs.Prelude.{ℕ, List, [], ◌∷◌, ◌++◌, Option, Some, None, codes}
use Rattle.evm_journal.specs.evm_text.Written.{decimal}
use Rattle.evm_model.specs.Devices.{Attached}
use Rattle.evm_debug.specs.Views.{parts_text, hexadecimal_word, line_set_text, bit_text, number_or_none, two_digits, state_codes, class_text, stage_text}
use Rattle.evm_debug.specs.declared.piece.Piece.{Piece}
use Rattle.evm_debug.specs.declared.piece.Piece.TheVariants.{Text, Decimal, Word, Lines, Bit, Number, State, Class, Stage}

abbrev pub piece_text : Piece → List ℕ
piece_text (Text s) = s.now
piece_text (Decimal n) = decimal n
piece_text (Word n) = hexadecimal_word n
piece_text (Lines lines) = line_set_text lines
piece_text (Bit b) = bit_text b
piece_text (Number t) = number_or_none t
piece_text (State s) = state_codes s
piece_text (Class c) = class_text c
piece_text (Stage s) = stage_text s

abbrev pub pieces_text : List Piece → List ℕ
pieces_text [] = []
pieces_text (piece ∷ pieces) = piece_text piece ++ pieces_text pieces

-- a register: its number of two digits, its value, and a last character
abbrev pub one_register : ℕ → ℕ → ℕ → List ℕ
one_register r value last = parts_text (codes "x" ∷ two_digits r ∷ codes " " ∷ hexadecimal_word value ∷ (last ∷ []) ∷ [])

-- the words of a device, if there is one
abbrev pub words_in : Option Attached → List ℕ
words_in None = []
words_in (Some device) = device.words
