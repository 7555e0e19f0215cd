use Rattle.std.proofs.Common.{◌≡◌, ◌≤◌, ◌+◌, ◌++◌, length, drop}
use Rattle.std.specs.String.{string_bytes, string_capacity, string_len}
use Rattle.evm_debug.specs.Pieces.{pieces_text}
use Rattle.evm_debug.proofs.piece.push_pieces.Given as goal

-- the text so far and the pieces that are left are the whole text
abbrev pub invariant-loop-piece : goal.invariant-loop-piece
invariant-loop-piece l = record {
  bytes : string_bytes l.out ++ pieces_text (drop l.piece-index l.pieces) ≡ string_bytes l.fn.out ++ pieces_text l.pieces;
  len : string_len l.out + length (pieces_text (drop l.piece-index l.pieces)) ≡ string_len l.fn.out + length (pieces_text l.pieces);
  rest : length (pieces_text (drop l.piece-index l.pieces)) ≤ length (pieces_text l.pieces);
  capacity : string_capacity l.fn.out ≤ string_capacity l.out;
}
