use Rattle.std.proofs.Common.{◌≡◌, ◌≤◌, ◌+◌, ◌++◌, length, take, vec_capacity, vec_len}
use Rattle.view_page.proofs.row.put.Given as goal

-- those so far were appended, with room for the others
abbrev pub invariant-loop-number : goal.invariant-loop-number
invariant-loop-number l = record {
  items : l.row.items ≡ l.fn.row.items ++ take l.number-index l.numbers;
  room : vec_len l.row + length l.numbers ≤ vec_capacity l.row + l.number-index;
}
