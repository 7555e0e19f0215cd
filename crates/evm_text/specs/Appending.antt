-- What a function does that appends a text.
use Rattle.std.specs.Prelude.{◌≡◌, ◌<◌, ◌≤◌, ◌+◌, ◌++◌, ℕ, List, Result, String, length, OnOk, OnErr, IfErr}
use Rattle.std.specs.String.{string_bytes, string_capacity, string_len}
use Rattle.std.specs.declared.alloc.Global.{Global}

-- The text is appended. It gives up only where there is no room for the text, and a growth by no more than the text was refused.
pub record Appends (text : List ℕ) (old new : String Global) (result : Result (Unit {0}) ℕ) : Type 0 where
  pub ok : OnOk result (string_bytes new ≡ string_bytes old ++ text)
  pub len : OnOk result (string_len new ≡ string_len old + length text)
  pub full : OnErr result (string_capacity old < string_len old + length text)
  pub refused : IfErr result (λ asked. asked ≤ length text)
  pub capacity : string_capacity old ≤ string_capacity new
