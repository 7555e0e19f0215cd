use Rattle.std.proofs.Common.{◌≡◌, ◌≤◌, ℕ, List, length, rules, sym, subst}
use Rattle.std.specs.Prelude.{IsUtf8}
use Rattle.std.specs.String.{string_bytes}
use Rattle.evm_streams.specs.declared.reads.TheConstants.{FILE_LIMIT}
use Rattle.evm_streams.specs.Reads.{Whole}
use Rattle.evm_streams.proofs.reads.read_utf8.Goals as goal

pub returns-in-Ok : goal.returns-in-Ok
returns-in-Ok g c =
    let same : string_bytes c.in-Ok.text ≡ c.in_ok-bytes.bytes.items = search rules in
    let P : List ℕ → Type 0 = λ z. Whole g.R.Source.gives c.args.source.now z c.read_all.new.source × (length z ≤ FILE_LIMIT) in
    let read : P (string_bytes c.in-Ok.text) = subst P (sym same) c.in_ok-bytes.ensures in
    (read.0, read.1, subst IsUtf8 c.as_str.ensures.value c.as_str.utf8)
