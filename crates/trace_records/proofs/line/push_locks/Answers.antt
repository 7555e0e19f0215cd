use Rattle.std.proofs.Common.{◌++◌}
use Rattle.std.specs.Prelude.{codes}
use Rattle.std.specs.String.{string_bytes}
use Rattle.evm_text.specs.Written.{decimal}
use Rattle.trace_records.proofs.PlaceLines.{more, last}
use Rattle.trace_records.proofs.line.push_locks.Goals as goal

pub returns : goal.returns
returns c =
    let old = string_bytes c.args.out.now in
    let word = codes "locks mutex " in
    let number = decimal c.args.mutex in
    last c.push_text-2.result old (string_bytes c.push_decimal.new.out) (string_bytes c.push_text-2.new.out) (word ++ number) (codes " at ")
    (more old (string_bytes c.push_text.new.out) (string_bytes c.push_decimal.new.out) word number c.in_ok-push_text.ensures.ok c.in_ok-push_decimal.ensures.appends.ok)
    c.push_text-2.ensures.ok
