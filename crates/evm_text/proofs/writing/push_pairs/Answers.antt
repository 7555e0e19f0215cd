use Rattle.std.proofs.Common.{ℕ, length, arith, ap, ◌∙◌}
use Rattle.std.specs.String.{string_bytes}
use Rattle.evm_text.proofs.Steps.{pairs_start, pairs_more}
use Rattle.evm_text.proofs.writing.push_pairs.Goals as goal

pub loop-byte-init : goal.loop-byte-init
loop-byte-init c =
    let ensured = c.in_ok-grow_text.ensures in
    record { told = ensured.bytes ∙ pairs_start (string_bytes c.args.out.now); len = omega (arith, ensured.len); room = omega (arith, ensured.ok); grown = omega (arith, ensured.capacity) }

pub loop-byte-preserved : goal.loop-byte-preserved
loop-byte-preserved c =
    let first = c.in-Ok.ensures in
    let second = c.in-Ok-push.ensures in
    let high = c.character.ensures.ascii in
    let low = c.character-in-loop-byte.ensures.ascii in
    let inv = c.loop-byte.invariant in
    record {
      told = rw (second.bytes, first.bytes, high, low, c.loop-byte.invariant.told) (pairs_more (string_bytes c.args.out.now) c.args.bytes.now c.loop-byte.byte-index c.loop-byte-test.true);
      len = omega (arith, inv.len, first.len, second.len, ap (length {A = ℕ}) high, ap (length {A = ℕ}) low);
      room = omega (arith, inv.room, first.len, second.len, first.capacity, second.capacity, ap (length {A = ℕ}) high, ap (length {A = ℕ}) low);
      grown = omega (arith, inv.grown, first.capacity, second.capacity);
    }
