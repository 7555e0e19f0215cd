use Rattle.std.proofs.Common.{◌≡◌, ◌-◌}
use Rattle.evm_asm.specs.Items.{operands, with_numbers}
use Rattle.evm_asm.proofs.meaning.push_numbers.Given as goal

abbrev pub invariant-loop : goal.invariant-loop
invariant-loop l =
    with_numbers l.layout.labels l.layout.place.text_size l.line.place.section l.width (l.count - l.counter) l.rest l.items.items
    ≡ with_numbers l.layout.labels l.layout.place.text_size l.line.place.section l.width l.count (operands l.line.text.now) l.initial.items.items
