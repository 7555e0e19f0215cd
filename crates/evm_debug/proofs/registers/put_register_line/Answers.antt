use Rattle.std.specs.String.{string_bytes}
use Rattle.evm_debug.proofs.RegisterText.{line_of_four}
use Rattle.evm_debug.proofs.registers.put_register_line.Goals as goal

pub returns-clause-bytes : goal.returns-clause-bytes
returns-clause-bytes c =
    rw (c.put_register-4.ensures.bytes, c.put_register-3.ensures.bytes, c.put_register-2.ensures.bytes, c.put_register.ensures.bytes, c.value.ensures, c.value-2.ensures, c.value-3.ensures, c.value-4.ensures)
    (line_of_four (string_bytes c.args.out.now) c.args.r c.args.hart.now.regs)
