use Rattle.evm_debug.proofs.RegisterText.{register_ascii}
use Rattle.evm_debug.proofs.registers.put_register.Goals as goal

pub ascii_text-requires : goal.ascii_text-requires
ascii_text-requires c = rw c.one_register-text.ensures (register_ascii c.args.r c.args.value c.args.last c.requires.number c.requires.ascii)
