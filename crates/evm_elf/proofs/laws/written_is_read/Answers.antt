use Rattle.std.proofs.Common.{arith}
use Rattle.evm_elf.proofs.Written.{no_fault, image_is, memory_is}
use Rattle.evm_elf.proofs.laws.written_is_read.Goals as goal

pub returns : goal.returns
returns c = record {
  accepted = no_fault;
  image = λ bytes few. image_is bytes (omega arith);
  bytes = memory_is;
}
