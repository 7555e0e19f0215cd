use Rattle.evm_elf.proofs.Sound.{sound}
use Rattle.evm_elf.proofs.laws.accepted_is_sound.Goals as goal

pub returns : goal.returns
returns c = sound
