use Rattle.std.proofs.Common.{refl}
use Rattle.evm_asm.specs.Items.{load_immediate}
use Rattle.evm_asm.specs.Places.{is_small, needs_low_part, low_word}
use Rattle.evm_asm.proofs.Li_and_la_load.{loaded}
use Rattle.evm_asm.proofs.laws.li_loads.Goals as goal

pub returns : goal.returns
unfolding load_immediate
returns c = λ rd at value p q. loaded rd at value p q (is_small value) (needs_low_part (low_word value)) refl
