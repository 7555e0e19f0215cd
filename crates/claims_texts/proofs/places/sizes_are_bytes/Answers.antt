use Rattle.evm_asm.proofs.Programs_as_meant.{sizes_agree}
use Rattle.claims_texts.proofs.places.sizes_are_bytes.Goals as goal

pub returns : goal.returns
returns c = sizes_agree
