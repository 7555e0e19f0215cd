use Rattle.evm_elf.specs.Faults.{file_has, load_headers}
use Rattle.evm_elf.proofs.Sharing.{taken_places, places_taken}
use Rattle.evm_elf.proofs.laws.overlap_is_shared_address.Goals as goal

pub returns : goal.returns
unfolding file_has
returns c = λ file. (taken_places (load_headers file), λ two. places_taken (load_headers file) two.0 two.1.0 two.1.1.0 two.1.1.1.0 two.1.1.1.1 two.1.1.1.2)
