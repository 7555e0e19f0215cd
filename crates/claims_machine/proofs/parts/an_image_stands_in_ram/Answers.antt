use Rattle.std.proofs.Common.{◌∙◌, ◌≡◌, ℕ, length, arith}
use Rattle.std.specs.Prelude.{replicate}
use Rattle.std.proofs.lemmas.List.{length-replicate}
use Rattle.evm_model.specs.Load.{load_board}
use Rattle.evm_model.specs.State.{booted}
use Rattle.claims_machine.proofs.parts.an_image_stands_in_ram.Goals as goal

pub returns-clause-size : goal.returns-clause-size
unfolding load_board booted
returns-clause-size c devices byte entry boot =
    let size = length {A = ℕ} (replicate boot.ram 0) in c.loads_each_byte.ensures.count byte 0x80000000 size ∙ length-replicate boot.ram 0

pub returns-clause-each : goal.returns-clause-each
unfolding load_board booted
returns-clause-each c devices byte entry boot i inside =
    let size = length {A = ℕ} (replicate boot.ram 0) in
    let so_many : size ≡ boot.ram = length-replicate boot.ram 0 in
    c.loads_each_byte.ensures.each byte 0x80000000 size i (omega arith)
