use Rattle.std.proofs.Common.{◌≡◌, ◌≢◌, ℕ, ◌+◌, ◌<◌, ◌∙◌, Bool, true, false, refl}
use Rattle.std.specs.Prelude.{replicate, slice_index, ◌==◌, if◌then◌else◌}
use Rattle.std.proofs.lemmas.List.{get_or-set_other, get_or-replicate}
use Rattle.evm_exec.specs.Registers.{register_of}
use Rattle.evm_exec.specs.declared.hart.TheConstants.{REGISTERS}
use Rattle.evm_model.specs.Harts.{first_hart}
use Rattle.claims_machine.proofs.parts.an_image_begins_at_its_entry.Goals as goal

zero_if : (b : Bool) (value : ℕ) → value ≡ 0 → (if b then 0 else value) ≡ 0
zero_if true value h = refl
zero_if false value h = h

zero_elsewhere : (ram r : ℕ) → r < 32 → r ≢ 2 → register_of (first_hart ram).regs r ≡ 0
zero_elsewhere ram r h other =
    zero_if (r == 0) (slice_index (first_hart ram).regs r)
    (get_or-set_other (replicate REGISTERS 0) 2 r (2147483648 + ram) 0 other ∙ get_or-replicate REGISTERS r 0 0 h)

pub returns-clause-hart : goal.returns-clause-hart
returns-clause-hart c devices byte entry boot =
    (record (first_hart boot.ram) { pc = entry }, c.loads_the_entry.ensures.harts devices byte entry boot, refl, refl, refl, zero_elsewhere boot.ram)

pub returns-clause-rest : goal.returns-clause-rest
returns-clause-rest c devices byte entry boot booted loaded b l = rw (b, l) (c.loads_the_entry.ensures.rest devices byte entry boot)
