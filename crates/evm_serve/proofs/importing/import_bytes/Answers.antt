use Rattle.std.proofs.Common.{◌≡◌, ◌≢◌, ◌⊎◌, [], Some, Err, refl, ap, rules, inr}
use Rattle.evm_elf.specs.Faults.{fault_of}
use Rattle.evm_elf.specs.declared.fault.ElfFault.{ElfFault}
use Rattle.evm_elf.specs.declared.fault.ElfFault.TheVariants.{NoMemory}
use Rattle.evm_serve.specs.Imaging.{no_image_report}
use Rattle.evm_serve.specs.Serving.{WritesAll, EndsInMemory}
use Rattle.evm_serve.proofs.Endings.{writes_once}
use Rattle.evm_serve.proofs.Memory.{by_most}
use Rattle.evm_serve.proofs.importing.import_bytes.Goals as goal

pub returns-in-Err-NoMemory : goal.returns-in-Err-NoMemory
returns-in-Err-NoMemory g c =
    let is : c.in-Err-NoMemory.field-0 ≡ NoMemory = search rules in
    inr (by_most _ (c.in-Err-NoMemory.ensures.refused (ap (λ (f : ElfFault). Err f) is)), c.ended.ensures)

pub returns-in-Err : goal.returns-in-Err
returns-in-Err g c =
    let differs : c.in-Err.fault ≢ NoMemory = search rules in
    let is : fault_of c.args.file.now ≡ Some c.in-Err.fault = (c.in-Err.ensures.fault c.in-Err.fault differs).0 refl in
    let written : WritesAll g.W.Sink.takes (no_image_report c.in-Err.fault) c.args.writer.now c.ended-in-Err.new.writer c.ended-in-Err.result ⊎ EndsInMemory g.W.Sink.takes [] c.args.writer.now c.ended-in-Err.new.writer c.ended-in-Err.result =
    writes_once _ _ _ _ _ c.write_no_image-outcome.result _ c.write_no_image-outcome.ensures c.ended-in-Err.ensures in
    rw is written
