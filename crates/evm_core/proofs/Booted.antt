-- A board at boot has the devices that it was given.
use Rattle.std.proofs.Common.{◌≡◌, ◌+◌, false, refl, List, Result, Ok, Err, IfOk, IfErr, sym, ap, subst, ◌∙◌, arith}
use Rattle.evm_room.specs.Growth.{RefusedWithin}
use Rattle.evm_model.specs.Devices.{Attached}
use Rattle.evm_model.specs.Replay.{bad_boot, start, BootAnswers}
use Rattle.evm_model.specs.State.{Board, State, booted}
use Rattle.evm_model.specs.declared.boot.Boot.{Boot}
use Rattle.evm_model.specs.declared.refusal.Refusal.{Refusal}
use Rattle.evm_model.specs.declared.refusal.Refusal.TheVariants.{NoMemory}

its-devices : (devices : List Attached) (boot : Boot) → (booted devices boot).memory.devices ≡ devices
unfolding booted
its-devices devices boot = refl

booted-devices : (devices : List Attached) (boot : Boot) (b : Board) → b ≡ booted devices boot → b.memory.devices ≡ devices
booted-devices devices boot b e = ap (λ (x : Board). x.memory.devices) e ∙ its-devices devices boot

pub booted-again : (devices : List Attached) (boot : Boot) (b : Board) → b ≡ booted devices boot → b ≡ booted b.memory.devices boot
booted-again devices boot b e = e ∙ ap (λ (ds : List Attached). booted ds boot) (sym (booted-devices devices boot b e))

-- what a machine of such a board answers
pub boot-answers : (devices : List Attached) (boot : Boot) (b : Board) (r : Result State Refusal) → bad_boot boot ≡ false → b ≡ booted devices boot → IfOk r (λ m. m ≡ start b.memory.devices boot)
    → IfErr r (λ refusal. (refusal ≡ NoMemory) × RefusedWithin boot.capacity) → BootAnswers devices boot r
boot-answers devices boot b (Ok m) fits e ok err = (fits, ok ∙ ap (λ (ds : List Attached). start ds boot) (booted-devices devices boot b e))
boot-answers devices boot b (Err refusal) fits e ok err =
    let most : RefusedWithin (boot.ram + boot.capacity) = record { asked = err.1.asked; within = omega (arith, err.1.within); refused = err.1.refused } in
    subst (λ (r : Refusal). BootAnswers devices boot (Err r)) (sym err.0) (fits, most)
