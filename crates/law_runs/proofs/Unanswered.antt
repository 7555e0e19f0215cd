-- Accesses that nobody answers.
use Rattle.std.proofs.Common.{◌≡◌, ℕ, Option, None, refl, ap, ◌∙◌}
use Rattle.evm_dev.specs.Rows.{touched}
use Rattle.evm_dev.specs.declared.touch.Op.{Op}
use Rattle.evm_ram.specs.declared.width.Width.{Width}
use Rattle.evm_ram.specs.declared.width.Width.TheVariants.{Double}
use Rattle.evm_model.specs.Devices.{Accessed, Attached, answered_by, touch_device, touch_register, touch}
use Rattle.evm_model.specs.Instructions.{finish_load, finish_store, finish}
use Rattle.evm_model.specs.Memory.{access_device}
use Rattle.evm_model.specs.State.{Memory}
use Rattle.law_runs.specs.Unanswered.{UnansweredFaults, WhoAnswersNone, LoadsTouch}

pub unanswered_faults : UnansweredFaults
unfolding finish
unanswered_faults c t b = record {
  load = λ op rd address e. ap (λ (o : Option Accessed). finish_load o op rd c t b) e;
  store = λ width address value e. ap (λ (o : Option Accessed). finish_store o c t b) e;
}

narrow_none : (width : Width) (op : Op) (address value : ℕ) (m : Memory) → (width ≡ Double → ⊥) → access_device op width address value m ≡ None
narrow_none Double op address value m other = absurd (other refl)
narrow_none _ op address value m other = refl

pub who_answers_none : WhoAnswersNone
unfolding touch
who_answers_none op address value m = record {
  narrow = λ width other. narrow_none width op address value m other;
  no_register = λ e. ap (λ (o : Option (ℕ × ℕ)). touch_register o op value m) e;
  no_device = λ i r e none. ap (λ (o : Option (ℕ × ℕ)). touch_register o op value m) e ∙ ap (λ (o : Option Attached). touch_device o i op r value m) none;
  no_answer = λ i r device e there none.
      ap (λ (o : Option (ℕ × ℕ)). touch_register o op value m) e
      ∙ ap (λ (o : Option Attached). touch_device o i op r value m) there
      ∙ ap (λ (o : Option ℕ). answered_by o i (touched device.kind op r value device.words) m) none;
}

pub loads_touch : LoadsTouch
unfolding finish
loads_touch op rd address c t b access e = ap (λ (o : Option Accessed). (finish_load o op rd c t b).memory) e
