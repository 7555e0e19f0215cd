use Rattle.std.proofs.Common.{◌≡◌, ℕ, List, Option, Some, None, slice_get, refl, ap, ◌∙◌}
use Rattle.evm_model.specs.Mutexes.{owner_of}
use Rattle.evm_model.specs.declared.mutex.Mutex.{Mutex}
use Rattle.claims_machine.proofs.order.a_task_that_ends_passes_its_mutexes_by_number.Goals as goal

owned_by : (t m : ℕ) (mutexes : List Mutex) (o : Option Mutex) → slice_get mutexes m ≡ o → owner_of o ≡ Some t → (mutex : Mutex) × ((slice_get mutexes m ≡ Some mutex) × (mutex.owner ≡ Some t))
owned_by t m mutexes None e h = cc
owned_by t m mutexes (Some mutex) e h = (mutex, (e, h))

pub returns : goal.returns
returns g c t state k =
    let p = g.goes_in_order.ensures.passes c t state k in (
      p.owned,
      (
        p.in_order.rising,
        λ m. (
          (λ h. owned_by t m k.mutexes (slice_get k.mutexes m) refl ((p.in_order.members m).0 h)),
          (λ x. (p.in_order.members m).1 (ap owner_of x.1.0 ∙ x.1.1)),
        ),
        p.passes,
      ),
    )
