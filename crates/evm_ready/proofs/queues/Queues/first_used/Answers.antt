use Rattle.std.proofs.Common.{◌≡◌, ◌*◌, ◌<◌, ◌≤◌, ◌∙◌, ℕ, List, Some, None, [], sym, arith}
use Rattle.std.specs.Prelude.{slice_get, IfSome, IfNone, Option}
use Rattle.evm_ready.specs.Queues.{AreEmpty, IsBitmap, bit_of}
use Rattle.evm_ready.proofs.Filing.{empty-use}
use Rattle.evm_ready.proofs.queues.Queues.first_used.Goals as goal

empty-from : (words : List ℕ) (queues : List (List ℕ)) (from to : ℕ) → IsBitmap words queues → ((p : ℕ) → from ≤ p → p < to → bit_of words p ≡ 0) → AreEmpty queues from to
empty-from words queues from to is none q queue above below at = empty-use queue (sym (is.bits q queue at) ∙ none q above below)

least : (words : List ℕ) (queues : List (List ℕ)) (from : ℕ) (found : Option ℕ) → IsBitmap words queues
    → IfSome found (λ q. (p : ℕ) → from ≤ p → p < q → bit_of words p ≡ 0) → IfSome found (λ q. AreEmpty queues from q)
least words queues from None is h = h
least words queues from (Some q) is h = empty-from words queues from q is h

used : (words : List ℕ) (queues : List (List ℕ)) (found : Option ℕ) → IsBitmap words queues
    → IfSome found (λ q. bit_of words q ≡ 1) → IfSome found (λ q. (slice_get queues q ≡ Some []) → ⊥)
used words queues None is h = h
used words queues (Some q) is h = λ at. let bit : bit_of words q ≡ 0 = is.bits q [] at in absurd (omega (arith, bit, h))

none : (words : List ℕ) (queues : List (List ℕ)) (from to : ℕ) (found : Option ℕ) → IsBitmap words queues
    → IfNone found ((p : ℕ) → from ≤ p → p < to → bit_of words p ≡ 0) → IfNone found (AreEmpty queues from to)
none words queues from to None is h = empty-from words queues from to is h
none words queues from to (Some q) is h = h

pub returns-clause-least : goal.returns-clause-least
returns-clause-least c =
    rw (← c.self.view_is) (least c.self.inside.words c.self.inside.queues.items (c.args.from * 64) c.first_bit.result c.self.invariant
    c.first_bit.ensures.least)

pub returns-clause-used : goal.returns-clause-used
returns-clause-used c =
    rw (← c.self.view_is) (used c.self.inside.words c.self.inside.queues.items c.first_bit.result c.self.invariant
    c.first_bit.ensures.set)

pub returns-clause-none : goal.returns-clause-none
returns-clause-none c =
    rw (← c.self.view_is) (none c.self.inside.words c.self.inside.queues.items (c.args.from * 64) (c.args.to * 64) c.first_bit.result c.self.invariant
    c.first_bit.ensures.none)
