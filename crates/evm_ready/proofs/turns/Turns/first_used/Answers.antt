use Rattle.std.proofs.Common.{◌≡◌, ◌*◌, ◌<◌, ◌≤◌, ◌∙◌, ℕ, List, [], ◌∷◌, Option, Some, None, true, length, arith, refl, sym}
use Rattle.std.specs.Prelude.{slice_get, IfSome, IfNone}
use Rattle.evm_model.proofs.Lists.{slice_get-within}
use Rattle.evm_ready.specs.declared.turn.Turn.{Turn}
use Rattle.evm_ready.specs.Queues.{is_in, AreEmpty, AreQueued, NoneIn}
use Rattle.evm_ready.proofs.Members.{has-at}
use Rattle.evm_ready.proofs.turns.Turns.first_used.Goals as goal

none-in : (turns : List Turn) (queues : List (List ℕ)) (from to : ℕ) → AreQueued turns queues → to ≤ length queues → AreEmpty queues from to → NoneIn turns from to
none-in turns queues from to are within empty q t above below =
    let there = slice_get-within queues q (omega arith) in
    let is : there.0 ≡ [] = empty q there.0 above below there.1 in
    sym ((are.queued q there.0 there.1).members t) ∙ rw is refl

least : (turns : List Turn) (queues : List (List ℕ)) (from to : ℕ) (found : Option ℕ) → AreQueued turns queues → to ≤ length queues
    → IfSome found (λ q. q < to) → IfSome found (λ q. AreEmpty queues from q) → IfSome found (λ q. NoneIn turns from q)
least turns queues from to None are within below h = h
least turns queues from to (Some q) are within below h = none-in turns queues from q are (omega arith) h

someone : (turns : List Turn) (queues : List (List ℕ)) (q : ℕ) (queue : List ℕ) → AreQueued turns queues → slice_get queues q ≡ Some queue → ((slice_get queues q ≡ Some []) → ⊥)
    → (t : ℕ) × (is_in turns q t ≡ true)
someone turns queues q [] are at some = absurd (some at)
someone turns queues q (t ∷ queue) are at some = (t, sym ((are.queued q (t ∷ queue) at).members t) ∙ has-at (t ∷ queue) 0 t refl)

used : (turns : List Turn) (queues : List (List ℕ)) (to : ℕ) (found : Option ℕ) → AreQueued turns queues → to ≤ length queues
    → IfSome found (λ q. q < to) → IfSome found (λ q. (slice_get queues q ≡ Some []) → ⊥) → IfSome found (λ q. (t : ℕ) × (is_in turns q t ≡ true))
used turns queues to None are within below h = h
used turns queues to (Some q) are within below h = let there = slice_get-within queues q (omega arith) in someone turns queues q there.0 are there.1 h

none : (turns : List Turn) (queues : List (List ℕ)) (from to : ℕ) (found : Option ℕ) → AreQueued turns queues → to ≤ length queues
    → IfNone found (AreEmpty queues from to) → IfNone found (NoneIn turns from to)
none turns queues from to None are within h = none-in turns queues from to are within h
none turns queues from to (Some q) are within h = h

pub returns-clause-least : goal.returns-clause-least
returns-clause-least c =
    let within : c.args.to * 64 ≤ length c.self.inside.queues = rw (← c.self.view_is) at c.requires in
    rw (← c.self.view_is) (least c.self.inside.turns.items c.self.inside.queues (c.args.from * 64) (c.args.to * 64) c.first_used.result c.self.invariant within
    c.first_used.ensures.below c.first_used.ensures.least)

pub returns-clause-used : goal.returns-clause-used
returns-clause-used c =
    let within : c.args.to * 64 ≤ length c.self.inside.queues = rw (← c.self.view_is) at c.requires in
    rw (← c.self.view_is) (used c.self.inside.turns.items c.self.inside.queues (c.args.to * 64) c.first_used.result c.self.invariant within
    c.first_used.ensures.below c.first_used.ensures.used)

pub returns-clause-none : goal.returns-clause-none
returns-clause-none c =
    let within : c.args.to * 64 ≤ length c.self.inside.queues = rw (← c.self.view_is) at c.requires in
    rw (← c.self.view_is) (none c.self.inside.turns.items c.self.inside.queues (c.args.from * 64) (c.args.to * 64) c.first_used.result c.self.invariant within
    c.first_used.ensures.none)
