use Rattle.std.proofs.Common.{◌≡◌, ◌+◌, ◌-◌, ◌<◌, ◌∙◌, sym, ap, Some, length, rules, arith}
use Rattle.std.proofs.lemmas.Grind.{common_steps}
use Rattle.evm_ram.proofs.Places.{cond_none, poke_at-no_bytes, poke_at-outside, poke_at-inside, within, overwritten-copy}
use Rattle.evm_ram.proofs.Written.{poked_elsewhere}
use Rattle.evm_ram.specs.Laws.{cond_some, length-overwritten}
use Rattle.evm_ram.proofs.ram.Ram.poke.Goals as goal

pub returns-then-is_empty-clause-poked : goal.returns-then-is_empty-clause-poked
returns-then-is_empty-clause-poked c = poke_at-no_bytes _ _ _ (grind (arith, common_steps))

pub returns-in_err-start-clause-poked : goal.returns-in_err-start-clause-poked
returns-in_err-start-clause-poked c =
    let outside = cond_none _ _ (sym c.place.ensures ∙ c.in_err-start.was) in
    rw c.from_residual.ensures (poke_at-outside _ _ _ outside)

pub returns-clause-poked : goal.returns-clause-poked
returns-clause-poked c =
    let some : 0 < length c.args.bytes.now = grind (arith, common_steps) in
    let inside = cond_some _ _ _ (sym c.place.ensures ∙ c.in_ok-start.was) in
    let items : c.self.inside.bytes.items.items ≡ c.args.self.now = c.self.view_is in
    let held = c.deref_mut.ensures.value ∙ items in
    let long : c.self.inside.bytes.items.len ≡ length c.args.self.now = sym c.deref_mut.ensures.len ∙ ap length held in
    let fits = within c.args.self.now c.args.address (length c.args.bytes.now) inside.0 some in
    let part : length c.args.bytes.now ≡ c.in_ok-start.start + length c.args.bytes.now - c.in_ok-start.start = omega arith in
    rw (c.copy_from_slice.ensures.after, held, items)
    (poke_at-inside _ _ _ _ inside.0 inside.1
    ∙ ap Some (sym (overwritten-copy c.args.self.now c.args.bytes.now c.in_ok-start.start _ (omega arith) long _ part)))

pub invariant_of-self : goal.invariant_of-self
invariant_of-self c =
    let some : 0 < length c.args.bytes.now = grind (arith, common_steps) in
    let inside = cond_some _ _ _ (sym c.place.ensures ∙ c.in_ok-start.was) in
    let items : c.self.inside.bytes.items.items ≡ c.args.self.now = c.self.view_is in
    let held = c.deref_mut.ensures.value ∙ items in
    let long : c.self.inside.bytes.items.len ≡ length c.args.self.now = sym c.deref_mut.ensures.len ∙ ap length held in
    let fits = within c.args.self.now c.args.address (length c.args.bytes.now) inside.0 some in
    let part : length c.args.bytes.now ≡ c.in_ok-start.start + length c.args.bytes.now - c.in_ok-start.start = omega arith in
    let put = overwritten-copy c.args.self.now c.args.bytes.now c.in_ok-start.start c.self.inside.bytes.items.len (omega arith) long _ part in
    let size = length-overwritten c.args.self.now c.in_ok-start.start c.args.bytes.now (omega arith) in
    rw (c.copy_from_slice.ensures.after, held, items, put, size, c.mark.ensures.shift)
    (search rules, (search rules, search rules, search rules), poked_elsewhere _ _ _ _ _ _ (search rules) (omega arith) c.mark.ensures.these c.mark.ensures.others)
