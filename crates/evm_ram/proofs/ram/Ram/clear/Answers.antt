use Rattle.std.proofs.Common.{◌≡◌, ◌++◌, take, drop, length, replicate, sym, ap, ◌∙◌, rules, arith}
use Rattle.std.proofs.lemmas.List.{length-replicate, take_at}
use Rattle.evm_ram.proofs.Written.{all_zero}
use Rattle.evm_ram.proofs.ram.Ram.clear.Goals as goal

pub invariant_of-self : goal.invariant_of-self
invariant_of-self c =
    let items = c.self.view_is in
    let held = c.deref_mut.ensures.value ∙ items in
    let count = ap length held in
    let whole : take c.self.inside.bytes.items.len (c.clear_all.new.bytes ++ drop (length c.clear_all.new.bytes) c.self.inside.bytes.items.items) ≡ replicate (length c.args.self.now) 0 =
    rw (c.clear_all.ensures, count) (take_at _ _ _ (length-replicate (length c.args.self.now) 0 ∙ search rules)) in
    rw (whole, length-replicate) (search rules, (search rules, search rules, search rules), all_zero _ (length c.args.self.now) _ _ (search rules))
