use Rattle.std.proofs.Common.{sym, ap, ◌∙◌, arith}
use Rattle.std.proofs.lemmas.Nat.{one_shl}
use Rattle.evm_bells.specs.Seats.{RingerValue, BellsValue}
use Rattle.evm_bells.proofs.Steps.{rings}
use Rattle.evm_bells.proofs.bells.Bells.ring.Goals as goal

pub fetch_or-found-requires : goal.fetch_or-found-requires
fetch_or-found-requires c =
    let r = c.requires in
    let i = c.self.invariant in
    let table = c.self.inside.table.shared in
    let cpus = ap (λ (b : BellsValue). b.cpus) c.self.view_is in
    let seat = c.ringer.inside.seat in (
      ap (λ (x : RingerValue). x.bells) c.ringer.view_is ∙ r.bells ∙ sym (ap (λ (b : BellsValue). b.id) c.self.view_is),
      omega (arith, i.worded),
      rings table.key table.table_id.slots seat.id c.args.cpu c.args.line _ seat.me (one_shl c.args.line 64 (omega (arith, r.place.1))) (omega (arith, i.keyed)) r.place.1 (rw c.ringer.invariant.weighs c.ringer.invariant.any),
    )
