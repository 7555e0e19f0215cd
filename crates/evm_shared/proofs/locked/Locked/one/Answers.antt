use Rattle.std.proofs.Common.{[], ◌∷◌, ◌++◌, ap, sym, ◌∙◌, arith}
use Rattle.evm_model.specs.Event.{event_lent}
use Rattle.evm_shared.proofs.Counting.{begins_more, counted_more, book_fits}
use Rattle.evm_shared.proofs.Histories.{made_more}
use Rattle.evm_shared.proofs.Recorded.{records}
use Rattle.evm_shared.specs.Ports.{marked}
use Rattle.evm_shared.specs.declared.receipt.Made.TheVariants.{One}
use Rattle.evm_shared.proofs.locked.Locked.one.Goals as goal

pub count-requires : goal.count-requires
count-requires g c =
    let i = c.self.invariant in
    let more = sym c.one.ensures in
    let counted = counted_more g.O.Origin.base c.self.inside.books c.one.result c.self.inside.machine.journal c.apply.new.self.journal _ i.counted c.in-Ok.ensures.journaled more in
    record { fits = book_fits g.O.Origin.base _ c.apply.new.self.journal counted (omega (arith, c.event_count-count.ensures, c.event_count-count.type_inv)) }

pub invariant_of-self-in-Ok : goal.invariant_of-self-in-Ok
invariant_of-self-in-Ok g c =
    let i = c.self.invariant in
    let more = sym c.one.ensures in
    let counted = counted_more g.O.Origin.base c.self.inside.books c.one.result c.self.inside.machine.journal c.apply.new.self.journal _ i.counted c.in-Ok.ensures.journaled more in record {
      replays = c.in-Ok.ensures.replays g.O.Origin.start i.replays;
      lines = i.lines;
      counted = rw c.count.ensures.book counted;
      begins = begins_more g.O.Origin.base c.self.inside.books c.self.inside.machine.journal c.apply.new.self.journal _ i.counted i.begins c.in-Ok.ensures.journaled;
      opened = i.opened;
      made = made_more g.O.Origin.start g.O.Origin.machine c.self.inside.machine c.apply.new.self c.self.inside.history c.append.new.history (One (event_lent c.args.event.now)) i.opened i.made
          (c.in-Ok.ensures.replays g.O.Origin.start i.replays) c.in-Ok.ensures.journaled (c.append.ensures.history ∙ ap (λ e. c.self.inside.history ++ One e ∷ []) c.copied.ensures);
    }

pub returns-in-Err : goal.returns-in-Err
returns-in-Err g c = (
  c.self.inside.history,
  c.self.inside.machine,
  c.see.ensures.begins,
  c.self.invariant.made,
  (c.in-Err.ensures.err, c.mark.ensures ∙ ap (marked c.in-Err.why) c.see.ensures.all),
)

pub returns-in-Ok : goal.returns-in-Ok
returns-in-Ok g c = (
  c.self.inside.history,
  c.self.inside.machine,
  c.see.ensures.begins,
  c.self.invariant.made,
  (
    (c.apply.new.self, c.in-Ok.ensures.ok),
    records c.self.inside.history c.self.inside.machine (One (event_lent c.args.event.now)) (One c.copied.result) c.event_count-position.result c.one.result _ c.args.port.now c.see.new.self c.count.new.self
        c.append.new.self c.record.new.self c.event_count-position.ensures (ap One c.copied.ensures) c.one.ensures c.see.ensures.all c.count.ensures.share c.append.ensures.port c.record.ensures,
  ),
)
