use Rattle.std.proofs.Common.{ap, refl, sym, ◌∙◌, arith}
use Rattle.evm_shared.proofs.Counting.{begins_more, counts_steps, counted_more, book_fits}
use Rattle.evm_shared.proofs.Histories.{made_more}
use Rattle.evm_shared.proofs.Locks.{refuses}
use Rattle.evm_shared.proofs.Recorded.{records}
use Rattle.evm_shared.specs.Ports.{marked}
use Rattle.evm_shared.specs.declared.receipt.Made.TheVariants.{Steps}
use Rattle.evm_shared.proofs.locked.Locked.commit_into.Goals as goal

pub count-requires : goal.count-requires
count-requires g c =
    let i = c.self.invariant in
    let more = counts_steps c.commit_into.new.done.steps c.args.cpu ∙ sym c.steps.ensures in
    let counted = counted_more g.O.Origin.base c.self.inside.books c.steps.result c.self.inside.machine.journal c.commit_into.new.self.journal _ i.counted c.in-Ok.ensures.journaled more in
    record { fits = book_fits g.O.Origin.base _ c.commit_into.new.self.journal counted (omega (arith, c.event_count-count.ensures, c.event_count-count.type_inv)) }

pub invariant_of-self-in-Ok : goal.invariant_of-self-in-Ok
invariant_of-self-in-Ok g c =
    let i = c.self.invariant in
    let more = counts_steps c.commit_into.new.done.steps c.args.cpu ∙ sym c.steps.ensures in
    let counted = counted_more g.O.Origin.base c.self.inside.books c.steps.result c.self.inside.machine.journal c.commit_into.new.self.journal _ i.counted c.in-Ok.ensures.journaled more in record {
      replays = c.commit_into.ensures.replays g.O.Origin.start i.replays;
      lines = i.lines;
      counted = rw c.count.ensures.book counted;
      begins = begins_more g.O.Origin.base c.self.inside.books c.self.inside.machine.journal c.commit_into.new.self.journal _ i.counted i.begins c.in-Ok.ensures.journaled;
      opened = i.opened;
      made = made_more g.O.Origin.start g.O.Origin.machine c.self.inside.machine c.commit_into.new.self c.self.inside.history c.append.new.history (Steps c.args.cpu c.commit_into.new.done.steps) i.opened i.made
          (c.commit_into.ensures.replays g.O.Origin.start i.replays) c.in-Ok.ensures.journaled c.append.ensures.history;
    }

pub returns-in-Err-clause-refused : goal.returns-in-Err-clause-refused
returns-in-Err-clause-refused g c =
    refuses g.O.Origin.start g.O.Origin.machine c.self.inside.machine c.args.cpu c.in-Err.refusal c.rules.ensures.good c.self.invariant.replays c.self.invariant.opened c.in-Err.ensures.made

pub returns-in-Err-clause-call : goal.returns-in-Err-clause-call
returns-in-Err-clause-call g c = (
  c.self.inside.history,
  c.self.inside.machine,
  c.see.ensures.begins,
  c.self.invariant.made,
  (c.in-Err.ensures.made, c.mark.ensures ∙ ap (marked c.in-Err.refusal) c.see.ensures.all),
)

pub returns-in-Ok-clause-call : goal.returns-in-Ok-clause-call
returns-in-Ok-clause-call g c =
    let made = Steps c.args.cpu c.commit_into.new.done.steps in (
      c.self.inside.history,
      c.self.inside.machine,
      c.see.ensures.begins,
      c.self.invariant.made,
      (
        (c.commit_into.new.self, c.in-Ok.ensures.made.0, c.in-Ok.ensures.taken, c.in-Ok.ensures.made.1, c.in-Ok.ensures.answer, c.in-Ok.ensures.next, c.in-Ok.ensures.code),
        records c.self.inside.history c.self.inside.machine made made c.event_count-position.result c.steps.result _ c.args.port.now c.see.new.self c.count.new.self c.append.new.self c.record.new.self
            c.event_count-position.ensures refl c.steps.ensures c.see.ensures.all c.count.ensures.share c.append.ensures.port c.record.ensures,
      ),
    )
