use Rattle.std.proofs.Common.{ap, arith, inl, inr, refl}
use Rattle.evm_lines.specs.declared.TheConstants.{LINES}
use Rattle.evm_model.specs.declared.boot.Boot.{Boot}
use Rattle.evm_shared.proofs.Bells.{bells_counted}
use Rattle.evm_shared.proofs.Counting.{begins_more, counted_more, book_fits}
use Rattle.evm_shared.proofs.Histories.{made_more}
use Rattle.evm_shared.proofs.Locks.{booted_as, cpus_opened}
use Rattle.evm_shared.specs.declared.receipt.Made.TheVariants.{Bells}
use Rattle.evm_shared.proofs.locked.Locked.deliver.Goals.{then-cpu-cpu_count-via-then-cpu-cpu_count, then-cpu-cpu_count-via-else-cpu-cpu_count+then-cpu-cpus}
use Rattle.evm_shared.proofs.locked.Locked.deliver.Goals as goal

pub returns-then-cpu-cpu_count-clause-refused : goal.returns-then-cpu-cpu_count-clause-refused
returns-then-cpu-cpu_count-clause-refused g c =
    let same = cpus_opened g.O.Origin.start g.O.Origin.machine c.self.inside.machine c.rules.ensures.good c.self.invariant.replays c.self.invariant.opened in
    elim c.then-cpu-cpu_count.branch [
      | then-cpu-cpu_count-via-then-cpu-cpu_count w ↦ inr (refl, inl (omega (arith, same, c.cpu_count.ensures.count, w.if-cpu-cpu_count.true)))
      | then-cpu-cpu_count-via-else-cpu-cpu_count+then-cpu-cpus w ↦ inr (refl, inr (omega (arith, w.cpus.ensures, w.if-cpu-cpus.true)))
    ]

pub ring_all-count-requires-clause-profile : goal.ring_all-count-requires-clause-profile
ring_all-count-requires-clause-profile g c =
    let i = c.self.invariant in
    omega (arith, i.lines, ap (λ (b : Boot). b.profile) (booted_as g.O.Origin.start c.self.inside.machine i.replays))

pub count-requires : goal.count-requires
count-requires g c =
    let i = c.self.invariant in
    let e = c.ring_all-count.ensures in
    let more = bells_counted c.args.cpu c.take-word.result c.ring_all-count.result LINES c.bells.result c.bells.ensures e.count in
    let counted = counted_more g.O.Origin.base c.self.inside.books c.bells.result c.self.inside.machine.journal c.ring_all-count.new.machine.journal _ i.counted e.journaled more in
    record { fits = book_fits g.O.Origin.base _ c.ring_all-count.new.machine.journal counted (omega (arith, c.event_count-count.ensures, c.event_count-count.type_inv)) }

pub invariant_of-self : goal.invariant_of-self
invariant_of-self g c =
    let i = c.self.invariant in
    let e = c.ring_all-count.ensures in
    let more = bells_counted c.args.cpu c.take-word.result c.ring_all-count.result LINES c.bells.result c.bells.ensures e.count in
    let counted = counted_more g.O.Origin.base c.self.inside.books c.bells.result c.self.inside.machine.journal c.ring_all-count.new.machine.journal _ i.counted e.journaled more in record {
      replays = e.replays g.O.Origin.start i.replays;
      lines = i.lines;
      counted = rw c.count.ensures.book counted;
      begins = begins_more g.O.Origin.base c.self.inside.books c.self.inside.machine.journal c.ring_all-count.new.machine.journal _ i.counted i.begins e.journaled;
      opened = i.opened;
      made = made_more g.O.Origin.start g.O.Origin.machine c.self.inside.machine c.ring_all-count.new.machine c.self.inside.history c.append.new.history (Bells c.args.cpu c.take-word.result) i.opened i.made
          (e.replays g.O.Origin.start i.replays) e.journaled c.append.ensures.history;
    }
