use Rattle.std.proofs.Common.{ap, ◌∙◌, arith}
use lib.ListN.{get_elem?}
use Rattle.evm_bells.specs.Seats.{BellsValue}
use Rattle.evm_bells.proofs.Steps.{answers, settles, read_words}
use Rattle.evm_bells.proofs.bells.Bells.left.Goals as goal

pub returns : goal.returns
returns c =
    let i = c.self.invariant in
    let cpus = ap (λ (b : BellsValue). b.cpus) c.self.view_is in
    let last = c.close_with-closed.ensures.values.2 in
    let state = last.0 in
    let kept = last.1.0 in
    let at = last.1.1 in
    let loop = c.loop-cpu.invariant in
    let words = read_words state.words c.loop-cpu.left c.self.inside.table.shared.key kept.sized (λ k below. ap (λ ws. get_elem? ws k) last.2 ∙ loop.read k (omega (arith, i.keyed, c.loop-cpu-test.false))) (λ k past. loop.rest k (omega (arith, i.keyed, c.loop-cpu.auto.cpu-end))) in record {
      balance = settles c.self.inside.table.shared.key state.words c.loop-cpu.left state.views c.args.seat.id c.args.seat.me.0 kept at (omega (arith, c.requires.all, cpus, i.keyed)) words;
      answered = answers c.self.inside.table.shared.key state.words c.loop-cpu.left state.views c.args.seat.id c.args.seat.me.0 kept at (omega (arith, c.requires.all, cpus, i.keyed)) words;
    }
