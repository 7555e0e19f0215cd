use Rattle.std.proofs.Common.{◌≡◌, ◌∙◌, ℕ, length, ap, subst}
use Rattle.std.specs.Prelude.{slice_index_or}
use Rattle.evm_shared.specs.Workers.{HasTurned}
use Rattle.evm_command.proofs.Turning.{have_turned, turned, written_back}
use Rattle.evm_command.proofs.sharing.work.Goals as goal

pub returns-clause-turns : goal.returns-clause-turns
returns-clause-turns g c =
    let start = g.O.Origin.machine in
    let old = c.as_mut_slice.result.now in
    let new = c.run.new.workers in
    let made = turned start c.args.turns old new c.run.ensures.count
    (λ i d below. subst (λ (n : ℕ). HasTurned start n c.args.turns (slice_index_or old i d) (slice_index_or new i d)) c.in-Ok.ensures.cpus (c.run.ensures.turns i d below)) in
    let two : length new ≡ 2 = c.run.ensures.count ∙ ap length c.as_mut_slice.ensures.value ∙ c.in_ok-workers.ensures.count in
    have_turned c.ports_of.result (λ ports. ports.items) start c.args.turns new _ c.ports_of.ensures.all c.ports_of.ensures.steps
    (written_back _ _ _ (c.run.ensures.count ∙ c.as_mut_slice.ensures.len)) two made
