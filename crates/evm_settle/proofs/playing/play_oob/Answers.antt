use Rattle.std.proofs.Common.{ap, ◌∙◌}
use Rattle.evm_model.specs.State.{Parts}
use Rattle.evm_settle.proofs.Rooms.{act-clock, tick-clock}
use Rattle.evm_settle.proofs.playing.play_oob.Goals as goal

pub returns-then-line-eq0-clause-clock : goal.returns-then-line-eq0-clause-clock
returns-then-line-eq0-clause-clock c = ap (λ (k : Parts). k.ticks) c.play_tick.ensures.row ∙ tick-clock _ _ _ ∙ ap (λ (k : Parts). k.ticks) c.play.ensures

pub returns-else-line-eq0-clause-clock : goal.returns-else-line-eq0-clause-clock
returns-else-line-eq0-clause-clock c = ap (λ (k : Parts). k.ticks) c.act.ensures.row ∙ act-clock _ _ _ ∙ ap (λ (k : Parts). k.ticks) c.play.ensures
