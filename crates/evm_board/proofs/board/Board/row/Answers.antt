use Rattle.std.proofs.Common.{◌∙◌, sym, ap}
use Rattle.evm_model.specs.Event.{event_lent}
use Rattle.evm_model.specs.Refusals.{board_refusal}
use Rattle.evm_model.specs.declared.event.Event.TheVariants.{Break}
use Rattle.evm_model.specs.declared.refusal.Refusal.TheVariants.{NoSlot}
use Rattle.law_rules.proofs.Refused.{passes}
use Rattle.evm_board.proofs.board.Board.row.Goals as goal

pub set_breakpoint-requires-after_bounds : goal.set_breakpoint-requires-after_bounds
set_breakpoint-requires-after_bounds g c κs within =
    passes (Break c.in-Break.address) c.args.self.now NoSlot (ap (λ event. board_refusal (event_lent event) c.args.self.now) (sym c.in-Break.is) ∙ c.requires.accepted)
