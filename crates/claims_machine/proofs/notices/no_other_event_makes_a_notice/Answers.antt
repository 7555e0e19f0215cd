use Rattle.claims_machine.proofs.Others.{notices_stand}
use Rattle.claims_machine.proofs.notices.no_other_event_makes_a_notice.Goals as goal

pub returns : goal.returns
returns c old new event answer e step = notices_stand event old.board new.board step (c.events_change_only.ensures old new event answer e).board
