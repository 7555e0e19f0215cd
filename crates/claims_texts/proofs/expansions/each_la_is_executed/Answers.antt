use Rattle.claims_texts.proofs.Executing.{each_la_is_executed}
use Rattle.claims_texts.proofs.expansions.each_la_is_executed.Goals as goal

pub returns : goal.returns
returns c = each_la_is_executed c.decoded_by_table.ensures c.all_that_is_meant_stands.ensures c.lines_are_worded.ensures c.each_la_loads.ensures
