use Rattle.claims_threads.proofs.Answered.{commit_full, commit_made, commit_seen}
use Rattle.claims_threads.proofs.calls.a_commit_is_answered_by_all_calls_before_it.Goals as goal

pub returns-clause-seen : goal.returns-clause-seen
returns-clause-seen g c = commit_seen g.O.Origin.machine c.args.cpu c.args.burst.now c.commit.result c.args.port.now c.commit.new.port c.commit.ensures.call

pub returns-clause-made : goal.returns-clause-made
returns-clause-made g c = commit_made g.O.Origin.machine c.args.cpu c.args.burst.now c.commit.result c.args.port.now c.commit.new.port c.commit.ensures.call

pub returns-clause-full : goal.returns-clause-full
returns-clause-full g c = commit_full g.O.Origin.machine c.args.cpu c.args.burst.now c.commit.result c.args.port.now c.commit.new.port c.commit.ensures.call
