use Rattle.claims_threads.proofs.Taken.{committed}
use Rattle.claims_threads.proofs.taking.a_commit_says_no_bell.Goals as goal

pub returns-clause-lines : goal.returns-clause-lines
returns-clause-lines g c = (committed g.O.Origin.machine c.args.cpu c.args.burst.now c.commit.result c.args.port.now c.commit.new.port c.commit.ensures.call).0

pub returns-clause-bells : goal.returns-clause-bells
returns-clause-bells g c =
    let quiet = committed g.O.Origin.machine c.args.cpu c.args.burst.now c.commit.result c.args.port.now c.commit.new.port c.commit.ensures.call in
    (quiet.1, quiet.2)
