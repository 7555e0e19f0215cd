use Rattle.hunt_search.proofs.switching.look_at.Goals as goal

pub returns-in-Ok-note-clause-searches : goal.returns-in-Ok-note-clause-searches
returns-in-Ok-note-clause-searches g c empty none first begins = c.in-Ok-run_branch.ensures.searches (c.in-Ok-note.ensures.none empty) none first begins
