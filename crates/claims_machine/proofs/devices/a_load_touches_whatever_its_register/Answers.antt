use Rattle.claims_machine.proofs.devices.a_load_touches_whatever_its_register.Goals as goal

pub returns : goal.returns
returns c op rd address cpu t b access e = c.accesses_are_answered.ensures.loads op rd address cpu t b access e
