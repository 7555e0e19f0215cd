use Rattle.claims_machine.proofs.devices.an_unanswered_access_faults.Goals as goal

pub returns-clause-load : goal.returns-clause-load
returns-clause-load c op rd address cpu t b e = (c.accesses_are_answered.ensures.faults cpu t b).load op rd address e

pub returns-clause-store : goal.returns-clause-store
returns-clause-store c width address value cpu t b e = (c.accesses_are_answered.ensures.faults cpu t b).store width address value e

pub returns-clause-narrow : goal.returns-clause-narrow
returns-clause-narrow c op width address value m other = (c.accesses_are_answered.ensures.none op address value m).narrow width other

pub returns-clause-no_register : goal.returns-clause-no_register
returns-clause-no_register c op address value m e = (c.accesses_are_answered.ensures.none op address value m).no_register e

pub returns-clause-no_device : goal.returns-clause-no_device
returns-clause-no_device c op address value i r m e none = (c.accesses_are_answered.ensures.none op address value m).no_device i r e none

pub returns-clause-no_answer : goal.returns-clause-no_answer
returns-clause-no_answer c op address value i r device m e there none = (c.accesses_are_answered.ensures.none op address value m).no_answer i r device e there none
