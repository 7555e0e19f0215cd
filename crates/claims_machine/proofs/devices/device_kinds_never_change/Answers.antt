use Rattle.claims_machine.proofs.devices.device_kinds_never_change.Goals as goal

pub returns : goal.returns
returns c s events = (c.sizes_stay.ensures s events).sizes.devices
