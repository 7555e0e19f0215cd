use Rattle.std.proofs.Common.{refl}
use Rattle.evm_model.specs.Commands.{tick}
use Rattle.evm_model.specs.Devices.{tick_devices, raise_by_ticks}
use Rattle.evm_model.specs.Refusals.{board_refusal}
use Rattle.evm_model.specs.Replay.{apply, replay}
use Rattle.evm_model.specs.Rows.{row}
use Rattle.evm_model.specs.State.{booted, booted_parts}
use Rattle.claims_machine.proofs.headline.a_machine_is_its_journals_replay.Goals as goal

pub returns-clause-two_ticks : goal.returns-clause-two_ticks
unfolding replay apply row board_refusal tick tick_devices raise_by_ticks booted booted_parts
returns-clause-two_ticks c ram = refl

pub returns-clause-one_fits : goal.returns-clause-one_fits
unfolding replay apply row board_refusal
returns-clause-one_fits c ram = refl
