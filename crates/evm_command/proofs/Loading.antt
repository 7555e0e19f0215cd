-- The machine that a run begins with.
use Rattle.std.proofs.Common.{◌≡◌, Bool, true, false, Some, None, Err, List}
use Rattle.std.specs.Prelude.{if◌then◌else◌}
use Rattle.evm_journal.specs.evm_core.Load.{load, load_unless}
use Rattle.evm_ram.specs.Images.{Contents}
use Rattle.evm_model.specs.Devices.{Attached}
use Rattle.evm_model.specs.Replay.{start}
use Rattle.evm_model.specs.State.{State}
use Rattle.evm_model.specs.declared.refusal.Refusal.{Refusal}
use Rattle.evm_model.specs.declared.refusal.Refusal.TheVariants.{BadAddress}
use Rattle.evm_command.specs.Workers.{run_boot, loaded_machine}

one_reason : (past : Bool) (image : Contents) (s : State) (why : Refusal) → load_unless (if past then Some BadAddress else None) image s ≡ Err why → why ≡ BadAddress
one_reason true image s why e = cc
one_reason false image s why e = cc

-- a machine that has had no event refuses an image for its addresses alone
pub bad_address : (devices : List Attached) (image : Contents) (why : Refusal) → loaded_machine devices image ≡ Err why → why ≡ BadAddress
unfolding load
bad_address devices image why e = one_reason _ image (start devices run_boot) why e
