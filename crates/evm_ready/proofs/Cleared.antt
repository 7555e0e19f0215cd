-- Queues that are empty.
use Rattle.std.proofs.Common.{◌≡◌, ℕ, ◌<◌, ◌≤◌, ◌*◌, List, [], length, replicate, refl, ◌∙◌, arith}
use Rattle.std.specs.Prelude.{slice_get}
use Rattle.evm_model.proofs.Lists.{slice_get-below}
use Rattle.evm_ready.specs.Queues.{AreEmpty, AreQueued, IsBitmap, use_bit}
use Rattle.evm_ready.proofs.Filing.{bit_of-zero}

-- no bit is set
pub bitmap_clear : (queues : List (List ℕ)) → length queues ≤ 32 * 64 → AreEmpty queues 0 (length queues) → IsBitmap (replicate 32 0) queues
bitmap_clear queues enough empty = record {
  enough = enough;
  bits = λ q queue at.
      let is : queue ≡ [] = empty q queue (omega arith) (slice_get-below queues q queue at) at in
      bit_of-zero 32 q ∙ rw is refl;
}

-- no task is in them
pub none_queued : (queues : List (List ℕ)) → AreEmpty queues 0 (length queues) → AreQueued [] queues
none_queued queues empty = record {
  queued = λ q queue at.
      let is : queue ≡ [] = empty q queue (omega arith) (slice_get-below queues q queue at) at in
      rw is (record { in_order = tt; members = λ t. refl });
}
