-- How far one more change of a line lets its counts grow.
use Rattle.std.proofs.Common.{◌≡◌, ℕ, ◌+◌, ◌-◌, ◌≤◌, Some, inl, inr, arith}
use Rattle.std.specs.Prelude.{slice_get}
use Rattle.evm_model.specs.Bounds.{COUNT_LIMIT, PassageUpTo, UpTo, PipeUpTo}
use Rattle.evm_model.specs.Pipes.{Pipe, leave_wire, count_receipt}
use Rattle.evm_model.specs.declared.counts.Counts.{Counts}
use Rattle.evm_model.specs.declared.counts.Passage.{Passage}
use Rattle.evm_model.proofs.Lists.{change-cases}

PassageUpTo-more : (a b : ℕ) (n : Passage) → a ≤ b → PassageUpTo a n → PassageUpTo b n
PassageUpTo-more a b n h x = record { arrivals = omega arith; merged = omega arith; played = omega arith }

UpTo-more : (a b : ℕ) (n : Counts) → a ≤ b → UpTo a n → UpTo b n
UpTo-more a b n h x = record {
  raised = omega arith;
  merged = omega arith;
  received = omega arith;
  oob = PassageUpTo-more a b n.oob h x.oob;
  in_band = PassageUpTo-more a b n.in_band h x.in_band;
}

UpTo-receipt : (a : ℕ) (n : Counts) → UpTo a n → UpTo (a + 1) (count_receipt n)
UpTo-receipt a n x = record {
  raised = omega arith;
  merged = omega arith;
  received = omega arith;
  oob = PassageUpTo-more a (a + 1) n.oob (omega arith) x.oob;
  in_band = PassageUpTo-more a (a + 1) n.in_band (omega arith) x.in_band;
}

pub PipeUpTo-leave_wire : (a l : ℕ) (p : Pipe) → PipeUpTo a p → PipeUpTo (a + 1) (leave_wire l p)
unfolding leave_wire
PipeUpTo-leave_wire a l p h = record {
  lines = λ m n e. elim (change-cases count_receipt p.counts l m n e) [
    | inl g ↦ rw g.3 (UpTo-receipt a g.1 (h.lines l g.1 g.2))
    | inr g ↦ UpTo-more a (a + 1) n (omega arith) (h.lines m n g.1)
  ];
}

-- with one to spare
pub PipeUpTo-left : (l : ℕ) (p : Pipe) → PipeUpTo (COUNT_LIMIT - 1) p → PipeUpTo COUNT_LIMIT (leave_wire l p)
PipeUpTo-left l p h = PipeUpTo-leave_wire (COUNT_LIMIT - 1) l p h

pub ruleset leave_wire_grows = (PipeUpTo-left)
