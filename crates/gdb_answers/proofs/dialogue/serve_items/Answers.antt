use Rattle.std.proofs.Common.{◌≡◌, ℕ, List, [], ◌∷◌, ◌++◌, true, inl, refl, rules}
use Rattle.gdb_tape.proofs.Keeping.{keeps_same, keeps_more}
use Rattle.gdb_answers.specs.Turns.{none}
use Rattle.gdb_answers.proofs.Turning.{serves_more}
use Rattle.gdb_answers.proofs.Turns.{item_shorter}
use Rattle.gdb_answers.proofs.dialogue.serve_items.Goals as goal

pub items-init : goal.items-init
items-init g c = record { kept = keeps_same _; items = []; served = none }

pub items-smaller : goal.items-smaller
items-smaller g c = let turn = rw c.in-Ok-Some.field-0-is at c.in-Ok-Some.ensures.turn in item_shorter turn.0 c.in-Ok-Some.after.now c.items.rest.now turn.1.next

pub items-preserved : goal.items-preserved
items-preserved g c =
    let before = c.items.invariant in
    let turn = rw c.in-Ok-Some.field-0-is at c.in-Ok-Some.ensures.turn in record {
      kept = keeps_more _ _ _ before.kept c.in-Ok-Some.ensures.kept;
      items = before.items ++ turn.0 ∷ [];
      served = serves_more g.W.Sink.takes _ _ _ before.items turn.0 before.served turn.1;
    }

pub returns-in-Ok-None-clause-all : goal.returns-in-Ok-None-clause-all
returns-in-Ok-None-clause-all g c = record {
  items = c.items.invariant.items;
  at = record { session = c.items.session; heard = c.items.rest.now; last = c.items.exchange.response.out.items; sink = c.items.sink };
  serves = c.items.invariant.served;
  rests = rw c.in-Ok-None.field-0-is at c.in-Ok-None.ensures.turn;
  left = refl;
}

pub returns-clause-all : goal.returns-clause-all
returns-clause-all g c =
    let over : c.items.session.over ≡ true = search rules in record {
      items = c.items.invariant.items;
      at = record { session = c.items.session; heard = c.items.rest.now; last = c.items.exchange.response.out.items; sink = c.items.sink };
      serves = c.items.invariant.served;
      rests = inl (inl over, refl);
      left = refl;
    }
