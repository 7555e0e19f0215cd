-- the items before what is left are answered
use Rattle.std.proofs.Common.{List, length}
use Rattle.gdb_packets.specs.Items.{Item}
use Rattle.gdb_tape.specs.Tape.{KeepsTape}
use Rattle.gdb_answers.specs.Turns.{Serves, Standing}
use Rattle.gdb_answers.proofs.dialogue.serve_items.Given as goal

abbrev pub invariant-items : goal.invariant-items
invariant-items g l = record {
  kept : KeepsTape l.fn.session.tape l.session.tape;
  items : List Item;
  served : Serves g.W.Sink.takes (record { session = l.fn.session; heard = l.fn.bytes; last = l.fn.exchange.response.out.items; sink = l.fn.sink })
      items (record { session = l.session; heard = l.rest; last = l.exchange.response.out.items; sink = l.sink });
}

abbrev pub decreases-items : goal.decreases-items
decreases-items g l = length l.rest
