-- the session went so far
use Rattle.gdb_tape.specs.Tape.{KeepsTape}
use Rattle.gdb_answers.proofs.Turns.{Gone}
use Rattle.gdb_answers.proofs.dialogue.serve_gdb.Given as goal

abbrev pub invariant-parts : goal.invariant-parts
invariant-parts g l = record {
  kept : KeepsTape l.fn.session.tape l.session.tape;
  gone : Gone g.R.Source.gives g.W.Sink.takes l._part l.fn.source (record { session = l.fn.session; heard = l.fn.dialogue.heard.items; last = l.fn.dialogue.exchange.response.out.items; sink = l.fn.sink })
      l.source (record { session = l.session; heard = l.dialogue.heard.items; last = l.dialogue.exchange.response.out.items; sink = l.sink });
}
