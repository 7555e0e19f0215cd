use Rattle.std.proofs.Common.{◌≡◌, ◌∙◌, ap, sym, subst, arith}
use Rattle.evm_model.specs.State.{State}
use Rattle.evm_shared.specs.EventCounts.{kind_counts}
use Rattle.evm_command.proofs.Turning.{loses, not_made}
use Rattle.evm_command.specs.Workers.{HaveTurned}
use Rattle.evm_command.proofs.sharing.share.Goals as goal

pub returns : goal.returns
returns g c =
    let done = c.in-Ok-finish.finished in
    let start : kind_counts g.O.Origin.start.journal ≡ g.O.Origin.base = ap (λ (s : State). kind_counts s.journal) (sym c.requires.start) ∙ c.requires.base in
    let turned : HaveTurned g.O.Origin.start c.args.turns c.in-Some.ports.items = subst (λ (s : State). HaveTurned s c.args.turns c.in-Some.ports.items) (sym c.requires.machine ∙ c.requires.start) c.in-Some.ensures.turns in (
      done.machine,
      record { replays = c.in-Ok-finish.ensures.machine.0; written = c.in-Ok-write_journal.ensures.written },
      record {
        room = omega arith;
        why = loses c.args.turns g.O.Origin.start done.machine g.O.Origin.base done.totals c.in-Some.ports.items start c.in-Ok-finish.ensures.machine.1 c.in-Ok-finish.ensures.totals
            (not_made c.have_made.result c.args.turns done.totals c.have_made.ensures c.if-have_made.false) turned;
      },
    )
