use Rattle.std.proofs.Common.{◌≡◌, ◌∷◌, ◌++◌, [], Ok, ap, subst, sym, ◌∙◌}
use Rattle.evm_model.specs.Event.{Event, event_lent, short_event}
use Rattle.evm_model.specs.Replay.{apply}
use Rattle.hunt_schedules.proofs.Advancing.{has_failed, lent-short}
use Rattle.hunt_schedules.proofs.running.advance.Goals as goal

pub returns-in-Ok-clause-fails : goal.returns-in-Ok-clause-fails
returns-in-Ok-clause-fails c =
    let event : Event = short_event c.args.event in
    let same : event_lent c.widen.result ≡ event = ap event_lent c.widen.ensures ∙ lent-short c.args.event in
    let done : apply c.args.machine.now event ≡ Ok (c.apply.new.self, c.in-Ok.answer) = subst (λ (e : Event). apply c.args.machine.now e ≡ Ok (c.apply.new.self, c.in-Ok.answer)) same c.in-Ok.ensures.ok in
    has_failed c.args.wanted.now c.args.machine.now c.apply.new.self event c.in-Ok.answer c.looked.result done
    (c.looked.ensures c.args.machine.now event c.eve_of-eve.ensures)

pub returns-in-Ok-clause-seen : goal.returns-in-Ok-clause-seen
returns-in-Ok-clause-seen c =
    let event : Event = short_event c.args.event in
    let same : event_lent c.widen.result ≡ event = ap event_lent c.widen.ensures ∙ lent-short c.args.event in
    let done : apply c.args.machine.now event ≡ Ok (c.apply.new.self, c.in-Ok.answer) = subst (λ (e : Event). apply c.args.machine.now e ≡ Ok (c.apply.new.self, c.in-Ok.answer)) same c.in-Ok.ensures.ok in
    (c.in-Ok.answer, done, c.looked.ensures c.args.machine.now event c.eve_of-eve.ensures)

pub returns-in-Ok-clause-journaled : goal.returns-in-Ok-clause-journaled
returns-in-Ok-clause-journaled c =
    let same : event_lent c.widen.result ≡ short_event c.args.event = ap event_lent c.widen.ensures ∙ lent-short c.args.event in
    subst (λ (e : Event). c.apply.new.self.journal ≡ c.args.machine.now.journal ++ e ∷ []) same c.in-Ok.ensures.journaled

pub returns-in-Err-clause-refused : goal.returns-in-Err-clause-refused
returns-in-Err-clause-refused c =
    let same : event_lent c.widen.result ≡ short_event c.args.event = ap event_lent c.widen.ensures ∙ lent-short c.args.event in
    ap (apply c.args.machine.now) (sym same) ∙ c.in-Err.ensures.err
