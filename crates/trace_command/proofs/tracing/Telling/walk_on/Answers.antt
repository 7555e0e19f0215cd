use Rattle.std.proofs.Common.{◌≡◌, ◌++◌, [], ℕ, Option, None, inl, inr, length, refl, sym, ap, subst, ◌∙◌}
use Rattle.std.specs.Prelude.{◌-◌, ◌^◌}
use Rattle.run_walk.specs.Walks.{IsMarked, IsNext, Walked}
use Rattle.run_walk.specs.declared.item.Item.{Item}
use Rattle.trace_command.proofs.Told.{no_instants, on-ok}
use Rattle.trace_command.specs.Instants.{event_instants, instants_in}
use Rattle.trace_command.specs.Tellings.{TellsInstants, time_behind_next}
use Rattle.trace_command.proofs.tracing.Telling.walk_on.Goals as goal

pub returns-in-Ok-None-clause-tells : goal.returns-in-Ok-None-clause-tells
returns-in-Ok-None-clause-tells g c =
    λ empty changes.
    let none : instants_in c.args.list.now.items ≡ [] = ap instants_in empty ∙ no_instants in
    record {
      item = c.in-Ok-None.field-0;
      marks = c.next.new.found.items;
      next = c.in-Ok-None.ensures.next;
      marked = c.in-Ok-None.ensures.marks;
      instants = subst (λ item. TellsInstants item c.next.new.found.items c.args.self.now.at c.args.list.now.items) (sym c.in-Ok-None.field-0-is) none;
      time = subst (λ (item : Option Item). c.args.self.now.at ≡ time_behind_next c.args.self.now.clock item c.args.self.now.at) (sym c.in-Ok-None.field-0-is) refl;
    }

pub returns-in-Ok-Some-clause-tells : goal.returns-in-Ok-Some-clause-tells
returns-in-Ok-Some-clause-tells g c =
    λ empty changes.
    let told : instants_in c.item.new.list.items ≡ event_instants c.args.self.now.at c.next.new.found.items =
    on-ok _ c.item.result c.item.ensures.instants (c.next_changes.ensures.changes changes)
    ∙ ap (λ l. l ++ event_instants c.args.self.now.at c.next.new.found.items) (ap instants_in empty ∙ no_instants) in
    record {
      item = c.in-Ok-Some.field-0;
      marks = c.next.new.found.items;
      next = subst (λ (w : Walked). IsNext (2 ^ 64 - 1) c.args.self.now.walk c.in-Ok-Some.field-0 w) (sym c.item.ensures.walk) c.in-Ok-Some.ensures.next;
      marked = subst (λ (w : Walked). IsMarked c.in-Ok-Some.field-0 c.args.self.now.walk.machine w.machine c.next.new.found.items) (sym c.item.ensures.walk) c.in-Ok-Some.ensures.marks;
      instants = subst (λ item. TellsInstants item c.next.new.found.items c.args.self.now.at c.item.new.list.items) (sym c.in-Ok-Some.field-0-is) told;
      time = subst (λ (item : Option Item). c.item.new.self.at ≡ time_behind_next c.args.self.now.clock item c.args.self.now.at) (sym c.in-Ok-Some.field-0-is) c.item.ensures.time;
    }

pub returns-in-Ok-None-clause-goes_on : goal.returns-in-Ok-None-clause-goes_on
returns-in-Ok-None-clause-goes_on g c =
    λ goes changes.
    let n : IsNext (2 ^ 64 - 1) c.args.self.now.walk None c.next.new.self =
    subst (λ item. IsNext (2 ^ 64 - 1) c.args.self.now.walk item c.next.new.self) c.in-Ok-None.field-0-is c.in-Ok-None.ensures.next in
    inr (refl, n.0 ∙ n.1 ∙ ap length (sym c.next.ensures.follows.events))

pub returns-in-Ok-Some-clause-goes_on : goal.returns-in-Ok-Some-clause-goes_on
returns-in-Ok-Some-clause-goes_on g c = λ goes changes. inl (c.item.ensures.phase ∙ goes)
