use Rattle.std.proofs.Common.{◌≡◌, ◌∙◌, ℕ, List, false, refl, sym, subst}
use Rattle.gdb_packets.specs.Items.{item_seen}
use Rattle.gdb_answers.specs.Turns.{boots_before}
use Rattle.gdb_answers.proofs.dialogue.serve_next.Goals as goal

pub returns-in-Ok-clause-turn : goal.returns-in-Ok-clause-turn
returns-in-Ok-clause-turn g c =
    let item = c.in-Ok-Some.item in
    let payload = c.read_item.new.payload.items in (
      item_seen item payload,
      record {
        kind = item;
        payload = payload;
        answered = c.serve_item.new.session;
        is = refl;
        next = rw c.in-Ok-Some.field-0-is at c.in-Ok-Some.ensures.ok;
        stays = c.requires;
        ready = subst (λ (t : List ℕ). boots_before c.args.session.now item t ≡ false) c.as_slice.ensures.value (sym c.waits_for_boot.ensures ∙ c.if-waits_for_boot.false);
        serves = c.in-Ok.ensures.ok;
        idle = refl;
      },
    )
