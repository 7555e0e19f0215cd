use Rattle.std.proofs.Common.{◌≡◌, Bool, true, false, not, ◌&&◌, ◌⊎◌, inl, inr, refl}
use Rattle.claims_machine.proofs.Reached.{good}
use Rattle.claims_machine.proofs.Settled.{clear}
use Rattle.claims_machine.proofs.rules.a_private_row_changes_one_hart.Goals as goal

passes : (there skip : Bool) → (there ≡ false) ⊎ (skip ≡ true) → (there && not skip) ≡ false
passes false skip h = refl
passes true true h = refl
passes true false (inl e) = cc
passes true false (inr e) = cc

pub returns : goal.returns
returns g boot s c t rd value pc hart pipe p reached room f goes e wire free row =
    g.private_rows_change_one_hart.ensures c t rd value pc hart s (good g.rules_hold.ensures.booted g.rules_hold.ensures.loaded boot s reached) room (record {
      processor = p;
      word = row.word;
      inst = row.inst;
      clear = clear c t s.board.parts pipe p e f wire row.current;
      at = f;
      goes = goes;
      has = row.has;
      passes = passes _ p.skip free;
      fetched = row.fetched;
      decodes = row.decodes;
      private = row.effect_is;
    })
