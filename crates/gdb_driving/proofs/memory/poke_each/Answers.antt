use Rattle.std.proofs.Common.{◌≡◌, ◌+◌, ◌%◌, ◌^◌, ◌<◌, ◌∙◌, ap, sym, subst, length, arith, length-drop, length-take}
use Rattle.std.proofs.lemmas.Grind.{common_steps}
use Rattle.std.specs.Prelude.{Ok, Err}
use Rattle.evm_model.specs.State.{State}
use Rattle.evm_model.specs.declared.limits.TheConstants.{POKE_LIMIT}
use Rattle.gdb_driving.specs.Setting.{MakesEach}
use Rattle.gdb_driving.specs.Writing.{pokes}
use Rattle.gdb_driving.proofs.Kept.{keeps_more}
use Rattle.gdb_driving.proofs.Writing.{IsCut, block_written, block_refused, nothing_written}
use Rattle.gdb_driving.proofs.memory.poke_each.Goals as goal

pub block_of-block-requires : goal.block_of-block-requires
block_of-block-requires g c =
    let short = length-take POKE_LIMIT c.pokes.rest.now in
    let same = ap length c.cut_block.ensures.first in
    omega arith

pub pokes-preserved : goal.pokes-preserved
pokes-preserved g c =
    let some : 0 < length c.pokes.rest.now = grind (arith, common_steps) in
    let long = ap length c.cut_block.ensures.others ∙ length-drop POKE_LIMIT c.pokes.rest.now in
    let within = c.pokes.invariant.fits some in
    let cut : IsCut c.pokes.rest.now c.block_of-block.result c.cut_block.result.1.now =
    record { some = some; first = c.block_of-block.ensures ∙ c.cut_block.ensures.first; behind = c.cut_block.ensures.others } in
    record {
      kept = keeps_more c.args.machine.now c.pokes.machine c.event.new.machine c.pokes.invariant.kept c.event.ensures.kept;
      fits = λ more. omega arith;
      goes_on = λ result new made. c.pokes.invariant.goes_on result new
          (block_written c.pokes.place ((c.pokes.place + 64) % 2 ^ 64) c.pokes.rest.now c.block_of-block.result c.cut_block.result.1.now c.in-Ok.field-0
          result c.pokes.machine c.event.new.machine new cut (λ more. omega arith) c.in-Ok.ensures.ok made);
    }

pub returns-in-Err-clause-made : goal.returns-in-Err-clause-made
returns-in-Err-clause-made g c =
    let some : 0 < length c.pokes.rest.now = grind (arith, common_steps) in
    let cut : IsCut c.pokes.rest.now c.block_of-block.result c.cut_block.result.1.now =
    record { some = some; first = c.block_of-block.ensures ∙ c.cut_block.ensures.first; behind = c.cut_block.ensures.others } in
    let made = block_refused c.pokes.place c.pokes.rest.now c.block_of-block.result c.cut_block.result.1.now c.in-Err.refusal c.pokes.machine cut c.in-Err.ensures.err in
    subst (λ (new : State). MakesEach (pokes c.args.address c.args.bytes.now) (Err c.in-Err.refusal) c.args.machine.now new) (sym c.in-Err.ensures.unchanged)
    (c.pokes.invariant.goes_on (Err c.in-Err.refusal) c.pokes.machine made)

pub returns-clause-made : goal.returns-clause-made
returns-clause-made g c =
    let nothing : length c.pokes.rest.now ≡ 0 = grind (arith, common_steps) in
    c.pokes.invariant.goes_on (Ok tt) c.pokes.machine (nothing_written c.pokes.place c.pokes.rest.now c.pokes.machine nothing)
