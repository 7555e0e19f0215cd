use Rattle.std.proofs.Common.{◌≤◌, List, length, ap, sym, ◌∙◌, arith}
use Rattle.std.specs.Prelude.{replicate}
use Rattle.std.proofs.lemmas.List.{at_drop_all}
use Rattle.evm_ram.specs.Images.{Loaded}
use Rattle.evm_model.specs.State.{Memory}
use Rattle.evm_board.proofs.Loads.{all_poked, all_poked-image}
use Rattle.evm_board.proofs.memory.Memory.load.Goals as goal

pub returns : goal.returns
returns g c =
    let image = c.args.image.now in
    let k : Memory = c.args.self.now in
    let items = c.segments-segment-items.result.now in
    let cleared : Memory = record k { ram = replicate (length k.ram) 0 } in
    let poked : Memory = c.loop-segment.self in
    let past : length items ≤ c.loop-segment.segment-index = omega arith in
    sym (at_drop_all (λ (segments : List Loaded). all_poked segments poked) items c.loop-segment.segment-index past)
    ∙ c.loop-segment.invariant
    ∙ ap (λ (segments : List Loaded). all_poked segments cleared) c.segments-segment-items.ensures.all
    ∙ all_poked-image image k c.segments-segment-items.ensures.sound c.requires
