-- one more header is found, or is none
use Rattle.std.proofs.Common.{◌+◌, ◌-◌, ◌++◌, sym, ◌∙◌, ap}
use Rattle.std.specs.List.{filter_map}
use Rattle.evm_elf.specs.Fields.{headers_from}
use Rattle.evm_elf.specs.Rising.{occupied_of}
use Rattle.evm_elf.proofs.Headers.{found_some, found_none}
use Rattle.evm_elf.proofs.overlap.occupied.Goals as goal
use Rattle.evm_elf.proofs.overlap.occupied.Goals.{in-Some+in_ok-push, in_default}

pub loop-i-preserved : goal.loop-i-preserved
loop-i-preserved c =
    let file = c.args.file.now in
    let all = filter_map occupied_of (headers_from file 0 c.args.count) in
    elim c.match-occupied_header.branch [
      | in-Some+in_ok-push w ↦
          let pushed = ap (λ v. v.items) w.found-is ∙ w.in_ok-push.ensures.items in
          found_some occupied_of all c.loop-i.found.items file c.loop-i.i c.args.count w.in-Some.header c.loop-i-test.true c.loop-i.invariant (sym w.in-Some.ensures)
          ∙ ap (λ t. t ++ filter_map occupied_of (headers_from file (c.loop-i.i + 1) (c.args.count - (c.loop-i.i + 1)))) (sym pushed)
      | in_default w ↦
          found_none occupied_of all c.loop-i.found.items file c.loop-i.i c.args.count c.loop-i-test.true c.loop-i.invariant (sym w.in_default.ensures)
          ∙ ap (λ v. v.items ++ filter_map occupied_of (headers_from file (c.loop-i.i + 1) (c.args.count - (c.loop-i.i + 1)))) (sym w.found-is)
    ]
