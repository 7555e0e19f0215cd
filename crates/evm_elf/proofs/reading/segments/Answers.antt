-- one more segment is made, or none
use Rattle.std.proofs.Common.{List, ◌+◌, ◌-◌, ◌++◌, ◌∷◌, [], map, sym, ◌∙◌, ap}
use Rattle.std.specs.List.{filter_map}
use Rattle.evm_ram.specs.Images.{Loaded}
use Rattle.evm_elf.specs.Fields.{headers_from}
use Rattle.evm_elf.specs.Faults.{load_of, segment_of}
use Rattle.evm_elf.proofs.Headers.{made_some, made_none}
use Rattle.evm_elf.proofs.reading.segments.Goals as goal
use Rattle.evm_elf.proofs.reading.segments.Goals.{in-Some+in_ok-push_segment, in_default}

pub loop-i-preserved : goal.loop-i-preserved
loop-i-preserved c =
    let file = c.args.file.now in
    let make = segment_of file in
    let all = map make (filter_map load_of (headers_from file 0 c.args.count)) in
    let rest = map make (filter_map load_of (headers_from file (c.loop-i.i + 1) (c.args.count - (c.loop-i.i + 1)))) in
    elim c.match-load_header.branch [
      | in-Some+in_ok-push_segment w ↦
          let pushed = ◌∙◌ {A = List Loaded} (ap (λ v. v.items) w.loaded-is) w.in_ok-push_segment.ensures.ok in
          made_some load_of make all c.loop-i.loaded.items file c.loop-i.i c.args.count w.in-Some.header c.loop-i-test.true c.loop-i.invariant (sym w.in-Some.ensures)
          ∙ ap (λ t. t ++ rest) (sym pushed)
      | in_default w ↦
          made_none load_of make all c.loop-i.loaded.items file c.loop-i.i c.args.count c.loop-i-test.true c.loop-i.invariant (sym w.in_default.ensures)
          ∙ ap (λ v. v.items ++ rest) (sym w.loaded-is)
    ]
