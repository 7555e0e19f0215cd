use Rattle.std.proofs.Common.{◌++◌}
use Rattle.std.specs.Prelude.{codes}
use Rattle.std.specs.String.{string_bytes}
use Rattle.json.specs.Print.{quoted}
use Rattle.text_markup.specs.Text.{shown_bytes}
use Rattle.evm_text.specs.Written.{decimal}
use Rattle.trace_records.specs.Pieces.{place_pieces}
use Rattle.trace_records.proofs.PlaceLines.{more, last}
use Rattle.trace_records.proofs.line.push_line.Goals as goal

pub returns : goal.returns
unfolding place_pieces
returns c =
    let old = string_bytes c.args.out.now in
    let t1 = string_bytes c.push_text.new.out in
    let t2 = string_bytes c.push_decimal.new.out in
    let t3 = string_bytes c.push_text-2.new.out in
    let t4 = string_bytes c.push_decimal-2.new.out in
    let t5 = string_bytes c.push_text-3.new.out in
    let t6 = string_bytes c.push_quoted.new.out in
    let p1 = codes ",\n{\"ph\":\"i\",\"pid\":2,\"tid\":" in
    let p2 = p1 ++ decimal c.args.thread in
    let p3 = p2 ++ codes ",\"ts\":" in
    let p4 = p3 ++ decimal c.args.at in
    let p5 = p4 ++ codes ",\"name\":" in
    let p6 = p5 ++ quoted (shown_bytes c.args.name.now) in
    let e2 = more old t1 t2 p1 (decimal c.args.thread) c.in_ok-push_text.ensures.ok c.in_ok-push_decimal.ensures.appends.ok in
    let e3 = more old t2 t3 p2 (codes ",\"ts\":") e2 c.in_ok-push_text-2.ensures.ok in
    let e4 = more old t3 t4 p3 (decimal c.args.at) e3 c.in_ok-push_decimal-2.ensures.appends.ok in
    let e5 = more old t4 t5 p4 (codes ",\"name\":") e4 c.in_ok-push_text-3.ensures.ok in
    let e6 = more old t5 t6 p5 (quoted (shown_bytes c.args.name.now)) e5 c.in_ok-push_quoted.ensures.ok in
    last c.push_text-4.result old t6 (string_bytes c.push_text-4.new.out) p6 (codes ",\"s\":\"t\"}") e6 c.push_text-4.ensures.ok
