use Rattle.std.proofs.Common.{◌≡◌, ◌+◌, ◌≤◌, true, length, arith}
use Rattle.evm_ram.specs.Ram.{is_inside}
use Rattle.gdb_driving.specs.Writing.{blocks_of}
use Rattle.gdb_driving.proofs.Whole.{write_ends, read_back}
use Rattle.gdb_driving.proofs.memory.write.Goals as goal

pub returns-clause-written : goal.returns-clause-written
returns-clause-written g c =
    let s = c.args.machine.now in
    let there : is_inside s.board.memory.ram c.args.address (length c.args.bytes.now) ≡ true = cc in
    let room : length s.journal + blocks_of c.args.bytes.now ≤ s.boot.capacity = omega arith in
    let ends = write_ends c.args.address c.args.bytes.now c.poke_each.result s c.poke_each.new.machine there room c.poke_each.ensures.made in
    rw ends.0 ends.1

pub returns-clause-stored : goal.returns-clause-stored
returns-clause-stored g c =
    let s = c.args.machine.now in
    let there : is_inside s.board.memory.ram c.args.address (length c.args.bytes.now) ≡ true = cc in
    let room : length s.journal + blocks_of c.args.bytes.now ≤ s.boot.capacity = omega arith in
    let ends = write_ends c.args.address c.args.bytes.now c.poke_each.result s c.poke_each.new.machine there room c.poke_each.ensures.made in
    rw (ends.0, ends.1) (read_back c.args.address c.args.bytes.now s there)

pub returns-clause-unchanged : goal.returns-clause-unchanged
returns-clause-unchanged g c =
    let s = c.args.machine.now in
    let there : is_inside s.board.memory.ram c.args.address (length c.args.bytes.now) ≡ true = cc in
    let room : length s.journal + blocks_of c.args.bytes.now ≤ s.boot.capacity = omega arith in
    let ends = write_ends c.args.address c.args.bytes.now c.poke_each.result s c.poke_each.new.machine there room c.poke_each.ensures.made in
    rw ends.0 tt
