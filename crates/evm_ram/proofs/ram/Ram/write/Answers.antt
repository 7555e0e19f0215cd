use Rattle.evm_ram.proofs.Bytes.{write_at-front, write_at-whole}
use Rattle.evm_ram.specs.declared.width.Width.TheVariants.{Byte, Half, Word}
use Rattle.evm_ram.proofs.ram.Ram.write.Goals as goal

pub returns-in-Byte-clause-written : goal.returns-in-Byte-clause-written
returns-in-Byte-clause-written c =
    let same = write_at-front c.args.self.now c.args.address Byte c.args.value _ c.to_le_bytes-bytes.ensures in
    rw (c.in-Byte.is, same) c.poke.ensures.poked

pub returns-in-Half-clause-written : goal.returns-in-Half-clause-written
returns-in-Half-clause-written c =
    let same = write_at-front c.args.self.now c.args.address Half c.args.value _ c.to_le_bytes-bytes.ensures in
    rw (c.in-Half.is, same) c.poke-in-Half.ensures.poked

pub returns-in-Word-clause-written : goal.returns-in-Word-clause-written
returns-in-Word-clause-written c =
    let same = write_at-front c.args.self.now c.args.address Word c.args.value _ c.to_le_bytes-bytes.ensures in
    rw (c.in-Word.is, same) c.poke-in-Word.ensures.poked

pub returns-in-Double-clause-written : goal.returns-in-Double-clause-written
returns-in-Double-clause-written c =
    let same = write_at-whole c.args.self.now c.args.address c.args.value _ c.to_le_bytes-bytes.ensures in
    rw (c.in-Double.is, same) c.poke-in-Double.ensures.poked
