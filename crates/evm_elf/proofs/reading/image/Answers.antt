-- an accepted file's image is sound
use Rattle.std.proofs.Common.{subst}
use Rattle.evm_ram.specs.Images.{IsSound}
use Rattle.evm_elf.proofs.Sound.{sound, built}
use Rattle.evm_elf.proofs.reading.image.Goals as goal

pub new-requires : goal.new-requires
new-requires c =
    let file = c.args.file.now in
    subst IsSound (built file c.long_at.result c.half_at.result c.in_ok-segments.segments.items c.long_at.ensures c.half_at.ensures c.in_ok-segments.ensures.ok) (sound file c.requires.sound)
