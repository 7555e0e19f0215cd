-- What an input thread answered when it was asked: what another thread has heard, no clause can name.
use Rattle.std.specs.Prelude.{Bool, Option}
use Rattle.gdb_packets.specs.declared.ends.HearingEnd.{HearingEnd}

-- opaque, so that a proof has them of a call alone
pub Heard : {E : Type 0} → E → Bool → Type 0
Heard input answer = Unit {0}

pub Ended : {E : Type 0} → E → Option HearingEnd → Type 0
Ended input end = Unit {0}

-- what is trusted of a call: the input thread alone cites these two
pub trusted_heard : {E : Type 0} (input : E) (answer : Bool) → Heard input answer
unfolding Heard
trusted_heard input answer = tt

pub trusted_ended : {E : Type 0} (input : E) (end : Option HearingEnd) → Ended input end
unfolding Ended
trusted_ended input end = tt
