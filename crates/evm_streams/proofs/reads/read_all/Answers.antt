use Rattle.std.proofs.Common.{◌≡◌, ◌<◌, ◌++◌, take, refl, rules, arith, length-append, length-take}
use Rattle.evm_streams.specs.declared.reads.TheConstants.{FILE_LIMIT}
use Rattle.evm_streams.specs.Reads.{GaveSome}
use Rattle.evm_streams.proofs.Calls.{gave_none, gave_more}
use Rattle.evm_streams.proofs.reads.read_all.Goals as goal

pub parts-init : goal.parts-init
parts-init g c = record { gave = gave_none _ _ _ c.new-bytes.ensures.items; limit = search rules }

pub returns-then-len-n-gt-FILE_LIMIT : goal.returns-then-len-n-gt-FILE_LIMIT
returns-then-len-n-gt-FILE_LIMIT g c =
    let some : 0 < c.in-Bytes.n = omega arith in record {
      bytes = c.parts.bytes.items ++ take c.in-Bytes.n c.read.new.part;
      gave = gave_more _ _ _ _ _ _ _ _ c.parts.invariant.gave some c.in-Bytes.ensures.call refl;
      many = simp (length-append, length-take) (omega (arith, c.in-Bytes.ensures.bound c.in-Bytes.n refl));
    }

pub returns-in-Err : goal.returns-in-Err
returns-in-Err g c =
    let some : 0 < c.in-Bytes.n = omega arith in
    let given : GaveSome g.R.Source.gives c.args.source.now c.read.new.self = record {
      bytes = c.parts.bytes.items ++ take c.in-Bytes.n c.read.new.part;
      gave = gave_more _ _ _ _ _ _ _ _ c.parts.invariant.gave some c.in-Bytes.ensures.call refl;
    } in (given, c.within.ensures FILE_LIMIT (omega (arith, c.in-Err.ensures.refused)))

pub parts-preserved : goal.parts-preserved
parts-preserved g c =
    let some : 0 < c.in-Bytes.n = omega arith in
    let grown : c.extend_from_slice.new.self.items ≡ c.parts.bytes.items ++ take c.in-Bytes.n c.read.new.part = search rules in record {
      gave = gave_more _ _ _ _ _ _ _ _ c.parts.invariant.gave some c.in-Bytes.ensures.call grown;
      limit = rw grown (simp (length-append, length-take) (omega (arith, c.in-Bytes.ensures.bound c.in-Bytes.n refl)));
    }
