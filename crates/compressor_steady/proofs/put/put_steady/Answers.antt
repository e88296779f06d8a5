use native.Mathlib.Omega.{arith}
use Rattle.octets.specs.PutLaws.{wrote_then}
use Rattle.compressor_steady.proofs.Written.{wrote-steady, two-most}
use Rattle.compressor_steady.proofs.put.put_steady.Goals as goal

-- src/put.rt:28:5
pub put_if-requires : goal.put_if-requires
put_if-requires c =
    omega (
      arith,
      two-most c.sends_checksum-carried.result,
      c.put_head-at.ensures.0,
    )

-- src/put.rt:15:1
pub returns : goal.returns
returns c =
    let a = c.args in
    λ total. wrote-steady a.i total a.x a.c c.sends_checksum-carried.result c.sends_checksum-carried.ensures
    (wrote_then c.put_head-at.ensures.1 c.put_if.ensures.1)
