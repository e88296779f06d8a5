use Rattle.receive.specs.TakenLaws.{arrives-on_old, arrives-on_parts}
use Rattle.receive.proofs.Arriving.{either}
use Rattle.links.proofs.Range.{cu_of-within, cu_of-sound, cr_of-within, cr_of-sound}
use Rattle.links.specs.declared.head.ReadParts.{ReadParts}
use Rattle.packet.specs.Ranges.{PartsSound}
use Rattle.context.specs.Decompressor.{checksum_read}
use Prim.Native.Nat.{◌≤◌}
use lib.Dec.{eqb}
use lib.ListN.{length}
use Rattle.receive.proofs.compressed.arrive.Goals as goal

pub returns-then-kind-flags : goal.returns-then-kind-flags
returns-then-kind-flags c =
    let a = c.args in
    arrives-on_old a.n a.c a.s.now c.apply_old.result a.old a.kind a.h c.requires.1
    (rw c.split_flags-flags.ensures at c.if-kind-flags.true) c.apply_old.ensures

pub apply_parts-requires : goal.apply_parts-requires
apply_parts-requires c =
    let a = c.args in
    let p = c.requires in
    let k = checksum_read a.c in (
      p.0.few,
      p.0.link,
      p.1,
      p.0.sound,
      rw c.read_parts-read.ensures (either (λ (r : ReadParts). PartsSound r.parts) (eqb a.kind 2) _ _
          (cu_of-sound a.s.now a.h.place a.h.flags k) (cr_of-sound a.s.now a.h.place a.h.flags k)),
    )

pub returns : goal.returns
returns c =
    let a = c.args in
    let p = c.requires in
    let k = checksum_read a.c in
    let read = c.read_parts-read in
    arrives-on_parts a.n a.c a.s.now c.apply_parts.result a.old a.kind a.h p.1
    (rw c.split_flags-flags.ensures at c.if-kind-flags.false) read.result read.ensures
    (c.apply_parts.ensures a.s.now
    (rw read.ensures (either (λ (r : ReadParts). r.place.cursor.at ≤ length a.s.now) (eqb a.kind 2) _ _
    (cu_of-within a.s.now a.h.place a.h.flags k p.0.within)
    (cr_of-within a.s.now a.h.place a.h.flags k p.0.within))))
