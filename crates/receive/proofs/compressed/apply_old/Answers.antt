use Rattle.receive.specs.TakenLaws.{arrives-whole}
use Rattle.receive.proofs.NarrowLaws.{whole-narrow}
use Rattle.links.proofs.Range.{whole_of-within, whole_of-sound, whole_of-header}
use Rattle.links.specs.Whole.{whole_of}
use Rattle.context.specs.Decompressor.{effect_of, checksum_read}
use Rattle.receive.proofs.compressed.apply_old.Goals as goal

pub returns : goal.returns
returns c =
    let a = c.args in
    let p = c.requires in
    let s = a.s.now in
    let h = a.h in
    let k = checksum_read a.c in
    let w = whole_of s h.place h.flags k in
    let read = c.read_cu_whole-read in
    let carried = c.reads_checksum in
    arrives-whole a.n a.c s h read.result (rw carried.ensures at read.ensures) c.apply_whole.result
    c.apply_whole.ensures
    (rw (read.ensures, carried.ensures) (whole-narrow a.n h.flags.low a.c w.parts p.1 w.parts.checksum
    p.0.link p.0.sound (whole_of-sound s h.place h.flags k) w.header (whole_of-header s h.place h.flags k)
    (effect_of c.apply_whole.result) (rw (read.ensures, carried.ensures) at c.apply_whole.ensures)))
    (rw (read.ensures, carried.ensures) (whole_of-within s h.place h.flags k p.0.within))
