use Rattle.planes.specs.Planes.{lent}
use Rattle.compressor_table.specs.LayoutLaws.{fits-sizes}
use Rattle.compressor_steady.proofs.Stored.{puts-steady}
use Rattle.compressor_steady.proofs.store.store_steady.Goals as goal

pub store_words-requires : goal.store_words-requires
store_words-requires c =
    ((fits-sizes (lent c.args.w.now c.args.h.now c.args.b.now) c.requires.0).words, c.requires.1)

-- src/store.rt:48:5
pub store_shorts-requires : goal.store_shorts-requires
store_shorts-requires c =
    ((fits-sizes (lent c.args.w.now c.args.h.now c.args.b.now) c.requires.0).shorts, c.requires.1)

-- src/store.rt:49:5
pub store_bytes-requires : goal.store_bytes-requires
store_bytes-requires c =
    ((fits-sizes (lent c.args.w.now c.args.h.now c.args.b.now) c.requires.0).bytes, c.requires.1)

-- src/store.rt:41:1
pub returns : goal.returns
returns c =
    rw (c.store_words.ensures, c.store_shorts.ensures, c.store_bytes.ensures)
    (puts-steady (lent c.args.w.now c.args.h.now c.args.b.now) c.args.i c.args.x c.requires.0 c.requires.1)
