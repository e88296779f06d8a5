-- Iarwennol. Soundness as bounds.
-- What the tests of soundness tell, and that the bounds are all they ask. Assume nothing.
-- Used by the laws of sound steps, and by the crates above, whose code relies on these bounds.
use Prim.Native.Nat.{ℕ, ◌+◌, ◌-◌, ◌%◌, ◌≤◌}
use mathlib.Core.Path.{◌≡◌, refl}
use mathlib.Core.Bool.{true, and-eq-true_iff}
use lib.Dec.{eqb, leb}
use lib.ListN.{drop}
use borrow.Author.Tests.{leb-true, le-leb}
use Rattle.codes.specs.Difference.{has_code}
use Rattle.packet.specs.Ranges.{ListSound}
use Rattle.packet.proofs.Chain.{all-of-eight}
use Rattle.packet.specs.declared.csrc.Csrc.{Csrc}
use Rattle.context.specs.Sound.{is_zero, zeros, sound_list, sound_link, sound_due, used_sound, filled_sound}
use Rattle.context.specs.declared.kept.Link.{Link}
use Rattle.context.specs.declared.compressor.Due.{Due}
use Rattle.context.specs.declared.compressor.CompressorContext.{CompressorContext}
use Rattle.context.specs.declared.decompressor.DecompressorContext.{DecompressorContext}
use Rattle.context.proofs.AllLaws.{all_replicate}

---- has_code

-- no difference at all has a code
pub has_code-zero : has_code 32 0 ≡ true
unfolding has_code
has_code-zero = refl

---- sound_list

pub sound_list-count : (l : Csrc) → sound_list l ≡ true → l.count ≤ 15
unfolding sound_list
sound_list-count l e = leb-true l.count 15 ((and-eq-true_iff (leb l.count 15) (zeros (drop l.count l.words))).0 e).0

-- what the readers of a list promise is all that the test asks
pub sound_list-made : (l : Csrc) → ListSound l → sound_list l ≡ true
unfolding sound_list
sound_list-made l s = rw (le-leb l.count 15 s.count, s.blank) (all_replicate is_zero (15 - l.count) 0 refl)

---- sound_link

pub record LinkBounds (l : Link) : Type 0 where
  pub sequence : l.sequence ≤ 15
  pub generation : l.generation ≤ 63

pub sound_link-bounds : (l : Link) → sound_link l ≡ true → LinkBounds l
unfolding sound_link
sound_link-bounds l e =
    let p = (and-eq-true_iff (leb l.sequence 15) (leb l.generation 63)).0 e in
    record { sequence = leb-true l.sequence 15 p.0; generation = leb-true l.generation 63 p.1 }

pub bounds-sound_link : (l : Link) → LinkBounds l → sound_link l ≡ true
unfolding sound_link
bounds-sound_link l b = rw (le-leb l.sequence 15 b.sequence, le-leb l.generation 63 b.generation)

---- sound_due

pub record DueBounds (n : ℕ) (d : Due) : Type 0 where
  pub full : d.full ≤ n + 1
  pub id : d.id ≤ n
  pub sequence : d.sequence ≤ n
  pub timestamp : d.timestamp ≤ n
  pub payload : d.payload ≤ n
  pub list : d.list ≤ n
  pub did : d.did ≤ n
  pub dts : d.dts ≤ n

pub sound_due-bounds : (n : ℕ) (d : Due) → sound_due n d ≡ true → DueBounds n d
unfolding sound_due
sound_due-bounds n d e =
    let a = all-of-eight (leb d.full (n + 1)) (leb d.id n) (leb d.sequence n) (leb d.timestamp n) (leb d.payload n)
    (leb d.list n) (leb d.did n) (leb d.dts n) e in
    record {
      full = leb-true d.full (n + 1) a.0;
      id = leb-true d.id n a.1;
      sequence = leb-true d.sequence n a.2;
      timestamp = leb-true d.timestamp n a.3;
      payload = leb-true d.payload n a.4;
      list = leb-true d.list n a.5;
      did = leb-true d.did n a.6;
      dts = leb-true d.dts n a.7;
    }

pub bounds-sound_due : (n : ℕ) (d : Due) → DueBounds n d → sound_due n d ≡ true
unfolding sound_due
bounds-sound_due n d b = rw (
  le-leb d.full (n + 1) b.full,
  le-leb d.id n b.id,
  le-leb d.sequence n b.sequence,
  le-leb d.timestamp n b.timestamp,
  le-leb d.payload n b.payload,
  le-leb d.list n b.list,
  le-leb d.did n b.did,
  le-leb d.dts n b.dts,
)

---- used_sound

pub record UsedBounds (n : ℕ) (c : CompressorContext) : Type 0 where
  pub port : eqb (c.flow.dport % 2) 0 ≡ true
  pub flags : c.ip.flags ≤ 3
  pub payload : c.rtp.payload ≤ 127
  pub list : sound_list c.csrc ≡ true
  pub coded : has_code 32 c.deltas.timestamp ≡ true
  pub due : DueBounds n c.due
  pub link : LinkBounds c.link

pub used_sound-bounds : (n : ℕ) (c : CompressorContext) → used_sound n c ≡ true → UsedBounds n c
unfolding used_sound
used_sound-bounds n c e =
    let a = all-of-eight true (eqb (c.flow.dport % 2) 0) (leb c.ip.flags 3) (leb c.rtp.payload 127) (sound_list c.csrc)
    (has_code 32 c.deltas.timestamp) (sound_due n c.due) (sound_link c.link) e in
    record {
      port = a.1;
      flags = leb-true c.ip.flags 3 a.2;
      payload = leb-true c.rtp.payload 127 a.3;
      list = a.4;
      coded = a.5;
      due = sound_due-bounds n c.due a.6;
      link = sound_link-bounds c.link a.7;
    }

pub bounds-used_sound : (n : ℕ) (c : CompressorContext) → UsedBounds n c → used_sound n c ≡ true
unfolding used_sound
bounds-used_sound n c b = rw (
  b.port,
  le-leb c.ip.flags 3 b.flags,
  le-leb c.rtp.payload 127 b.payload,
  b.list,
  b.coded,
  bounds-sound_due n c.due b.due,
  bounds-sound_link c.link b.link,
)

---- filled_sound

pub record FilledBounds (c : DecompressorContext) : Type 0 where
  pub flags : c.ip.flags ≤ 3
  pub payload : c.rtp.payload ≤ 127
  pub list : sound_list c.csrc ≡ true
  pub coded : has_code 32 c.deltas.timestamp ≡ true
  pub link : LinkBounds c.link

pub filled_sound-bounds : (c : DecompressorContext) → filled_sound c ≡ true → FilledBounds c
unfolding filled_sound
filled_sound-bounds c e =
    let a = all-of-eight true true true (leb c.ip.flags 3) (leb c.rtp.payload 127) (sound_list c.csrc)
    (has_code 32 c.deltas.timestamp) (sound_link c.link) e in
    record {
      flags = leb-true c.ip.flags 3 a.3;
      payload = leb-true c.rtp.payload 127 a.4;
      list = a.5;
      coded = a.6;
      link = sound_link-bounds c.link a.7;
    }

pub bounds-filled_sound : (c : DecompressorContext) → FilledBounds c → filled_sound c ≡ true
unfolding filled_sound
bounds-filled_sound c b = rw (
  le-leb c.ip.flags 3 b.flags,
  le-leb c.rtp.payload 127 b.payload,
  b.list,
  b.coded,
  bounds-sound_link c.link b.link,
)
