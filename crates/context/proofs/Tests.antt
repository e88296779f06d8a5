-- Iarwennol. The compressor's tests.
-- What each tells of the packet and its context. Assume nothing.
-- Used by the laws of a packet that is lost, of one that arrives, and of its parts.
use Prim.Native.Nat.{ℕ, ◌≤◌}
use mathlib.Core.Path.{◌≡◌, refl, sym}
use mathlib.Core.Bool.{Bool, true, false, cond, ◌&&◌, ◌||◌, true≢false, false≢true, and-eq-true_iff}
use native.Mathlib.Omega.{arith}
use lib.Dec.{eqb, ltb}
use borrow.Author.Tests.{eqb-true, ne_eqb, ltb-false}
use Rattle.std.specs.Prelude.{Option, Some, None, IfSome, unwrap_or}
use Rattle.codes.specs.Difference.{has_code}
use Rattle.packet.proofs.Chain.{all-of-eight}
use Rattle.packet.specs.declared.header.Header.{Header}
use Rattle.context.specs.Field.{off_pattern, is_due}
use Rattle.context.specs.Compressor.{same_bit, same_constants, may_adopt, differences, repeats_id, repeats_timestamp, adopts_id}
use Rattle.context.specs.Compressor.{adopts_timestamp, any_due}
use Rattle.context.specs.declared.compressor.CompressorContext.{CompressorContext}
use Rattle.context.specs.declared.step.DueNow.{DueNow}

---- cond

-- what holds of both choices holds of the one taken
pub cond-when : {A : Type 0} (P : A → Type 0) (b : Bool) (x y : A) → (b ≡ true → P x) → P y → P (cond b x y)
cond-when P true x y f g = f refl
cond-when P false x y f g = g

pub cond_both : {A : Type 0} (P : A → Type 0) (b : Bool) (x y : A) → P x → P y → P (cond b x y)
cond_both P b x y h k = cond-when P b x y (λ e. h) k

---- unwrap_or

-- what holds of a field that may be sent, and of what it is without it, holds of the field after it
pub unwrap_or-both : {A : Type 0} (P : A → Type 0) (o : Option A) (y : A) → IfSome o P → P y → P (unwrap_or o y)
unwrap_or-both P (Some x) y h k = h
unwrap_or-both P None y h k = k

---- _||_

pub or-false : (a b : Bool) → (a || b) ≡ false → (a ≡ false) × (b ≡ false)
or-false true b e = absurd (true≢false e)
or-false false b e = (refl, e)

---- same_constants

pub same_bit-true : (a b : Bool) → same_bit a b ≡ true → a ≡ b
same_bit-true true b e = sym e
same_bit-true false true e = absurd (false≢true e)
same_bit-true false false e = refl

pub record SameConstants (h : Header) (c : CompressorContext) : Type 0 where
  pub tos : h.ip.tos ≡ c.ip.tos
  pub ttl : h.ip.ttl ≡ c.ip.ttl
  pub flags : h.ip.flags ≡ c.ip.flags
  pub padding : h.rtp.padding ≡ c.rtp.padding
  pub extension : h.rtp.extension ≡ c.rtp.extension
  pub blank : eqb h.checksum 0 ≡ c.blank

module _ (h : Header) (c : CompressorContext) where
  pub same-constants : same_constants h c ≡ true → SameConstants h c
  unfolding same_constants
  same-constants e =
      let a = all-of-eight true true
      (eqb h.ip.tos c.ip.tos) (eqb h.ip.ttl c.ip.ttl) (eqb h.ip.flags c.ip.flags)
      (same_bit h.rtp.padding c.rtp.padding) (same_bit h.rtp.extension c.rtp.extension)
      (same_bit (eqb h.checksum 0) c.blank) e in
      record {
        tos = eqb-true _ _ a.2;
        ttl = eqb-true _ _ a.3;
        flags = eqb-true _ _ a.4;
        padding = same_bit-true _ _ a.5;
        extension = same_bit-true _ _ a.6;
        blank = same_bit-true _ _ a.7;
      }

  ---- adopts_id, adopts_timestamp

  -- a delta is adopted only where the field is off pattern
  pub adopts_id-off : adopts_id h c ≡ true → off_pattern 16 c.ip.id c.deltas.id h.ip.id ≡ true
  unfolding adopts_id
  adopts_id-off e =
      let o = off_pattern 16 c.ip.id c.deltas.id h.ip.id in
      ((and-eq-true_iff (may_adopt c) o).0 ((and-eq-true_iff (may_adopt c && o) (repeats_id h c)).0 e).0).1

  timestamp-adopted : adopts_timestamp h c ≡ true →
      (off_pattern 32 c.rtp.timestamp c.deltas.timestamp h.rtp.timestamp ≡ true)
      × (has_code 32 (differences h c).timestamp ≡ true)
  unfolding adopts_timestamp
  timestamp-adopted e =
      let o = off_pattern 32 c.rtp.timestamp c.deltas.timestamp h.rtp.timestamp in
      let x = repeats_timestamp h c in
      let y = has_code 32 (differences h c).timestamp in
      let p = (and-eq-true_iff (may_adopt c && o) (x && y)).0 e in
      (((and-eq-true_iff (may_adopt c) o).0 p.0).1, ((and-eq-true_iff x y).0 p.1).1)

  pub adopts_timestamp-off : adopts_timestamp h c ≡ true
      → off_pattern 32 c.rtp.timestamp c.deltas.timestamp h.rtp.timestamp ≡ true
  adopts_timestamp-off e = (timestamp-adopted e).0

  -- and only where it has a code
  pub adopts_timestamp-coded : adopts_timestamp h c ≡ true → has_code 32 (differences h c).timestamp ≡ true
  adopts_timestamp-coded e = (timestamp-adopted e).1

  -- and never by a full header
  may_adopt-full : 1 ≤ c.due.full → may_adopt c ≡ false
  may_adopt-full e = rw (ne_eqb c.due.full 0 (omega arith))

  pub adopts_id-full : 1 ≤ c.due.full → adopts_id h c ≡ false
  unfolding adopts_id
  adopts_id-full e = rw (may_adopt-full e)

  pub adopts_timestamp-full : 1 ≤ c.due.full → adopts_timestamp h c ≡ false
  unfolding adopts_timestamp
  adopts_timestamp-full e = rw (may_adopt-full e)

---- is_due, any_due

-- what is not due was not changed
pub is_due-false : (fresh : Bool) (due : ℕ) → is_due fresh due ≡ false → (fresh ≡ false) × (due ≡ 0)
unfolding is_due
is_due-false fresh due e = let p = or-false fresh (ltb 0 due) e in let k = ltb-false 0 due p.1 in (p.0, omega arith)

none-of-seven : (a b c d e f g : Bool) → (a || b || c || d || e || f || g) ≡ false →
    (a ≡ false) × (b ≡ false) × (c ≡ false) × (d ≡ false) × (e ≡ false) × (f ≡ false) × (g ≡ false)
none-of-seven a b c d e f g h =
    let o = or-false (a || b || c || d || e || f) g h in
    let p = or-false (a || b || c || d || e) f o.0 in
    let q = or-false (a || b || c || d) e p.0 in
    let r = or-false (a || b || c) d q.0 in
    let s = or-false (a || b) c r.0 in
    let t = or-false a b s.0 in
    (t.0, t.1, s.1, r.1, q.1, p.1, o.1)

pub record NoneDue (d : DueNow) : Type 0 where
  pub id : d.id ≡ false
  pub sequence : d.sequence ≡ false
  pub timestamp : d.timestamp ≡ false
  pub payload : d.payload ≡ false
  pub did : d.did ≡ false
  pub dts : d.dts ≡ false
  pub list : d.list ≡ false

pub any_due-false : (d : DueNow) → any_due d ≡ false → NoneDue d
unfolding any_due
any_due-false d e =
    let a = none-of-seven d.id d.sequence d.timestamp d.payload d.did d.dts d.list e in
    record { id = a.0; sequence = a.1; timestamp = a.2; payload = a.3; did = a.4; dts = a.5; list = a.6 }
