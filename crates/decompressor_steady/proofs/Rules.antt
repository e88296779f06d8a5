-- Iarwennol. The arrival that most packets are does what the rules for any CR say. Assumes nothing.
-- Used by the short way that the decompressor has for it (receive).
use Prim.Native.Nat.{ℕ}
use mathlib.Core.Path.{◌≡◌, refl}
use mathlib.Core.Bool.{Bool, true, false, and-eq-true_iff, false≢true}
use native.Mathlib.Omega.{arith}
use borrow.Author.Tests.{eqb-true}
use lib.Dec.{eqb}
use Rattle.std.specs.Prelude.{None}
use Rattle.packet.specs.Csrc.{no_list}
use Rattle.packet.specs.declared.parts.Parts.{Parts}
use Rattle.context.specs.Field.{moved_on}
use Rattle.context.specs.Decompressor.{gap_of, ip_after, rtp_after, deltas_held, advanced, accepted_as, applied}
use Rattle.decompressor_steady.specs.Steady.{is_live, is_step, is_next, moved_to, one_step_on}
use Rattle.context.specs.declared.decompressor.Status.{Status}
use Rattle.context.specs.declared.decompressor.Status.TheVariants.{Empty, Live, Broken}
use Rattle.context.specs.declared.decompressor.DecompressorContext.{DecompressorContext}
use Rattle.context.proofs.Gap.{applied-in-step}

---- is_next

pub record Next (q : ℕ) (c : DecompressorContext) : Type 0 where
  pub live : c.status ≡ Live
  pub unlisted : c.csrc.count ≡ 0
  pub step : gap_of q c ≡ 1

is_live-true : (s : Status) → is_live s ≡ true → s ≡ Live
is_live-true Empty e = absurd (false≢true e)
is_live-true Live e = refl
is_live-true Broken e = absurd (false≢true e)

pub is_next-true : (q : ℕ) (c : DecompressorContext) → is_next q c ≡ true → Next q c
unfolding is_next
is_next-true q c e =
    let p = (and-eq-true_iff (is_live c.status) (is_step q c)).0 e in
    let r = (and-eq-true_iff (eqb c.csrc.count 0) (eqb (gap_of q c) 1)).0 p.1 in
    record { live = is_live-true c.status p.0; unlisted = eqb-true _ _ r.0; step = eqb-true _ _ r.1 }

---- one_step_on

-- nothing but what moved_to names differs
pub one_step_on-moved : (q : ℕ) (marker : Bool) (c : DecompressorContext) → one_step_on q marker c
    ≡ moved_to (one_step_on q marker c) c
unfolding one_step_on
one_step_on-moved q marker c = refl

-- rule 6.2: what a CR brings that has no field but its checksum
abbrev pub bare_parts : (marker : Bool) → (checksum : ℕ) → Parts
bare_parts marker checksum = record {
  marker = marker;
  checksum = checksum;
  id = None;
  sequence = None;
  timestamp = None;
  payload = None;
  did = None;
  dsn = None;
  dts = None;
  listed = false;
  csrc = no_list;
}

module _ (q : ℕ) (c : DecompressorContext) (marker : Bool) (checksum : ℕ) where
  pub advanced-bare : advanced 1 q c (bare_parts marker checksum) ≡ one_step_on q marker c
  unfolding advanced ip_after rtp_after deltas_held moved_on one_step_on
  advanced-bare = refl

  -- it is accepted, however many packets may be lost
  pub applied-bare : (n : ℕ) → gap_of q c ≡ 1 → applied n q c (bare_parts marker checksum) ≡ accepted_as 1 (one_step_on q marker c)
  applied-bare n e = applied-in-step n 0 q c (one_step_on q marker c) (bare_parts marker checksum) e (omega arith) advanced-bare
