-- Iarwennol. Laws of the ranges of a CSRC list, of a number that may be carried, and of the parts of a link packet. Assume nothing.
-- Used by the laws of what is read (headers, fields, links), and by soundness (context).
use Rattle.std.specs.Prelude.{ℕ, zero, suc, ◌^◌, ◌<◌, ◌≡◌, refl, Bool, true, false, cond, get_or, replicate}
use Rattle.std.proofs.Common.{subst, arith, pow_pos}
use Rattle.codes.specs.Difference.{has_code}
use Rattle.packet.specs.Csrc.{no_list}
use Rattle.packet.specs.Ranges.{ListSound, ListInRange, HeaderFits, HeaderSound, Sendable, PartsFit, PartsSound}
use Rattle.packet.specs.declared.csrc.Csrc.{Csrc}
use Rattle.packet.specs.declared.header.RtpHeader.{RtpHeader}
use Rattle.packet.specs.declared.parts.Parts.{Parts}

---- CSRC list

pub zero-words : (n i : ℕ) → get_or (replicate n 0) i 0 < 2 ^ 32
zero-words zero i = omega arith
zero-words (suc n) zero = omega arith
zero-words (suc n) (suc i) = zero-words n i

pub range-no_list : ListInRange no_list
range-no_list = record { count = omega arith; size = refl; each = zero-words 15; blank = refl }

pub range-sound : {l : Csrc} → ListInRange l → ListSound l
range-sound r = record { count = r.count; size = r.size; blank = r.blank }

---- Sendable

pub sendable-zero : (w : ℕ) (sent : Bool) → Sendable w sent 0
sendable-zero w true = record { fits = pow_pos w; blank = refl }
sendable-zero w false = record { fits = pow_pos w; blank = refl }

---- what a link packet can carry leaves a sound context sound

-- a difference that is not sent is 0, which has a code
coded-sent : (sent : Bool) (v : ℕ) → cond sent v 0 ≡ v → (sent ≡ true → has_code 32 v ≡ true) → has_code 32 v ≡ true
unfolding has_code
coded-sent true v b h = h refl
coded-sent false v b h = subst (λ (x : ℕ). has_code 32 x ≡ true) b refl

pub parts-sound : {carried : Bool} {h : Parts} → PartsFit carried h → PartsSound h
parts-sound {carried} {h} f = record {
  payload = f.payload;
  coded = f.coded;
  list = range-sound f.list;
}

pub header-sound : {w : RtpHeader} → HeaderFits w → HeaderSound w
header-sound f = record { payload = f.payload; list = range-sound f.list }
