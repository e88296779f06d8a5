-- Iarwennol. Premises of the laws of CU and CR: parts that each of them can carry. No definition cites them.
-- Used as what the round trips start from (CuLaws, CrLaws, WholeLaws), and by those who send (crtp).
use Rattle.std.specs.Prelude.{ℕ, ◌<◌, ◌≡◌, Bool, true, false, ◌&&◌, None, is_some}
use Rattle.packet.specs.Csrc.{no_list}
use Rattle.packet.specs.Ranges.{HeaderFits, PartsFit}
use Rattle.packet.specs.declared.header.RtpHeader.{RtpHeader}
use Rattle.packet.specs.declared.parts.Parts.{Parts}

-- rule 6.3: a CU has the list, and no difference of the sequence
pub record CuFits (link : ℕ) (carried : Bool) (h : Parts) : Type 0 where
  pub parts : PartsFit carried h
  pub small : link < 16
  pub dsn : h.dsn ≡ None
  pub listed : h.listed ≡ true

-- rule 6.2: a CR has no field whole; it has a list where the second byte stands, which 1111 calls for
pub record CrFits (link : ℕ) (carried : Bool) (h : Parts) : Type 0 where
  pub parts : PartsFit carried h
  pub small : link < 16
  pub id : h.id ≡ None
  pub sequence : h.sequence ≡ None
  pub timestamp : h.timestamp ≡ None
  pub payload : h.payload ≡ None
  pub unlisted : h.listed ≡ false → h.csrc ≡ no_list
  pub second : (h.marker && is_some h.dsn && is_some h.dts && is_some h.did) ≡ true → h.listed ≡ true

-- rule 6.3: a CU without F has the RTP fields in its header alone
pub record WholeFits (link : ℕ) (carried : Bool) (h : Parts) (w : RtpHeader) : Type 0 where
  pub parts : PartsFit carried h
  pub header : HeaderFits w
  pub small : link < 16
  pub marker : h.marker ≡ w.marker
  pub sequence : h.sequence ≡ None
  pub timestamp : h.timestamp ≡ None
  pub payload : h.payload ≡ None
  pub dsn : h.dsn ≡ None
  pub unlisted : h.listed ≡ false
  pub empty : h.csrc ≡ no_list
