-- Iarwennol. Laws of sizes: each is the length of its layout's bytes. Assume nothing.
-- Used by the calls, and by the theorem on lists of calls (crtp).
use Rattle.std.specs.Prelude.{ℕ, ◌≤◌, ◌≡◌, refl, Bool, true, false, cond, Option, Some, None, is_some, List, [], ◌∷◌, length}
use native.Mathlib.Omega.{arith}
use Rattle.std.proofs.Math.ListN.{length-append}
use Rattle.codes.specs.Bytes.{big_endian}
use Rattle.packet.specs.declared.parts.Parts.{Parts}
use Rattle.octets.specs.Put.{optional}
use Rattle.headers.specs.ListLaws.{length-list_bytes}
use Rattle.links.specs.Sent.{whole_as, whole, whole_byte}
use Rattle.links.specs.Cu.{changes_bytes, values_bytes, cu_bytes}
use Rattle.links.specs.Cr.{cr_second_byte, deltas_bytes, cr_bytes}
use Rattle.links_write.specs.Size.{changes_size, values_size, cu_size, deltas_size, cr_size}

length-optional : (w : Bool) (bs : List ℕ) → length (optional w bs) ≡ cond w (length bs) 0
length-optional true bs = refl
length-optional false bs = refl

-- a field where one is sent; n: how many bytes one has
length-whole : (bytes : ℕ → List ℕ) (n : ℕ) → ((v : ℕ) → length (bytes v) ≡ n) → (o : Option ℕ)
    → length (whole_as bytes o) ≡ cond (is_some o) n 0
length-whole bytes n h (Some v) = h v
length-whole bytes n h None = refl

-- the length of each field that is sent whole
pub whole_two : (o : Option ℕ) → length (whole 2 o) ≡ cond (is_some o) 2 0
whole_two o = length-whole (big_endian 2) 2 (λ v. refl) o

pub whole_four : (o : Option ℕ) → length (whole 4 o) ≡ cond (is_some o) 4 0
whole_four o = length-whole (big_endian 4) 4 (λ v. refl) o

pub whole_one : (o : Option ℕ) → length (whole_byte o) ≡ cond (is_some o) 1 0
whole_one o = length-whole (λ v. v ∷ []) 1 (λ v. refl) o

pub ruleset whole_sizes = (whole_one, whole_two, whole_four)

length-changes : (carried : Bool) (h : Parts) → length (changes_bytes carried h) ≡ changes_size carried h
length-changes carried h =
    let a = length-optional carried (big_endian 2 h.checksum) in
    let b = whole_two h.id in
    simp length-append (omega arith)

length-values : (h : Parts) → h.csrc.count ≤ length h.csrc.words → length (values_bytes h) ≡ values_size h
length-values h k =
    let a = whole_two h.sequence in
    let b = whole_four h.timestamp in
    let c = whole_one h.payload in
    let d = length-list_bytes h.csrc k in
    simp length-append (omega arith)

module _ (context link : ℕ) (carried : Bool) (h : Parts) (listed : h.csrc.count ≤ length h.csrc.words) where
  pub length-cu_bytes : length (cu_bytes context link carried h) ≡ cu_size carried h
  unfolding cu_bytes
  length-cu_bytes =
      let a = length-changes carried h in
      let b = length-values h listed in
      let c = length-append (changes_bytes carried h) (values_bytes h) in
      omega arith

  length-deltas : length (deltas_bytes h) ≡ deltas_size h
  length-deltas = simp length-append (omega arith)

  pub length-cr_bytes : length (cr_bytes context link carried h) ≡ cr_size carried h
  unfolding cr_bytes
  length-cr_bytes =
      let a = length-optional carried (big_endian 2 h.checksum) in
      let b = length-optional h.listed (cr_second_byte h ∷ []) in
      let c = length-deltas in
      let d = length-list_bytes h.csrc listed in
      simp length-append (omega arith)
