-- Iarwennol. Laws of the table of codes, once over the modulus m, and what is so at every width. Assume nothing.
-- Used by the proof of code_from (a law for each row) and by the round trip (RoundTrip).
use Rattle.std.specs.Prelude.{◌≡◌, ℕ, ◌+◌, ◌-◌, ◌^◌, ◌<◌, ◌≤◌, Bool, true, false, cond, ◌||◌, List, [], ◌∷◌, length, nat_le, nat_lt}
use Rattle.std.specs.Prelude.{refl}
use Rattle.std.proofs.Common.{zero-add, lt-ltb, le-ltb, le-leb, ltb-false, leb-false}
use Rattle.std.proofs.Math.Nat.{sub-zero}
use native.Mathlib.Omega.{arith}
use Rattle.std.proofs.lemmas.Bool.{lt-leb}
use Rattle.codes.specs.Bytes.{AllBytes, none, big_endian}
use Rattle.codes.specs.BytesLaws.{AllBytes-big_endian, length-big_endian}
use Rattle.codes.specs.Difference.{has_code}
use Rattle.codes.specs.Code.{Row, rows, among, code_in, code_of}

---- among

module _ (first count x : ℕ) where
  pub among_in : first ≤ x → x < first + count → among first count x ≡ true
  among_in h k = rw (le-leb first x h, lt-ltb x (first + count) k)

  pub among_below : x < first → among first count x ≡ false
  among_below h = rw (lt-leb first x h)

  pub among-above : first + count ≤ x → first ≤ x → among first count x ≡ false
  among-above h k = rw (le-leb first x k, le-ltb x (first + count) h)

---- code_in: which row has d

module _ (m d : ℕ) (wide : 32768 ≤ m) where
  pub code_in-low : d < 128 → code_in (rows m) d ≡ big_endian 1 d
  code_in-low h = rw (among_in 0 128 d (omega arith) h, sub-zero, zero-add)

  pub code_in-near : (v : ℕ) → v ≡ 0x8000 + (d - (m - 128)) → m - 128 ≤ d → d < m → code_in (rows m) d ≡ big_endian 2 v
  code_in-near v e h k = rw (e, among-above 0 128 d (omega arith) (omega arith), among_in (m - 128) 128 d h (omega arith))

  pub code_in-middle : 128 ≤ d → d < 16384 → code_in (rows m) d ≡ big_endian 2 (0x8080 + (d - 128))
  code_in-middle h k =
      rw (among-above 0 128 d h (omega arith), among_below (m - 128) 128 d (omega arith), among_in 128 16256 d h k)

  pub code_in-far : (v : ℕ) → v ≡ 0xC00000 + (d - (m - 16384)) → m - 16384 ≤ d → d < m - 128 → code_in (rows m) d ≡ big_endian 3 v
  code_in-far v e h k =
      rw (
        e,
        among-above 0 128 d (omega arith) (omega arith),
        among_below (m - 128) 128 d k,
        among-above 128 16256 d (omega arith) (omega arith),
        among_in (m - 16384) 16256 d h (omega arith),
      )

  module _ (high : 16384 ≤ d) (below : d < m - 16384) where
    past-four : code_in (rows m) d ≡ cond (among 16384 4177920 d) (big_endian 3 (0xC04000 + (d - 16384))) []
    past-four =
        rw (
          among-above 0 128 d (omega arith) (omega arith),
          among_below (m - 128) 128 d (omega arith),
          among-above 128 16256 d high (omega arith),
          among_below (m - 16384) 16256 d below,
        )

    pub code_in-high : d < 4194304 → code_in (rows m) d ≡ big_endian 3 (0xC04000 + (d - 16384))
    code_in-high h = rw (past-four, among_in 16384 4177920 d high h)

    pub code_in-none : 4194304 ≤ d → code_in (rows m) d ≡ []
    code_in-none h = rw (past-four, among-above 16384 4177920 d h high)

---- code_of

-- nothing else has a code
pub code_of-none : (w d : ℕ) → 32768 ≤ 2 ^ w → has_code w d ≡ false → code_of w d ≡ []
unfolding has_code code_of
code_of-none w d wide e = by (nat_lt d 4194304) (nat_le (2 ^ w - 16384) d) refl refl e
  where
    by : (a b : Bool) → nat_lt d 4194304 ≡ a → nat_le (2 ^ w - 16384) d ≡ b → (a || b) ≡ false → code_in (rows (2 ^ w)) d ≡ []
    by true b f g e = cc
    by false true f g e = cc
    by false false f g e = code_in-none (2 ^ w) d wide (omega (arith, ltb-false)) (leb-false _ _ g) (ltb-false _ _ f)

-- a code has at most three bytes, and every one is a byte
module _ (d : ℕ) where
  abbrev coded : Row → List ℕ
  coded r = big_endian r.size (r.code + (d - r.first))

  chosen-bytes : (b : Bool) (r : Row) {rest : List ℕ} → AllBytes rest → AllBytes (cond b (coded r) rest)
  chosen-bytes true r a = AllBytes-big_endian r.size (r.code + (d - r.first))
  chosen-bytes false r a = a

  AllBytes-code_in : (rs : List Row) → AllBytes (code_in rs d)
  AllBytes-code_in [] = none
  AllBytes-code_in (r ∷ rs) = chosen-bytes (among r.first r.count d) r (AllBytes-code_in rs)

  chosen-length : (b : Bool) (r : Row) (rest : List ℕ) → r.size ≤ 3 → length rest ≤ 3 → length (cond b (coded r) rest) ≤ 3
  chosen-length true r rest h k = rw (length-big_endian r.size (r.code + (d - r.first))) h
  chosen-length false r rest h k = k

  abbrev Small : List Row → Type 0
  Small [] = ℕ
  Small (r ∷ rs) = (r.size ≤ 3) × Small rs

  length-code_in : (rs : List Row) → Small rs → length (code_in rs d) ≤ 3
  length-code_in [] h = omega arith
  length-code_in (r ∷ rs) h = chosen-length (among r.first r.count d) r (code_in rs d) h.0 (length-code_in rs h.1)

  pub AllBytes-code_of : (w : ℕ) → AllBytes (code_of w d)
  unfolding code_of
  AllBytes-code_of w = AllBytes-code_in (rows (2 ^ w))

  pub length-code_of : (w : ℕ) → length (code_of w d) ≤ 3
  unfolding code_of
  length-code_of w = length-code_in (rows (2 ^ w)) (omega arith, (omega arith, (omega arith, (omega arith, (omega arith, 0)))))
