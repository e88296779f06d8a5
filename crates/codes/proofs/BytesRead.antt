-- Iarwennol. Laws of the bytes of a packet and of the numbers that stand in them. Assume nothing.
-- Used by the laws of the header, both ways, and of what is read from a link packet (fields).
use Rattle.std.proofs.Common.{◌≡◌, ℕ, zero, suc, ◌+◌, ◌*◌, ◌/◌, ◌%◌, ◌^◌, ◌<◌, ◌≤◌, List, [], ◌∷◌, ◌++◌, length, take, drop, refl}
use Rattle.std.proofs.Common.{ap, le_of_suc-le-suc, not-suc-le-zero, arith}
use Rattle.codes.specs.Bytes.{AllBytes, none, more, big_endian}
use Rattle.codes.specs.Reading.{byte_at, word_at, long_at}

---- AllBytes

pub AllBytes-byte_at : {s : List ℕ} → AllBytes s → (i : ℕ) → byte_at s i < 256
AllBytes-byte_at none i = omega arith
AllBytes-byte_at (more h a) zero = h
AllBytes-byte_at (more h a) (suc i) = AllBytes-byte_at a i

pub AllBytes-drop : (n : ℕ) {s : List ℕ} → AllBytes s → AllBytes (drop n s)
AllBytes-drop zero a = a
AllBytes-drop (suc n) none = none
AllBytes-drop (suc n) (more h a) = AllBytes-drop n a

pub AllBytes-take : (n : ℕ) {s : List ℕ} → AllBytes s → AllBytes (take n s)
AllBytes-take zero a = none
AllBytes-take (suc n) none = none
AllBytes-take (suc n) (more h a) = more h (AllBytes-take n a)

pub word_at-lt : {s : List ℕ} → AllBytes s → (at : ℕ) → word_at s at < 2 ^ 16
word_at-lt a at = omega (arith, AllBytes-byte_at a at, AllBytes-byte_at a (at + 1))

pub long_at-lt : {s : List ℕ} → AllBytes s → (at : ℕ) → long_at s at < 2 ^ 32
long_at-lt a at = omega (arith, word_at-lt a at, AllBytes-byte_at a (at + 2), AllBytes-byte_at a (at + 3))

---- big_endian

-- a number of 16 or 32 bits is read back
pub word_at-big_endian : (v : ℕ) → v < 2 ^ 16 → (s : List ℕ) → word_at (big_endian 2 v ++ s) 0 ≡ v
word_at-big_endian v h s = omega arith

pub long_at-big_endian : (v : ℕ) → v < 2 ^ 32 → (s : List ℕ) → long_at (big_endian 4 v ++ s) 0 ≡ v
long_at-big_endian v h s = omega arith

-- bytes are written back
big_endian-two : (a b : ℕ) → a < 256 → b < 256 → big_endian 2 (a * 256 + b) ≡ a ∷ b ∷ []
big_endian-two a b h k =
    let x : (a * 256 + b) / 256 % 256 ≡ a = omega arith in
    let y : (a * 256 + b) % 256 ≡ b = omega arith in
    rw (x, y)

big_endian-four : (a b c d : ℕ) → a < 256 → b < 256 → c < 256 → d < 256
    → big_endian 4 ((a * 256 + b) * 65536 + (c * 256 + d)) ≡ a ∷ b ∷ c ∷ d ∷ []
big_endian-four a b c d h k m n =
    let v = (a * 256 + b) * 65536 + (c * 256 + d) in
    let x : v / 256 / 256 / 256 % 256 ≡ a = omega arith in
    let y : v / 256 / 256 % 256 ≡ b = omega arith in
    let z : v / 256 % 256 ≡ c = omega arith in
    let w : v % 256 ≡ d = omega arith in
    rw (x, y, z, w)

module _ {s : List ℕ} (a : AllBytes s) (at : ℕ) where
  pub big_endian-word_at : big_endian 2 (word_at s at) ≡ byte_at s at ∷ byte_at s (at + 1) ∷ []
  big_endian-word_at = big_endian-two (byte_at s at) (byte_at s (at + 1)) (AllBytes-byte_at a at) (AllBytes-byte_at a (at + 1))

  pub big_endian-long_at : big_endian 4 (long_at s at) ≡ byte_at s at ∷ byte_at s (at + 1) ∷ byte_at s (at + 2) ∷ byte_at s
      (at + 3) ∷ []
  big_endian-long_at =
      big_endian-four
      (byte_at s at)
      (byte_at s (at + 1))
      (byte_at s (at + 2))
      (byte_at s (at + 3))
      (AllBytes-byte_at a at)
      (AllBytes-byte_at a (at + 1))
      (AllBytes-byte_at a (at + 2))
      (AllBytes-byte_at a (at + 3))

---- the front of a packet

-- k bytes, by their places from i on
abbrev pub places : (k i : ℕ) → List ℕ → List ℕ
places zero i s = []
places (suc k) i s = byte_at s i ∷ places k (suc i) s

places-cons : (k i x : ℕ) (s : List ℕ) → places k (suc i) (x ∷ s) ≡ places k i s
places-cons zero i x s = refl
places-cons (suc k) i x s = ap {B = List ℕ} (λ r. byte_at s i ∷ r) (places-cons k (suc i) x s)

pub places-drop : (k : ℕ) (s : List ℕ) → k ≤ length s → places k 0 s ++ drop k s ≡ s
places-drop zero s h = refl
places-drop (suc k) [] h = absurd (not-suc-le-zero h)
places-drop (suc k) (x ∷ s) h = ap {B = List ℕ} (λ r. x ∷ r) (rw (places-cons k 0 x s) (places-drop k s (le_of_suc-le-suc h)))
