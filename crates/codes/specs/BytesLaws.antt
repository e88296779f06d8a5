-- Iarwennol. Laws of lists of bytes. Assume nothing.
-- Used wherever an output is shown to consist of bytes.
use Rattle.std.specs.Prelude.{◌≡◌, ℕ, zero, suc, ◌/◌, ◌<◌, true, List, [], ◌∷◌, ◌++◌, length, nat_lt, slice_index, refl}
use Rattle.std.proofs.Math.Bool.{and-eq-true_iff}
use Rattle.std.proofs.Common.{add-one, arith, ltb-true, length-append}
use Rattle.codes.specs.Bytes.{AllBytes, none, more, are_bytes, big_endian}

---- AllBytes

pub AllBytes-append : {xs ys : List ℕ} → AllBytes xs → AllBytes ys → AllBytes (xs ++ ys)
AllBytes-append none b = b
AllBytes-append (more h a) b = more h (AllBytes-append a b)

-- what a slice's elements are known to be
pub AllBytes-elements : (l : List ℕ) → ((i : ℕ) → slice_index l i < 256) → AllBytes l
AllBytes-elements [] h = none
AllBytes-elements (b ∷ bs) h = more (h 0) (AllBytes-elements bs (λ i. h (suc i)))

pub AllBytes-are_bytes : (l : List ℕ) → are_bytes l ≡ true → AllBytes l
AllBytes-are_bytes [] e = none
AllBytes-are_bytes (b ∷ bs) e =
    let t = (and-eq-true_iff (nat_lt b 256) (are_bytes bs)).0 e in
    more (ltb-true b 256 t.0) (AllBytes-are_bytes bs t.1)

---- big_endian

pub length-big_endian : (n v : ℕ) → length (big_endian n v) ≡ n
length-big_endian zero v = refl
length-big_endian (suc n) v = rw (length-append, length-big_endian n (v / 256), add-one)

pub AllBytes-big_endian : (n v : ℕ) → AllBytes (big_endian n v)
AllBytes-big_endian zero v = none
AllBytes-big_endian (suc n) v = AllBytes-append (AllBytes-big_endian n (v / 256)) (more (omega arith) none)
