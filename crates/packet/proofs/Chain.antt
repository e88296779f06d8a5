-- Iarwennol. What a chain of tests tells of each of them. Assumes nothing.
-- Used where the test of a packet's form (headers), or of a context's soundness or constants (context), is taken apart.
use mathlib.Core.Path.{◌≡◌}
use mathlib.Core.Bool.{Bool, true, ◌&&◌, and-eq-true_iff}

-- a shorter chain is one that starts with `true`s
pub all-of-eight : (a b c d e f g h : Bool) → (a && b && c && d && e && f && g && h) ≡ true →
    (a ≡ true) × (b ≡ true) × (c ≡ true) × (d ≡ true) × (e ≡ true) × (f ≡ true) × (g ≡ true) × (h ≡ true)
all-of-eight a b c d e f g h k =
    let o = (and-eq-true_iff (a && b && c && d && e && f && g) h).0 k in
    let p = (and-eq-true_iff (a && b && c && d && e && f) g).0 o.0 in
    let q = (and-eq-true_iff (a && b && c && d && e) f).0 p.0 in
    let r = (and-eq-true_iff (a && b && c && d) e).0 q.0 in
    let s = (and-eq-true_iff (a && b && c) d).0 r.0 in
    let t = (and-eq-true_iff (a && b) c).0 s.0 in
    let u = (and-eq-true_iff a b).0 t.0 in
    (u.0, u.1, t.1, s.1, r.1, q.1, p.1, o.1)
