-- Iarwennol. The forms that a full header must not have (rule 6.1): it is refused with 5 exactly where it has one of them, once it
-- has 40 bytes and its context number is known (rule 3.3). Assume nothing.
use Rattle.std.specs.Prelude.{ℕ, ◌/◌, ◌%◌, ◌≤◌, ◌<◌, ◌≡◌, ◌≢◌, Bool, true, false, cond, not, ◌&&◌, List, eqb, leb, ltb, length}
use Rattle.std.proofs.Math.Path.{refl}
use Rattle.std.proofs.Math.Bool.{and-eq-true_iff}
use Rattle.std.proofs.Common.{true≢false, arith}
use borrow.Author.Tests.{ltb-false, leb-false, eqb-true, eqb-false, le-ltb, lt-leb, not-true}
use Rattle.codes.specs.Numbers.{cut, forbidden, no_such_context}
use Rattle.codes.specs.Reading.{byte_at, word_at}
use Rattle.headers.specs.Header.{count_at, size_with}
use Rattle.headers.specs.Checksum.{ip_checksum_of}
use Rattle.headers.specs.Compressible.{fixed_form}
use Rattle.headers.proofs.CompressibleLaws.{FixedForm, fixed_form-true}
use Rattle.links.specs.Fh.{fields_form, checksum_right, fh_judged}

---- what is stated

-- first byte; leading 0, 1; twelve zeros; MF and fragment offset; protocol; IP checksum, once the length is put back; RTP version
pub data ForbiddenForm (s : List ℕ) : Type 0 where
  forbidden-first : byte_at s 0 ≢ 0x45 → ForbiddenForm s
  forbidden-leading : byte_at s 2 / 64 ≢ 1 → ForbiddenForm s
  forbidden-sequence : word_at s 24 / 16 ≢ 0 → ForbiddenForm s
  forbidden-fragment : word_at s 6 % 0x4000 ≢ 0 → ForbiddenForm s
  forbidden-protocol : byte_at s 9 ≢ 17 → ForbiddenForm s
  forbidden-checksum : word_at s 10 ≢ ip_checksum_of s (length s) → ForbiddenForm s
  forbidden-version : byte_at s 28 / 64 ≢ 2 → ForbiddenForm s

-- k: how many contexts there are
pub record FhForbidden (k : ℕ) (s : List ℕ) : Type 0 where
  pub enough : 40 ≤ length s
  pub context : byte_at s 3 < k
  pub form : ForbiddenForm s

---- one of the forms is enough

module _ (s : List ℕ) where
  abbrev form_right : Bool
  form_right = fixed_form s && fields_form s && checksum_right s

  fields-right : fields_form s ≡ true → (byte_at s 2 / 64 ≡ 1) × (word_at s 24 / 16 ≡ 0)
  unfolding fields_form
  fields-right e =
      let t = (and-eq-true_iff (eqb (byte_at s 2 / 64) 1) (eqb (word_at s 24 / 16) 0)).0 e in
      (eqb-true (byte_at s 2 / 64) 1 t.0, eqb-true (word_at s 24 / 16) 0 t.1)

  right-forbidden : FixedForm s → (byte_at s 2 / 64 ≡ 1) × (word_at s 24 / 16 ≡ 0) → word_at s 10 ≡ ip_checksum_of s (length s)
      → ForbiddenForm s → ⊥
  right-forbidden f l c (forbidden-first n) = n f.first
  right-forbidden f l c (forbidden-leading n) = n l.0
  right-forbidden f l c (forbidden-sequence n) = n l.1
  right-forbidden f l c (forbidden-fragment n) = n f.whole
  right-forbidden f l c (forbidden-protocol n) = n f.protocol
  right-forbidden f l c (forbidden-checksum n) = n c
  right-forbidden f l c (forbidden-version n) = n f.version

  not_right : form_right ≡ true → ForbiddenForm s → ⊥
  not_right e =
      let t = (and-eq-true_iff (fixed_form s && fields_form s) (checksum_right s)).0 e in
      let u = (and-eq-true_iff (fixed_form s) (fields_form s)).0 t.0 in
      right-forbidden (fixed_form-true s u.0) (fields-right u.1) (eqb-true (word_at s 10) (ip_checksum_of s (length s)) t.1)

  form-wrong : ForbiddenForm s → form_right ≡ false
  form-wrong f = by form_right refl
    where
      by : (b : Bool) → form_right ≡ b → b ≡ false
      by true e = absurd (not_right e f)
      by false e = refl

module _ (k : ℕ) (s : List ℕ) where
  pub fh_judged-forbidden : FhForbidden k s → fh_judged k s ≡ forbidden
  unfolding fh_judged
  fh_judged-forbidden f =
      rw (le-ltb (length s) 40 f.enough, lt-leb k (byte_at s 3) f.context, form-wrong s f.form)

---- and one of them there must be

module _ (s : List ℕ) where
  -- the first of the tests that fails
  form-by : (a b c d e f g : Bool)
      → eqb (byte_at s 0) 0x45 ≡ a → eqb (word_at s 6 % 0x4000) 0 ≡ b → eqb (byte_at s 9) 17 ≡ c → eqb (byte_at s 28 / 64) 2 ≡ d
      → eqb (byte_at s 2 / 64) 1 ≡ e → eqb (word_at s 24 / 16) 0 ≡ f → eqb (word_at s 10) (ip_checksum_of s (length s)) ≡ g
      → ((a && b && c && d) && (e && f) && g) ≡ false → ForbiddenForm s
  form-by false b c d e f g p q r t u v w n = forbidden-first (eqb-false _ _ p)
  form-by true false c d e f g p q r t u v w n = forbidden-fragment (eqb-false _ _ q)
  form-by true true false d e f g p q r t u v w n = forbidden-protocol (eqb-false _ _ r)
  form-by true true true false e f g p q r t u v w n = forbidden-version (eqb-false _ _ t)
  form-by true true true true false f g p q r t u v w n = forbidden-leading (eqb-false _ _ u)
  form-by true true true true true false g p q r t u v w n = forbidden-sequence (eqb-false _ _ v)
  form-by true true true true true true false p q r t u v w n = forbidden-checksum (eqb-false _ _ w)
  form-by true true true true true true true p q r t u v w n = absurd (true≢false n)

  wrong-form : form_right s ≡ false → ForbiddenForm s
  unfolding fixed_form fields_form
  wrong-form n = form-by
      (eqb (byte_at s 0) 0x45) (eqb (word_at s 6 % 0x4000) 0) (eqb (byte_at s 9) 17) (eqb (byte_at s 28 / 64) 2)
      (eqb (byte_at s 2 / 64) 1) (eqb (word_at s 24 / 16) 0) (eqb (word_at s 10) (ip_checksum_of s (length s)))
      refl refl refl refl refl refl refl n

module _ (k : ℕ) (s : List ℕ) where
  judged-by : (a b c d : Bool) → ltb (length s) 40 ≡ a → leb k (byte_at s 3) ≡ b → not (form_right s) ≡ c
      → cond a cut (cond b no_such_context (cond c forbidden (cond d cut 0))) ≡ forbidden
      → FhForbidden k s
  judged-by true b c d x y z e = absurd (omega arith)
  judged-by false true c d x y z e = absurd (omega arith)
  judged-by false false true d x y z e = record {
    enough = ltb-false _ _ x;
    context = leb-false _ _ y;
    form = wrong-form s (not-true _ z);
  }
  judged-by false false false true x y z e = absurd (omega arith)
  judged-by false false false false x y z e = absurd (omega arith)

  pub forbidden-fh_judged : fh_judged k s ≡ forbidden → FhForbidden k s
  unfolding fh_judged
  forbidden-fh_judged e = judged-by (ltb (length s) 40) (leb k (byte_at s 3)) (not (form_right s))
      (ltb (length s) (size_with (count_at s 28))) refl refl refl e
