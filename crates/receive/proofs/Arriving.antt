-- Iarwennol. The ways of an arrival, each as the answer that it gives. Assume nothing.
-- Used by the proofs of arrive, receive_kind and receive.
use Prim.Native.Nat.{ℕ, ◌≤◌, ◌<◌}
use mathlib.Core.Path.{◌≡◌}
use mathlib.Core.Bool.{Bool, true, false, cond}
use mathlib.Core.List.{List}
use borrow.Author.Tests.{eq-eqb, ne_eqb, le-leb, lt-leb}
use lib.ListN.{length}
use Rattle.settings.specs.Settings.{length_allowed}
use Rattle.decompressor.specs.declared.old.OldForm.{OldForm}
use Rattle.decompressor.specs.declared.table.Table.{Table}
use Rattle.decompressor.specs.Answer.{refused}
use Rattle.decompressor.specs.Table.{sound_of}
use Rattle.decompressor.specs.Receive.{receive_plain, receive_full, receive_compressed, receive_kind, receive_by}

module _ (form : OldForm) (kind : ℕ) (t : Table) (s output : List ℕ) where
  ---- by type

  pub kind-plain : kind ≡ 0 → receive_plain t s output ≡ receive_kind form kind t s output
  unfolding receive_kind
  kind-plain e = rw (eq-eqb kind 0 e)

  pub kind-full : (kind ≡ 0 → ⊥) → kind ≡ 1 → receive_full t s output ≡ receive_kind form kind t s output
  unfolding receive_kind
  kind-full n e = rw (ne_eqb kind 0 n, eq-eqb kind 1 e)

  pub kind-compressed : (kind ≡ 0 → ⊥) → (kind ≡ 1 → ⊥) → receive_compressed form kind t s output
      ≡ receive_kind form kind t s output
  unfolding receive_kind
  kind-compressed n e = rw (ne_eqb kind 0 n, ne_eqb kind 1 e)

  ---- before it

  pub by-unsound : sound_of t ≡ false → refused t 1 output ≡ receive_by form t kind s output
  unfolding receive_by
  by-unsound e = rw e

  module _ (e : sound_of t ≡ true) where
    pub by-type : 3 < kind → refused t 3 output ≡ receive_by form t kind s output
    unfolding receive_by
    by-type h = rw (e, lt-leb kind 3 h)

    module _ (h : kind ≤ 3) where
      pub by_length : length_allowed (length s) ≡ false → refused t 2 output ≡ receive_by form t kind s output
      unfolding receive_by
      by_length l = rw (e, le-leb kind 3 h, l)

      pub by_kind : length_allowed (length s) ≡ true → receive_kind form kind t s output ≡ receive_by form t kind s output
      unfolding receive_by
      by_kind l = rw (e, le-leb kind 3 h, l)

---- what was read, in one of two ways

pub either : {A : Type 0} (P : A → Type 0) (b : Bool) (x y : A) → P x → P y → P (cond b x y)
either P true x y p q = p
either P false x y p q = q
