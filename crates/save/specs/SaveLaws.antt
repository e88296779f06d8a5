-- Iarwennol. Laws of a save by case: a header where there is one, a record by the state of its context, the answer. Assume
-- nothing.
-- Used by the proofs of save.
use Rattle.std.specs.Prelude.{ℕ, ◌+◌, ◌≤◌, ◌<◌, ◌≡◌, Bool, true, false, cond, List, [], ◌∷◌, ◌++◌, take}
use Rattle.std.proofs.Common.{sym, ◌∙◌}
use Rattle.std.proofs.Math.Path.{ap}
use native.Mathlib.Omega.{arith}
use Rattle.std.proofs.Common.{◌⊎◌, inl, inr}
use Rattle.std.proofs.Math.ListN.{length}
use Rattle.codes.specs.Bytes.{big_endian}
use Rattle.packet.specs.declared.refusal.Refusal.TheVariants.{NoRoom}
use Rattle.octets.specs.Put.{Wrote}
use Rattle.octets.specs.PutLaws.{wrote-front}
use Rattle.headers.specs.Header.{header_size, size_with}
use Rattle.context.specs.Decompressor.{rebuilt}
use Rattle.context.specs.declared.decompressor.Status.{Status}
use Rattle.context.specs.declared.decompressor.Status.TheVariants.{Empty, Live, Broken}
use Rattle.context.specs.declared.decompressor.DecompressorContext.{DecompressorContext}
use Rattle.std.specs.Prelude.{Ok, Err}
use Rattle.decompressor.specs.declared.table.Table.{Table}
use Rattle.decompressor.specs.Answer.{said, delivered}
use Rattle.decompressor.proofs.PacketLaws.{said-no_room, said-accepted}
use Rattle.decompressor.specs.Table.{sound_of}
use Rattle.saves.specs.Saves.{kept, kept_bytes, header_part, used_bytes, record_by, record_bytes, records_bytes, body_bytes}
use Rattle.saves.specs.Saves.{saved_bytes, save_of}
use Rattle.saves.proofs.SizeLaws.{length-kept_bytes, length-saved_bytes}

---- header_part

chosen : (f b : Bool) → f ≡ b → (x y : List ℕ) → cond f x y ≡ cond b x y
chosen f b e x y = ap (λ g. cond g x y) e

module _ (c : DecompressorContext) where
  pub header_part-filled : c.filled ≡ true → header_part c ≡ header_size (kept c) ∷ kept_bytes (kept c)
  header_part-filled e = chosen c.filled true e (header_size (kept c) ∷ kept_bytes (kept c)) (0 ∷ [])

  pub header_part-unfilled : c.filled ≡ false → header_part c ≡ 0 ∷ []
  header_part-unfilled e = chosen c.filled false e (header_size (kept c) ∷ kept_bytes (kept c)) (0 ∷ [])

  pub length-header_part : c.filled ≡ true → c.csrc.count ≤ length c.csrc.words
      → length (header_part c) ≡ 1 + header_size (kept c)
  unfolding rebuilt
  length-header_part e k = omega (arith, ap (length {A = ℕ}) (header_part-filled e), length-kept_bytes (kept c) k)

  ---- used_bytes

  -- ten bytes up to the header, whose size is the last of them
  pub length-filled : (state : ℕ) → c.filled ≡ true → c.csrc.count ≤ length c.csrc.words
      → length (used_bytes state c) ≡ 10 + size_with c.csrc.count
  unfolding rebuilt
  length-filled state e k = omega (arith, length-header_part e k)

  pub length-unfilled : (state : ℕ) → c.filled ≡ false → length (used_bytes state c) ≡ 10
  length-unfilled state e = omega (arith, ap (length {A = ℕ}) (header_part-unfilled e))

  ---- record_bytes

  pub record_bytes-empty : c.status ≡ Empty → record_bytes c ≡ 0 ∷ []
  unfolding record_bytes
  record_bytes-empty e = ap (λ (s : Status). record_by s c) e

  pub record_bytes-live : c.status ≡ Live → record_bytes c ≡ used_bytes 1 c
  unfolding record_bytes
  record_bytes-live e = ap (λ (s : Status). record_by s c) e

  pub record_bytes-broken : c.status ≡ Broken → record_bytes c ≡ used_bytes 2 c
  unfolding record_bytes
  record_bytes-broken e = ap (λ (s : Status). record_by s c) e

  -- live or broken, its record is as long
  pub length-record_bytes : (c.status ≡ Live) ⊎ (c.status ≡ Broken) → length (used_bytes 1 c) ≡ length (record_bytes c)
  length-record_bytes (inl e) = sym (ap (length {A = ℕ}) (record_bytes-live e))
  length-record_bytes (inr e) = sym (ap (length {A = ℕ}) (record_bytes-broken e))

---- save_of; n: how many bytes the records have

module _ (t : Table) (output : List ℕ) (sound : sound_of t ≡ true) where
  save_of-sound : save_of t output ≡ delivered t t (saved_bytes t) output
  unfolding save_of
  save_of-sound = rw sound

  abbrev records : List ℕ
  records = records_bytes (take t.settings.contexts t.contexts)

  module _ (n : ℕ) (e : n ≡ length records) where
    size-saved : 2 + (3 + n) ≡ length (saved_bytes t)
    size-saved = omega (arith, length-saved_bytes t)

    bytes-saved : big_endian 2 (3 + n) ++ body_bytes t ≡ saved_bytes t
    unfolding saved_bytes
    bytes-saved =
        let m : 3 + n ≡ length (body_bytes t) = omega arith in
        ap (λ x. big_endian 2 x ++ body_bytes t) m

    pub save-no_room : length output < 2 + (3 + n)
        → said (Err NoRoom) t output ≡ save_of t output
    save-no_room h = said-no_room t t (saved_bytes t) output (rw (← size-saved) h) ∙ sym save_of-sound

    pub save-accepted : (out : List ℕ) (r : ℕ) → 2 + (3 + n) ≤ length output
        → Wrote output out 0 r (big_endian 2 (3 + n) ++ body_bytes t)
        → said (Ok (2 + (3 + n))) t out ≡ save_of t output
    save-accepted out r h w =
        let room : length (saved_bytes t) ≤ length output = rw (← size-saved) h in
        said-accepted t t (saved_bytes t) output (2 + (3 + n)) out room size-saved (wrote-front (rw bytes-saved at w) room)
        ∙ sym save_of-sound
