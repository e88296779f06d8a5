-- Iarwennol. Laws of a saved table's size: the parts of a record, the records one context at a time, and the most that a table
-- takes. Assume nothing.
-- Used by the proofs of save, which works the size out before it writes, and by those who hand it an output (crtp).
use Rattle.std.specs.Prelude.{ℕ, zero, suc, ◌+◌, ◌*◌, ◌≤◌, ◌<◌, ◌≡◌, refl, Bool, true, false, cond, not, List, [], ◌∷◌, ◌++◌, eqb}
use Rattle.std.specs.Prelude.{length, get_or, take}
use Rattle.std.proofs.Common.{sym, ap, ◌∙◌, append-nil, append_assoc, add-one, arith, eqb-true, length-append, take-suc}
use Rattle.std.proofs.Math.Bool.{and-eq-true_iff}
use Rattle.packet.specs.Ranges.{Narrow}
use Rattle.packet.proofs.Chain.{all-of-eight}
use Rattle.packet.specs.declared.csrc.Csrc.{Csrc}
use Rattle.packet.specs.declared.header.Header.{Header}
use Rattle.octets.specs.PutLaws.{length-words}
use Rattle.headers.specs.Header.{header_bytes, header_size, ip_front, ip_back, udp_bytes, rtp_fixed}
use Rattle.headers.specs.ListLaws.{length-list_bytes}
use Rattle.context.specs.All.{all}
use Rattle.context.specs.Sound.{zero_flow, zero_ip, zero_rtp, zero_list, zero_deltas, zero_link, zeros}
use Rattle.context.specs.Sound.{filled_sound, unfilled_sound, sound_decompressor, sound_decompressor_by}
use Rattle.context.specs.Decompressor.{rebuilt}
use Rattle.context.proofs.SoundFacts.{filled_sound-bounds, sound_list-count}
use Rattle.context.proofs.Unfilled.{zero-ip, zero-rtp}
use Rattle.context.specs.declared.decompressor.Status.{Status}
use Rattle.context.specs.declared.decompressor.Status.TheVariants.{Empty, Live, Broken}
use Rattle.context.specs.declared.decompressor.DecompressorContext.{DecompressorContext}
use Rattle.decompressor.specs.declared.table.Table.{Table}
use Rattle.decompressor.specs.Table.{Sound}
use Rattle.decompressor.proofs.TableLaws.{sound-most}
use Rattle.saves.specs.Saves.{kept, kept_bytes, used_bytes, record_by, record_bytes, records_bytes, saved_bytes}

---- kept

-- a sound context's header can be written, whatever its status
narrow-filled : (c : DecompressorContext) → filled_sound c ≡ true → Narrow (kept c)
unfolding rebuilt
narrow-filled c e =
    let b = filled_sound-bounds c e in
    record { flags = omega (arith, b.flags); payload = omega (arith, b.payload); count = sound_list-count c.csrc b.list }

zero_list-count : (l : Csrc) → zero_list l ≡ true → l.count ≡ 0
unfolding zero_list
zero_list-count l e = eqb-true l.count 0 ((and-eq-true_iff (eqb l.count 0) (zeros l.words)).0 e).0

narrow-unfilled : (c : DecompressorContext) → unfilled_sound c ≡ true → Narrow (kept c)
unfolding rebuilt unfilled_sound
narrow-unfilled c e =
    let a = all-of-eight (zero_flow c.flow) (zero_ip c.ip) (zero_rtp c.rtp) (zero_list c.csrc) (not c.carried)
    (not c.marker) (zero_deltas c.deltas) (zero_link c.link) e in
    record {
      flags = rw (zero-ip c.ip a.1) (omega arith);
      payload = rw (zero-rtp c.rtp a.2) (omega arith);
      count = omega (arith, zero_list-count c.csrc a.3);
    }

narrow-either : (f : Bool) (c : DecompressorContext) → cond f (filled_sound c) (unfilled_sound c) ≡ true → Narrow (kept c)
narrow-either true c e = narrow-filled c e
narrow-either false c e = narrow-unfilled c e

narrow-by : (s : Status) (c : DecompressorContext) → sound_decompressor_by s c ≡ true → Narrow (kept c)
unfolding sound_decompressor_by
narrow-by Empty c e = narrow-unfilled c ((and-eq-true_iff (not c.filled) (unfilled_sound c)).0 e).1
narrow-by Live c e = narrow-filled c ((and-eq-true_iff c.filled (filled_sound c)).0 e).1
narrow-by Broken c e = narrow-either c.filled c e

pub kept-narrow : (c : DecompressorContext) → sound_decompressor c ≡ true → Narrow (kept c)
unfolding sound_decompressor
kept-narrow c e = narrow-by c.status c e

---- kept_bytes

pub length-kept_bytes : (h : Header) → h.csrc.count ≤ length h.csrc.words → length (kept_bytes h) ≡ header_size h
unfolding header_bytes ip_front ip_back udp_bytes rtp_fixed
length-kept_bytes h k = omega (arith, length-list_bytes h.csrc k)

-- no more than that, also where the list is not known to have its words
take-most : (n : ℕ) (l : List ℕ) → length (take n l) ≤ n
take-most zero l = omega arith
take-most (suc n) [] = omega arith
take-most (suc n) (x ∷ l) = let h = take-most n l in omega arith

kept_bytes-most : (h : Header) → h.csrc.count ≤ 15 → length (kept_bytes h) ≤ 100
unfolding header_bytes ip_front ip_back udp_bytes rtp_fixed
kept_bytes-most h k =
    omega (arith, length-words (take h.csrc.count h.csrc.words), take-most h.csrc.count h.csrc.words)

---- record_bytes

header_part-by : (f : Bool) (n m : ℕ) (bs : List ℕ) → length bs ≤ m → length (cond f (n ∷ bs) (0 ∷ [])) ≤ suc m
header_part-by true n m bs h = omega arith
header_part-by false n m bs h = omega arith

used_bytes-most : (state : ℕ) (c : DecompressorContext) → Narrow (kept c) → length (used_bytes state c) ≤ 110
used_bytes-most state c n =
    let h = header_part-by c.filled (header_size (kept c)) 100 (kept_bytes (kept c)) (kept_bytes-most (kept c) n.count) in
    omega arith

record_by-most : (s : Status) (c : DecompressorContext) → Narrow (kept c) → length (record_by s c) ≤ 110
record_by-most Empty c n = omega arith
record_by-most Live c n = used_bytes-most 1 c n
record_by-most Broken c n = used_bytes-most 2 c n

pub record_bytes-most : (c : DecompressorContext) → sound_decompressor c ≡ true → length (record_bytes c) ≤ 110
unfolding record_bytes
record_bytes-most c e = record_by-most c.status c (kept-narrow c e)

---- records_bytes

pub records_bytes-append : (a b : List DecompressorContext) → records_bytes (a ++ b) ≡ records_bytes a ++ records_bytes b
records_bytes-append [] b = refl
records_bytes-append (c ∷ a) b =
    ap (λ l. record_bytes c ++ l) (records_bytes-append a b) ∙ sym (append_assoc (record_bytes c) (records_bytes a)
    (records_bytes b))

module _ (l : List DecompressorContext) (i : ℕ) where
  -- one context more
  pub records_bytes-more : (d : DecompressorContext) → i < length l
      → records_bytes (take (i + 1) l) ≡ records_bytes (take i l) ++ record_bytes (get_or l i d)
  records_bytes-more d h =
      rw (add-one, take-suc l i d h)
      (records_bytes-append (take i l) (get_or l i d ∷ [])
      ∙ ap (λ r. records_bytes (take i l) ++ r) (append-nil (record_bytes (get_or l i d))))

-- the first of them are no more than all
pub records_bytes-few : (l : List DecompressorContext) (i n : ℕ) → i ≤ n
    → length (records_bytes (take i l)) ≤ length (records_bytes (take n l))
records_bytes-few l zero n h = omega arith
records_bytes-few l (suc i) zero h = absurd (omega arith)
records_bytes-few [] (suc i) (suc n) h = omega arith
records_bytes-few (c ∷ l) (suc i) (suc n) h =
    let f = records_bytes-few l i n (omega arith) in
    omega (
      arith,
      length-append (record_bytes c) (records_bytes (take i l)),
      length-append (record_bytes c) (records_bytes (take n l)),
    )

pub records_bytes-most : (l : List DecompressorContext) (n : ℕ) → all sound_decompressor l ≡ true
    → length (records_bytes (take n l)) ≤ 110 * n
records_bytes-most l zero e = omega arith
records_bytes-most [] (suc n) e = omega arith
records_bytes-most (c ∷ l) (suc n) e =
    let p = (and-eq-true_iff (sound_decompressor c) (all sound_decompressor l)).0 e in
    let f = records_bytes-most l n p.1 in
    omega (arith, length-append (record_bytes c) (records_bytes (take n l)), record_bytes-most c p.0)

---- saved_bytes

pub length-saved_bytes : (t : Table)
    → length (saved_bytes t) ≡ 5 + length (records_bytes (take t.settings.contexts t.contexts))
unfolding saved_bytes
length-saved_bytes t = omega arith

-- rule 14.1: 2 + 3 + 64 × 110, so the length of what follows it fits its field
pub saves-longest : (t : Table) → Sound t → length (saved_bytes t) ≤ 7045
saves-longest t s =
    omega (
      arith,
      length-saved_bytes t,
      records_bytes-most t.contexts t.settings.contexts s.contexts,
      sound-most t s,
    )
