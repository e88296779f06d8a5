-- Iarwennol. Two lists without a word are the same: that of a packet's header, and that of a context of a sound table that is lent.
-- Assumes nothing. Used by the proof of send.
use Prim.Native.Nat.{ℕ, ◌<◌}
use mathlib.Core.Path.{◌≡◌, refl, sym, ap, ◌∙◌}
use mathlib.Core.Bool.{true}
use mathlib.Core.List.{List}
use lib.ListN.{length}
use Rattle.packet.specs.Csrc.{no_list}
use Rattle.headers.specs.Header.{list_at, count_at, rtp_at, header_of}
use Rattle.context.specs.Sound.{used_sound, sound_compressor, sound_compressor_by}
use Rattle.context.specs.declared.compressor.Usage.{Usage}
use Rattle.context.specs.declared.compressor.Usage.TheVariants.{Live}
use Rattle.context.specs.declared.compressor.CompressorContext.{CompressorContext}
use Rattle.context.proofs.SoundFacts.{used_sound-bounds}
use Rattle.context.proofs.Unfilled.{sound_list-none}
use Rattle.compressor.specs.Table.{context_at, sound_of}
use Rattle.compressor.proofs.TableLaws.{sound_of-true}
use Rattle.compressor.proofs.CanSendLaws.{sound-context_at}
use Rattle.planes.specs.Planes.{Lent}
use Rattle.compressor_table.specs.Layout.{context_of, context_in, table_of, Fits}
use Rattle.compressor_table.specs.LayoutLaws.{table_of-at, length-table_of}
use Rattle.compressor_steady.specs.Unlisted.{Unlisted}

---- A header's list

list_at-none : (s : List ℕ) (at n : ℕ) → n ≡ 0 → list_at s at n ≡ no_list
list_at-none s at n e = rw e

header-none : (p : List ℕ) → (header_of p).csrc.count ≡ 0 → (header_of p).csrc ≡ no_list
unfolding header_of rtp_at
header-none p e = list_at-none p 40 (count_at p 28) e

---- A context's list

live-sound : (n : ℕ) (c : CompressorContext) → sound_compressor n c ≡ true → c.status ≡ Live → used_sound n c ≡ true
unfolding sound_compressor sound_compressor_by
live-sound n c e s = ap (λ (u : Usage). sound_compressor_by u n c) (sym s) ∙ e

sound_none : (n : ℕ) (c : CompressorContext) → sound_compressor n c ≡ true → c.status ≡ Live → c.csrc.count ≡ 0
    → length c.csrc.words ≡ 15 → c.csrc ≡ no_list
sound_none n c e s z m = sound_list-none c.csrc (used_sound-bounds n c (live-sound n c e s)).list z m

---- Both

fifteen : (w h b : List ℕ) (i : ℕ) → length (context_in w h b i).csrc.words ≡ 15
unfolding context_of
fifteen w h b i = refl

lent-fifteen : (l : Lent) (i : ℕ) → Fits l → i < 64 → length (context_at (table_of l) i).csrc.words ≡ 15
lent-fifteen l i f a =
    ap (λ (c : CompressorContext). length c.csrc.words) (table_of-at l i f a) ∙ fifteen l.words l.shorts l.bytes i

pub unlisted-lent : (l : Lent) (i : ℕ) (p : List ℕ) → Fits l → i < 64 → sound_of (table_of l) ≡ true
    → Unlisted (table_of l) i (header_of p)
unlisted-lent l i p f a e =
    λ live z y. header-none p z
    ∙ sym (sound_none (table_of l).settings.repeats (context_at (table_of l) i)
    (sound-context_at (table_of l) (sound_of-true (table_of l) e) (length-table_of l f) i a) live y (lent-fifteen l i f a))
