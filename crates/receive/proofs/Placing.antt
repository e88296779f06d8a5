-- Iarwennol. An arrival on a context of a table that is lent: the context that was read, and the one that is stored. Assumes
-- nothing.
-- Used by the proofs of receive_compressed and accept_full.
use Prim.Native.Nat.{ℕ, ◌≤◌, ◌<◌}
use mathlib.Core.Path.{◌≡◌, sym, ap, ◌∙◌}
use mathlib.Core.List.{List}
use native.Mathlib.Omega.{arith}
use lib.ListN.{length, get_or, set}
use lib.Seq.{get_or-set_same}
use Rattle.links.specs.declared.head.Head.{Head}
use Rattle.links.specs.Fh.{fh_judged}
use Rattle.links.specs.Head.{head_of}
use Rattle.packet.specs.Refusal.{number_of}
use Rattle.packet.specs.RefusalLaws.{number_of-refused}
use Rattle.packet.specs.declared.refusal.Refusal.{Refusal}
use Rattle.context.specs.declared.decompressor.DecompressorContext.{DecompressorContext}
use Rattle.std.specs.Prelude.{Ok, Err}
use Rattle.decompressor.specs.declared.old.OldForm.{OldForm}
use Rattle.decompressor.specs.declared.table.Table.{Table}
use Rattle.decompressor.specs.Answer.{Result, said}
use Rattle.decompressor.specs.Receive.{receive_on, receive_full}
use Rattle.decompressor.specs.Table.{no_context, context_at, with_context, Sound}
use Rattle.planes.specs.Planes.{Lent}
use Rattle.decompressor_table.specs.Layout.{context_in, table_of, Fits, Puts}
use Rattle.decompressor_table.specs.LayoutLaws.{table_of-at, table_of-repeats, length-table_of}
use Rattle.decompressor_table.specs.Calls.{Gives}
use Rattle.decompressor_table.specs.CallsLaws.{gives-accepted}
use Rattle.receive.specs.declared.settle.Taken.{Taken}
use Rattle.receive.specs.Taken.{placed, Takes, HeadRead, accept_full}
use Rattle.receive.specs.TakenLaws.{head_read}

module _ (l : Lent) (i : ℕ) (f : Fits l) (h : i < 64) where
  -- a table that is left with a context has the context that was there
  kept-context : (c : DecompressorContext) → with_context (table_of l) i c ≡ table_of l
      → c ≡ context_in l.words l.shorts l.bytes i
  kept-context c e =
      sym (get_or-set_same (table_of l).contexts i c no_context (omega (arith, length-table_of l f)))
      ∙ ap (λ (t : Table). context_at t i) e ∙ table_of-at l i f h

  pub gives-placed : (after : Lent) (x : Taken) (output : List ℕ) (want : Result) → Puts l i x.context after
      → placed x (table_of l) i output ≡ want → Gives l after x.outcome output want
  gives-placed after x output want p e = record {
    says = ap (λ (t : Table). said x.outcome t output) p.table ∙ e;
    keeps = λ n q. p.same (kept-context x.context (ap (λ (r : Result). r.table) e ∙ q));
  }

  module _ (c : DecompressorContext) (e : c ≡ context_in l.words l.shorts l.bytes i) where
    pub here : context_at (table_of l) i ≡ c
    here = table_of-at l i f h ∙ sym e

    pub head-here : (x : Head) (s : List ℕ) → Sound (table_of l) → 1 ≤ length s → length s ≤ 1500 → x ≡ head_of s
        → HeadRead (get_or l.bytes 832 0) c x s
    head-here x s sound some few q =
        let r = head_read (table_of l) i s sound some few in
        record {
          few = omega (arith, r.few, table_of-repeats l f);
          sound = rw (sym here) r.sound;
          link = rw q r.link;
          within = rw q r.within;
          short = r.short;
        }

    pub taken_here : (form : OldForm) (kind : ℕ) (x : Head) (s before after : List ℕ) (t : Taken) → x ≡ head_of s
        → Takes (get_or l.bytes 832 0) c t after (λ u k. receive_on form c.status kind u k x s before)
        → placed t (table_of l) i after
        ≡ receive_on form (context_at (table_of l) i).status kind (table_of l) i (head_of s) s before
    taken_here form kind x s before after t q k =
        k.anywhere (table_of l) i (table_of-repeats l f) here
        ∙ (λ j. receive_on form ((sym here) j).status kind (table_of l) i (q j) s before)

-- a full header that was accepted, and the context that it set
pub gives-full : (l after : Lent) (i n : ℕ) (c : DecompressorContext) (output : List ℕ) (want : Result) → Puts l i c after
    → said (Ok n) (with_context (table_of l) i c) output ≡ want → Gives l after (Ok n) output want
gives-full l after i n c output want p e =
    gives-accepted l after n output want (ap (λ (t : Table). said (Ok n) t output) p.table ∙ e)

---- receive_full, by how its bytes are judged

module _ (t : Table) (s output : List ℕ) where
  pub full-good : fh_judged t.settings.contexts s ≡ 0 → accept_full t s output ≡ receive_full t s output
  unfolding receive_full
  full-good e = rw e

  pub full-refused : (why : Refusal) → fh_judged t.settings.contexts s ≡ number_of why
      → said (Err why) t output ≡ receive_full t s output
  unfolding receive_full
  full-refused why e = rw (e, number_of-refused why)
