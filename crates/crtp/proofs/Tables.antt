-- Iarwennol. The relation of the two tables: what it says of the compressor's, of the decompressor's, and of both at one context
-- number. Each part is kept by the calls of its end, and holds of the tables that openings leave. Assumes nothing.
-- Used by all that follows.
use Prim.Native.Nat.{ℕ, zero, suc, ◌<◌}
use mathlib.Core.Path.{◌≡◌, refl, ap, ◌∙◌}
use mathlib.Core.Bool.{true, true≢false}
use mathlib.Core.List.{List}
use native.Mathlib.Omega.{arith}
use lib.ListN.{length, get_or, replicate, length-replicate}
use Rattle.codes.specs.Bytes.{AllBytes}
use Rattle.settings.specs.Settings as settings
use Rattle.settings.specs.declared.Settings.{Settings}
use Rattle.context.proofs.Relation.{Held}
use Rattle.context.proofs.Relation.{Related}
use Rattle.context.specs.Ranges.{ContextInRange}
use Rattle.context.specs.Sound.{empty_compressor, empty_decompressor}
use Rattle.context.specs.declared.compressor.CompressorContext.{CompressorContext}
use Rattle.context.specs.declared.decompressor.DecompressorContext.{DecompressorContext}
use Rattle.context.proofs.Others.{related-empty}
use Rattle.compressor.specs.declared.table.Table as compressor
use Rattle.compressor.specs.Table as compressing
use Rattle.compressor.proofs.TableLaws as compressing-laws
use Rattle.compressor.specs.Send.{send_of}
use Rattle.compressor.proofs.SoundLaws.{sound-send, settings-send, length-send, held-send}
use Rattle.compressor.specs.Request.{request_of}
use Rattle.compressor.proofs.RequestLaws.{request-asks, sound-request, held-request}
use Rattle.decompressor.specs.declared.table.Table as decompressor
use Rattle.decompressor.specs.Table as decompressing
use Rattle.decompressor.proofs.TableLaws as decompressing-laws
use Rattle.decompressor.specs.Receive.{receive_of}
use Rattle.decompressor.proofs.ReceiveSound.{sound-receive, settings-receive, length-receive, range-receive}
use Rattle.crtp.specs.Robust.{Bytes}

-- of the compressor's table, from its opening on: it is sound, of these settings, and every number is within its type
pub record SenderFit (s : Settings) (t : compressor.Table) : Type 0 where
  pub settings : t.settings ≡ s
  pub sound : compressing.Sound t
  pub size : length t.contexts ≡ 64
  pub held : (i : ℕ) → Held (compressing.context_at t i)

-- of the decompressor's table, whatever its contexts hold: it is sound, of the same settings, and every number is within its type,
-- as it must be for a save of it to load as the same table
pub record ReceiverFit (s : Settings) (d : decompressor.Table) : Type 0 where
  pub settings : d.settings ≡ s
  pub sound : decompressing.Sound d
  pub size : length d.contexts ≡ 64
  pub held : (i : ℕ) → i < 64 → ContextInRange (decompressing.context_at d i)

-- of both at context c, when j packets on it were lost since the last accepted one: the two contexts are related
abbrev pub RelatedAt : (c j : ℕ) → decompressor.Table → compressor.Table → Type 0
RelatedAt c j d t = Related t.settings.repeats j (decompressing.context_at d c) (compressing.context_at t c)

pub record Rel (s : Settings) (c j : ℕ) (d : decompressor.Table) (t : compressor.Table) : Type 0 where
  pub sender : SenderFit s t
  pub receiver : ReceiverFit s d
  pub related : RelatedAt c j d t

---- Calls

module _ (s : Settings) where
  module _ (t : compressor.Table) (f : SenderFit s t) where
    pub sender-send : (p output : Bytes) → SenderFit s (send_of t p.list output.list).table
    sender-send p output = record {
      settings = settings-send t p.list output.list ∙ f.settings;
      sound = sound-send t p.list output.list p.small f.size f.sound;
      size = length-send t p.list output.list ∙ f.size;
      held = held-send t p.list output.list p.small f.held;
    }

    pub sender-request : (q : Bytes) → SenderFit s (request_of t q.list).table
    sender-request q = record {
      settings = (request-asks t q.list).settings ∙ f.settings;
      sound = sound-request t q.list f.sound;
      size = (request-asks t q.list).size ∙ f.size;
      held = held-request t q.list f.held;
    }

  pub receiver-receive : (d : decompressor.Table) (kind : ℕ) (bytes output : List ℕ) → AllBytes bytes → ReceiverFit s d
      → ReceiverFit s (receive_of d kind bytes output).table
  receiver-receive d kind bytes output small f = record {
    settings = settings-receive d kind bytes f.sound small output ∙ f.settings;
    sound = sound-receive d kind bytes f.sound small output;
    size = length-receive d kind bytes f.sound small output ∙ f.size;
    held = λ i h. range-receive d kind bytes f.sound small output i (f.held i h);
  }

---- Openings

-- what holds of x and of d holds at every place of a list of x, and past its end
replicate-each : {A : Type 0} (P : A → Type 0) (n i : ℕ) (x d : A) → P x → P d → P (get_or (replicate n x) i d)
replicate-each P zero i x d px pd = pd
replicate-each P (suc n) zero x d px pd = px
replicate-each P (suc n) (suc i) x d px pd = replicate-each P n i x d px pd

no_context-held : Held compressing.no_context
no_context-held = record {
  id = omega arith;
  sequence = omega arith;
  timestamp = omega arith;
  did = omega arith;
  dts = omega arith;
  link = omega arith;
}

no_context-related : (n : ℕ) (v : DecompressorContext) → Related n 0 v compressing.no_context
no_context-related n v = record {
  few = omega arith;
  held = no_context-held;
  close = λ live h. absurd (true≢false (ap compressing.empty_by live));
}

module _ (s : Settings) (range : settings.sound s ≡ true) where
  related-fresh : (c : ℕ) (v : DecompressorContext)
      → Related s.repeats 0 v (compressing.context_at (compressing.empty_table s) c)
  related-fresh c v =
      replicate-each (λ (x : CompressorContext). Related s.repeats 0 v x) 64 c empty_compressor compressing.no_context
      (related-empty s.repeats v) (no_context-related s.repeats v)

  pub sender-fresh : SenderFit s (compressing.empty_table s)
  sender-fresh = record {
    settings = refl;
    sound = compressing-laws.sound-empty_table s range;
    size = length-replicate 64 empty_compressor;
    held = λ i. (related-fresh i decompressing.no_context).held;
  }

  pub receiver-fresh : ReceiverFit s (decompressing.empty_table s)
  receiver-fresh = record {
    settings = refl;
    sound = decompressing-laws.sound-empty_table s range;
    size = length-replicate 64 empty_decompressor;
    held = decompressing-laws.range-empty_table s;
  }

  pub rel-fresh : (c : ℕ) → Rel s c 0 (decompressing.empty_table s) (compressing.empty_table s)
  rel-fresh c = record {
    sender = sender-fresh;
    receiver = receiver-fresh;
    related = related-fresh c (decompressing.context_at (decompressing.empty_table s) c);
  }
