-- Iarwennol. The theorem: robustness, proved. Assumes nothing.
-- The tables that openings leave are related (Tables); the two ends meet the laws of the list theorem (Laws), so they are faithful
-- (calls); and that is the claim over bytes (Lists). In the literal reading of loads the claim follows from it (calls).
use Prim.Native.Nat.{ℕ}
use mathlib.Core.Path.{◌≡◌, ◌∙◌}
use mathlib.Core.Bool.{true}
use mathlib.Core.List.{List, map}
use Rattle.settings.specs.Settings as settings
use Rattle.settings.specs.declared.Settings.{Settings}
use Rattle.compressor.specs.declared.table.Table as compressor
use Rattle.compressor.specs.Table as compressing
use Rattle.compressor.proofs.TableLaws as compressing-laws
use Rattle.decompressor.specs.declared.table.Table as decompressor
use Rattle.decompressor.specs.Table as decompressing
use Rattle.decompressor.proofs.TableLaws as decompressing-laws
use Rattle.calls.specs.Calls as calls
use Rattle.calls.specs.Literal.{Literal}
use Rattle.calls.proofs.Faithful.{answered, faithful}
use Rattle.calls.proofs.Literal.{literal}
use Rattle.crtp.specs.Robust.{Call, Opened, Premises, Robust}
use Rattle.crtp.proofs.Lists.{ends, call_of, allowed-to-ends, exact-from-ends}
use Rattle.crtp.proofs.Tables.{SenderFit, ReceiverFit, Rel, sender-fresh, receiver-fresh, rel-fresh}
use Rattle.crtp.proofs.Laws.{laws}

module _ (s : Settings) (t : compressor.Table) (d : decompressor.Table) (o : Opened s t d) where
  in-range : settings.sound s ≡ true
  in-range = (compressing-laws.open_of-accepted o.earlier_c s.repeats s.contexts o.accepted_c).0

  pub opened-compressor : t ≡ compressing.empty_table s
  opened-compressor =
      o.compressor ∙ (compressing-laws.open_of-accepted o.earlier_c s.repeats s.contexts o.accepted_c).1

  opened-decompressor : d ≡ decompressing.empty_table s
  opened-decompressor =
      o.decompressor ∙ (decompressing-laws.open_of-accepted o.earlier_d s.repeats s.contexts o.accepted_d).1

  sender : SenderFit s t
  sender = rw opened-compressor (sender-fresh s in-range)

  receiver : ReceiverFit s d
  receiver = rw opened-decompressor (receiver-fresh s in-range)

  related : (c : ℕ) → Rel s c 0 d t
  related c = rw (opened-compressor, opened-decompressor) (rel-fresh s in-range c)

  pub opened-faithful : calls.Faithful ends s.repeats t d
  opened-faithful = faithful (laws s) t d sender receiver related

  -- rule 10.8: once undone by a load, lost for ever: this reading asks more, so the claim in it follows
  pub literally : Literal ends s.repeats t d
  literally = literal ends s.repeats t d opened-faithful

  -- every arrival, with room or without, finds a table that answers it rightly
  pub opened-answered : (xs : List Call) → Premises s t d xs
      → calls.Always ends (calls.AtArrival ends (calls.Answered ends)) (calls.fresh ends t d) (map call_of xs)
  opened-answered xs p =
      answered (laws s) t d sender receiver related (map call_of xs) (allowed-to-ends s.repeats t d xs p.allowed)

pub robust : Robust
robust s t d xs p = exact-from-ends s.repeats t d xs (opened-faithful s t d p.opened) p.allowed
