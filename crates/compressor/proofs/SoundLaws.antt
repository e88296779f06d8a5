-- Iarwennol. Laws of what a send leaves: a sound table stays sound, its numbers stay within their types, and at most the context
-- that the packet is on is touched. Assume nothing.
-- Used by the theorem on lists of calls (crtp).
use Rattle.std.specs.Prelude.{ℕ, ◌%◌, ◌<◌, ◌≡◌, refl, true, List, eqb, length}
use Rattle.std.proofs.Common.{subst, sym, arith, length-set, get_or-set_same, get_or-set_other}
use borrow.Author.Tests.{eq-eqb}
use Rattle.codes.specs.Bytes.{AllBytes}
use Rattle.headers.specs.Header.{header_of, flow_of}
use Rattle.headers.proofs.HeaderLaws.{header_of-range}
use Rattle.headers.proofs.CompressibleLaws.{compressible-true}
use Rattle.context.proofs.Arrays.{set_keeps}
use Rattle.context.proofs.Relation.{Held}
use Rattle.context.specs.Sound.{sound_compressor}
use Rattle.outgoing.specs.StepLaws.{sound-step_on, held-step_on}
use Rattle.compressor.specs.declared.table.Table.{Table}
use Rattle.compressor.specs.Answer.{Result}
use Rattle.compressor.specs.Table.{no_context, context_at}
use Rattle.compressor.specs.Table.{Sound}
use Rattle.compressor.proofs.TableLaws.{sound_of-true, sound-with_context}
use Rattle.compressor.specs.Send.{send_of}
use Rattle.compressor.proofs.SendLaws.{On, step_at, table_at, Goes, goes-refused, goes-plain, goes_on, send_of-goes}
use Rattle.compressor.proofs.CanSendLaws.{sound-most, sound-context_at}

---- A packet on context i

module _ (t : Table) (p : List ℕ) (i : ℕ) where
  pub context_at-other : (j : ℕ) → (j ≡ i → ⊥) → context_at (table_at t p i) j ≡ context_at t j
  context_at-other j ne = get_or-set_other t.contexts i j (step_at t p i).context no_context ne

  module _ (o : On t p i) (size : length t.contexts ≡ 64) where
    there : i < length t.contexts
    there = omega (arith, o.place.among, sound-most t (sound_of-true t o.sound))

    pub context_at-same : context_at (table_at t p i) i ≡ (step_at t p i).context
    context_at-same = get_or-set_same t.contexts i (step_at t p i).context no_context there

    pub sound-context : sound_compressor t.settings.repeats (context_at t i) ≡ true
    sound-context = sound-context_at t (sound_of-true t o.sound) size i (omega (arith, there))

    -- the destination port of a packet that is compressed is even
    port-even : eqb ((header_of p).flow.dport % 2) 0 ≡ true
    unfolding header_of flow_of
    port-even = eq-eqb _ _ (compressible-true p o.compressible).even

    sound-table_at : AllBytes p → Sound (table_at t p i)
    sound-table_at bytes =
        sound-with_context t i (step_at t p i).context (sound_of-true t o.sound) o.place.among
        (sound-step_on t.settings.repeats (header_of p) (header_of-range bytes) port-even (context_at t i) sound-context)

  held-table_at : AllBytes p → ((j : ℕ) → Held (context_at t j)) → (j : ℕ) → Held (context_at (table_at t p i) j)
  held-table_at bytes held j =
      set_keeps Held t.contexts i j (step_at t p i).context no_context
      (λ e. held-step_on t.settings.repeats (header_of p) (header_of-range bytes) (context_at t i) (held i)) (held j)

---- send_of

module _ (t : Table) (p output : List ℕ) where
  settings-goes : (r : Result) → Goes t p output r → r.table.settings ≡ t.settings
  settings-goes _ (goes-refused n h) = refl
  settings-goes _ (goes-plain a b c) = refl
  settings-goes _ (goes_on i o) = refl

  pub settings-send : (send_of t p output).table.settings ≡ t.settings
  settings-send = settings-goes (send_of t p output) (send_of-goes t p output)

  length-goes : (r : Result) → Goes t p output r → length r.table.contexts ≡ length t.contexts
  length-goes _ (goes-refused n h) = refl
  length-goes _ (goes-plain a b c) = refl
  length-goes _ (goes_on i o) = length-set t.contexts i (step_at t p i).context

  pub length-send : length (send_of t p output).table.contexts ≡ length t.contexts
  length-send = length-goes (send_of t p output) (send_of-goes t p output)

  module _ (bytes : AllBytes p) where
    held-goes : (r : Result) → Goes t p output r → ((j : ℕ) → Held (context_at t j)) → (j : ℕ) → Held (context_at r.table j)
    held-goes _ (goes-refused n h) held j = held j
    held-goes _ (goes-plain a b c) held j = held j
    held-goes _ (goes_on i o) held j = held-table_at t p i bytes held j

    pub held-send : ((j : ℕ) → Held (context_at t j)) → (j : ℕ) → Held (context_at (send_of t p output).table j)
    held-send = held-goes (send_of t p output) (send_of-goes t p output)

    module _ (size : length t.contexts ≡ 64) where
      sound-goes : (r : Result) → Goes t p output r → Sound t → Sound r.table
      sound-goes _ (goes-refused n h) s = s
      sound-goes _ (goes-plain a b c) s = s
      sound-goes _ (goes_on i o) s = sound-table_at t p i o size bytes

      pub sound-send : Sound t → Sound (send_of t p output).table
      sound-send = sound-goes (send_of t p output) (send_of-goes t p output)

  -- a send leaves every context but the one that its packet is on
  context_at-goes : (r : Result) → Goes t p output r → (j : ℕ) → (On t p j → ⊥) → context_at r.table j ≡ context_at t j
  context_at-goes _ (goes-refused n h) j off = refl
  context_at-goes _ (goes-plain a b c) j off = refl
  context_at-goes _ (goes_on i o) j off = context_at-other t p i j (λ e. off (subst (λ (k : ℕ). On t p k) (sym e) o))

  pub context_at-send : (j : ℕ) → (On t p j → ⊥) → context_at (send_of t p output).table j ≡ context_at t j
  context_at-send = context_at-goes (send_of t p output) (send_of-goes t p output)
