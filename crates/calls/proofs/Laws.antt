-- Iarwennol. What a proof owes of two ends, so that the claims of Calls hold of them: the record Laws, one context at a time.
use mathlib.Core.Path.{◌≡◌}
use mathlib.Core.Bool.{true, false}
use mathlib.Core.Option.{none, some}
use Prim.Native.Nat.{ℕ, suc, ◌≤◌, ◌<◌}
use Rattle.calls.specs.Calls.{Ends, is_on}

module _ {P L B Q F C D SA Ra : Type 0} (ε : Ends P L B Q F C D SA Ra) where
  -- the compressor's table after a send, and what the send gave out; the decompressor's table after an arrival
  abbrev pub sent_by : C → P → B → C
  sent_by s p b = ε.compressor (ε.send s p b)

  abbrev pub Gives : C → P → B → L → Type 0
  Gives s p b l = ε.out (ε.send s p b) ≡ some l

  abbrev pub taken : D → L → B → D
  taken v l b = ε.decompressor (ε.receive v l b)

-- Start s: what holds of the compressor's table from its start on. Fine v: what holds of every decompressor's table that it may
-- meet. Rel c j v s: the relation of the tables at context c, with j packets on c lost since the last accepted one.
module _ {P L B Q F C D SA Ra : Type 0} (n : ℕ) (ε : Ends P L B Q F C D SA Ra) (Start : C → Type 0) (Fine : D → Type 0)
    (Rel : ℕ → ℕ → D → C → Type 0) where
  pub record Laws : Type 0 where
    ---- the tables by themselves

    -- a request, and a send, keep Start
    pub asks_start : (s : C) (q : Q) → Start s → Start (ε.request s q)
    pub sends_start : (s : C) (p : P) (b : B) → Start s → Start (sent_by ε s p b)
    -- an arrival keeps Fine; a load gives the table that was saved, whatever table it is handed
    pub receives_fine : (v : D) (s : C) (p : P) (b : B) (l : L) → Start s → Gives ε s p b l → Fine v → (b' : B) →
        Fine (taken ε v l b')
    pub loads : (v : D) (b : B) (f : F) → Fine v → ε.save v b ≡ some f → (d : D) → ε.load d f ≡ v
    -- a plain packet is right with room, and refused for want of it without
    pub plains : (v : D) (s : C) (p : P) (b : B) (l : L) → Start s → Gives ε s p b l → ε.context l ≡ none → Fine v →
        (b' : B) → ε.size p ≤ ε.room b' → ε.Right p (ε.receive v l b')
    pub plain_lacks : (v : D) (s : C) (p : P) (b : B) (l : L) → Start s → Gives ε s p b l → ε.context l ≡ none → Fine v →
        (b' : B) → ε.room b' < ε.size p → ε.Lacking (ε.receive v l b')
    ---- the tables at context c: a call of the compressor's

    -- a request
    pub asks : (c j : ℕ) (v : D) (s : C) (q : Q) → Rel c j v s → Rel c j v (ε.request s q)
    -- a send that is refused; one on another context, or plain; one on c that is lost
    pub refuses : (c j : ℕ) (v : D) (s : C) (p : P) (b : B) → ε.out (ε.send s p b) ≡ none → Rel c j v s →
        Rel c j v (sent_by ε s p b)
    pub others : (c j : ℕ) (v : D) (s : C) (p : P) (b : B) (l : L) → Gives ε s p b l → is_on (ε.context l) c ≡ false →
        Rel c j v s → Rel c j v (sent_by ε s p b)
    pub loses : (c j : ℕ) (v : D) (s : C) (p : P) (b : B) (l : L) → Gives ε s p b l → is_on (ε.context l) c ≡ true →
        Rel c j v s → suc j ≤ n → Rel c (suc j) v (sent_by ε s p b)
    ---- the tables at context c: an arrival, with the output b'

    -- on another context, or plain, whatever becomes of it
    pub passes : (c j : ℕ) (v : D) (s : C) (p : P) (b : B) (l : L) → Gives ε s p b l → is_on (ε.context l) c ≡ false →
        Rel c j v s → (b' : B) → Rel c j (taken ε v l b') (sent_by ε s p b)
    -- on c, and fit where it comes after a gap: with room it is right; without it is refused for that, and counts as lost
    pub takes : (c j : ℕ) (v : D) (s : C) (p : P) (b : B) (l : L) → Gives ε s p b l → is_on (ε.context l) c ≡ true →
        Rel c j v s → (1 ≤ j → ε.Fit p) → (b' : B) → ε.size p ≤ ε.room b' →
        ε.Right p (ε.receive v l b') × Rel c 0 (taken ε v l b') (sent_by ε s p b)
    pub shorts : (c j : ℕ) (v : D) (s : C) (p : P) (b : B) (l : L) → Gives ε s p b l → is_on (ε.context l) c ≡ true →
        Rel c j v s → suc j ≤ n → (1 ≤ j → ε.Fit p) → (b' : B) → ε.room b' < ε.size p →
        Rel c (suc j) (taken ε v l b') (sent_by ε s p b)
    pub lacks : (c j : ℕ) (v : D) (s : C) (p : P) (b : B) (l : L) → Gives ε s p b l → is_on (ε.context l) c ≡ true →
        Rel c j v s → (1 ≤ j → ε.Fit p) → (b' : B) → ε.room b' < ε.size p → ε.Lacking (ε.receive v l b')
