-- Iarwennol. The way of a compressor's table from one state to a later one, by the packets that it gave out. Assumes nothing.
-- Used by Linked and by the theorem (Faithful).
use mathlib.Core.Path.{◌≡◌, refl}
use mathlib.Core.List.{List, [], ◌∷◌, ◌++◌}
use mathlib.Core.Option.{Option, none, some}
use Rattle.calls.specs.Calls.{Sent, Ends, logged}

module _ {P L B Q F C D SA Ra : Type 0} (ε : Ends P L B Q F C D SA Ra) where
  -- from s, by accepted sends that gave out these packets, with requests and refused sends between, to t
  pub data Trail : C → List (Sent P L) → C → Type 0 where
    stays : (s : C) → Trail s [] s
    asked : (s : C) (q : Q) {es : List (Sent P L)} {t : C} → Trail (ε.request s q) es t → Trail s es t
    refused : (s : C) (p : P) (b : B) {es : List (Sent P L)} {t : C} → ε.out (ε.send s p b) ≡ none →
        Trail (ε.compressor (ε.send s p b)) es t → Trail s es t
    gave : (s : C) (p : P) (b : B) (l : L) {es : List (Sent P L)} {t : C} → ε.out (ε.send s p b) ≡ some l →
        Trail (ε.compressor (ε.send s p b)) es t →
        Trail s (record { orig = p; link = l } ∷ es) t

  pub join : {s : C} {es : List (Sent P L)} {t : C} {fs : List (Sent P L)} {u : C} → Trail s es t → Trail t fs u →
      Trail s (es ++ fs) u
  join (stays s) y = y
  join (asked s q x) y = asked s q (join x y)
  join (refused s p b e x) y = refused s p b e (join x y)
  join (gave s p b l e x) y = gave s p b l e (join x y)

  -- what a send gives out
  pub sends : (s : C) (p : P) (b : B) → Trail s (logged (ε.out (ε.send s p b)) p) (ε.compressor (ε.send s p b))
  sends s p b = by (ε.out (ε.send s p b)) refl
    where
      by : (o : Option L) → ε.out (ε.send s p b) ≡ o → Trail s (logged o p) (ε.compressor (ε.send s p b))
      by none e = refused s p b e (stays (ε.compressor (ε.send s p b)))
      by (some l) e = gave s p b l e (stays (ε.compressor (ε.send s p b)))

  -- the first packet given out: the table that gave it, the output of that send, and the way on
  pub record First (s : C) (e : Sent P L) (es : List (Sent P L)) (t : C) : Type 0 where
    pub state : C
    pub output : B
    pub reached : Trail s [] state
    pub gives : ε.out (ε.send state e.orig output) ≡ some e.link
    pub rest : Trail (ε.compressor (ε.send state e.orig output)) es t

  pub first : {s : C} {e : Sent P L} {es : List (Sent P L)} {t : C} → Trail s (e ∷ es) t → First s e es t
  first (asked s q x) =
      let f = first x in
      record { state = f.state; output = f.output; reached = asked s q f.reached; gives = f.gives; rest = f.rest }
  first (refused s p b e x) =
      let f = first x in
      record { state = f.state; output = f.output; reached = refused s p b e f.reached; gives = f.gives; rest = f.rest }
  first (gave s p b l e x) = record { state = s; output = b; reached = stays s; gives = e; rest = x }
