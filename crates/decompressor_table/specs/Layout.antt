-- Iarwennol. The decompressor's table in three slices (rule 2.2; docs/LAYOUT.md): which table slices stand for.
-- Used by the contract of every call on a table that is lent.
use Rattle.std.specs.Prelude.{ℕ, ◌≡◌, Bool, true, ◌&&◌, cond, List, [], ◌∷◌, eqb, leb, length, get_or, drop}
use Rattle.packet.specs.declared.csrc.Csrc.{Csrc}
use Rattle.packet.specs.declared.header.Ip.{Ip}
use Rattle.packet.specs.declared.header.Rtp.{Rtp}
use Rattle.context.specs.declared.kept.Deltas.{Deltas}
use Rattle.context.specs.declared.kept.Link.{Link}
use Rattle.context.specs.declared.decompressor.Status.{Status}
use Rattle.context.specs.declared.decompressor.Status.TheVariants.{Empty, Live, Broken}
use Rattle.context.specs.declared.decompressor.DecompressorContext.{DecompressorContext}
use Rattle.decompressor.specs.declared.table.Table.{Table}
use Rattle.decompressor.specs.Table.{unopened, with_context}
use Rattle.planes.specs.Planes.{Lent, row, places, every}
pub use Rattle.planes.specs.Flow.{flow_of}

---- A context of its row: 20 words, 5 shorts, 13 bytes

abbrev pub status_of : ℕ → Status
status_of n = cond (eqb n 0) Empty (cond (eqb n 1) Live Broken)

abbrev pub ip_of : (h b : List ℕ) → Ip
ip_of h b = record { tos = get_or b 2 0; ttl = get_or b 3 0; flags = get_or b 4 0; id = get_or h 2 0 }

abbrev pub rtp_of : (w h b : List ℕ) → Rtp
rtp_of w h b = record {
  padding = eqb (get_or b 5 0) 1;
  extension = eqb (get_or b 6 0) 1;
  payload = get_or b 9 0;
  sequence = get_or h 3 0;
  timestamp = get_or w 3 0;
}

abbrev pub list_of : (w b : List ℕ) → Csrc
list_of w b = record { count = get_or b 10 0; words = drop 5 w }

abbrev pub deltas_of : (w h : List ℕ) → Deltas
deltas_of w h = record { id = get_or h 4 0; timestamp = get_or w 4 0 }

abbrev pub link_of : (b : List ℕ) → Link
link_of b = record { sequence = get_or b 11 0; generation = get_or b 12 0 }

unfoldable pub context_of : (w h b : List ℕ) → DecompressorContext
context_of w h b = record {
  status = status_of (get_or b 0 0);
  filled = eqb (get_or b 1 0) 1;
  flow = flow_of w h;
  ip = ip_of h b;
  rtp = rtp_of w h b;
  csrc = list_of w b;
  carried = eqb (get_or b 7 0) 1;
  marker = eqb (get_or b 8 0) 1;
  deltas = deltas_of w h;
  link = link_of b;
}

---- The table

abbrev pub context_in : (w h b : List ℕ) → (i : ℕ) → DecompressorContext
context_in w h b i = context_of (row w i 0 20) (row h i 0 5) (row b i 0 13)

-- N and K stand past the last plane of the bytes
unfoldable pub plane_table : Lent → Table
plane_table l = record {
  settings = record { repeats = get_or l.bytes 832 0; contexts = get_or l.bytes 833 0 };
  contexts = places (context_in l.words l.shorts l.bytes) 0 64;
}

-- the lengths of the slices
abbrev pub sized : Lent → Bool
sized l = eqb (length l.words) 1280 && eqb (length l.shorts) 320 && eqb (length l.bytes) 834

-- a status is 0, 1 or 2, and filled, padding, extension, carried and marker are 0 or 1: no other number stands for one of them
abbrev pub typed_row : List ℕ → Bool
typed_row b =
    leb (get_or b 0 0) 2
    && leb (get_or b 1 0) 1
    && leb (get_or b 5 0) 1
    && leb (get_or b 6 0) 1
    && leb (get_or b 7 0) 1
    && leb (get_or b 8 0) 1

abbrev pub typed : List ℕ → (i : ℕ) → Bool
typed b i = typed_row (row b i 0 13)

unfoldable pub fits : Lent → Bool
fits l = sized l && every (typed l.bytes) 64

-- rule 2.2: slices of another length, or with a status or a bool out of its type, hold no table: they stand for one that is not
-- open
unfoldable pub table_of : Lent → Table
table_of l = cond (fits l) (plane_table l) unopened

---- A row of its context

abbrev pub status_number : Status → ℕ
status_number Empty = 0
status_number Live = 1
status_number Broken = 2

abbrev pub bit : Bool → ℕ
bit b = cond b 1 0

abbrev pub words_of : DecompressorContext → List ℕ
words_of c =
    c.flow.source
    ∷ c.flow.destination
    ∷ c.flow.ssrc
    ∷ c.rtp.timestamp
    ∷ c.deltas.timestamp
    ∷ c.csrc.words

abbrev pub shorts_of : DecompressorContext → List ℕ
shorts_of c = c.flow.sport ∷ c.flow.dport ∷ c.ip.id ∷ c.rtp.sequence ∷ c.deltas.id ∷ []

abbrev pub bytes_of : DecompressorContext → List ℕ
bytes_of c =
    status_number c.status
    ∷ bit c.filled
    ∷ c.ip.tos
    ∷ c.ip.ttl
    ∷ c.ip.flags
    ∷ bit c.rtp.padding
    ∷ bit c.rtp.extension
    ∷ bit c.carried
    ∷ bit c.marker
    ∷ c.rtp.payload
    ∷ c.csrc.count
    ∷ c.link.sequence
    ∷ c.link.generation
    ∷ []

---- What the functions on slices rely on, and what storing a context does

abbrev pub Fits : Lent → Type 0
Fits l = fits l ≡ true

-- a table with another context at place i; where it is the one that was there, no number changes
pub record Puts (before : Lent) (i : ℕ) (c : DecompressorContext) (after : Lent) : Type 0 where
  pub fit : Fits after
  pub table : table_of after ≡ with_context (table_of before) i c
  pub same : c ≡ context_in before.words before.shorts before.bytes i → after ≡ before
