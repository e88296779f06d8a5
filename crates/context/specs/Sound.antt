-- Iarwennol. Soundness of one context at each end.
-- Tests, one line for each field (rules 2.3, 2.4); n is the repeats.
-- Used by the soundness of the tables above, which the walks over their planes equal.
use Rattle.std.specs.Prelude.{ℕ, ◌+◌, ◌%◌, Bool, false, cond, not, ◌&&◌, List, eqb, leb, drop}
use Rattle.codes.specs.Difference.{has_code}
use Rattle.packet.specs.Csrc.{no_list}
use Rattle.packet.specs.declared.csrc.Csrc.{Csrc}
use Rattle.packet.specs.declared.header.Flow.{Flow}
use Rattle.packet.specs.declared.header.Ip.{Ip}
use Rattle.packet.specs.declared.header.Rtp.{Rtp}
use Rattle.context.specs.All.{all}
use Rattle.context.specs.declared.kept.Deltas.{Deltas}
use Rattle.context.specs.declared.kept.Link.{Link}
use Rattle.context.specs.declared.compressor.Usage.{Usage}
use Rattle.context.specs.declared.compressor.Usage.TheVariants as usage
use Rattle.context.specs.declared.compressor.Earlier.{Earlier}
use Rattle.context.specs.declared.compressor.Due.{Due}
use Rattle.context.specs.declared.compressor.CompressorContext.{CompressorContext}
use Rattle.context.specs.declared.decompressor.Status.{Status}
use Rattle.context.specs.declared.decompressor.Status.TheVariants.{Empty, Live, Broken}
use Rattle.context.specs.declared.decompressor.DecompressorContext.{DecompressorContext}

---- What the rules can put into a field (rule 2.3)

abbrev pub is_zero : ℕ → Bool
is_zero x = eqb x 0

abbrev pub zeros : List ℕ → Bool
zeros l = all is_zero l

-- rules 2.3, 2.4: a count of at most 15, and 0 in the words past it
unfoldable pub sound_list : Csrc → Bool
sound_list l =
    leb l.count 15
    && zeros (drop l.count l.words)

-- rule 2.3
unfoldable pub sound_link : Link → Bool
sound_link l =
    leb l.sequence 15
    && leb l.generation 63

-- rule 2.3: full headers up to n + 1, everything else up to n
unfoldable pub sound_due : ℕ → Due → Bool
sound_due n d =
    leb d.full (n + 1)
    && leb d.id n
    && leb d.sequence n
    && leb d.timestamp n
    && leb d.payload n
    && leb d.list n
    && leb d.did n
    && leb d.dts n

---- 0 in every field (rule 2.4)

-- rule 2.4
abbrev pub zero_flow : Flow → Bool
zero_flow f =
    eqb f.source 0
    && eqb f.destination 0
    && eqb f.sport 0
    && eqb f.dport 0
    && eqb f.ssrc 0

abbrev pub zero_ip : Ip → Bool
zero_ip i =
    eqb i.tos 0
    && eqb i.ttl 0
    && eqb i.flags 0
    && eqb i.id 0

abbrev pub zero_rtp : Rtp → Bool
zero_rtp r =
    not r.padding
    && not r.extension
    && eqb r.payload 0
    && eqb r.sequence 0
    && eqb r.timestamp 0

unfoldable pub zero_list : Csrc → Bool
zero_list l =
    eqb l.count 0
    && zeros l.words

abbrev pub zero_deltas : Deltas → Bool
zero_deltas d =
    eqb d.id 0
    && eqb d.timestamp 0

abbrev pub zero_earlier : Earlier → Bool
zero_earlier e =
    not e.known
    && eqb e.id 0
    && eqb e.timestamp 0

abbrev pub zero_due : Due → Bool
zero_due d =
    eqb d.full 0
    && eqb d.id 0
    && eqb d.sequence 0
    && eqb d.timestamp 0
    && eqb d.payload 0
    && eqb d.list 0
    && eqb d.did 0
    && eqb d.dts 0

abbrev pub zero_link : Link → Bool
zero_link l =
    eqb l.sequence 0
    && eqb l.generation 0

---- The compressor's context

-- rule 2.3: a live context; only packets with an even destination port are compressed
unfoldable pub used_sound : ℕ → CompressorContext → Bool
used_sound n c =
    eqb (c.flow.dport % 2) 0
    && leb c.ip.flags 3
    && leb c.rtp.payload 127
    && sound_list c.csrc
    && has_code 32 c.deltas.timestamp
    && sound_due n c.due
    && sound_link c.link

-- rule 2.4: an empty one
unfoldable pub unused_sound : CompressorContext → Bool
unused_sound c =
    zero_flow c.flow
    && zero_ip c.ip
    && zero_rtp c.rtp
    && zero_list c.csrc
    && not c.blank
    && zero_deltas c.deltas
    && zero_earlier c.earlier
    && zero_due c.due
    && zero_link c.link

-- rules 2.3, 2.4
unfoldable pub sound_compressor_by : Usage → ℕ → CompressorContext → Bool
sound_compressor_by usage.Empty n c = unused_sound c
sound_compressor_by usage.Live n c = used_sound n c

-- rules 2.3, 2.4
unfoldable pub sound_compressor : ℕ → CompressorContext → Bool
sound_compressor n c = sound_compressor_by c.status n c

---- The decompressor's context

-- rule 2.3: a context that was filled
unfoldable pub filled_sound : DecompressorContext → Bool
filled_sound c =
    leb c.ip.flags 3
    && leb c.rtp.payload 127
    && sound_list c.csrc
    && has_code 32 c.deltas.timestamp
    && sound_link c.link

-- rule 2.4: one that was never filled
unfoldable pub unfilled_sound : DecompressorContext → Bool
unfilled_sound c =
    zero_flow c.flow
    && zero_ip c.ip
    && zero_rtp c.rtp
    && zero_list c.csrc
    && not c.carried
    && not c.marker
    && zero_deltas c.deltas
    && zero_link c.link

-- rule 2.4: an empty context was never filled, a live one was, a broken one may have been
unfoldable pub sound_decompressor_by : Status → DecompressorContext → Bool
sound_decompressor_by Empty c = not c.filled && unfilled_sound c
sound_decompressor_by Live c = c.filled && filled_sound c
sound_decompressor_by Broken c = cond c.filled (filled_sound c) (unfilled_sound c)

-- rules 2.3, 2.4
unfoldable pub sound_decompressor : DecompressorContext → Bool
sound_decompressor c = sound_decompressor_by c.status c

---- The empty contexts

abbrev pub no_flow : Flow
no_flow = record { source = 0; destination = 0; sport = 0; dport = 0; ssrc = 0 }

abbrev pub no_ip : Ip
no_ip = record { tos = 0; ttl = 0; flags = 0; id = 0 }

abbrev pub no_rtp : Rtp
no_rtp = record { padding = false; extension = false; payload = 0; sequence = 0; timestamp = 0 }

-- rule 2.4: 0 in every field
unfoldable pub empty_compressor : CompressorContext
empty_compressor = record {
  status = usage.Empty;
  flow = no_flow;
  ip = no_ip;
  rtp = no_rtp;
  csrc = no_list;
  blank = false;
  deltas = record { id = 0; timestamp = 0 };
  earlier = record { known = false; id = 0; timestamp = 0 };
  due = record { full = 0; id = 0; sequence = 0; timestamp = 0; payload = 0; list = 0; did = 0; dts = 0 };
  link = record { sequence = 0; generation = 0 };
}

-- rule 2.4: 0 in every field
unfoldable pub empty_decompressor : DecompressorContext
empty_decompressor = record {
  status = Empty;
  filled = false;
  flow = no_flow;
  ip = no_ip;
  rtp = no_rtp;
  csrc = no_list;
  carried = false;
  marker = false;
  deltas = record { id = 0; timestamp = 0 };
  link = record { sequence = 0; generation = 0 };
}
