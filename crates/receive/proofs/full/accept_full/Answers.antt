use native.Mathlib.Omega.{arith}
use lib.ListN.{length, drop}
use Rattle.planes.specs.Planes.{lent}
use Rattle.decompressor_table.specs.Layout.{table_of}
use Rattle.codes.specs.BytesLaws.{AllBytes-elements}
use Rattle.octets.specs.PutLaws.{wrote-front}
use Rattle.headers.proofs.HeaderLaws.{range-narrow}
use Rattle.links.specs.Fh.{fh_of}
use Rattle.links.proofs.FhLaws.{fh_judged-good, fh_of-within, fh_of-context, fh_of-range}
use Rattle.context.proofs.Arrays.{part-rest}
use Rattle.decompressor.proofs.PacketLaws.{full_size, length-full, said-no_room, said-accepted}
use Rattle.decompressor.specs.Receive.{packet_of, full_table}
use Rattle.decompressor.proofs.TableLaws.{sound-most}
use Rattle.decompressor_table.specs.CallsLaws.{gives-kept}
use Rattle.receive.specs.Taken.{accept_full}
use Rattle.receive.proofs.Placing.{gives-full}
use Rattle.receive.proofs.full.accept_full.Goals as goal

pub returns-then-out-size : goal.returns-then-out-size
returns-then-out-size c =
    let a = c.args in
    let e = length-full ((table_of (lent c.args.w.now c.args.h.now c.args.b.now))).settings.contexts a.s.now
    (AllBytes-elements a.s.now (λ i. (c.shared_slice_known-1.given i).fits)) c.requires.2 in
    gives-kept (lent c.args.w.now c.args.h.now c.args.b.now) _ a.out.now
    (accept_full ((table_of (lent c.args.w.now c.args.h.now c.args.b.now))) a.s.now a.out.now)
    (said-no_room ((table_of (lent c.args.w.now c.args.h.now c.args.b.now)))
    (full_table ((table_of (lent c.args.w.now c.args.h.now c.args.b.now))) (fh_of a.s.now))
    (packet_of (fh_of a.s.now).header (drop (fh_of a.s.now).start a.s.now)) a.out.now (rw (← e) c.if-out-size.true))

pub read_fh-full-requires : goal.read_fh-full-requires
read_fh-full-requires c = (fh_judged-good ((table_of (lent c.args.w.now c.args.h.now c.args.b.now))).settings.contexts
    c.args.s.now c.requires.2).whole

pub slice_bounds-put_packet-count : goal.slice_bounds-put_packet-count
slice_bounds-put_packet-count c = rw c.read_fh-full.ensures
    (fh_of-within c.args.s.now ((table_of (lent c.args.w.now c.args.h.now c.args.b.now))).settings.contexts c.requires.2)

pub slice_bounds-put_packet-start : goal.slice_bounds-put_packet-start
slice_bounds-put_packet-start c = rw c.read_fh-full.ensures
    (fh_of-within c.args.s.now ((table_of (lent c.args.w.now c.args.h.now c.args.b.now))).settings.contexts c.requires.2)

pub put_packet-requires : goal.put_packet-requires
put_packet-requires c =
    let a = c.args in
    let b = (AllBytes-elements a.s.now (λ i. (c.shared_slice_known-1.given i
    ).fits)) in
    rw (c.read_fh-full.ensures, part-rest a.s.now (fh_of a.s.now).start) (
      range-narrow (fh_of-range a.s.now b),
      full_size ((table_of (lent c.args.w.now c.args.h.now c.args.b.now))).settings.contexts a.s.now b c.requires.2,
      c.requires.3,
      c.if-out-size.false,
    )

pub put_context-requires : goal.put_context-requires
put_context-requires c =
    let a = c.args in (
      c.requires.0,
      rw c.read_fh-full.ensures
          (omega (
            arith,
            fh_of-context a.s.now ((table_of (lent c.args.w.now c.args.h.now c.args.b.now))).settings.contexts
                c.requires.2,
            sound-most ((table_of (lent c.args.w.now c.args.h.now c.args.b.now))) c.requires.1,
          )),
    )

pub returns : goal.returns
returns c =
    let a = c.args in
    let b = (AllBytes-elements a.s.now (λ i. (c.shared_slice_known-1.given i
    ).fits)) in
    let e = length-full ((table_of (lent c.args.w.now c.args.h.now c.args.b.now))).settings.contexts a.s.now b c.requires.2 in
    let w = rw (
      c.read_fh-full.ensures,
      part-rest a.s.now (fh_of a.s.now).start,
    ) at
    c.put_packet.ensures in
    gives-full (lent c.args.w.now c.args.h.now c.args.b.now) _ c.read_fh-full.result.context (length a.s.now) c.fill.result
    _
    (accept_full ((table_of (lent c.args.w.now c.args.h.now c.args.b.now))) a.s.now a.out.now) c.put_context.ensures
    (rw (
      c.fill.ensures,
      c.read_fh-full.ensures,
    )
    (said-accepted ((table_of (lent c.args.w.now c.args.h.now c.args.b.now)))
    (full_table ((table_of (lent c.args.w.now c.args.h.now c.args.b.now))) (fh_of a.s.now))
    (packet_of (fh_of a.s.now).header (drop (fh_of a.s.now).start a.s.now)) a.out.now _ _
    (rw (← e) c.if-out-size.false) e (wrote-front w (rw (← e) c.if-out-size.false))))
