use Rattle.receive.specs.TakenLaws.{rebuild_to-long, rebuild_to-wrong, rebuild_to-no_room, rebuild_to-accepted}
use Rattle.octets.specs.PutLaws.{wrote-front}
use mathlib.Core.Path.{sym}
use Rattle.receive.proofs.settle.rebuild_to.Goals as goal

pub packet_size-size-requires : goal.packet_size-size-requires
packet_size-size-requires c = let p = c.requires in
    (rw c.rebuild-header.ensures p.0.count, p.1)

pub returns-then-size-gt-LONGEST : goal.returns-then-size-gt-LONGEST
returns-then-size-gt-LONGEST c = let a = c.args in
    let e = rw c.rebuild-header.ensures at c.packet_size-size.ensures in
    λ n. rebuild_to-long n a.g a.before a.c a.sent a.rest.now a.out.now c.packet_size-size.result
    e.0 c.if-size-gt-LONGEST.true

pub is_disproved-requires : goal.is_disproved-requires
is_disproved-requires c = let p = c.requires in
    (rw c.rebuild-header.ensures p.0, c.packet_size-size.ensures.0, c.if-size-gt-LONGEST.false)

pub returns-then-is_disproved : goal.returns-then-is_disproved
returns-then-is_disproved c =
    let a = c.args in
    let e = rw c.rebuild-header.ensures at c.packet_size-size.ensures in
    let w = rw (c.rebuild-header.ensures, c.if-is_disproved.true) at c.is_disproved.ensures in
    λ n. rebuild_to-wrong n a.g a.before a.c a.sent a.rest.now a.out.now c.packet_size-size.result e.0
    c.if-size-gt-LONGEST.false _ c.break_context-broken.ensures (sym w)

pub returns-then-out-size : goal.returns-then-out-size
returns-then-out-size c =
    let a = c.args in
    let e = rw c.rebuild-header.ensures at c.packet_size-size.ensures in
    let w = rw (c.rebuild-header.ensures, c.if-is_disproved.false) at c.is_disproved.ensures in
    λ n. rebuild_to-no_room n a.g a.before a.c a.sent a.rest.now a.out.now c.packet_size-size.result e.0
    c.if-size-gt-LONGEST.false (sym w) e.1 c.if-out-size.true

pub put_packet-requires : goal.put_packet-requires
put_packet-requires c =
    let p = c.requires in (
      rw c.rebuild-header.ensures p.0,
      c.packet_size-size.ensures.0,
      c.if-size-gt-LONGEST.false,
      c.if-out-size.false,
    )

pub returns : goal.returns
returns c =
    let a = c.args in
    let b = c.rebuild-header.ensures in
    let e = rw b at c.packet_size-size.ensures in
    let w = rw (b, c.if-is_disproved.false) at c.is_disproved.ensures in
    let p = rw b at c.put_packet.ensures in
    λ n. rebuild_to-accepted n a.g a.before a.c a.sent a.rest.now a.out.now c.packet_size-size.result
    e.0 c.if-size-gt-LONGEST.false (sym w) e.1 c.put_packet.new.out
    c.if-out-size.false (wrote-front p (rw (← e.1) c.if-out-size.false))
