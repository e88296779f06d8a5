use Rattle.std.specs.Prelude.{◌&&◌, ℕ, nat_lt}
use Rattle.std.proofs.Common.{sym, ap, ◌∙◌, arith, lt-ltb, le-ltb}
use Rattle.codes.specs.Reading.{read_byte}
use Rattle.packet.specs.Refusal.{is_accepted}
use Rattle.fields.specs.declared.place.Got.{Got}
use Rattle.fields.specs.Next.{next_as, next_payload, read_payload}
use Rattle.fields.proofs.Taken.{formed_refused, formed_same, formed_none}
use Rattle.fields.proofs.next.next_payload.Goals as goal

pub returns-in-Some : goal.returns-in-Some
unfolding next_payload read_payload next_as
returns-in-Some c =
    let a = c.args in
    c.forbid.ensures ∙ formed_refused (λ v. nat_lt v 128) a.p (read_byte a.s.now a.p.cursor.at)
    (is_accepted a.p.verdict && a.wanted)
    c.in-Some.value (ap (λ (g : Got ℕ). g.field) (sym c.next-payload.ensures) ∙ c.in-Some.is)
    (le-ltb c.in-Some.value 128 (omega (arith, c.if-value-ne0.true)))

pub returns-in_default-2 : goal.returns-in_default-2
unfolding next_payload read_payload next_as
returns-in_default-2 c =
    let a = c.args in
    c.next-payload.ensures ∙ formed_none (λ v. nat_lt v 128) a.p (read_byte a.s.now a.p.cursor.at)
    (is_accepted a.p.verdict && a.wanted) (ap (λ (g : Got ℕ). g.field) (sym c.next-payload.ensures) ∙ c.in_default.is)

pub returns-in_default : goal.returns-in_default
unfolding next_payload read_payload next_as
returns-in_default c =
    let a = c.args in
    c.next-payload.ensures ∙ formed_same (λ v. nat_lt v 128) a.p (read_byte a.s.now a.p.cursor.at)
    (is_accepted a.p.verdict && a.wanted) c.in-Some.value
    (ap (λ (g : Got ℕ). g.field) (sym c.next-payload.ensures) ∙ c.in-Some.is)
    (lt-ltb c.in-Some.value 128 (omega (arith, c.if-value-ne0.false)))
