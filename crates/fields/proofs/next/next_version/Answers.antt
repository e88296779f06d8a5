use Rattle.std.specs.Prelude.{◌&&◌, ◌/◌, ◌==◌, ℕ, true}
use Rattle.std.proofs.Common.{sym, ap, ◌∙◌, rules, eq-eqb, ne_eqb}
use Rattle.codes.specs.Reading.{refused, has, read_byte}
use Rattle.packet.specs.Refusal.{is_accepted}
use Rattle.fields.specs.declared.place.Got.{Got}
use Rattle.fields.specs.Next.{next_as, next_version, read_version, formed}
use Rattle.fields.proofs.Taken.{formed_refused, formed_same, formed_none, tested_same, tested_cut}
use Rattle.fields.proofs.next.next_version.Goals as goal

pub returns-then-is_ok-has : goal.returns-then-is_ok-has
unfolding next_version read_version next_as
returns-then-is_ok-has c =
    let a = c.args in
    c.pass.ensures ∙ rw c.stop.ensures (tested_cut a.p (is_accepted a.p.verdict) (has a.s.now a.p.cursor.at 12)
    (formed (λ v. v / 64 == 2) (read_byte a.s.now a.p.cursor.at)) 4 (search rules))

pub returns-in-Some : goal.returns-in-Some
unfolding next_version read_version next_as
returns-in-Some c =
    let a = c.args in
    c.forbid.ensures ∙ formed_refused (λ v. v / 64 == 2) a.p (read_byte a.s.now a.p.cursor.at) (is_accepted a.p.verdict && true)
    c.in-Some.value (ap (λ (g : Got ℕ). g.field) (sym c.next-version.ensures) ∙ c.in-Some.is) (ne_eqb _ 2 c.if-value-ne2.true)
    ∙ tested_same a.p (is_accepted a.p.verdict) (has a.s.now a.p.cursor.at 12) _ (refused 4) (search rules)

pub returns-in_default-2 : goal.returns-in_default-2
unfolding next_version read_version next_as
returns-in_default-2 c =
    let a = c.args in
    c.next-version.ensures ∙ formed_none (λ v. v / 64 == 2) a.p (read_byte a.s.now a.p.cursor.at) (is_accepted a.p.verdict && true)
    (ap (λ (g : Got ℕ). g.field) (sym c.next-version.ensures) ∙ c.in_default.is)
    ∙ tested_same a.p (is_accepted a.p.verdict) (has a.s.now a.p.cursor.at 12) _ (refused 4) (search rules)

pub returns-in_default : goal.returns-in_default
unfolding next_version read_version next_as
returns-in_default c =
    let a = c.args in
    c.next-version.ensures ∙ formed_same (λ v. v / 64 == 2) a.p (read_byte a.s.now a.p.cursor.at) (is_accepted a.p.verdict && true)
    c.in-Some.value (ap (λ (g : Got ℕ). g.field) (sym c.next-version.ensures) ∙ c.in-Some.is) (eq-eqb _ 2 c.if-value-ne2.false)
    ∙ tested_same a.p (is_accepted a.p.verdict) (has a.s.now a.p.cursor.at 12) _ (refused 4) (search rules)
