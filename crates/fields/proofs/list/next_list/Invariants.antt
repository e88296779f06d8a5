use Rattle.std.proofs.Common.{◌≡◌, ◌≤◌, length}
use Rattle.fields.specs.Next.{next_list}
use Rattle.fields.proofs.list.next_list.Given as goal

abbrev pub invariant-loop-i : goal.invariant-loop-i
invariant-loop-i l =
    (l.i ≤ l.n) × (length l.words ≡ 15)
    × (record { place = l.place; list = record { count = l.i; words = l.words } } ≡ next_list l.s l.initial.place l.i)
