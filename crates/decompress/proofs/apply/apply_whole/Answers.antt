use Rattle.std.proofs.Common.{sym, ap, ◌∙◌}
use Rattle.packet.specs.Refusal.{verdict_number}
use Rattle.context.proofs.Gap.{gap_judged-accepted}
use Rattle.decompress.proofs.apply.apply_whole.Goals as goal

pub advance_whole-context-requires : goal.advance_whole-context-requires
advance_whole-context-requires c = gap_judged-accepted c.args.n c.gap_of-gap.result
    (sym c.judge_gap-verdict.ensures ∙ ap verdict_number c.in-Ok.is)
