use Rattle.compressor.proofs.AnswerLaws.{delivered-refused, delivered-written}
use Rattle.send.proofs.send_plain.Goals as goal

pub returns-then-out-p : goal.returns-then-out-p
returns-then-out-p c = λ t. let a = c.args in delivered-refused t t 0 a.p.now a.out.now c.if-out-p.true

pub returns : goal.returns
returns c = λ t. delivered-written t t 0 c.put_all-length.ensures c.if-out-p.false
