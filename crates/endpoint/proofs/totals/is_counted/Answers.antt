use Rattle.endpoint.proofs.totals.is_counted.Goals as goal

pub returns-in-Unsound : goal.returns-in-Unsound
returns-in-Unsound c = rw c.in-Unsound.is

pub returns-in-BadLength : goal.returns-in-BadLength
returns-in-BadLength c = rw c.in-BadLength.is

pub returns-in-UnknownType : goal.returns-in-UnknownType
returns-in-UnknownType c = rw c.in-UnknownType.is

pub returns-in-Cut : goal.returns-in-Cut
returns-in-Cut c = rw c.in-Cut.is

pub returns-in-Forbidden : goal.returns-in-Forbidden
returns-in-Forbidden c = rw c.in-Forbidden.is

pub returns-in-NoSuchContext : goal.returns-in-NoSuchContext
returns-in-NoSuchContext c = rw c.in-NoSuchContext.is

pub returns-in-UnusedCode : goal.returns-in-UnusedCode
returns-in-UnusedCode c = rw c.in-UnusedCode.is

pub returns-in-NotLive : goal.returns-in-NotLive
returns-in-NotLive c = rw c.in-NotLive.is

pub returns-in-OutOfStep : goal.returns-in-OutOfStep
returns-in-OutOfStep c = rw c.in-OutOfStep.is

pub returns-in-TooLong : goal.returns-in-TooLong
returns-in-TooLong c = rw c.in-TooLong.is

pub returns-in-NoRoom : goal.returns-in-NoRoom
returns-in-NoRoom c = rw c.in-NoRoom.is

pub returns-in-Disproved : goal.returns-in-Disproved
returns-in-Disproved c = rw c.in-Disproved.is
