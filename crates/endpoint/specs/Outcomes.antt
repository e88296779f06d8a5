-- Iarwennol. What an outcome of crtp's calls becomes here, and what an outcome counts as.
-- Used by the contracts of the functions between the calls; no statement rests on it.
use Rattle.std.specs.Prelude.{Bool, Ok, Err}
use Rattle.std.specs.Result.{is_ok}
use Rattle.crtp.specs.Face.{refusal_number, CompressorOutcome, DecompressorOutcome}
use Rattle.endpoint.specs.declared.answer.Done.TheVariants.{Opened, Sent, Rebuilt, Requested, Reported}
use Rattle.endpoint.specs.Answer.{Outcome}
use Rattle.endpoint.specs.Totals.{Event, sent, rebuilt, refused, quiet}

abbrev pub opened_of : CompressorOutcome → DecompressorOutcome → Outcome
opened_of (Ok (k, n)) (Ok m) = Ok Opened
opened_of (Ok (k, n)) (Err r) = Err r
opened_of (Err r) d = Err r

abbrev pub sent_of : CompressorOutcome → Outcome
sent_of (Ok (k, n)) = Ok (Sent k n)
sent_of (Err r) = Err r

abbrev pub requested_of : CompressorOutcome → Outcome
requested_of (Ok (k, n)) = Ok Requested
requested_of (Err r) = Err r

abbrev pub rebuilt_of : DecompressorOutcome → Outcome
rebuilt_of (Ok n) = Ok (Rebuilt n)
rebuilt_of (Err r) = Err r

abbrev pub reported_of : DecompressorOutcome → Outcome
reported_of (Ok n) = Ok (Reported n)
reported_of (Err r) = Err r

abbrev pub is_accepted : Outcome → Bool
is_accepted o = is_ok o

abbrev pub event_of : Outcome → Event
event_of (Ok Opened) = quiet
event_of (Ok (Sent k n)) = sent k
event_of (Ok (Rebuilt n)) = rebuilt
event_of (Ok Requested) = quiet
event_of (Ok (Reported n)) = quiet
event_of (Err r) = refused (refusal_number r)
