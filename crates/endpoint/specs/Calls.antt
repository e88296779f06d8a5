-- Iarwennol. The calls of an endpoint (rules 13.1 to 13.5), over what crtp says of its calls.
-- Used by the contracts of the calls, and by the statements on histories and on two endpoints.
use Rattle.std.specs.Prelude.{ℕ, cond, List, [], eqb}
use Rattle.crtp.specs.Face as crtp
use Rattle.crtp.specs.Face.{first_refusal, open_compressor_of, open_decompressor_of, send_of, request_of, receive_of}
use Rattle.endpoint.specs.declared.answer.Endpoint.{Endpoint}
use Rattle.endpoint.specs.Totals.{Event, sent, rebuilt, refused, quiet, no_totals, tallied}
use Rattle.endpoint.specs.Answer.{Result}

-- before any opening; neither table is sound
abbrev pub closed_endpoint : Endpoint
closed_endpoint = record { compressor = crtp.no_compressor; decompressor = crtp.no_decompressor; totals = no_totals }

-- rule 13.4: what a call comes to that answers this number and would count as this
abbrev pub judged : (number : ℕ) → Event → Event
judged n e = cond (eqb n 0) e (refused n)

---- Opening

-- rule 13.1: both tables with one N and K, and totals of 0; refused by either it leaves everything
abbrev pub open_by : Endpoint → crtp.sending.Result → crtp.receiving.Result → Result
open_by e c d =
    let n = first_refusal c.number d.number in
    record {
      number = n;
      kind = 0;
      length = 0;
      output = [];
      endpoint = cond (eqb n 0) (record { compressor = c.table; decompressor = d.table; totals = no_totals }) e;
    }

-- rule 13.1
unfoldable pub open_of : Endpoint → (n k : ℕ) → Result
open_of e n k = open_by e (open_compressor_of e.compressor n k) (open_decompressor_of e.decompressor n k)

---- From the wire

-- rules 13.2, 13.3: what the compressor answers to a packet
abbrev pub sent_by : Endpoint → crtp.sending.Result → Result
sent_by e r = record {
  number = r.number;
  kind = r.kind;
  length = r.length;
  output = r.output;
  endpoint = record {
    compressor = r.table;
    decompressor = e.decompressor;
    totals = tallied e.totals (judged r.number (sent r.kind));
  };
}

-- rule 13.2
unfoldable pub wire_of : Endpoint → (packet output : List ℕ) → Result
wire_of e p output = sent_by e (send_of e.compressor p output)

---- From the radio

-- rule 1.1: the link type that asks for full headers
abbrev pub context_state : ℕ
context_state = 4

-- rules 13.2, 13.3: a request; it gives nothing out, and leaves the output
abbrev pub requested_by : Endpoint → (output : List ℕ) → crtp.sending.Result → Result
requested_by e output r = record {
  number = r.number;
  kind = 0;
  length = 0;
  output = output;
  endpoint = record {
    compressor = r.table;
    decompressor = e.decompressor;
    totals = tallied e.totals (judged r.number quiet);
  };
}

-- rules 13.2, 13.3: what the decompressor answers; event: what it counts as, where it is accepted
abbrev pub answered_by : Event → Endpoint → crtp.receiving.Result → Result
answered_by event e r = record {
  number = r.number;
  kind = 0;
  length = r.length;
  output = r.output;
  endpoint = record {
    compressor = e.compressor;
    decompressor = r.table;
    totals = tallied e.totals (judged r.number event);
  };
}

-- rule 13.2: CONTEXT_STATE to the compressor, every other type to the decompressor, which refuses those that it does not know
unfoldable pub radio_of : Endpoint → (kind : ℕ) → (bytes output : List ℕ) → Result
radio_of e kind s output =
    cond (eqb kind context_state) (requested_by e output (request_of e.compressor s))
    (answered_by rebuilt e (receive_of e.decompressor kind s output))

---- The report

-- rules 13.2, 13.4: it counts nowhere, unless it is refused
unfoldable pub report_of : Endpoint → (output : List ℕ) → Result
report_of e output = answered_by quiet e (crtp.report_of e.decompressor output)
