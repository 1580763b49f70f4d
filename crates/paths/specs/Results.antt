-- The answers as results: a value, or a refusal, and beside that nothing.
use Rattle.std.specs.Prelude.{Result, Ok, Err, [], Bool, false}
use Rattle.values.specs.Address.{zero_address}
use Rattle.values.specs.declared.address.Address.{Address}
use Rattle.values.specs.declared.refusals.Refusal.{Refusal}
use Rattle.values.specs.Refusals.{number}
use Rattle.challenges.specs.Challenges.{spans_of}
use Rattle.challenges.specs.declared.matches.Spans.{Spans}
use Rattle.paths.specs.declared.answers.AddressAnswer.{AddressAnswer}
use Rattle.paths.specs.declared.answers.RespondedAnswer.{RespondedAnswer}
use Rattle.paths.specs.Reading.{address_at}

abbrev pub address_result : Result Address Refusal → AddressAnswer
address_result (Ok a) = address_at 0 a
address_result (Err e) = address_at (number e) zero_address

abbrev pub responded_result : Result (Bool × Spans) Refusal → RespondedAnswer
responded_result (Ok r) = record { refusal = 0; yes = r.0; spans = r.1 }
responded_result (Err e) = record { refusal = number e; yes = false; spans = spans_of [] }
