-- The answers as results: a value, or a refusal, and beside that nothing. An option of the code, as the definitions have it.
use Rattle.std.specs.Prelude.{ℕ, [], true, Option as Optional, Some, None, Result, Ok, Err}
use Rattle.std.proofs.Math.Option.{Option, none, some}
use Rattle.lists.specs.Defs.{present}
use Rattle.values.specs.Refusals.{number}
use Rattle.values.specs.declared.cid.ConnectionId.{ConnectionId}
use Rattle.values.specs.declared.refusals.Refusal.{Refusal}
use Rattle.values.specs.declared.token.Token.{Token}
use Rattle.tables.specs.Table.{used_of}
use Rattle.tables.specs.declared.lower.Used.{Used}
use Rattle.ids.specs.Reading.{item_at_of, found_at, frame_at, path_of}
use Rattle.ids.specs.declared.answers.ItemAnswer.{ItemAnswer}
use Rattle.ids.specs.declared.answers.FoundAnswer.{FoundAnswer}
use Rattle.ids.specs.declared.answers.Frame.{Frame}
use Rattle.ids.specs.declared.answers.FrameAnswer.{FrameAnswer}
use Rattle.ids.specs.declared.answers.RetiredAnswer.{RetiredAnswer}
use Rattle.tables.specs.declared.items.Item as I

abbrev pub option_of : {A : Type 0} → Optional A → Option A
option_of None = none
option_of (Some a) = some a

-- the item of a table with these fields
abbrev pub item_with : ℕ → ConnectionId → Token → Optional ℕ → I.Item
item_with seq cid token path = record { seq = seq; path = path_of (option_of path); cid = cid; token = token; has_path = present (option_of path) }

abbrev pub item_answer : Result (Optional I.Item) Refusal → ItemAnswer
item_answer (Ok None) = item_at_of 0 none
item_answer (Ok (Some x)) = record { refusal = 0; present = true; item = x }
item_answer (Err e) = item_at_of (number e) none

abbrev pub found_answer : Result (Optional I.Item) Refusal → FoundAnswer
found_answer (Ok None) = found_at 0 none
found_answer (Ok (Some x)) = record { refusal = 0; present = true; has_path = x.has_path; seq = x.seq; path = x.path }
found_answer (Err e) = found_at (number e) none

abbrev pub frame_answer : Result Frame Refusal → FrameAnswer
frame_answer (Ok f) = record { refusal = 0; seq = f.seq; retire_prior_to = f.retire_prior_to; cid = f.cid; token = f.token }
frame_answer (Err e) = frame_at (number e) none

abbrev pub retired_answer : Result Used Refusal → RetiredAnswer
retired_answer (Ok u) = record { refusal = 0; used = u }
retired_answer (Err e) = record { refusal = number e; used = used_of [] }
