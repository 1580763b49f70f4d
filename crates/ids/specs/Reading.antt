-- The state, read as a view; the one state that a view stands for; and what the code gives of an outcome on views.
use Rattle.std.specs.Prelude.{ℕ, List, [], map, Bool, true, false, cond, ◌&&◌, ◌||◌, replicate}
use Rattle.std.proofs.Math.Option.{Option, none, some}
use Rattle.lists.specs.Defs.{maybe, present, given, nought}
use Rattle.values.specs.Limits.{token_len}
use Rattle.values.specs.Cid.{zero_id}
use Rattle.values.specs.Token.{zero_token, token_formed_of, token_view}
use Rattle.values.specs.declared.token.Token.{Token}
use Rattle.values.specs.declared.answers.Flagged.{Flagged}
use Rattle.values.specs.declared.answers.Counted.{Counted}
use Rattle.values.specs.declared.answers.Numbered.{Numbered}
use Rattle.values.specs.declared.cid.ConnectionId.{ConnectionId}
use Rattle.values.specs.declared.used.UsedSeq.{UsedSeq}
use Rattle.values.specs.Answers.{counted_at, flagged_at, numbered_at}
use Rattle.ids_rules.specs.Values.{Item}
use Rattle.ids_rules.specs.View.{View, Answer, Out, refused, Nothing, Issued, Freed, Retired, Whole, Maybe, Found, Number, Perhaps, Flag, Frame}
use Rattle.ids_rules.specs.Steps.{zero_view, fresh_call}
use Rattle.ids_rules.specs.Calls.{Query, Call, Reply, reply, step}
use Rattle.tables.specs.Table.{zero_item, live, entries, table_of, queue_of, used_of}
use Rattle.ids_state.specs.Formed.{well_formed}
use Rattle.ids_state.specs.declared.state.Ids.{Ids}
use Rattle.ids.specs.declared.answers.ItemAnswer.{ItemAnswer}
use Rattle.ids.specs.declared.answers.FoundAnswer.{FoundAnswer}
use Rattle.ids.specs.declared.answers.FrameAnswer.{FrameAnswer}
use Rattle.ids.specs.declared.answers.DoneOut.{DoneOut}
use Rattle.ids.specs.declared.answers.IssuedOut.{IssuedOut}
use Rattle.ids.specs.declared.answers.FreedOut.{FreedOut}
use Rattle.ids.specs.declared.answers.RetiredOut.{RetiredOut}
use Rattle.tables.specs.declared.items.Item as I

-- ---- reading

abbrev pub item_view : I.Item → Item
item_view x = record { cid = x.cid; seq = x.seq; token = token_view x.token; path = given x.has_path x.path }

abbrev pub view : Ids → View
view s = record {
  scids = map item_view (live s.scids);
  dcids = map item_view (live s.dcids);
  dcid_limit = s.dcid_limit;
  scid_limit = s.scid_limit;
  scid_capacity = s.scid_capacity;
  zero_length_scid = s.zero_length_scid;
  zero_length_dcid = s.zero_length_dcid;
  next_scid_seq = s.next_scid_seq;
  retire_prior_to = s.retire_prior_to;
  largest_peer_retire_prior_to = s.largest_peer_retire_prior_to;
  scids_to_advertise = entries s.scids_to_advertise;
  dcids_to_retire = entries s.dcids_to_retire;
}

-- ---- building: what is absent is zero

abbrev pub token_of : Option (List ℕ) → Token
token_of none = zero_token
token_of (some b) = record { bytes = b; present = true }

abbrev pub path_of : Option ℕ → ℕ
path_of o = maybe o 0 (λ p. p)

abbrev pub item_of : Item → I.Item
item_of x = record { seq = x.seq; path = path_of x.path; cid = x.cid; token = token_of x.token; has_path = present x.path }

abbrev pub ids_of : View → Ids
ids_of v = record {
  scids = table_of (map item_of v.scids);
  dcids = table_of (map item_of v.dcids);
  scid_capacity = v.scid_capacity;
  dcid_limit = v.dcid_limit;
  scid_limit = v.scid_limit;
  zero_length_scid = v.zero_length_scid;
  zero_length_dcid = v.zero_length_dcid;
  next_scid_seq = v.next_scid_seq;
  retire_prior_to = v.retire_prior_to;
  largest_peer_retire_prior_to = v.largest_peer_retire_prior_to;
  scids_to_advertise = queue_of v.scids_to_advertise;
  dcids_to_retire = queue_of v.dcids_to_retire;
}

-- the form of a path that is given with a flag: what is absent is 0
abbrev pub path_formed_of : Bool → ℕ → Bool
path_formed_of has p = has || nought p

-- ---- what an answer holds, part by part: a number, an optional number, a flag, pairs, an item, a sequence with its path, the fields of a frame

pub record Sought : Type 0 where
  pub seq : ℕ
  pub path : Option ℕ

pub record Fields : Type 0 where
  pub seq : ℕ
  pub retire_prior_to : ℕ
  pub cid : ConnectionId
  pub token : List ℕ

pub record Parts : Type 0 where
  pub number : ℕ
  pub perhaps : Option ℕ
  pub flag : Bool
  pub pairs : List UsedSeq
  pub item : Option Item
  pub sought : Option Sought
  pub fields : Option Fields

abbrev parts_at : ℕ → Option ℕ → Bool → List UsedSeq → Option Item → Option Sought → Option Fields → Parts
parts_at n o b l x s f = record { number = n; perhaps = o; flag = b; pairs = l; item = x; sought = s; fields = f }

abbrev pub parts_of : Answer → Parts
parts_of Nothing = parts_at 0 none false [] none none none
parts_of (Issued s) = parts_at s none false [] none none none
parts_of (Freed p) = parts_at 0 p false [] none none none
parts_of (Retired l) = parts_at 0 none false l none none none
parts_of (Whole x) = parts_at 0 none false [] (some x) none none
parts_of (Maybe x) = parts_at 0 none false [] x none none
parts_of (Found s p) = parts_at 0 none false [] none (some (record { seq = s; path = p })) none
parts_of (Number n) = parts_at n none false [] none none none
parts_of (Perhaps n) = parts_at 0 n false [] none none none
parts_of (Flag b) = parts_at 0 none b [] none none none
parts_of (Frame s r c t) = parts_at 0 none false [] none none (some (record { seq = s; retire_prior_to = r; cid = c; token = t }))

-- ---- the answers of calls that read, by refusal and part; beside a refusal every part is nothing

abbrev pub item_at_of : ℕ → Option Item → ItemAnswer
item_at_of refusal o = record { refusal = refusal; present = present o; item = maybe o zero_item item_of }

abbrev pub found_at : ℕ → Option Sought → FoundAnswer
found_at refusal none = record { refusal = refusal; present = false; has_path = false; seq = 0; path = 0 }
found_at refusal (some f) = record { refusal = refusal; present = true; has_path = present f.path; seq = f.seq; path = path_of f.path }

abbrev pub frame_at : ℕ → Option Fields → FrameAnswer
frame_at refusal none = record { refusal = refusal; seq = 0; retire_prior_to = 0; cid = zero_id; token = record { bytes = replicate token_len 0 } }
frame_at refusal (some f) = record { refusal = refusal; seq = f.seq; retire_prior_to = f.retire_prior_to; cid = f.cid; token = record { bytes = f.token } }

abbrev pub counted_of : Reply → Counted
counted_of r = counted_at r.refusal (parts_of r.answer).number

abbrev pub flagged_of : Reply → Flagged
flagged_of r = flagged_at r.refusal (parts_of r.answer).flag

abbrev pub numbered_of : Reply → Numbered
numbered_of r = numbered_at r.refusal (parts_of r.answer).perhaps

abbrev pub item_answer_of : Reply → ItemAnswer
item_answer_of r = item_at_of r.refusal (parts_of r.answer).item

abbrev pub found_answer_of : Reply → FoundAnswer
found_answer_of r = found_at r.refusal (parts_of r.answer).sought

abbrev pub frame_of : Reply → FrameAnswer
frame_of r = frame_at r.refusal (parts_of r.answer).fields

-- ---- the results of calls that change the state

abbrev pub done_at : ℕ → Ids → DoneOut
done_at refusal s = record { ids = s; answer = record { refusal = refusal } }

abbrev pub issued_at : ℕ → ℕ → Ids → IssuedOut
issued_at refusal n s = record { ids = s; answer = counted_at refusal n }

abbrev pub freed_at : ℕ → Option ℕ → Ids → FreedOut
freed_at refusal o s = record { ids = s; answer = numbered_at refusal o }

abbrev pub retired_at : ℕ → List UsedSeq → Ids → RetiredOut
retired_at refusal l s = record { ids = s; answer = record { refusal = refusal; used = used_of l } }

abbrev pub done_of : Out → DoneOut
done_of o = done_at o.refusal (ids_of o.view)

abbrev pub issued_of : Out → IssuedOut
issued_of o = issued_at o.refusal (parts_of o.answer).number (ids_of o.view)

abbrev pub freed_of : Out → FreedOut
freed_of o = freed_at o.refusal (parts_of o.answer).perhaps (ids_of o.view)

abbrev pub retired_of : Out → RetiredOut
retired_of o = retired_at o.refusal (parts_of o.answer).pairs (ids_of o.view)

-- ---- the published calls: 1 if the state or an argument has not its form, and the state is given back as it came

-- f: the arguments have their form
abbrev pub checked : {A : Type 0} → Ids → (f : Bool) → (x malformed : A) → A
checked s f x malformed = cond (well_formed s && f) x malformed

abbrev pub done_call : Ids → (f : Bool) → Call → DoneOut
done_call s f c = checked s f (done_of (step (view s) c)) (done_at 1 s)

abbrev pub issued_call : Ids → (f : Bool) → Call → IssuedOut
issued_call s f c = checked s f (issued_of (step (view s) c)) (issued_at 1 0 s)

abbrev pub freed_call : Ids → (f : Bool) → Call → FreedOut
freed_call s f c = checked s f (freed_of (step (view s) c)) (freed_at 1 none s)

abbrev pub retired_call : Ids → (f : Bool) → Call → RetiredOut
retired_call s f c = checked s f (retired_of (step (view s) c)) (retired_at 1 [] s)

abbrev pub counted_call : Ids → Query → Counted
counted_call s q = checked s true (counted_of (reply (view s) q)) (counted_at 1 0)

abbrev pub flagged_call : Ids → Query → Flagged
flagged_call s q = checked s true (flagged_of (reply (view s) q)) (flagged_at 1 false)

abbrev pub numbered_call : Ids → Query → Numbered
numbered_call s q = checked s true (numbered_of (reply (view s) q)) (numbered_at 1 none)

abbrev pub item_call : Ids → Query → ItemAnswer
item_call s q = checked s true (item_answer_of (reply (view s) q)) (item_at_of 1 none)

abbrev pub found_call : Ids → (f : Bool) → Query → FoundAnswer
found_call s f q = checked s f (found_answer_of (reply (view s) q)) (found_at 1 none)

abbrev pub frame_call : Ids → Query → FrameAnswer
frame_call s q = checked s true (frame_of (reply (view s) q)) (frame_at 1 none)

-- a refused fresh gives the all-zero state
abbrev pub fresh_ids : (dcid_limit : ℕ) → ConnectionId → (path : ℕ) → Token → DoneOut
fresh_ids dcid_limit cid path token = done_of (cond (token_formed_of token) (fresh_call dcid_limit cid path (token_view token)) (refused 1 zero_view))
