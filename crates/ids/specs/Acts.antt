-- A call that changes the state, as what it leaves: the fields that it may change, put into the state, and the answer.
use Rattle.std.specs.Prelude.{ℕ, ◌≡◌, List, [], Bool, cond, set, get_or}
use Rattle.std.proofs.Common.{ap}
use Rattle.std.proofs.Math.Option.{Option, none, some}
use Rattle.values.specs.declared.answers.Done.{Done}
use Rattle.values.specs.declared.answers.Counted.{Counted}
use Rattle.values.specs.declared.answers.Numbered.{Numbered}
use Rattle.values.specs.declared.cid.ConnectionId.{ConnectionId}
use Rattle.values.specs.Answers.{numbered_at}
use Rattle.ids_rules.specs.View.{refused}
use Rattle.ids_rules.specs.With.{with_retire_prior_to}
use Rattle.ids_rules.specs.Steps.{add_scid, issue, marked}
use Rattle.tables.specs.Table.{zero_item, live, entries, table_of, queue_of, used_of, on_path}
use Rattle.tables.specs.declared.sequences.Queue.{Queue}
use Rattle.tables.specs.declared.items.Table.{Table}
use Rattle.ids_state.specs.declared.state.Ids.{Ids}
use Rattle.ids.specs.Reading.{view}
use Rattle.ids.specs.Puts.{put_issued, put_source_rpt, put_lowered}
use Rattle.ids.specs.declared.answers.DoneOut.{DoneOut}
use Rattle.ids.specs.declared.answers.IssuedOut.{IssuedOut}
use Rattle.ids.specs.declared.answers.FreedOut.{FreedOut}
use Rattle.ids.specs.declared.answers.RetiredOut.{RetiredOut}
use Rattle.ids.specs.declared.answers.IssuedParts.{IssuedParts}
use Rattle.ids.specs.declared.answers.FreedParts.{FreedParts}
use Rattle.ids.specs.declared.answers.RetiredAnswer.{RetiredAnswer}
use Rattle.ids.specs.declared.answers.RetiredParts.{RetiredParts}
use Rattle.ids.specs.declared.answers.TableParts.{TableParts}
use Rattle.ids.specs.declared.answers.QueueParts.{QueueParts}

-- u, the state with the fields put in, is s, and the answer a is b
pub record Left {A : Type 0} (u s : Ids) (a b : A) : Type 0 where
  pub state : u ≡ s
  pub answer : a ≡ b

-- both are what a call gives
abbrev pub Leaves : Ids → Done → DoneOut → Type 0
Leaves u a r = Left u r.ids a r.answer

abbrev pub IssuedLeaves : Ids → Counted → IssuedOut → Type 0
IssuedLeaves u a r = Left u r.ids a r.answer

abbrev pub FreedLeaves : Ids → Numbered → FreedOut → Type 0
FreedLeaves u a r = Left u r.ids a r.answer

abbrev pub RetiredLeaves : Ids → RetiredAnswer → RetiredOut → Type 0
RetiredLeaves u a r = Left u r.ids a r.answer

-- both at once
abbrev pub done_in : Ids → Done → DoneOut
done_in u a = record { ids = u; answer = a }

pub done_leaves : (u : Ids) (a : Done) (r : DoneOut) → done_in u a ≡ r → Leaves u a r
done_leaves u a r e = record { state = ap (λ (x : DoneOut). x.ids) e; answer = ap (λ (x : DoneOut). x.answer) e }

-- ---- the calls that change several fields: those fields, put into the state, and the answer

abbrev pub issued_in : Ids → IssuedParts → IssuedOut
issued_in s r = record { ids = put_issued r.scids r.scids_to_advertise r.next_scid_seq r.retire_prior_to s; answer = r.answer }

abbrev pub freed_in : Ids → FreedParts → FreedOut
freed_in s r = record { ids = put_source_rpt r.scids r.retire_prior_to s; answer = r.answer }

abbrev pub retired_in : Ids → RetiredParts → RetiredOut
retired_in s r = record { ids = put_lowered r.dcids r.dcids_to_retire r.largest_peer_retire_prior_to s; answer = r.answer }

-- no path was freed, no pair retired
abbrev pub free_none : ℕ → Table → ℕ → FreedParts
free_none refusal t rpt = record { scids = t; retire_prior_to = rpt; answer = numbered_at refusal none }

abbrev pub retire_none : ℕ → Table → Queue → ℕ → RetiredParts
retire_none refusal t q largest = record { dcids = t; dcids_to_retire = q; largest_peer_retire_prior_to = largest; answer = record { refusal = refusal; used = used_of [] } }

-- ---- the marks, on one table or one queue

abbrev pub table_at : ℕ → Table → TableParts
table_at refusal t = record { table = t; answer = record { refusal = refusal } }

abbrev pub queue_at : ℕ → Queue → QueueParts
queue_at refusal q = record { queue = q; answer = record { refusal = refusal } }

-- the item at the place is put on the path; 2 if there is no place
abbrev pub used_at : ℕ → Table → Option ℕ → TableParts
used_at path t none = table_at 2 t
used_at path t (some i) = table_at 0 (table_of (set (live t) i (on_path path (get_or (live t) i zero_item))))

-- the sequence is marked; 6 if the queue is full
abbrev pub marked_at : ℕ → Bool → Queue → (full : Bool) → QueueParts
marked_at seq on q full = cond full (queue_at 6 q) (queue_at 0 (queue_of (marked seq on (entries q))))

-- ---- whether one source ID more is issued: with own Retire Prior To as it is then, or refused

abbrev pub Raises : Ids → Bool → ℕ → Type 0
Raises s retire_if_needed rpt = (cid : ConnectionId) (token : Option (List ℕ)) (advertise : Bool) (path : Option ℕ)
    → add_scid cid token advertise path retire_if_needed (view s) ≡ issue cid token advertise path (view s) (with_retire_prior_to rpt (view s))

abbrev pub Withholds : Ids → Bool → ℕ → Type 0
Withholds s retire_if_needed n = (cid : ConnectionId) (token : Option (List ℕ)) (advertise : Bool) (path : Option ℕ)
    → add_scid cid token advertise path retire_if_needed (view s) ≡ refused n (view s)
