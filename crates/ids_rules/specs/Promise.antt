-- What is promised of every published call of the connection IDs, on any view and over any run of calls. This file is the statement, to be read alone;
-- that all of it holds is `promised` in proofs/Promised.antt.
--
-- A View is what a connection's IDs read as: lists and numbers. A Call is a published call with its arguments. `apply v c` is what comes of the call c on
-- the view v: the number of its refusal, 0 where it is accepted; its answer; and the view that follows. `after v c` is that view, and `run v cs` the view
-- after the calls cs, one after the other, refused ones too. `well v` says that v is well formed (docs/RULES.md, "Well-formed IDs"), `call_formed c` that
-- the arguments of c have their forms ("Values").
use Rattle.std.specs.Prelude.{ℕ, zero, suc, ◌+◌, ◌≡◌, List, [], ◌∷◌, ◌++◌, map, Bool, true, false, cond, not, ◌&&◌, ◌||◌, length, drop, eqb, leb}
use Rattle.std.proofs.Math.Option.{Option, none, some}
use Rattle.lists.specs.Defs.{maybe, keep, any, all, has}
use Rattle.values.specs.declared.cid.ConnectionId.{ConnectionId}
use Rattle.ids_rules.specs.Values.{seq_of}
use Rattle.ids_rules.specs.View.{View, Out, Answer, Nothing, Issued, Freed, Retired, Whole, Maybe, Found, Number, Perhaps, Flag, Frame}
use Rattle.ids_rules.specs.Steps.{fresh_call}
use Rattle.ids_rules.specs.Well.{well}
use Rattle.ids_rules.specs.Calls.{Call, SetInitialDcid, SetScidLimit, AddScid, RetireScid, AddDcid, MarkScidUsed, MarkDcidUsed, MarkScidToAdvertise, MarkDcidToRetire, Ask, call_formed, apply, after, run}

-- what a fresh call that is not refused gives
pub data Starts : View → Type 0 where
  starts : (dcid_limit : ℕ) (cid : ConnectionId) (path : ℕ) (token : Option (List ℕ))
      → (fresh_call dcid_limit cid path token).refusal ≡ 0 → Starts (fresh_call dcid_limit cid path token).view

-- ---- one outcome

-- what a call answers and leaves is determined: two outcomes that both come of it are equal
abbrev pub Determined : Type 0
Determined = (v : View) (c : Call) (a b : Out) → a ≡ apply v c → b ≡ apply v c → a ≡ b

-- ---- refusals

-- a refused call answers nothing but its number
abbrev pub RefusedIsQuiet : Type 0
RefusedIsQuiet = (v : View) (c : Call) → eqb (apply v c).refusal 0 ≡ false → (apply v c).answer ≡ Nothing

-- 1, and every number from 5 on, leaves nothing changed
abbrev pub LeavesNothing : Type 0
LeavesNothing = (v : View) (c : Call) → (eqb (apply v c).refusal 1 || leb 5 (apply v c).refusal) ≡ true → after v c ≡ v

-- ---- never answered 1

-- a fresh state not refused is well formed
abbrev pub FreshWell : Type 0
FreshWell = (v : View) → Starts v → well v ≡ true

-- every call keeps every well-formed state well formed, whether calls can reach it or not
abbrev pub KeepsWell : Type 0
KeepsWell = (v : View) (c : Call) → well v ≡ true → well (after v c) ≡ true

-- after any calls from a fresh state, a call is answered 1 exactly if an argument of it has not its form
abbrev pub NeverOne : Type 0
NeverOne = (v : View) → Starts v → (cs : List Call) (c : Call) → eqb (apply (run v cs) c).refusal 1 ≡ not (call_formed c)

-- ---- source sequences are issued once: what the calls were and how they were answered decides which are in the table

-- a call and how it was answered
pub record Event : Type 0 where
  pub call : Call
  pub refusal : ℕ
  pub answer : Answer

abbrev pub event : View → Call → Event
event v c = record { call = c; refusal = (apply v c).refusal; answer = (apply v c).answer }

abbrev pub history : View → List Call → List Event
history v [] = []
history v (c ∷ cs) = event v c ∷ history (after v c) cs

-- the sequence that a successful issue answers
abbrev pub issued_by : Answer → List ℕ
issued_by Nothing = []
issued_by (Issued n) = n ∷ []
issued_by (Freed o) = []
issued_by (Retired l) = []
issued_by (Whole x) = []
issued_by (Maybe o) = []
issued_by (Found n o) = []
issued_by (Number n) = []
issued_by (Perhaps o) = []
issued_by (Flag b) = []
issued_by (Frame n r c t) = []

abbrev pub issues : List Event → List ℕ
issues [] = []
issues (e ∷ es) = issued_by e.answer ++ issues es

-- the sequence that a retire call names
abbrev pub retires : Call → Option ℕ
retires (SetInitialDcid cid token path) = none
retires (SetScidLimit n) = none
retires (AddScid cid token advertise path retire_if_needed) = none
retires (RetireScid s packet) = some s
retires (AddDcid cid s token b) = none
retires (MarkScidUsed s p) = none
retires (MarkDcidUsed s p) = none
retires (MarkScidToAdvertise s on) = none
retires (MarkDcidToRetire s on) = none
retires (Ask q) = none

-- a retire of s takes s out if s is there and is not the only one
abbrev pub out : ℕ → List ℕ → List ℕ
out s l = cond (leb 2 (length l) && has s l) (keep (λ (n : ℕ). not (eqb s n)) l) l

-- a successful issue comes to the end; a retire takes out, whatever it answered but 1
abbrev pub logged : List ℕ → Event → List ℕ
logged l e = maybe (retires e.call) (l ++ issued_by e.answer) (λ s. cond (eqb e.refusal 1) l (out s l))

abbrev pub remaining : List ℕ → List Event → List ℕ
remaining l [] = l
remaining l (e ∷ es) = remaining (logged l e) es

-- n, n + 1, n + 2, .. : k of them
abbrev pub counted : ℕ → ℕ → List ℕ
counted n zero = []
counted n (suc k) = n ∷ counted (n + 1) k

-- the sequences of the source table
abbrev pub sequences : View → List ℕ
sequences v = map seq_of v.scids

-- the successful issues answer 1, 2, 3 and so on
abbrev pub WithoutGap : Type 0
WithoutGap = (v : View) → Starts v → (cs : List Call) → issues (history v cs) ≡ counted 1 (length (issues (history v cs)))

-- the table holds sequence 0 and those issued, less those taken out
abbrev pub TableIsHistory : Type 0
TableIsHistory = (v : View) → Starts v → (cs : List Call) → sequences (run v cs) ≡ remaining (0 ∷ []) (history v cs)

-- a sequence that was there, 0 or issued, and is out after cs, is out after any more calls ds
abbrev pub NeverReturns : Type 0
NeverReturns = (v : View) → Starts v → (cs ds : List Call) (s : ℕ) → has s (0 ∷ issues (history v cs)) ≡ true
    → has s (sequences (run v cs)) ≡ false → has s (sequences (run v (cs ++ ds))) ≡ false

-- ---- a retired destination sequence stays out [10]

-- the call is set_initial_dcid
abbrev pub sets_initial : Call → Bool
sets_initial (SetInitialDcid cid token path) = true
sets_initial (SetScidLimit n) = false
sets_initial (AddScid cid token advertise path retire_if_needed) = false
sets_initial (RetireScid s packet) = false
sets_initial (AddDcid cid s token b) = false
sets_initial (MarkScidUsed s p) = false
sets_initial (MarkDcidUsed s p) = false
sets_initial (MarkScidToAdvertise s on) = false
sets_initial (MarkDcidToRetire s on) = false
sets_initial (Ask q) = false

-- the call is add_dcid, which takes a NEW_CONNECTION_ID frame
abbrev pub takes_frame : Call → Bool
takes_frame (SetInitialDcid cid token path) = false
takes_frame (SetScidLimit n) = false
takes_frame (AddScid cid token advertise path retire_if_needed) = false
takes_frame (RetireScid s packet) = false
takes_frame (AddDcid cid s token b) = true
takes_frame (MarkScidUsed s p) = false
takes_frame (MarkDcidUsed s p) = false
takes_frame (MarkScidToAdvertise s on) = false
takes_frame (MarkDcidToRetire s on) = false
takes_frame (Ask q) = false

-- the sequences of the destination table
abbrev pub destinations : View → List ℕ
destinations v = map seq_of v.dcids

-- none of them is below the largest Retire Prior To of the peer
abbrev pub none_below : View → Bool
none_below v = all (leb v.largest_peer_retire_prior_to) (destinations v)

-- so it is over any calls from a fresh state, refused ones too, of which set_initial_dcid is at most the first: after any of them, cs, whatever comes then, ds
abbrev pub NoneBelow : Type 0
NoneBelow = (v : View) → Starts v → (cs ds : List Call) → any sets_initial (drop 1 (cs ++ ds)) ≡ false → none_below (run v cs) ≡ true

-- nothing that passes p comes after what passes q
abbrev pub never_after : {A : Type 0} → (A → Bool) → (A → Bool) → List A → Bool
never_after p q [] = true
never_after p q (c ∷ cs) = cond (q c) (not (any p cs)) (never_after p q cs)

-- and more: set_initial_dcid may come as often as one likes before the first add_dcid, as a client calls it when the server has chosen its ID
abbrev pub NoneBelowEarly : Type 0
NoneBelowEarly = (v : View) → Starts v → (cs ds : List Call) → never_after sets_initial takes_frame (cs ++ ds) ≡ true → none_below (run v cs) ≡ true

-- ---- all of it

pub record Promises : Type 0 where
  pub determined : Determined
  pub refused_is_quiet : RefusedIsQuiet
  pub leaves_nothing : LeavesNothing
  pub fresh_well : FreshWell
  pub keeps_well : KeepsWell
  pub never_one : NeverOne
  pub without_gap : WithoutGap
  pub table_is_history : TableIsHistory
  pub never_returns : NeverReturns
  pub none_below : NoneBelow
  pub none_below_early : NoneBelowEarly
