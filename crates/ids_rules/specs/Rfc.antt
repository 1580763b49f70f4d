-- RFC 9000, sections 5.1.1, 5.1.2, 9.5, 10.3.2, 19.15 and 19.16, as rules on the view before, what came, and what comes of it: which of them the calls
-- meet, which they meet but for a listed case, and where they differ. D1 to D23, D37 to D39 and D44 are rows of docs/DIFFERENCES.md. The proofs are in
-- proofs/RfcProof.antt.
use Rattle.std.specs.Prelude.{ℕ, ◌+◌, ◌*◌, ◌≤◌, ◌<◌, ◌≡◌, List, [], ◌∷◌, Bool, true, false, cond, not, ◌&&◌, ◌||◌, length, replicate, eqb, leb, ltb}
use Rattle.std.proofs.Math.Option.{Option, none, some}
use Rattle.lists.specs.Defs.{maybe, present, first, keep, any, all, has}
use Rattle.values.specs.declared.cid.ConnectionId.{ConnectionId}
use Rattle.values.specs.Cid.{cid_new_of, zero_id, same_id}
use Rattle.values.specs.Limits.{max_cid_len, token_len, min_scid_limit, max_cids_count, max_sequence, queue_slots, retire_factor, capacity_of}
use Rattle.values.specs.Refusals.{wire_code_of, connection_id_limit_error, protocol_violation}
use Rattle.ids_rules.specs.Values.{Item, has_seq, has_cid, from, below, clashes, shared_token, repeats}
use Rattle.ids_rules.specs.View.{View, Out, Issued, Retired, Perhaps, Frame, accepted}
use Rattle.ids_rules.specs.Steps.{fresh, sole, without, lowest_from}
use Rattle.ids_rules.specs.Well.{well}
use Rattle.ids_rules.specs.Calls.{Call, SetInitialDcid, SetScidLimit, AddScid, RetireScid, AddDcid, MarkScidUsed, MarkDcidUsed, MarkScidToAdvertise, MarkDcidToRetire, Ask, call_formed, apply, run}
use Rattle.ids_rules.specs.Calls.{Query, LowestUnusedDcidSeq, CreateNewConnectionIdFrame}
use Rattle.ids_rules.specs.Promise.{Starts, sequences, sets_initial, takes_frame, destinations, never_after, WithoutGap}

-- ---- what comes, and the call that takes it

-- a NEW_CONNECTION_ID frame of the peer
pub record NewConnectionId : Type 0 where
  pub cid : ConnectionId
  pub seq : ℕ
  pub token : List ℕ
  pub retire_prior_to : ℕ

-- a RETIRE_CONNECTION_ID frame of the peer, and the Destination Connection ID of the packet that it is in
pub record RetireConnectionId : Type 0 where
  pub seq : ℕ
  pub packet : ConnectionId

-- what the host asks when it issues an ID
pub record Issue : Type 0 where
  pub cid : ConnectionId
  pub token : Option (List ℕ)
  pub advertise : Bool
  pub path : Option ℕ
  pub retire_if_needed : Bool

-- the host puts an ID on a path
pub record Use : Type 0 where
  pub seq : ℕ
  pub path : ℕ

-- the peer's first ID
pub record Initial : Type 0 where
  pub cid : ConnectionId
  pub token : Option (List ℕ)
  pub path : Option ℕ

abbrev pub new_id : NewConnectionId → Call
new_id f = AddDcid f.cid f.seq f.token f.retire_prior_to

abbrev pub retire_id : RetireConnectionId → Call
retire_id f = RetireScid f.seq f.packet

abbrev pub issue_id : Issue → Call
issue_id i = AddScid i.cid i.token i.advertise i.path i.retire_if_needed

abbrev pub use_source : Use → Call
use_source u = MarkScidUsed u.seq u.path

abbrev pub use_destination : Use → Call
use_destination u = MarkDcidUsed u.seq u.path

abbrev pub initial_id : Initial → Call
initial_id i = SetInitialDcid i.cid i.token i.path

-- the frame for a source sequence; any call
abbrev pub make_frame : ℕ → Call
make_frame s = Ask (CreateNewConnectionIdFrame s)

abbrev pub itself : Call → Call
itself c = c

-- a frame that came before, on the view of then, and the calls since: it comes again
pub record Again : Type 0 where
  pub before : View
  pub frame : NewConnectionId
  pub since : List Call

abbrev pub same_again : Again → Call
same_again r = new_id r.frame

abbrev pub item_of : NewConnectionId → Item
item_of f = record { cid = f.cid; seq = f.seq; token = some f.token; path = none }

-- ---- a NEW_CONNECTION_ID frame, beside what is held

-- the table holds its ID or its sequence; it holds them and the token in one item: a repeat
abbrev pub held : View → NewConnectionId → Bool
held v f = any (λ (y : Item). clashes y (item_of f)) v.dcids

abbrev pub repeated : View → NewConnectionId → Bool
repeated v f = any (λ (y : Item). repeats y (item_of f)) v.dcids

-- its Retire Prior To is an increased one; its sequence is below an earlier one
abbrev pub increases : View → NewConnectionId → Bool
increases v f = ltb v.largest_peer_retire_prior_to f.retire_prior_to

abbrev pub comes_late : View → NewConnectionId → Bool
comes_late v f = ltb f.seq v.largest_peer_retire_prior_to

-- the held IDs that an increased Retire Prior To leaves active
abbrev pub kept : View → NewConnectionId → List Item
kept v f = cond (increases v f) (keep (from f.retire_prior_to) v.dcids) v.dcids

-- how many IDs are then in need of retirement: those that wait, those that an increased Retire Prior To names, and the frame's own, if it comes late and does not wait yet
abbrev pub in_need : View → NewConnectionId → ℕ
in_need v f = length v.dcids_to_retire + cond (increases v f) (length (keep (below f.retire_prior_to) v.dcids)) 0 + cond (comes_late v f && not (has f.seq v.dcids_to_retire)) 1 0

-- 5.1.2 leaves the limit of these to the endpoint: 4 x limit
abbrev pub retire_limit : View → ℕ
retire_limit v = retire_factor * v.dcid_limit

-- the frame is an error for what it says, or gives what is held
abbrev pub otherwise : View → NewConnectionId → Bool
otherwise v f = v.zero_length_dcid || (held v f || ltb f.seq f.retire_prior_to)

-- ---- errors (20.1): the call is refused, and the refusal has this code

abbrev pub frame_encoding_error : ℕ
frame_encoding_error = 0x07

abbrev pub transport_parameter_error : ℕ
transport_parameter_error = 0x08

abbrev pub Closes : ℕ → Out → Type 0
Closes code o = (eqb o.refusal 0 ≡ false) × (wire_code_of o.refusal ≡ code)

-- ---- rules: the view before, what came, what comes of it

abbrev pub Rule : Type 0 → Type 1
Rule A = View → A → Out → Type 0

-- on every well-formed view, whatever came in its form, the call meets the rule; it does but where the exception holds; at v and f, which are such, it does not
abbrev pub Met : {A : Type 0} → (A → Call) → Rule A → Type 0
Met {A} call R = (v : View) (f : A) → well v ≡ true → call_formed (call f) ≡ true → R v f (apply v (call f))

abbrev pub MetUnless : {A : Type 0} → (A → Call) → (View → A → Bool) → Rule A → Type 0
MetUnless {A} call E R = (v : View) (f : A) → well v ≡ true → call_formed (call f) ≡ true → E v f ≡ false → R v f (apply v (call f))

abbrev pub DiffersAt : {A : Type 0} → (A → Call) → Rule A → View → A → Type 0
DiffersAt call R v f = (well v ≡ true) × (call_formed (call f) ≡ true) × (R v f (apply v (call f)) → ⊥)

-- whatever calls came before from a fresh state, refused ones too, where no set_initial_dcid came after an add_dcid, the call meets the rule
abbrev pub MetOver : {A : Type 0} → (A → Call) → Rule A → Type 0
MetOver {A} call R = (v : View) → Starts v → (cs : List Call) → never_after sets_initial takes_frame cs ≡ true → (f : A) → call_formed (call f) ≡ true → R (run v cs) f (apply (run v cs) (call f))

-- ---- 5.1.1, issuing

-- the sequence of the initial ID is 0: our own, and the peer's
abbrev pub OwnInitialIsZero : Type 0
OwnInitialIsZero = (v : View) → Starts v → sequences v ≡ 0 ∷ []

abbrev pub InitialIsZero : Rule Initial
InitialIsZero v i o = destinations o.view ≡ 0 ∷ []

-- an issued ID MUST be accepted until the peer retires it (and 5.1.2: also where the peer is asked to retire it): no call but a retire takes one out
abbrev pub AcceptedUntilRetired : Rule Call
AcceptedUntilRetired v c o = (id : ConnectionId) → any (has_cid id) v.scids ≡ true → any (has_cid id) o.view.scids ≡ true

abbrev pub retiring : View → Call → Bool
retiring v (SetInitialDcid cid token path) = false
retiring v (SetScidLimit n) = false
retiring v (AddScid cid token advertise path retire_if_needed) = false
retiring v (RetireScid s packet) = true
retiring v (AddDcid cid s token b) = false
retiring v (MarkScidUsed s p) = false
retiring v (MarkDcidUsed s p) = false
retiring v (MarkScidToAdvertise s on) = false
retiring v (MarkDcidToRetire s on) = false
retiring v (Ask q) = false

-- and a retire takes out no other
abbrev pub OthersStay : Rule RetireConnectionId
OthersStay v f o = (s : ℕ) → eqb s f.seq ≡ false → has s (sequences v) ≡ true → has s (sequences o.view) ≡ true

-- the source IDs that the peer is not asked to retire
abbrev pub active : View → ℕ
active v = length (keep (from v.retire_prior_to) v.scids)

-- MUST NOT provide more IDs than the peer's limit, but MAY exceed it where Retire Prior To asks for the excess
abbrev pub WithinPeerLimit : Rule Issue
WithinPeerLimit v i o = o.refusal ≡ 0 → active o.view ≤ o.view.scid_limit

-- the exception: the limit has been lowered below what is active
abbrev pub excess : View → Issue → Bool
excess v i = ltb v.scid_limit (active v)

-- after adding and retiring, more active IDs than the limit MUST be a CONNECTION_ID_LIMIT_ERROR: where a frame is no error, there are at most limit
abbrev pub WithinLimit : Rule NewConnectionId
WithinLimit v f o = o.refusal ≡ 0 → length o.view.dcids ≤ v.dcid_limit

-- the exception: as many as the limit are kept already; or a repeat leaves all in place, its Retire Prior To unread, and they are more
abbrev pub filled : View → NewConnectionId → Bool
filled v f = leb v.dcid_limit (length (kept v f)) || (repeated v f && ltb v.dcid_limit (length v.dcids))

-- and where the frame adds an ID to as many as the limit, and nothing else is wrong with it, the error is this one
abbrev pub OverLimit : Rule NewConnectionId
OverLimit v f o = otherwise v f ≡ false → comes_late v f ≡ false → in_need v f ≤ retire_limit v → v.dcid_limit ≤ length (kept v f) → Closes connection_id_limit_error o

-- the exception: fewer than 2 x limit - 1 are kept
abbrev pub unfilled : View → NewConnectionId → Bool
unfilled v f = ltb (length (kept v f)) (capacity_of v.dcid_limit)

-- SHOULD supply a new ID when the peer retires one: where fewer are active than the peer allows, one can be issued
abbrev pub Supplies : Rule Issue
Supplies v i o = v.zero_length_scid ≡ false → present i.token ≡ true → active v < v.scid_limit → o.refusal ≡ 0

-- the exception: the table is at the limit; or the sequences are spent; or the advertise queue is full
abbrev pub no_room : View → Issue → Bool
no_room v i = leb v.scid_limit (length v.scids) || (leb max_sequence v.next_scid_seq || (i.advertise && leb queue_slots (length v.scids_to_advertise)))

-- MAY limit the total number of IDs issued: sequences stay below 2^62
abbrev pub TotalLimited : Rule Issue
TotalLimited v i o = (n : ℕ) → o.answer ≡ Issued n → n < max_sequence

-- MAY limit the issuance of IDs: the limit is 2 to 16, whatever the peer allows
abbrev pub IssuanceLimited : Rule ℕ
IssuanceLimited v n o = (min_scid_limit ≤ o.view.scid_limit) × (o.view.scid_limit ≤ max_cids_count)

-- an endpoint with a zero-length source ID cannot issue one (and 19.15: MUST NOT send the frame)
abbrev pub ZeroLengthIssues : Rule Issue
ZeroLengthIssues v i o = v.zero_length_scid ≡ true → (o.view ≡ v) × (o.refusal ≡ 0 → ⊥)

-- 5.1: the same ID MUST NOT be issued twice
abbrev pub IssuedOnce : Rule Issue
IssuedOnce v i o = o.refusal ≡ 0 → any (has_cid i.cid) v.scids ≡ false

-- 18.2: a limit below 2 MUST be a TRANSPORT_PARAMETER_ERROR
abbrev pub LimitBelowTwo : Rule ℕ
LimitBelowTwo v n o = n < 2 → Closes transport_parameter_error o

-- ---- 5.1.2, consuming and retiring

-- an ID for which RETIRE_CONNECTION_ID is sent will not be used again: it is not offered
abbrev pub NotOffered : Rule Query
NotOffered v q o = q ≡ LowestUnusedDcidSeq → (s : ℕ) → o.answer ≡ Perhaps (some s) → has s v.dcids_to_retire ≡ false

-- upon an increased Retire Prior To, the lower IDs MUST be retired, and none of them is used
abbrev pub LowerAreRetired : Rule NewConnectionId
LowerAreRetired v f o = v.largest_peer_retire_prior_to < f.retire_prior_to → o.refusal ≡ 0
    → (all (from f.retire_prior_to) o.view.dcids ≡ true)
    × ((s : ℕ) → has s (destinations v) ≡ true → s < f.retire_prior_to → has s o.view.dcids_to_retire ≡ true)

-- SHOULD limit the number of IDs retired and not acknowledged, of which the view has those whose frame waits: whatever is called, if it is no error, at most so many wait
abbrev pub QueueLimited : Rule Call
QueueLimited v c o = o.refusal ≡ 0 → length o.view.dcids_to_retire ≤ retire_limit v

-- the exception: the host marks one; or more waited before, by such marks or by going on after the error
abbrev pub marking : View → Call → Bool
marking v (SetInitialDcid cid token path) = false
marking v (SetScidLimit n) = false
marking v (AddScid cid token advertise path retire_if_needed) = false
marking v (RetireScid s packet) = false
marking v (AddDcid cid s token b) = false
marking v (MarkScidUsed s p) = false
marking v (MarkDcidUsed s p) = false
marking v (MarkScidToAdvertise s on) = false
marking v (MarkDcidToRetire s on) = on
marking v (Ask q) = false

abbrev pub crowded : {A : Type 0} → View → A → Bool
crowded v a = ltb (retire_limit v) (length v.dcids_to_retire)

abbrev pub unlimited : View → Call → Bool
unlimited v c = marking v c || crowded v c

-- SHOULD track at least twice the limit: up to that many in need of retirement, a frame is an error only for too many active IDs
abbrev pub TracksTwice : Rule NewConnectionId
TracksTwice v f o = in_need v f ≤ 2 * v.dcid_limit → (Closes connection_id_limit_error o → ⊥) → o.refusal ≡ 0

-- more in need of retirement than one's own limit MAY be an error of this code, CONNECTION_ID_LIMIT_ERROR: here it is an error, but where more waited before
abbrev pub TooManyToRetire : ℕ → Rule NewConnectionId
TooManyToRetire code v f o = otherwise v f ≡ false → retire_limit v < in_need v f → Closes code o

-- an ID MUST NOT be forgotten without being retired: by any call
abbrev pub NotForgotten : Rule Call
NotForgotten v c o = (s : ℕ) → has s (destinations v) ≡ true → (has s (destinations o.view) || has s o.view.dcids_to_retire) ≡ true

-- the exception: set_initial_dcid empties the table
abbrev pub initial : View → Call → Bool
initial v c = sets_initial c

-- SHOULD NOT raise Retire Prior To before the peer has retired what the last value named
abbrev pub RaisedOnce : Rule Issue
RaisedOnce v i o = any (below v.retire_prior_to) v.scids ≡ true → o.view.retire_prior_to ≡ v.retire_prior_to

-- ---- 9.5, paths, and 10.3.2, tokens

-- an ID MUST NOT be used from more than one local address or to more than one destination: one that is on a path is put on no other
abbrev pub OnePath : (View → List Item) → Rule Use
OnePath table v u o = o.refusal ≡ 0 → any (λ (x : Item). has_seq u.seq x && maybe x.path false (λ p. not (eqb p u.path))) (table v) ≡ false

-- the same token MUST NOT be used for two IDs: ours, and the peer's, where it MAY be a PROTOCOL_VIOLATION
abbrev pub shares : ConnectionId → Option (List ℕ) → Item → Bool
shares c t x = not (has_cid c x) && shared_token x.token t

abbrev pub TokenOnce : Rule Issue
TokenOnce v i o = o.refusal ≡ 0 → any (shares i.cid i.token) v.scids ≡ false

abbrev pub PeerTokenOnce : Rule NewConnectionId
PeerTokenOnce v f o = o.refusal ≡ 0 → any (shares f.cid (some f.token)) v.dcids ≡ false

-- ---- 19.15, NEW_CONNECTION_ID

-- an ID length below 1 or above 20 MUST be a FRAME_ENCODING_ERROR
abbrev pub LengthInRange : Rule NewConnectionId
LengthInRange v f o = (leb 1 f.cid.len && leb f.cid.len max_cid_len) ≡ false → Closes frame_encoding_error o

-- of the frame's bytes an ID is made: more than 20 MUST be a FRAME_ENCODING_ERROR
abbrev pub LongerIsError : Rule (List ℕ)
LongerIsError v s o = max_cid_len < length s → Closes frame_encoding_error o

-- and an ID that is issued has a length of 1 or more
abbrev pub IssuesLength : Rule Issue
IssuesLength v i o = o.refusal ≡ 0 → leb 1 i.cid.len ≡ true

-- a receiver that sends with a zero-length destination ID MUST treat it as PROTOCOL_VIOLATION
abbrev pub ZeroLengthDestination : Rule NewConnectionId
ZeroLengthDestination v f o = v.zero_length_dcid ≡ true → Closes protocol_violation o

-- the same frame again MUST NOT be an error: where the table holds what it gave
abbrev pub SameFrameAgain : Rule NewConnectionId
SameFrameAgain v f o = v.zero_length_dcid ≡ false → repeated v f ≡ true → o ≡ accepted (Retired []) v

-- and at any later time, whatever calls came since
abbrev pub SameFrameLater : Rule Again
SameFrameLater v r o = (apply r.before (same_again r)).refusal ≡ 0 → v ≡ run r.before (same_again r ∷ r.since) → o.refusal ≡ 0

-- the exception: set_initial_dcid emptied the table since (D14). Or, where the table does not hold it as it came: its ID or its sequence came otherwise since (`Conflict`); its
-- Retire Prior To is above its sequence (`AboveSequence`); or it was retired, waits no more, and as many wait as may (D44)
abbrev pub spoilt : View → NewConnectionId → Bool
spoilt v f = not (repeated v f) && (held v f || (ltb f.seq f.retire_prior_to || (not (has f.seq v.dcids_to_retire) && leb (retire_limit v) (length v.dcids_to_retire))))

abbrev pub unwelcome : View → Again → Bool
unwelcome v r = any sets_initial r.since || spoilt v r.frame

-- an ID with another token or sequence, or a sequence with another ID, MAY be a PROTOCOL_VIOLATION: here it is
abbrev pub Conflict : Rule NewConnectionId
Conflict v f o = held v f ≡ true → repeated v f ≡ false → Closes protocol_violation o × (o.view ≡ v)

-- sending: Retire Prior To MUST be at most the sequence, in the frame of the ID just issued
abbrev pub IssuedAboveOwn : Rule Issue
IssuedAboveOwn v i o = (n : ℕ) → o.answer ≡ Issued n → o.view.retire_prior_to ≤ n

-- and in any frame that is made
abbrev pub FrameAboveOwn : Rule ℕ
FrameAboveOwn v s o = (n r : ℕ) (c : ConnectionId) (t : List ℕ) → o.answer ≡ Frame n r c t → r ≤ n

-- receiving: Retire Prior To above the sequence MUST be an error of this code: FRAME_ENCODING_ERROR
abbrev pub AboveSequence : ℕ → Rule NewConnectionId
AboveSequence code v f o = f.seq < f.retire_prior_to → Closes code o

-- an error at all
abbrev pub AboveIsError : Rule NewConnectionId
AboveIsError v f o = f.seq < f.retire_prior_to → o.refusal ≡ 0 → ⊥

-- a receiver MUST ignore a Retire Prior To that does not increase the largest: all goes as if it were 0
abbrev pub Ignores : Rule NewConnectionId
Ignores v f o = f.retire_prior_to ≤ v.largest_peer_retire_prior_to → f.retire_prior_to ≤ f.seq
    → o ≡ apply v (new_id (record { cid = f.cid; seq = f.seq; token = f.token; retire_prior_to = 0 }))

-- a sequence below an earlier Retire Prior To MUST be retired, unless it already was
abbrev pub LateIsRetired : Rule NewConnectionId
LateIsRetired v f o = f.seq < v.largest_peer_retire_prior_to → o.refusal ≡ 0 → has f.seq o.view.dcids_to_retire ≡ true

-- and so it is not in use
abbrev pub LateIsNotKept : Rule NewConnectionId
LateIsNotKept v f o = f.seq < v.largest_peer_retire_prior_to → o.refusal ≡ 0 → any (has_seq f.seq) o.view.dcids ≡ false

-- it already was, where it waits: nothing changes, and unless the frame is otherwise an error it is none
abbrev pub WaitsAlready : Rule NewConnectionId
WaitsAlready v f o = f.seq < v.largest_peer_retire_prior_to → has f.seq v.dcids_to_retire ≡ true → (o.view ≡ v) × (otherwise v f ≡ false → o ≡ accepted (Retired []) v)

-- ---- 19.16, RETIRE_CONNECTION_ID

-- retiring an ID ends its token: the item is out
abbrev pub TokenEnds : Rule RetireConnectionId
TokenEnds v f o = o.refusal ≡ 0 → any (has_seq f.seq) o.view.scids ≡ false

-- and no frame is left to send for it (13.3)
abbrev pub NoFrameForRetired : Rule RetireConnectionId
NoFrameForRetired v f o = o.refusal ≡ 0 → has f.seq o.view.scids_to_advertise ≡ false

-- a sequence greater than any sent MUST be a PROTOCOL_VIOLATION; here: than any issued
abbrev pub NotIssued : Rule RetireConnectionId
NotIssued v f o = v.next_scid_seq ≤ f.seq → Closes protocol_violation o

-- and where it and all above it still wait to be sent
abbrev pub unsent : View → ℕ → Bool
unsent v s = has s v.scids_to_advertise && all (λ (x : Item). below s x || has x.seq v.scids_to_advertise) v.scids

abbrev pub NotSent : Rule RetireConnectionId
NotSent v f o = unsent v f.seq ≡ true → Closes protocol_violation o

-- the ID of the packet itself MAY be a PROTOCOL_VIOLATION: here it is
abbrev pub OwnPacket : Rule RetireConnectionId
OwnPacket v f o = (x : Item) → first (has_seq f.seq) v.scids ≡ some x → same_id x.cid f.packet ≡ true → Closes protocol_violation o

-- the exception: it is the only ID
abbrev pub only : View → RetireConnectionId → Bool
only v f = sole f.seq v.scids

-- the peer may retire any other ID that it was given
abbrev pub GivenIsRetired : Rule RetireConnectionId
GivenIsRetired v f o = (x : Item) → f.seq < v.next_scid_seq → first (has_seq f.seq) v.scids ≡ some x → same_id x.cid f.packet ≡ false → o.refusal ≡ 0

-- the exception: it is the only ID, or none is left that the peer is not asked to retire
abbrev pub none_left : View → RetireConnectionId → Bool
none_left v f = sole f.seq v.scids || not (present (lowest_from v.retire_prior_to (without f.seq v.scids)))

-- an endpoint that provides a zero-length ID MUST treat it as PROTOCOL_VIOLATION
abbrev pub ZeroLengthSource : Rule RetireConnectionId
ZeroLengthSource v f o = v.zero_length_scid ≡ true → Closes protocol_violation o

-- ---- what is met

pub record Conforms : Type 0 where
  -- 5.1.1; the sequence on each newly issued ID MUST increase by 1
  pub own_initial_is_zero : OwnInitialIsZero
  pub initial_is_zero : Met initial_id InitialIsZero
  pub increases_by_one : WithoutGap
  pub accepted_until_retired : MetUnless itself retiring AcceptedUntilRetired
  pub others_stay : Met retire_id OthersStay
  -- but for D12, D2 (and D5), D2 and D13
  pub within_peer_limit : MetUnless issue_id excess WithinPeerLimit
  pub within_limit : MetUnless new_id filled WithinLimit
  pub over_limit : MetUnless new_id unfilled OverLimit
  pub supplies : MetUnless issue_id no_room Supplies
  pub total_limited : Met issue_id TotalLimited
  pub issuance_limited : Met SetScidLimit IssuanceLimited
  pub zero_length_issues : Met issue_id ZeroLengthIssues
  -- 5.1.2; but for D5 and D14, and with the code and the marks of D7
  pub lower_are_retired : MetUnless new_id repeated LowerAreRetired
  pub queue_limited : MetUnless itself unlimited QueueLimited
  pub tracks_twice : MetUnless new_id otherwise TracksTwice
  pub too_many_to_retire : MetUnless new_id crowded (TooManyToRetire protocol_violation)
  pub not_forgotten : MetUnless itself initial NotForgotten
  -- 19.15
  pub zero_length_destination : Met new_id ZeroLengthDestination
  pub same_frame_again : Met new_id SameFrameAgain
  -- but for D14 and D44
  pub same_frame_later : MetUnless same_again unwelcome SameFrameLater
  pub conflict : Met new_id Conflict
  pub issued_above_own : Met issue_id IssuedAboveOwn
  -- with the code of D1, and but for D6 and D39
  pub above_sequence : MetUnless new_id repeated (AboveSequence protocol_violation)
  pub ignores : Met new_id Ignores
  pub late_is_retired : MetUnless new_id repeated LateIsRetired
  pub late_is_not_kept : MetUnless new_id repeated LateIsNotKept
  pub waits_already : Met new_id WaitsAlready
  -- without D39's set_initial_dcid
  pub late_is_retired_over : MetOver new_id LateIsRetired
  pub late_is_not_kept_over : MetOver new_id LateIsNotKept
  -- 19.16; but for D17 and D16
  pub token_ends : Met retire_id TokenEnds
  pub not_issued : Met retire_id NotIssued
  pub own_packet : MetUnless retire_id only OwnPacket
  pub given_is_retired : MetUnless retire_id none_left GivenIsRetired

-- ---- the differences, each at its smallest input, reached from fresh by calls; the words are those of docs/DIFFERENCES.md

abbrev pub cid : ℕ → ConnectionId
cid n = cid_new_of (n ∷ [])

-- the token of that ID: another ID has another
abbrev pub token : ℕ → List ℕ
token n = replicate token_len n

abbrev pub ids : ℕ → View
ids n = fresh n (cid 1) 0 none

abbrev pub dcid : ℕ → ℕ → ℕ → NewConnectionId
dcid c s b = record { cid = cid c; seq = s; token = token c; retire_prior_to = b }

abbrev pub initial_dcid : ℕ → Call
initial_dcid c = SetInitialDcid (cid c) (some (token c)) none

abbrev pub scid : ℕ → Bool → Issue
scid c retire_if_needed = record { cid = cid c; token = some (token c); advertise = false; path = none; retire_if_needed = retire_if_needed }

abbrev pub retired : ℕ → RetireConnectionId
retired s = record { seq = s; packet = cid 1 }

-- an ID of these bytes, with sequence 0
abbrev pub new_bytes : List ℕ → Call
new_bytes s = AddDcid (cid_new_of s) 0 (token 1) 0

-- after add_scid(02) with advertise
abbrev pub advertised : View
advertised = run (ids 1) (AddScid (cid 2) (some (token 2)) true none false ∷ [])

-- after add_scid(02), add_scid(03) with leave, add_scid(04) with leave: sequences 0, 1, 2, own Retire Prior To 2; and after retire_scid(2, 01) too
abbrev pub pushed : View
pushed = run (ids 1) (issue_id (scid 2 false) ∷ issue_id (scid 3 true) ∷ issue_id (scid 4 true) ∷ [])

abbrev pub stuck : View
stuck = run pushed (retire_id (retired 2) ∷ [])

-- five more IDs, each of which retires what was before it; RETIRE_CONNECTION_ID goes out for sequence 0 alone
abbrev pub rotated : List Call
rotated = new_id (dcid 3 1 1) ∷ MarkDcidToRetire 0 false ∷ new_id (dcid 4 2 2) ∷ new_id (dcid 5 3 3) ∷ new_id (dcid 6 4 4) ∷ new_id (dcid 7 5 5) ∷ []

pub record Differs : Type 0 where
  -- D1: PROTOCOL_VIOLATION for FRAME_ENCODING_ERROR
  pub encoding : DiffersAt new_id (AboveSequence frame_encoding_error) (ids 1) (dcid 2 0 1)
  -- D2: 2 x limit - 1
  pub over_limit : DiffersAt new_id WithinLimit (run (ids 2) (new_id (dcid 2 0 0) ∷ new_id (dcid 3 1 0) ∷ [])) (dcid 4 2 0)
  pub limit_no_error : DiffersAt new_id OverLimit (run (ids 2) (new_id (dcid 2 0 0) ∷ new_id (dcid 3 1 0) ∷ [])) (dcid 4 2 0)
  -- D4: INTERNAL_ERROR for PROTOCOL_VIOLATION
  pub zero_length_source : DiffersAt retire_id ZeroLengthSource (fresh 1 zero_id 0 none) (record { seq = 0; packet = zero_id })
  -- D5: a repeat's higher Retire Prior To is ignored
  pub repeat_raises : DiffersAt new_id LowerAreRetired (run (ids 2) (new_id (dcid 2 0 0) ∷ new_id (dcid 3 1 0) ∷ [])) (dcid 3 1 1)
  pub repeat_keeps_all : DiffersAt new_id WithinLimit (run (ids 2) (new_id (dcid 2 0 0) ∷ new_id (dcid 3 1 0) ∷ new_id (dcid 4 2 0) ∷ [])) (dcid 4 2 2)
  -- D6: a repeat with Retire Prior To above its sequence succeeds
  pub encoding_of_repeat : DiffersAt new_id AboveIsError (run (ids 1) (new_id (dcid 2 0 0) ∷ [])) (dcid 2 0 1)
  -- D7: PROTOCOL_VIOLATION for CONNECTION_ID_LIMIT_ERROR
  pub too_many_to_retire : DiffersAt new_id (TooManyToRetire connection_id_limit_error)
      (run (ids 1) (new_id (dcid 5 5 5) ∷ new_id (dcid 6 0 0) ∷ new_id (dcid 7 1 0) ∷ new_id (dcid 8 2 0) ∷ new_id (dcid 9 3 0) ∷ [])) (dcid 10 4 0)
  -- and marks are not held against the limit, nor a frame that comes after them and adds none
  pub many_marks : DiffersAt itself QueueLimited (run (ids 1) (replicate 4 (MarkDcidToRetire 0 true))) (MarkDcidToRetire 0 true)
  pub after_marks : DiffersAt new_id (TooManyToRetire protocol_violation) (run (ids 1) (replicate 5 (MarkDcidToRetire 0 true))) (dcid 2 0 0)
  -- D8: a frame made later may ask to retire its own ID: sequence 1, Retire Prior To 2
  pub frame_of_retired : DiffersAt make_frame FrameAboveOwn pushed 1
  -- D9: a sequence that was issued and not yet sent can be retired
  pub retires_unsent : DiffersAt retire_id NotSent advertised (retired 1)
  -- D10: the mark outlives the item
  pub frame_for_retired : DiffersAt retire_id NoFrameForRetired advertised (retired 1)
  -- D11: an empty ID is taken
  pub takes_empty : DiffersAt new_id LengthInRange (ids 1) (record { cid = zero_id; seq = 0; token = token 0; retire_prior_to = 0 })
  -- D12: after the limit fell, one step of Retire Prior To is not enough
  pub over_peer_limit : DiffersAt issue_id WithinPeerLimit (run (ids 1) (SetScidLimit 3 ∷ issue_id (scid 2 false) ∷ issue_id (scid 3 false) ∷ SetScidLimit 2 ∷ [])) (scid 4 true)
  -- D13: no ID can be issued, without leave and with leave
  pub cannot_supply : DiffersAt issue_id Supplies stuck (scid 5 false)
  pub cannot_supply_with_leave : DiffersAt issue_id Supplies stuck (scid 5 true)
  -- D14: what the table held is forgotten; its frame, received again, is a new one, and an error where the table is full
  pub forgets : DiffersAt itself NotForgotten (run (ids 1) (new_id (dcid 2 1 0) ∷ [])) (initial_dcid 3)
  pub forgotten_frame : DiffersAt same_again SameFrameLater (run (ids 1) (new_id (dcid 2 1 0) ∷ initial_dcid 3 ∷ [])) (record { before = ids 1; frame = dcid 2 1 0; since = initial_dcid 3 ∷ [] })
  -- D15: longer input is cut to 20 bytes
  pub cuts_longer : DiffersAt new_bytes LongerIsError (ids 1) (replicate 21 1)
  -- D16: INTERNAL_ERROR, where none is left at or above the own Retire Prior To
  pub retire_refused : DiffersAt retire_id GivenIsRetired pushed (retired 2)
  -- D17: INTERNAL_ERROR for PROTOCOL_VIOLATION
  pub only_own_packet : DiffersAt retire_id OwnPacket (ids 1) (retired 0)
  -- D19: Retire Prior To is raised again while sequence 0 is not retired
  pub raises_again : DiffersAt issue_id RaisedOnce (run (ids 1) (issue_id (scid 2 false) ∷ issue_id (scid 3 true) ∷ [])) (scid 4 true)
  -- D20: a sequence marked to retire is still offered
  pub offers_retired : DiffersAt Ask NotOffered (run (ids 1) (initial_dcid 2 ∷ MarkDcidToRetire 0 true ∷ [])) LowestUnusedDcidSeq
  -- D21 (5.1): an ID can be issued twice
  pub issued_twice : DiffersAt issue_id IssuedOnce (ids 1) (scid 1 false)
  -- D22: an empty ID can be issued
  pub issues_empty : DiffersAt issue_id IssuesLength (ids 1) (record { cid = zero_id; token = some (token 0); advertise = false; path = none; retire_if_needed = false })
  -- D23 (18.2): a limit below 2 is raised to 2
  pub low_limit : DiffersAt SetScidLimit LimitBelowTwo (ids 1) 0
  -- D37 (10.3.2): the token of another ID is taken, for ours and for the peer's
  pub shares_token : DiffersAt issue_id TokenOnce (fresh 1 (cid 1) 0 (some (token 1))) (record { cid = cid 2; token = some (token 1); advertise = false; path = none; retire_if_needed = false })
  pub peer_shares_token : DiffersAt new_id PeerTokenOnce (run (ids 2) (new_id (dcid 2 0 0) ∷ [])) (record { cid = cid 3; seq = 1; token = token 2; retire_prior_to = 0 })
  -- D38 (9.5): an ID on a path is put on another, the peer's and ours
  pub moves_path : DiffersAt use_destination (OnePath (λ v. v.dcids)) (run (ids 1) (SetInitialDcid (cid 2) (some (token 2)) (some 0) ∷ [])) (record { seq = 0; path = 1 })
  pub moves_own_path : DiffersAt use_source (OnePath (λ v. v.scids)) (ids 1) (record { seq = 0; path = 1 })
  -- D39: the peer's first ID, set after a Retire Prior To, lies below it, and its frame is a repeat
  pub late_repeat : DiffersAt new_id LateIsRetired (run (ids 1) (new_id (dcid 5 5 5) ∷ initial_dcid 2 ∷ [])) (dcid 2 0 0)
  pub late_kept : DiffersAt new_id LateIsNotKept (run (ids 1) (new_id (dcid 5 5 5) ∷ initial_dcid 2 ∷ [])) (dcid 2 0 0)
  -- D44: a frame whose sequence was retired, and waits no more, is queued once more, and is PROTOCOL_VIOLATION where as many wait as may
  pub retired_frame : DiffersAt same_again SameFrameLater (run (ids 1) (new_id (dcid 2 0 0) ∷ rotated)) (record { before = ids 1; frame = dcid 2 0 0; since = rotated })
