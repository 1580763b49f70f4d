-- RFC 9000, sections 8, 8.1, 8.2.1 to 8.2.4, 9.3 and 9.4, as rules on the table before a frame or event, the event, and what comes of it; which the
-- calls meet, which they meet but for a listed case, and where they differ. The ids D25 to D36 and D40 to D43 are rows of docs/DIFFERENCES.md. The proofs
-- are in proofs/RfcProof.antt.
use Rattle.std.specs.Prelude.{ℕ, ◌+◌, ◌*◌, ◌≤◌, ◌<◌, ◌≡◌, List, [], ◌∷◌, ◌++◌, map, Bool, true, false, not, ◌&&◌, ◌||◌, length, eqb, leb, ltb}
use Rattle.std.proofs.Math.Option.{none, some}
use Rattle.lists.specs.Defs.{any, all, empty, front, without}
use Rattle.values.specs.declared.address.FourTuple.{FourTuple}
use Rattle.values.specs.Limits.{max_shift, max_moment, max_path_chals_recv, max_path_chals_sent, max_probing_timeouts, min_client_initial_len, min_path_probe_size}
use Rattle.paths_rules.specs.State.{Path, Challenge}
use Rattle.paths_rules.specs.Path.{rank_failed, challenge, loss_time, carries, matches, probing, validated, validates, due}
use Rattle.paths_rules.specs.Table.{Table, Out, Inserted, Number, Flag, Maybe, path_at, known, fresh}
use Rattle.paths_rules.specs.Well.{well}
use Rattle.paths_rules.specs.Calls.{Call, On, Insert, Timeout, Ping, Multipath, Ask, Timer, Look, NeedsFrames, NeedsPadding, Allowed, Pop, Receive, Send, Respond, Credit, SetActive, Verify}
use Rattle.paths_rules.specs.Calls.{call_formed, apply, after, run}
use Rattle.paths_rules.specs.Promise.{Starts, Begins, Lasts, Within, total_credit, total_charge, OnlyVerified}
use Rattle.paths_rules.specs.Words.{pair_a, pair_b, pair_c}

-- ---- events, and how the calls take them

-- a PATH_RESPONSE frame, on the path that the host names
pub record Response : Type 0 where
  pub path : ℕ
  pub «data» : ℕ
  pub now : ℕ

-- a PATH_CHALLENGE frame received, and one sent in a datagram of a size
pub record Received : Type 0 where
  pub path : ℕ
  pub «data» : ℕ

pub record Sent : Type 0 where
  pub path : ℕ
  pub «data» : ℕ
  pub size : ℕ
  pub now : ℕ

-- a datagram received, or about to be sent, of a length
pub record Datagram : Type 0 where
  pub path : ℕ
  pub length : ℕ

-- the timer of a path, looked at at a moment
pub record Fired : Type 0 where
  pub path : ℕ
  pub now : ℕ

-- a path that is inserted
pub record Begun : Type 0 where
  pub pair : FourTuple
  pub datagram : ℕ

abbrev pub response : Response → Call
response f = On f.path (Respond f.«data» f.now)

abbrev pub received : Received → Call
received f = On f.path (Receive f.«data»)

abbrev pub sent : Sent → Call
sent f = On f.path (Send f.«data» f.size f.now)

abbrev pub arrived : Datagram → Call
arrived f = On f.path (Credit f.length)

abbrev pub wished : Datagram → Call
wished f = On f.path (Look (Allowed f.length))

abbrev pub begun : Begun → Call
begun f = Insert f.pair f.datagram

-- a PATH_RESPONSE is to be made; are validation frames to be sent; is a datagram to be expanded
abbrev pub answered : ℕ → Call
answered p = On p Pop

abbrev pub frames : ℕ → Call
frames p = On p (Look NeedsFrames)

abbrev pub padding : ℕ → Call
padding p = On p (Look NeedsPadding)

abbrev pub timed : ℕ → Call
timed now = Timeout now

abbrev pub timer : ℕ → Call
timer p = Ask Timer

abbrev pub fired : Fired → Call
fired f = Timeout f.now

abbrev pub itself : Call → Call
itself c = c

-- ---- rules: the table before, what came, what comes of it

abbrev pub Rule : Type 0 → Type 1
Rule A = Table → A → Out → Type 0

-- the calls meet the rule; they meet it but where the exception holds; they differ at t and f
abbrev pub Met : {A : Type 0} → (A → Call) → Rule A → Type 0
Met {A} call R = (t : Table) (f : A) → well t ≡ true → call_formed (call f) ≡ true → R t f (apply t (call f))

abbrev pub MetUnless : {A : Type 0} → (A → Call) → (Table → A → Bool) → Rule A → Type 0
MetUnless {A} call E R = (t : Table) (f : A) → well t ≡ true → call_formed (call f) ≡ true → E t f ≡ false → R t f (apply t (call f))

abbrev pub DiffersAt : {A : Type 0} → (A → Call) → Rule A → Table → A → Type 0
DiffersAt call R t f = R t f (apply t (call f)) → ⊥

-- ---- 8 and 8.1: three times what was received

-- prior to validating the client address, servers MUST NOT send more than three times as many bytes as they have received: over any run of a server
-- with factor 3 whose host charges what it sends, and no more than the credit
abbrev pub ThreeTimes : Type 0
ThreeTimes = (p : ℕ) (t : Table) → Begins 3 p t → (cs : List Call) → Lasts p t cs → Within p t cs → total_charge p cs ≤ 3 * total_credit p cs

-- a datagram received raises the limit by at most three times its length
abbrev pub Three : Rule Datagram
Three t f o = (path_at f.path o.table).credit ≤ (path_at f.path t).credit + 3 * f.length

-- the exception: the host gave a larger factor (D36)
abbrev pub large_factor : Table → Datagram → Bool
large_factor t f = ltb 3 t.factor

-- an endpoint MUST limit what it sends to an unvalidated address: what it is allowed is at most the credit
abbrev pub Limits : Rule Datagram
Limits t f o = known f.path t ≡ true → (path_at f.path t).verified ≡ false → (n : ℕ) → o.answer ≡ Number n → n ≤ (path_at f.path t).credit

-- the exception: a client (D35)
abbrev pub on_client : Table → Datagram → Bool
on_client t f = not t.server

-- the limit of the path p permits a datagram of n bytes: the address is validated, or n is at most the credit. A client has no limit (D35)
abbrev pub permits : Table → ℕ → ℕ → Bool
permits t p n = not t.server || (path_at p t).verified || leb n (path_at p t).credit

-- ---- 8.2.1, initiating path validation

-- the smallest allowed maximum datagram size
abbrev pub smallest_size : ℕ
smallest_size = 1200

-- an endpoint MAY send multiple PATH_CHALLENGE frames to guard against packet loss: here, until sixteen stand
abbrev pub Several : Rule Sent
Several t f o = known f.path t ≡ true → length (path_at f.path t).sent < max_path_chals_sent
    → (o.refusal ≡ 0) × ((path_at f.path o.table).sent ≡ (path_at f.path t).sent ++ (challenge f.«data» f.size f.now (path_at f.path t).lost ∷ []))

-- the exception: 8
abbrev pub far : Table → Sent → Bool
far t f = ltb max_shift (path_at f.path t).lost || ltb max_moment (loss_time f.now (path_at f.path t).lost)

-- an endpoint MUST expand datagrams that contain a PATH_CHALLENGE frame (8.2.2: a PATH_RESPONSE frame) to at least 1200 bytes, unless the
-- anti-amplification limit for the path does not permit sending a datagram of this size
abbrev pub Expands : Rule ℕ
Expands t p o = known p t ≡ true → permits t p smallest_size ≡ true → o.answer ≡ Flag true

-- the exceptions: a Validated path (D33)
abbrev pub on_validated : Table → ℕ → Bool
on_validated t p = validated (path_at p t)

-- a server, with a verified address and a credit of at most max_datagram_size (D31)
abbrev pub verified_low : Table → ℕ → Bool
verified_low t p = t.server && (path_at p t).verified && leb (path_at p t).credit (path_at p t).datagram

-- a server, with an address not verified and a credit from 1200 up to max_datagram_size (D32)
abbrev pub up_to_size : Table → ℕ → Bool
up_to_size t p = t.server && not (path_at p t).verified && leb smallest_size (path_at p t).credit && leb (path_at p t).credit (path_at p t).datagram

abbrev pub not_told : Table → ℕ → Bool
not_told t p = on_validated t p || verified_low t p || up_to_size t p

-- 8.2.2: an endpoint MUST NOT expand the datagram if the resulting data exceeds the anti-amplification limit: it is told to only where the limit permits
-- a datagram of 1200 bytes
abbrev pub ExpandsWithin : Rule ℕ
ExpandsWithin t p o = o.answer ≡ Flag true → permits t p smallest_size ≡ true

-- the exception: max_datagram_size is below 1200 (D40)
abbrev pub small_size : Table → ℕ → Bool
small_size t p = ltb (path_at p t).datagram smallest_size

-- the probe timeout (PTO) of a new path: with kInitialRtt of 333 ms it is 999 ms or more
abbrev pub initial_pto : ℕ
initial_pto = 999000

-- an endpoint SHOULD NOT probe a new path more frequently than it would send an Initial packet: a timeout asks for no other challenge before a PTO has
-- passed since one that stands was sent
abbrev pub NoMoreOften : Rule Fired
NoMoreOften t f o = (path_at f.path t).ask ≡ false → all (λ (c : Challenge). ltb f.now (c.sent + initial_pto)) (path_at f.path t).sent ≡ true
    → (path_at f.path o.table).ask ≡ false

-- where the path MTU is not validated, the endpoint MUST perform a second path validation (8.2.3: MUST initiate another): one is asked for
abbrev pub ProbesAgain : Rule Response
ProbesAgain t f o = known f.path t ≡ true → validated (path_at f.path t) ≡ false
    → matches f.«data» (path_at f.path t) ≡ true → (path_at f.path o.table).largest < min_client_initial_len → (path_at f.path o.table).ask ≡ true

-- a challenge with the data d stands on the path p that was sent in a datagram of at least 1200 bytes
abbrev pub expanded : Table → ℕ → ℕ → Bool
expanded t p d = any (λ (c : Challenge). carries d c && leb smallest_size c.size) (path_at p t).sent

-- where the datagram is not expanded, the path MTU will not be validated: a path becomes Validated only by a response with the data of a challenge
-- that was sent on it in a datagram of at least 1200 bytes. (Only by a response: `OnlyByResponse`)
abbrev pub OnlyExpanded : Rule Response
OnlyExpanded t f o = validated (path_at f.path t) ≡ false → validated (path_at f.path o.table) ≡ true → expanded t f.path f.«data» ≡ true

-- the exception: the path remembers such a challenge, of an earlier response
abbrev pub remembers : Table → Response → Bool
remembers t f = leb smallest_size (path_at f.path t).largest

-- it is no difference: after any calls from a fresh table, no path that is not Validated remembers one
abbrev pub NoneRemembered : Type 0
NoneRemembered = (server : Bool) (factor : ℕ) (t : Table) → Starts server factor t
    → (cs : List Call) (f : Response) → validated (path_at f.path (run t cs)) ≡ false → remembers (run t cs) f ≡ false

-- ---- 8.2.2, path validation responses

-- on receiving a PATH_CHALLENGE frame, an endpoint MUST respond by echoing the data: it is kept, and so are those before it
abbrev pub Keeps : Rule Received
Keeps t f o = known f.path t ≡ true → (path_at f.path o.table).received ≡ (path_at f.path t).received ++ (f.«data» ∷ [])

-- the exception: eight stand (D26)
abbrev pub eight_stand : Table → Received → Bool
eight_stand t f = leb max_path_chals_recv (length (path_at f.path t).received)

-- an insertion takes none of them away
abbrev pub Unforgotten : Rule Begun
Unforgotten t f o = (p : ℕ) → p < length t.paths → (path_at p o.table).received ≡ (path_at p t).received

-- the exception: a path is evicted (D34)
abbrev pub at_limit : Table → Begun → Bool
at_limit t f = leb t.limit (length t.paths)

-- what is echoed is the oldest received; it is taken out, so that an endpoint does not send more than one PATH_RESPONSE for it (MUST NOT)
abbrev pub Echoes : Rule ℕ
Echoes t p o = (d : ℕ) → o.answer ≡ Maybe (some d) → (path_at p t).received ≡ d ∷ (path_at p o.table).received

-- a PATH_RESPONSE frame MUST be sent on the path where the PATH_CHALLENGE frame was received: on no other path is it kept
abbrev pub OwnPath : Rule Received
OwnPath t f o = (p : ℕ) → (f.path ≡ p → ⊥) → path_at p o.table ≡ path_at p t

-- an endpoint MUST NOT delay a PATH_RESPONSE: it is told to send validation frames
abbrev pub Prompt : Rule ℕ
Prompt t p o = known p t ≡ true → empty (path_at p t).received ≡ false → o.answer ≡ Flag true

-- the exception: a server with credit below 64, verified or not (D30)
abbrev pub poor : Table → ℕ → Bool
poor t p = t.server && ltb (path_at p t).credit min_path_probe_size

-- ---- 8.2.3, successful path validation

-- path validation succeeds when a PATH_RESPONSE contains the data of a PATH_CHALLENGE that stands on the path
abbrev pub Succeeds : Rule Response
Succeeds t f o = known f.path t ≡ true → matches f.«data» (path_at f.path t) ≡ true → (path_at f.path o.table).verified ≡ true

-- the exception: a Validated path (D29)
abbrev pub already : Table → Response → Bool
already t f = validated (path_at f.path t)

-- and only then [2]: no path is validated on which none with the data stands
abbrev pub OnlyWithData : Rule Response
OnlyWithData t f o = (p : ℕ) → matches f.«data» (path_at p t) ≡ false → (path_at p o.table).verified ≡ (path_at p t).verified

-- received on any path, it validates the path on which the PATH_CHALLENGE was sent
abbrev pub OnAnyPath : Rule Response
OnAnyPath t f o = (p : ℕ) → matches f.«data» (path_at p t) ≡ true → (path_at p o.table).verified ≡ true

-- the exceptions: one with the data stands on another path than the one that the host names (D25), or that one is Validated (D29)
abbrev pub elsewhere : Table → Response → Bool
elsewhere t f = any (matches f.«data») (without f.path t.paths)

abbrev pub elsewhere_or_already : Table → Response → Bool
elsewhere_or_already t f = elsewhere t f || already t f

-- the attempt ends: what was matched no longer stands
abbrev pub AttemptEnds : Rule Response
AttemptEnds t f o = known f.path t ≡ true → matches f.«data» (path_at f.path o.table) ≡ false

-- the data that was sent in a previous PATH_CHALLENGE, whatever happened since: s was sent on the path
abbrev pub WithPrevious : Sent → Rule Response
WithPrevious s t f o = f.path ≡ s.path → f.«data» ≡ s.«data» → (path_at f.path o.table).verified ≡ true

-- through the calls the path stays: none is an insertion that answers p
abbrev pub Remains : ℕ → Table → List Call → Type 0
Remains p t [] = Unit {0}
Remains p t (c ∷ cs) = ((a : FourTuple) (m : ℕ) → c ≡ Insert a m → (apply t c).answer ≡ Inserted p → ⊥) × Remains p (after t c) cs

-- a timeout took the challenges with the data d from the path p (D28)
abbrev pub is_timeout : Call → Bool
is_timeout (On p a) = false
is_timeout (Insert a m) = false
is_timeout (Timeout now) = true
is_timeout (Ping o) = false
is_timeout Multipath = false
is_timeout (Ask s) = false

abbrev pub timed_out : ℕ → ℕ → Table → List Call → Bool
timed_out p d t [] = false
timed_out p d t (c ∷ cs) = (is_timeout c && matches d (path_at p t) && not (matches d (path_at p (after t c)))) || timed_out p d (after t c) cs

-- over any calls between the challenge s and the response f to it, the rule is met but where a timeout took the challenge (D28), the host names another
-- path (D25, in the rule), or the path is Validated (D29)
abbrev pub Previous : Type 0
Previous = (t : Table) (s : Sent) → well t ≡ true → (apply t (sent s)).refusal ≡ 0 → (cs : List Call) → Remains s.path (after t (sent s)) cs
    → (f : Response) → call_formed (response f) ≡ true
    → (timed_out s.path s.«data» (after t (sent s)) cs || already (run (after t (sent s)) cs) f) ≡ false
    → WithPrevious s (run (after t (sent s)) cs) f (apply (run (after t (sent s)) cs) (response f))

-- one of the calls sent a PATH_CHALLENGE with the data d on the path p and was not refused, and p stayed
pub data Asked (p d : ℕ) : Table → List Call → Type 0 where
  asked : (t : Table) (size now : ℕ) (cs : List Call) → (apply t (On p (Send d size now))).refusal ≡ 0
      → Remains p (after t (On p (Send d size now))) cs → Asked p d t (On p (Send d size now) ∷ cs)
  later : (t : Table) (c : Call) (cs : List Call) → Asked p d (after t c) cs → Asked p d t (c ∷ cs)

-- and only by one that was sent [2]: after any calls from a fresh table, a response makes an address verified only where one of them sent its data, on that path
abbrev pub OnlyPrevious : Type 0
OnlyPrevious = (server : Bool) (factor : ℕ) (t : Table) → Starts server factor t → (cs : List Call) (f : Response) (p : ℕ)
    → (path_at p (run t cs)).verified ≡ false → (path_at p (after (run t cs) (response f))).verified ≡ true → (f.path ≡ p) × Asked p f.«data» t cs

-- where the challenge was sent in a datagram that is not expanded to at least 1200 bytes and the response to it validates the peer address, the path is
-- validated but not the path MTU; as a result, the endpoint can send more than three times the data that it received
abbrev pub AddressNotMtu : Rule Response
AddressNotMtu t f o = known f.path t ≡ true → matches f.«data» (path_at f.path t) ≡ true → expanded t f.path f.«data» ≡ false
    → ((path_at f.path o.table).verified ≡ true) × (validated (path_at f.path o.table) ≡ false) × ((n : ℕ) → permits o.table f.path n ≡ true)

-- the exceptions: a Validated path (D29); the path remembers an expanded one, to which no calls lead (NoneRemembered)
abbrev pub already_or_remembers : Table → Response → Bool
already_or_remembers t f = already t f || remembers t f

-- an acknowledgment is not adequate (8.2.4: a PATH_RESPONSE frame is required): no call but a response makes a path Validated
abbrev pub OnlyByResponse : Rule Call
OnlyByResponse t c o = (p : ℕ) → ((d now : ℕ) → c ≡ On p (Respond d now) → ⊥) → validated (path_at p t) ≡ false → validated (path_at p o.table) ≡ false

-- ---- 8.2.4, failed path validation

abbrev pub has_failed : Path → Bool
has_failed x = eqb x.rank rank_failed

-- path validation only fails when the endpoint abandons it: by no call but a timeout
abbrev pub OnlyTimeoutFails : Rule Call
OnlyTimeoutFails t c o = (p : ℕ) → ((now : ℕ) → c ≡ Timeout now → ⊥) → has_failed (path_at p t) ≡ false → has_failed (path_at p o.table) ≡ false

-- the next challenge begins an attempt: none stands, and the path is not being validated, or no loss was counted since the last response that matched
abbrev pub begins : Table → ℕ → Bool
begins t p = empty (path_at p t).sent && (not (probing (path_at p t)) || eqb (path_at p t).lost 0)

-- loss of a single PATH_CHALLENGE or PATH_RESPONSE frame does not cause path validation failure: an attempt that begins with this challenge has not
-- failed, however late it is
abbrev pub SingleLoss : Rule Sent
SingleLoss t f o = begins t f.path ≡ true → o.refusal ≡ 0 → (now : ℕ) → has_failed (path_at f.path (after o.table (timed now))) ≡ false

-- the exception: seven losses or more of an earlier attempt are counted still (D41)
abbrev pub losses_survive : Table → Sent → Bool
losses_survive t f = leb max_probing_timeouts ((path_at f.path t).lost + 1)

-- endpoints SHOULD abandon path validation based on a timer: while a challenge stands, the timer is set, and runs out at the deadline of the oldest or
-- earlier
abbrev pub TimerSet : Rule ℕ
TimerSet t p o = (c : Challenge) → front (path_at p t).sent ≡ some c → (o.answer ≡ Maybe none → ⊥) × ((m : ℕ) → o.answer ≡ Maybe (some m) → m ≤ c.deadline)

-- when that deadline has come, the oldest is given up, and the attempt is abandoned or asks for another challenge; what stands after it has a later deadline
abbrev pub ByTimer : Rule Fired
ByTimer t f o = (c : Challenge) → front (path_at f.path t).sent ≡ some c → c.deadline ≤ f.now
    → ((has_failed (path_at f.path o.table) || (path_at f.path o.table).ask) ≡ true) × ((m : ℕ) → due (path_at f.path o.table) ≡ some m → f.now < m)

-- the exception: challenges stand on a path that is not being validated (D29)
abbrev pub stuck : Table → Fired → Bool
stuck t f = not (probing (path_at f.path t))

-- the attempt is abandoned at the eighth loss in a row, and the endpoint determines that the path is unusable
abbrev pub Abandons : Rule Fired
Abandons t f o = (c : Challenge) → probing (path_at f.path t) ≡ true → front (path_at f.path t).sent ≡ some c → c.deadline ≤ f.now
    → max_probing_timeouts ≤ (path_at f.path t).lost + 1
    → (has_failed (path_at f.path o.table) ≡ true) × ((path_at f.path o.table).active ≡ false) × ((path_at f.path o.table).sent ≡ [])

-- and so no other challenge is asked for on it
abbrev pub AsksNoMore : Rule Fired
AsksNoMore t f o = has_failed (path_at f.path t) ≡ false → has_failed (path_at f.path o.table) ≡ true → (path_at f.path o.table).ask ≡ false

-- the exceptions: one was asked for already, or several stand and their losses ask for one (D42)
abbrev pub asks_still : Table → Fired → Bool
asks_still t f = (path_at f.path t).ask || leb 2 (length (path_at f.path t).sent)

-- three times the PTO for the new path is RECOMMENDED: an attempt does not fail earlier
abbrev pub NotBefore : Rule Fired
NotBefore t f o = all (λ (c : Challenge). ltb f.now (c.sent + 3 * initial_pto)) (path_at f.path t).sent ≡ true
    → has_failed (path_at f.path t) ≡ false → has_failed (path_at f.path o.table) ≡ false

-- ---- 9.3 and 9.4, migration

-- 9.3: an endpoint that permits a migration MUST send subsequent packets to the new peer address: a response leaves the path active on which they go
abbrev pub StaysActive : Rule Response
StaysActive t f o = (p : ℕ) → (path_at p t).active ≡ true → (path_at p o.table).active ≡ true

-- the exception: it makes the path Validated, without multipath (D43)
abbrev pub validates_single : Table → Response → Bool
validates_single t f = not t.multipath && validates f.«data» (path_at f.path t)

-- 9.4: a timer that is set when a PATH_CHALLENGE is sent MUST NOT be more aggressive than the PTO
abbrev pub NoMoreAggressive : Rule Sent
NoMoreAggressive t f o = all (λ (c : Challenge). leb (c.sent + initial_pto) c.deadline) (path_at f.path o.table).sent ≡ true

-- ---- the whole

pub record Conforms : Type 0 where
  -- 8, 8.1
  pub three_times : ThreeTimes
  pub three : MetUnless arrived large_factor Three
  pub limits : MetUnless wished on_client Limits
  -- 8.2.1
  pub several : MetUnless sent far Several
  pub expands : MetUnless padding not_told Expands
  pub expands_within : MetUnless padding small_size ExpandsWithin
  pub probes_again : Met response ProbesAgain
  pub only_expanded : MetUnless response remembers OnlyExpanded
  pub none_remembered : NoneRemembered
  -- 8.2.2
  pub keeps : MetUnless received eight_stand Keeps
  pub unforgotten : MetUnless begun at_limit Unforgotten
  pub echoes : Met answered Echoes
  pub own_path : Met received OwnPath
  pub prompt : MetUnless frames poor Prompt
  -- 8.2.3
  pub succeeds : MetUnless response already Succeeds
  pub only_with_data : Met response OnlyWithData
  pub on_any_path : MetUnless response elsewhere_or_already OnAnyPath
  pub previous : Previous
  pub only_previous : OnlyPrevious
  pub attempt_ends : MetUnless response already AttemptEnds
  pub address_not_mtu : MetUnless response already_or_remembers AddressNotMtu
  pub only_verified : OnlyVerified
  pub only_by_response : Met itself OnlyByResponse
  -- 8.2.4
  pub only_timeout_fails : Met itself OnlyTimeoutFails
  pub single_loss : MetUnless sent losses_survive SingleLoss
  pub timer_set : Met timer TimerSet
  pub by_timer : MetUnless fired stuck ByTimer
  pub abandons : Met fired Abandons
  pub asks_no_more : MetUnless fired asks_still AsksNoMore
  -- 9.3
  pub stays_active : MetUnless response validates_single StaysActive

-- ---- the differences, each at its smallest input, reached from fresh by calls

-- a server with pair A and this path limit, and the same with path 1 inserted
abbrev pub start : ℕ → Table
start n = fresh pair_a 1200 n 3 true

abbrev pub probe : List Call → Table
probe cs = run (start 2) (Insert pair_b 1200 ∷ cs)

abbrev pub eight : List Call
eight = map (λ (d : ℕ). On 1 (Send d 1200 0)) (1 ∷ 2 ∷ 3 ∷ 4 ∷ 5 ∷ 6 ∷ 7 ∷ 8 ∷ [])

abbrev pub early : Sent
early = record { path = 1; «data» = 7; size = 1200; now = 0 }

-- path 1 has failed, after 25 ms
abbrev pub abandoned : Table
abandoned = run (probe eight) (Timeout 25000 ∷ [])

pub record Differs : Type 0 where
  -- D25: a response on path 0 does not validate path 1
  pub other_path : DiffersAt response OnAnyPath (probe (On 1 (Send 7 1200 0) ∷ [])) (record { path = 0; «data» = 7; now = 0 })
  -- D26: a ninth received challenge drops the oldest
  pub ninth : DiffersAt received Keeps (run (start 1) (map (λ (d : ℕ). On 0 (Receive d)) (1 ∷ 2 ∷ 3 ∷ 4 ∷ 5 ∷ 6 ∷ 7 ∷ 8 ∷ []))) (record { path = 0; «data» = 9 })
  -- D27: eight challenges of one moment fail the path after 25 ms
  pub soon : DiffersAt fired NotBefore (probe eight) (record { path = 1; now = 25000 })
  -- and another is asked for after 25 ms; and 25 ms is less than the PTO
  pub often : DiffersAt fired NoMoreOften (probe (sent early ∷ [])) (record { path = 1; now = 25000 })
  pub aggressive : DiffersAt sent NoMoreAggressive (probe []) early
  -- D28: the response to a challenge that was timed out is no match
  pub too_late : DiffersAt response (WithPrevious early) (probe (sent early ∷ Timeout 25000 ∷ [])) (record { path = 1; «data» = 7; now = 30000 })
  -- D29: on a Validated path neither a response nor a timeout touches what stands
  pub stays_matched : DiffersAt response AttemptEnds (run (start 1) (On 0 (Send 7 1200 0) ∷ [])) (record { path = 0; «data» = 7; now = 1000 })
  pub stays_unverified : DiffersAt response Succeeds (run (start 1) (On 0 (Send 7 1200 0) ∷ [])) (record { path = 0; «data» = 7; now = 1000 })
  pub stays_limited : DiffersAt response AddressNotMtu (run (start 1) (On 0 (Send 7 1199 0) ∷ [])) (record { path = 0; «data» = 7; now = 1000 })
  pub stays_due : DiffersAt fired ByTimer (run (start 1) (On 0 (Send 7 1200 0) ∷ [])) (record { path = 0; now = 25000 })
  -- D30: a verified address with credit below 64
  pub delayed : DiffersAt frames Prompt (run (start 1) (On 0 Verify ∷ On 0 (Receive 7) ∷ [])) 0
  -- D31: verified, by the mark, and by the response to a challenge of 120 bytes, which the limit permitted
  pub unexpanded : DiffersAt padding Expands (probe (On 1 Verify ∷ [])) 1
  pub unexpanded_second : DiffersAt padding Expands (probe (On 1 (Credit 40) ∷ On 1 (Send 7 120 0) ∷ On 1 (Respond 7 10) ∷ [])) 1
  -- D32: credit is the datagram size; D33: a Validated path, with credit above it
  pub unexpanded_at_size : DiffersAt padding Expands (probe (On 1 (Credit 400) ∷ [])) 1
  pub unexpanded_validated : DiffersAt padding Expands (run (start 1) (On 0 (Credit 401) ∷ [])) 0
  -- D34: an evicted path's received challenges are gone
  pub evicted : DiffersAt begun Unforgotten (probe (On 1 (Receive 7) ∷ [])) (record { pair = pair_c; datagram = 1200 })
  -- D35: a client; D36: factor 4
  pub unlimited : DiffersAt wished Limits (fresh pair_a 1200 1 3 false) (record { path = 0; length = 5 })
  pub four_times : DiffersAt arrived Three (fresh pair_a 1200 1 4 true) (record { path = 0; length = 1 })
  -- D40: max_datagram_size 0, with credit 3
  pub expanded_past : DiffersAt padding ExpandsWithin (run (start 2) (Insert pair_b 0 ∷ On 1 (Credit 1) ∷ [])) 1
  -- D41: a second attempt fails by one loss; D42: a challenge is asked for on the path that was abandoned
  pub fails_at_one : DiffersAt sent SingleLoss abandoned (record { path = 1; «data» = 9; size = 1200; now = 25000 })
  pub asks_abandoned : DiffersAt fired AsksNoMore (probe eight) (record { path = 1; now = 25000 })
  -- D43: the path migrated to is validated, and is active no more
  pub inactive : DiffersAt response StaysActive (probe (On 0 (SetActive false) ∷ On 1 (SetActive true) ∷ sent early ∷ [])) (record { path = 1; «data» = 7; now = 0 })
