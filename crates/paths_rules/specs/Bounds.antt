-- Both sides of each check of each call, and the order of neighbouring checks: rows of table, call and whole outcome, and a theorem for each group. The
-- tables are well formed; not all are reached by calls.
use Rattle.std.specs.Prelude.{ℕ, ◌+◌, ◌-◌, ◌*◌, ◌^◌, ◌≡◌, refl, List, [], ◌∷◌, ◌++◌, map, Bool, true, false, replicate}
use Rattle.std.proofs.Math.Option.{Option, none, some}
use Rattle.values.specs.declared.address.Address.{Address}
use Rattle.values.specs.declared.address.FourTuple.{FourTuple}
use Rattle.paths_rules.specs.State.{Path, Challenge}
use Rattle.paths_rules.specs.With.{with_scid_of, with_dcid_of, with_active_of, with_rank, with_received, with_sent, with_ask, with_lost, with_largest}
use Rattle.paths_rules.specs.With.{with_verified, with_peer_verified, with_credit, with_ping, with_listed}
use Rattle.paths_rules.specs.Table.{Table, Out, Answer, Nothing, Inserted, Responded, Number, Flag, Maybe, Place, Whole, Found, refused, accepted, fresh_call}
use Rattle.paths_rules.specs.Well.{well}
use Rattle.paths_rules.specs.Calls.{Read, Get, LocalAddr, RemoteAddr, State, Validated, Active, Initiated, NeedsFrames, NeedsPadding, Allowed, Act, Initiate}
use Rattle.paths_rules.specs.Calls.{Pop, Receive, Send, Respond, Credit, Charge, SetScid, SetDcid, SetActive, Verify, Look, Len, IdOf, GetActive, Timer, Call}
use Rattle.paths_rules.specs.Calls.{On, Insert, Timeout, Ping, Multipath, Ask, apply}
use Rattle.paths_rules.specs.Words.{v4, v6, pair_to, pair_a, pair_b, pair_c}

-- ---- the words of the rows

pub record Row : Type 0 where
  pub before : Table
  pub call : Call
  pub gives : Out

-- the path of a fresh table with pair A, and an inserted path
abbrev zeroth : Path
zeroth = record { pair = pair_a; datagram = 1200; scid = some 0; dcid = some 0; active = true; rank = 4; received = []; sent = []; ask = false; lost = 0; largest = 0; verified = false; peer_verified = false; credit = 0; ping = false; listed = true }

abbrev new : FourTuple → Path
new a = record { pair = a; datagram = 1200; scid = none; dcid = none; active = false; rank = 1; received = []; sent = []; ask = false; lost = 0; largest = 0; verified = false; peer_verified = false; credit = 0; ping = false; listed = true }

abbrev b : Path
b = new pair_b

abbrev pub chal : ℕ → ℕ → ℕ → ℕ → Challenge
chal d size sent deadline = record { «data» = d; size = size; sent = sent; deadline = deadline }

-- n challenges that stand, with the data 1
abbrev stand : ℕ → List Challenge
stand n = replicate n (chal 1 1200 0 25000)

-- a server with path limit 3 and factor 3, a client, a server with factor 5, and one with multipath on
abbrev serving : List Path → Table
serving l = record { paths = l; limit = 3; factor = 3; multipath = false; server = true }

abbrev client : List Path → Table
client l = record { paths = l; limit = 3; factor = 3; multipath = false; server = false }

abbrev quick : List Path → Table
quick l = record { paths = l; limit = 3; factor = 5; multipath = false; server = true }

abbrev multi : List Path → Table
multi l = record { paths = l; limit = 3; factor = 3; multipath = true; server = true }

-- path 1 is x
abbrev holds : Path → Table
holds x = serving (zeroth ∷ x ∷ [])

abbrev pub row : Table → Call → Out → Row
row t c o = record { before = t; call = c; gives = o }

-- an act on path 1 makes x into y; it answers; it is refused
abbrev makes : Path → Act → Path → Row
makes x a y = row (holds x) (On 1 a) (accepted Nothing (holds y))

abbrev says : Path → Act → Path → Answer → Row
says x a y r = row (holds x) (On 1 a) (accepted r (holds y))

abbrev not : Path → Act → ℕ → Row
not x a n = row (holds x) (On 1 a) (refused n (holds x))

-- a call that leaves the table, and one that is refused
abbrev pub reads : Table → Call → Answer → Row
reads t c r = row t c (accepted r t)

abbrev pub refuses : Table → Call → ℕ → Row
refuses t c n = row t c (refused n t)

abbrev pub outcome : Row → Out
outcome r = apply r.before r.call

abbrev pub expected : Row → Out
expected r = r.gives

abbrev pub Holds : List Row → Type 0
Holds l = map outcome l ≡ map expected l

-- ---- unknown ids: 2, or accepted with nothing changed; an id just below the count

abbrev lone : Table
lone = serving (zeroth ∷ [])

pub unknown : map (λ (a : Act). apply lone (On 1 a))
    (Look Get ∷ Look LocalAddr ∷ Look RemoteAddr ∷ Look State ∷ Look Validated ∷ Look Active ∷ Look Initiated ∷ Look NeedsFrames ∷ Look NeedsPadding
    ∷ Initiate ∷ Pop ∷ Send 1 1200 0 ∷ SetScid none ∷ SetDcid (some 1) ∷ SetActive true ∷ Verify ∷ [])
    ≡ replicate 16 (refused 2 lone)
unknown = refl

pub unknown_accepted : map (λ (a : Act). apply lone (On 1 a)) (Receive 5 ∷ Respond 5 0 ∷ Credit 7 ∷ Charge 7 ∷ Look (Allowed 9) ∷ [])
    ≡ accepted Nothing lone ∷ accepted (Responded false []) lone ∷ accepted Nothing lone ∷ accepted Nothing lone ∷ accepted (Number 9) lone ∷ []
unknown_accepted = refl

-- ---- fresh: the limit 0, 1, 8, 9; both addresses; the whole table

abbrev at4 : List ℕ → ℕ → ℕ → ℕ → Address
at4 ip flow scope kind = record { ip = ip; flow = flow; scope = scope; port = 443; kind = kind }

abbrev ip4 : List ℕ
ip4 = 10 ∷ 0 ∷ 0 ∷ 1 ∷ replicate 12 0

abbrev pub bad_addresses : List Address
bad_addresses = at4 ip4 0 0 0 ∷ at4 ip4 0 0 5 ∷ at4 ip4 0 0 7 ∷ at4 (10 ∷ 0 ∷ 0 ∷ 1 ∷ 1 ∷ replicate 11 0) 0 0 4
    ∷ at4 (10 ∷ 0 ∷ 0 ∷ 1 ∷ replicate 11 0 ++ (1 ∷ [])) 0 0 4 ∷ at4 ip4 1 0 4 ∷ at4 ip4 0 1 4 ∷ []

abbrev bad : FourTuple
bad = record { local = v4 1; remote = at4 ip4 0 0 5 }

pub fresh_limits : map (λ (n : ℕ). (fresh_call pair_a 1200 n 3 true).refusal) (0 ∷ 1 ∷ 8 ∷ 9 ∷ []) ≡ 1 ∷ 0 ∷ 0 ∷ 1 ∷ []
fresh_limits = refl

pub fresh_local : map (λ (a : Address). (fresh_call (record { local = a; remote = v4 1 }) 1200 1 3 true).refusal) bad_addresses ≡ replicate 7 1
fresh_local = refl

pub fresh_remote : map (λ (a : Address). (fresh_call (record { local = v6 1; remote = a }) 1200 1 3 true).refusal) (v4 255 ∷ v6 1 ∷ bad_addresses) ≡ 0 ∷ 0 ∷ replicate 7 1
fresh_remote = refl

pub fresh_whole : (fresh_call pair_a 1200 3 3 true ≡ accepted Nothing (serving (zeroth ∷ []))) × (fresh_call pair_a 1200 3 3 false ≡ accepted Nothing (client (zeroth ∷ [])))
    × (fresh_call bad 1200 3 3 true ≡ refused 1 (record { paths = []; limit = 0; factor = 0; multipath = false; server = false }))
fresh_whole = (refl, refl, refl)

-- the all-zero table is not well formed: the next call is 1
pub fresh_refused : (apply (fresh_call bad 1200 3 3 true).table (Ask Len)).refusal ≡ 1
fresh_refused = refl

-- ---- insertion: below the limit; at the limit the lowest with the flag off and no destination sequence; 5

abbrev c : Path
c = new pair_c

abbrev d : Path
d = new (pair_to 5)

abbrev off : Path → Path
off x = with_listed false x

abbrev busy : Path → Path
busy x = with_dcid_of (some 7) x

abbrev pub insert_rows : List Row
insert_rows =
    row (serving (zeroth ∷ b ∷ [])) (Insert pair_c 1200) (accepted (Inserted 2) (serving (zeroth ∷ b ∷ c ∷ [])))
    -- the listing is taken over, of an unused path and of one in use
    ∷ row (serving (zeroth ∷ b ∷ [])) (Insert pair_b 1200) (accepted (Inserted 2) (serving (zeroth ∷ off b ∷ b ∷ [])))
    ∷ row (serving (zeroth ∷ b ∷ [])) (Insert pair_a 1200) (accepted (Inserted 2) (serving (off zeroth ∷ b ∷ new pair_a ∷ [])))
    -- at the limit: the lowest; the flag alone, or a sequence alone, is in the way
    ∷ row (serving (zeroth ∷ b ∷ c ∷ [])) (Insert (pair_to 5) 1200) (accepted (Inserted 1) (serving (zeroth ∷ d ∷ c ∷ [])))
    ∷ row (serving (zeroth ∷ with_active_of true b ∷ c ∷ [])) (Insert (pair_to 5) 1200) (accepted (Inserted 2) (serving (zeroth ∷ with_active_of true b ∷ d ∷ [])))
    ∷ row (serving (zeroth ∷ busy b ∷ c ∷ [])) (Insert (pair_to 5) 1200) (accepted (Inserted 2) (serving (zeroth ∷ busy b ∷ d ∷ [])))
    ∷ row (serving (with_active_of false (with_dcid_of none zeroth) ∷ b ∷ c ∷ [])) (Insert (pair_to 5) 1200) (accepted (Inserted 0) (serving (d ∷ b ∷ c ∷ [])))
    -- and at the limit the listing is taken over too
    ∷ row (serving (zeroth ∷ b ∷ busy c ∷ [])) (Insert pair_a 1200) (accepted (Inserted 1) (serving (off zeroth ∷ new pair_a ∷ busy c ∷ [])))
    -- nothing passes to the new path
    ∷ row (serving (zeroth ∷ with_credit 9 (with_verified true (with_received (1 ∷ []) (with_sent (stand 2) (with_ping true b)))) ∷ busy c ∷ [])) (Insert (pair_to 5) 1200)
    (accepted (Inserted 1) (serving (zeroth ∷ d ∷ busy c ∷ [])))
    -- evicting removes the listing of its pair, of another path too; and the new path is listed
    ∷ row (serving (zeroth ∷ off b ∷ busy b ∷ [])) (Insert pair_c 1200) (accepted (Inserted 1) (serving (zeroth ∷ c ∷ busy (off b) ∷ [])))
    ∷ row (serving (zeroth ∷ off b ∷ busy b ∷ [])) (Insert pair_b 1200) (accepted (Inserted 1) (serving (zeroth ∷ b ∷ busy (off b) ∷ [])))
    -- 5; and 1 before it
    ∷ refuses (serving (zeroth ∷ with_active_of true b ∷ busy c ∷ [])) (Insert (pair_to 5) 1200) 5
    ∷ refuses (serving (zeroth ∷ with_active_of true b ∷ busy c ∷ [])) (Insert bad 1200) 1
    ∷ refuses (serving (zeroth ∷ [])) (Insert bad 1200) 1
    ∷ []

pub inserts : Holds insert_rows
inserts = refl

-- ---- challenges received, and asked for

abbrev pub receive_rows : List Row
receive_rows =
    makes b Initiate (with_ask true b)
    ∷ makes b (Receive 5) (with_peer_verified true (with_received (5 ∷ []) b))
    ∷ makes (with_received (replicate 7 1) b) (Receive 5) (with_peer_verified true (with_received (replicate 7 1 ++ (5 ∷ [])) b))
    ∷ makes (with_received (2 ∷ replicate 7 1) b) (Receive 5) (with_peer_verified true (with_received (replicate 7 1 ++ (5 ∷ [])) b))
    ∷ says b Pop b (Maybe none)
    ∷ says (with_received (2 ∷ 3 ∷ []) b) Pop (with_received (3 ∷ []) b) (Maybe (some 2))
    ∷ []

pub receives : Holds receive_rows
receives = refl

-- ---- challenges sent: 1, 2, 8, 6 in this order; the deadline; promotion

-- the last moment from which a deadline is in time, at a lost count
abbrev last_at : ℕ → ℕ
last_at lost = 2 ^ 63 - 1 - 25000 * 2 ^ lost

abbrev sent_on : Path → ℕ → ℕ → ℕ → Path
sent_on x rank now deadline = with_rank rank (with_ask false (with_sent (x.sent ++ (chal 1 1200 now deadline ∷ [])) x))

abbrev pub send_rows : List Row
send_rows =
    makes b (Send 1 1200 10) (sent_on b 2 10 25010)
    ∷ makes (with_ask true (with_lost 3 b)) (Send 1 1200 10) (sent_on (with_lost 3 b) 2 10 200010)
    -- promotion only raises: from Failed, from ValidatingMTU, from Validated
    ∷ makes (with_rank 0 b) (Send 1 1200 10) (sent_on b 2 10 25010)
    ∷ makes (with_rank 2 b) (Send 1 1200 10) (sent_on b 2 10 25010)
    ∷ makes (with_rank 3 b) (Send 1 1200 10) (sent_on b 3 10 25010)
    ∷ makes (with_rank 4 b) (Send 1 1200 10) (sent_on b 4 10 25010)
    -- 8: lost count 32 and 33, deadline 2^63-1 and 2^63
    ∷ makes (with_lost 32 b) (Send 1 1200 0) (sent_on (with_lost 32 b) 2 0 107374182400000)
    ∷ makes (with_lost 32 b) (Send 1 1200 (last_at 32)) (sent_on (with_lost 32 b) 2 (last_at 32) (2 ^ 63 - 1))
    ∷ not (with_lost 32 b) (Send 1 1200 (last_at 32 + 1)) 8
    ∷ not (with_lost 33 b) (Send 1 1200 0) 8
    ∷ makes b (Send 1 1200 (last_at 0)) (sent_on b 2 (last_at 0) (2 ^ 63 - 1))
    ∷ not b (Send 1 1200 (last_at 0 + 1)) 8
    -- 6: fifteen and sixteen stand; 8 before 6
    ∷ makes (with_sent (stand 15) b) (Send 1 1200 0) (with_rank 2 (with_sent (stand 16) b))
    ∷ not (with_sent (stand 16) b) (Send 1 1200 0) 6
    ∷ not (with_sent (stand 16) b) (Send 1 1200 (last_at 0)) 6
    ∷ not (with_sent (stand 16) b) (Send 1 1200 (last_at 0 + 1)) 8
    -- 2 before 8, 1 before 2
    ∷ refuses (holds b) (On 2 (Send 1 1200 (last_at 0 + 1))) 2
    ∷ refuses (holds b) (On 2 (Send 1 1200 (2 ^ 63 - 1))) 2
    ∷ refuses (holds b) (On 2 (Send 1 1200 (2 ^ 63))) 1
    ∷ []

pub sends : Holds send_rows
sends = refl

-- ---- responses

-- challenges 1, 2, 1 of the given sizes
abbrev mixed : ℕ → ℕ → List Challenge
mixed m n = chal 1 m 10 100 ∷ chal 2 1500 20 110 ∷ chal 1 n 30 120 ∷ []

abbrev probed : List Challenge → Path
probed l = with_rank 2 (with_sent l b)

-- verified, ValidatingMTU, and a challenge asked for
abbrev reached_mtu : List Challenge → ℕ → Path
reached_mtu l n = with_verified true (with_rank 3 (with_sent l (with_largest n (with_ask true b))))

-- Validated
abbrev passed : ℕ → Path
passed n = with_verified true (with_rank 4 (with_largest n b))

abbrev pub respond_rows : List Row
respond_rows =
    -- the last match's size, not the largest of the matches; the spans in order; the others stay
    says (probed (mixed 1300 1199)) (Respond 1 40) (reached_mtu (chal 2 1500 20 110 ∷ []) 1199) (Responded false (30 ∷ 10 ∷ []))
    ∷ says (probed (mixed 100 1200)) (Respond 1 40) (passed 1200) (Responded true (30 ∷ 10 ∷ []))
    -- a span is 0 where now is earlier
    ∷ says (probed (mixed 100 1200)) (Respond 1 20) (passed 1200) (Responded true (10 ∷ 0 ∷ []))
    -- the stored size stays if it is larger
    ∷ says (with_largest 800 (probed (mixed 1 700))) (Respond 1 40) (reached_mtu (chal 2 1500 20 110 ∷ []) 800) (Responded false (30 ∷ 10 ∷ []))
    -- a stored size of 1199, and of 1200: Validated by a match of any size
    ∷ says (with_largest 1199 (probed (mixed 1 2))) (Respond 1 40) (reached_mtu (chal 2 1500 20 110 ∷ []) 1199) (Responded false (30 ∷ 10 ∷ []))
    ∷ says (with_largest 1200 (probed (mixed 1 2))) (Respond 1 40) (passed 1200) (Responded true (30 ∷ 10 ∷ []))
    -- Validated: the flag is cleared, or set with multipath; a request for a challenge stays
    ∷ says (with_active_of true (with_ask true (probed (mixed 1 1200)))) (Respond 1 40) (with_ask true (passed 1200)) (Responded true (30 ∷ 10 ∷ []))
    ∷ row (multi (zeroth ∷ probed (mixed 1 1200) ∷ [])) (On 1 (Respond 1 40)) (accepted (Responded true (30 ∷ 10 ∷ [])) (multi (zeroth ∷ with_active_of true (passed 1200) ∷ [])))
    ∷ row (multi (zeroth ∷ probed (mixed 1 1199) ∷ [])) (On 1 (Respond 1 40))
    (accepted (Responded false (30 ∷ 10 ∷ [])) (multi (zeroth ∷ reached_mtu (chal 2 1500 20 110 ∷ []) 1199 ∷ [])))
    -- 1: the moment
    ∷ says (probed (mixed 1 1200)) (Respond 1 (2 ^ 63 - 1)) (passed 1200) (Responded true ((2 ^ 63 - 11) ∷ (2 ^ 63 - 31) ∷ []))
    ∷ not (probed (mixed 1 1200)) (Respond 1 (2 ^ 63)) 1
    ∷ []

pub responds : Holds respond_rows
responds = refl

-- ---- responses by which nothing changes [2]

-- Failed, Unknown, Validating, ValidatingMTU, Validated, and a rank above them
abbrev ranks : List ℕ
ranks = 0 ∷ 1 ∷ 2 ∷ 3 ∷ 4 ∷ 5 ∷ []

-- path 1 with challenges 1, 2, 1 at a lost count of 5, in the state of that rank
abbrev ranked : ℕ → Path
ranked r = with_lost 5 (with_rank r (with_sent (mixed 1300 1199) b))

-- heeded: the lost count is 0
abbrev heeded : ℕ → Path
heeded r = with_rank r (reached_mtu (chal 2 1500 20 110 ∷ []) 1199)

abbrev ignored : Path → ℕ → Row
ignored x d = says x (Respond d 40) x (Responded false [])

abbrev pub unasked_rows : List Row
unasked_rows =
    -- no match, in any state: no challenge stands, or three with other data
    map (λ (r : ℕ). ignored (with_rank r b) 9) ranks
    ++ map (λ (r : ℕ). ignored (ranked r) 9) ranks
    -- a match: heeded in any state but Validated
    ++ map (λ (r : ℕ). says (ranked r) (Respond 1 40) (heeded 3) (Responded false (30 ∷ 10 ∷ []))) (0 ∷ 1 ∷ 2 ∷ 3 ∷ [])
    ++ (ignored (ranked 4) 1
    ∷ says (ranked 5) (Respond 1 40) (heeded 5) (Responded false (30 ∷ 10 ∷ []))
    -- a stored size of 1199, and of 1200, validates nothing
    ∷ ignored (with_largest 1199 b) 9
    ∷ ignored (with_largest 1200 b) 9
    -- data that differ in their last bit, and in their first
    ∷ ignored (probed (chal 9 1200 10 100 ∷ [])) 8
    ∷ ignored (probed (chal 9 1200 10 100 ∷ [])) (9 + 2 ^ 63)
    -- it matches a challenge on path 1, and names path 2, or path 0, which is Validated
    ∷ reads (serving (zeroth ∷ ranked 2 ∷ c ∷ [])) (On 2 (Respond 1 40)) (Responded false [])
    ∷ reads (serving (zeroth ∷ ranked 2 ∷ c ∷ [])) (On 0 (Respond 1 40)) (Responded false [])
    -- 1 all the same
    ∷ not (ranked 2) (Respond 9 (2 ^ 63)) 1
    ∷ [])

pub unasked : Holds unasked_rows
unasked = refl

-- ---- timeouts

abbrev times : Path → ℕ → Path → Row
times x now y = row (holds x) (Timeout now) (accepted Nothing (holds y))

-- fronts with deadlines 100, 90, 110
abbrev queue : List Challenge
queue = chal 1 1200 0 100 ∷ chal 2 1200 0 90 ∷ chal 3 1200 0 110 ∷ []

abbrev waits : ℕ → List Challenge → ℕ → Path
waits rank l lost = with_rank rank (with_sent l (with_lost lost b))

abbrev pub timeout_rows : List Row
timeout_rows =
    -- the front's deadline 100 against now: 99 and 100; a later one with an earlier deadline waits, and goes with the front
    times (waits 2 queue 0) 99 (waits 2 queue 0)
    ∷ times (waits 2 queue 0) 100 (with_ask true (waits 2 (chal 3 1200 0 110 ∷ []) 2))
    ∷ times (waits 2 queue 0) 110 (with_ask true (waits 2 [] 3))
    -- the states: Failed, Unknown, ValidatingMTU, Validated
    ∷ times (waits 0 queue 0) 100 (waits 0 queue 0)
    ∷ times (waits 1 queue 0) 100 (waits 1 queue 0)
    ∷ times (waits 3 queue 0) 100 (with_ask true (waits 3 (chal 3 1200 0 110 ∷ []) 2))
    ∷ times (waits 4 queue 0) 100 (waits 4 queue 0)
    -- the lost count 7 and 8: at 8 the path fails and is done, the flag off; a request for a challenge stays as it was
    ∷ times (waits 2 (stand 1) 6) 25000 (with_ask true (waits 2 [] 7))
    ∷ times (with_active_of true (waits 2 (stand 1) 7)) 25000 (waits 0 [] 8)
    ∷ times (with_ask true (waits 2 (stand 1) 7)) 25000 (with_ask true (waits 0 [] 8))
    ∷ times (waits 2 (stand 3) 6) 25000 (with_ask true (waits 0 [] 8))
    ∷ times (waits 2 (stand 3) 7) 25000 (waits 0 [] 8)
    ∷ times (waits 2 (chal 1 1200 0 100 ∷ chal 1 1200 0 200 ∷ []) 7) 100 (waits 0 [] 8)
    ∷ times (waits 2 (stand 2) 32) 25000 (waits 0 [] 33)
    -- every path
    ∷ row (serving (zeroth ∷ waits 2 (stand 1) 0 ∷ with_rank 3 (with_sent (stand 1) c) ∷ [])) (Timeout 25000)
    (accepted Nothing (serving (zeroth ∷ with_ask true (waits 2 [] 1) ∷ with_ask true (with_rank 3 (with_lost 1 c)) ∷ [])))
    -- 1: the moment
    ∷ times b (2 ^ 63 - 1) b
    ∷ refuses (holds b) (Timeout (2 ^ 63)) 1
    ∷ []

pub timeouts : Holds timeout_rows
timeouts = refl

-- the least of the fronts, whatever the state; not the least of all that stand
abbrev pub timer_rows : List Row
timer_rows =
    reads (holds b) (Ask Timer) (Maybe none)
    ∷ reads (holds (waits 2 queue 0)) (Ask Timer) (Maybe (some 100))
    ∷ reads (serving (with_sent (chal 1 1200 0 95 ∷ []) zeroth ∷ waits 2 queue 0 ∷ c ∷ [])) (Ask Timer) (Maybe (some 95))
    ∷ reads (serving (with_sent (chal 1 1200 0 105 ∷ []) zeroth ∷ waits 0 queue 0 ∷ c ∷ [])) (Ask Timer) (Maybe (some 100))
    ∷ []

pub timers : Holds timer_rows
timers = refl

-- ---- credit: on a server, on an unverified path; both stop at the ends

abbrev pub credit_rows : List Row
credit_rows =
    makes b (Credit 7) (with_credit 21 b)
    ∷ makes (with_credit 5 b) (Credit 7) (with_credit 26 b)
    ∷ makes (with_credit 5 b) (Charge 4) (with_credit 1 b)
    ∷ makes (with_credit 5 b) (Charge 5) b
    ∷ makes (with_credit 5 b) (Charge 6) b
    -- product and sum: 2^64-1, and one step past it
    ∷ makes b (Credit 6148914691236517205) (with_credit (2 ^ 64 - 1) b)
    ∷ makes b (Credit 6148914691236517206) (with_credit (2 ^ 64 - 1) b)
    ∷ makes (with_credit (2 ^ 64 - 4) b) (Credit 1) (with_credit (2 ^ 64 - 1) b)
    ∷ makes (with_credit (2 ^ 64 - 3) b) (Credit 1) (with_credit (2 ^ 64 - 1) b)
    ∷ makes b (Credit (2 ^ 64 - 1)) (with_credit (2 ^ 64 - 1) b)
    -- the table's factor
    ∷ row (quick (zeroth ∷ b ∷ [])) (On 1 (Credit 7)) (accepted Nothing (quick (zeroth ∷ with_credit 35 b ∷ [])))
    -- verified; a client
    ∷ makes (with_verified true (with_credit 5 b)) (Credit 7) (with_verified true (with_credit 5 b))
    ∷ makes (with_verified true (with_credit 5 b)) (Charge 3) (with_verified true (with_credit 5 b))
    ∷ reads (client (zeroth ∷ with_credit 5 b ∷ [])) (On 1 (Credit 7)) Nothing
    ∷ reads (client (zeroth ∷ with_credit 5 b ∷ [])) (On 1 (Charge 3)) Nothing
    -- the allowance
    ∷ reads (holds (with_credit 5 b)) (On 1 (Look (Allowed 4))) (Number 4)
    ∷ reads (holds (with_credit 5 b)) (On 1 (Look (Allowed 6))) (Number 5)
    ∷ reads (holds (with_verified true (with_credit 5 b))) (On 1 (Look (Allowed 6))) (Number 6)
    ∷ reads (client (zeroth ∷ with_credit 5 b ∷ [])) (On 1 (Look (Allowed 6))) (Number 6)
    ∷ []

pub credits : Holds credit_rows
credits = refl

-- ---- what is read of a path

abbrev looks : Path → Read → Answer → Row
looks x r a = reads (holds x) (On 1 (Look r)) a

abbrev pub look_rows : List Row
look_rows =
    looks (with_ask true b) Get (Whole (with_ask true b))
    ∷ looks b LocalAddr (Place (v4 1))
    ∷ looks b RemoteAddr (Place (v4 3))
    ∷ looks (with_rank 3 b) State (Number 3)
    ∷ looks (with_rank 3 b) Validated (Flag false)
    ∷ looks (with_rank 4 b) Validated (Flag true)
    -- the flag and a destination sequence
    ∷ looks b Active (Flag false)
    ∷ looks (with_active_of true b) Active (Flag false)
    ∷ looks (busy b) Active (Flag false)
    ∷ looks (with_active_of true (busy b)) Active (Flag true)
    ∷ looks b Initiated (Flag false)
    ∷ looks (with_ask true b) Initiated (Flag true)
    -- credit 63 and 64, verified or not; asked for, or received; a client
    ∷ looks (with_ask true (with_credit 63 b)) NeedsFrames (Flag false)
    ∷ looks (with_ask true (with_credit 64 b)) NeedsFrames (Flag true)
    ∷ looks (with_ask true (with_verified true (with_credit 63 b))) NeedsFrames (Flag false)
    ∷ looks (with_received (1 ∷ []) (with_credit 64 b)) NeedsFrames (Flag true)
    ∷ looks (with_credit 64 b) NeedsFrames (Flag false)
    ∷ reads (client (zeroth ∷ with_ask true b ∷ [])) (On 1 (Look NeedsFrames)) (Flag true)
    ∷ reads (client (zeroth ∷ b ∷ [])) (On 1 (Look NeedsFrames)) (Flag false)
    -- credit at max_datagram_size and one more; Validated; a client
    ∷ looks (with_credit 1200 b) NeedsPadding (Flag false)
    ∷ looks (with_credit 1201 b) NeedsPadding (Flag true)
    ∷ looks (with_verified true (with_credit 1200 b)) NeedsPadding (Flag false)
    ∷ looks (with_rank 4 (with_credit 1201 b)) NeedsPadding (Flag false)
    ∷ looks (with_rank 3 (with_credit 1201 b)) NeedsPadding (Flag true)
    ∷ reads (client (zeroth ∷ b ∷ [])) (On 1 (Look NeedsPadding)) (Flag true)
    ∷ reads (client (zeroth ∷ b ∷ [])) (On 0 (Look NeedsPadding)) (Flag false)
    ∷ []

pub look : Holds look_rows
look = refl

-- ---- what is read of the table

abbrev pub survey_rows : List Row
survey_rows =
    reads (holds b) (Ask Len) (Number 2)
    ∷ reads (holds b) (Ask (IdOf pair_a)) (Maybe (some 0))
    ∷ reads (holds b) (Ask (IdOf pair_b)) (Maybe (some 1))
    ∷ reads (holds (off b)) (Ask (IdOf pair_b)) (Maybe none)
    ∷ reads (holds b) (Ask (IdOf pair_c)) (Maybe none)
    -- both addresses count, the kind and the port too
    ∷ reads (holds b) (Ask (IdOf (record { local = v4 9; remote = v4 3 }))) (Maybe none)
    ∷ reads (holds b) (Ask (IdOf (record { local = v4 1; remote = record { ip = (v4 3).ip; flow = 0; scope = 0; port = 444; kind = 4 } }))) (Maybe none)
    ∷ reads (holds b) (Ask (IdOf (record { local = v4 1; remote = record { ip = (v4 3).ip; flow = 0; scope = 0; port = 443; kind = 6 } }))) (Maybe none)
    ∷ refuses (holds b) (Ask (IdOf bad)) 1
    -- the flag itself, whatever the sequence; the lowest; 2
    ∷ reads (holds b) (Ask GetActive) (Found 0 zeroth)
    ∷ reads (serving (with_active_of false zeroth ∷ busy b ∷ with_active_of true c ∷ [])) (Ask GetActive) (Found 2 (with_active_of true c))
    ∷ refuses (serving (with_active_of false zeroth ∷ busy b ∷ [])) (Ask GetActive) 2
    ∷ []

pub surveys : Holds survey_rows
surveys = refl

-- ---- pings and multipath

abbrev pub ping_rows : List Row
ping_rows =
    -- off: the first with the flag, the pair is not looked at; 2
    row (holds b) (Ping none) (accepted Nothing (serving (with_ping true zeroth ∷ b ∷ [])))
    ∷ row (holds b) (Ping (some pair_b)) (accepted Nothing (serving (with_ping true zeroth ∷ b ∷ [])))
    ∷ row (serving (with_active_of false zeroth ∷ with_active_of true b ∷ [])) (Ping none) (accepted Nothing (serving (with_active_of false zeroth ∷ with_ping true (with_active_of true b) ∷ [])))
    ∷ refuses (serving (with_active_of false zeroth ∷ b ∷ [])) (Ping none) 2
    ∷ refuses (serving (with_active_of false zeroth ∷ b ∷ [])) (Ping (some bad)) 1
    -- on, with a pair: the listed path, in use or not; unlisted is a success
    ∷ row (multi (zeroth ∷ b ∷ [])) (Ping (some pair_b)) (accepted Nothing (multi (zeroth ∷ with_ping true b ∷ [])))
    ∷ row (multi (zeroth ∷ off b ∷ b ∷ [])) (Ping (some pair_b)) (accepted Nothing (multi (zeroth ∷ off b ∷ with_ping true b ∷ [])))
    ∷ reads (multi (zeroth ∷ off b ∷ [])) (Ping (some pair_b)) Nothing
    ∷ refuses (multi (zeroth ∷ b ∷ [])) (Ping (some bad)) 1
    -- on, without: every path with flag and sequence; none is a success
    ∷ row (multi (zeroth ∷ with_active_of true (busy b) ∷ with_active_of true c ∷ [])) (Ping none)
    (accepted Nothing (multi (with_ping true zeroth ∷ with_ping true (with_active_of true (busy b)) ∷ with_active_of true c ∷ [])))
    ∷ reads (multi (with_active_of false zeroth ∷ busy b ∷ [])) (Ping none) Nothing
    ∷ row (holds b) Multipath (accepted Nothing (multi (zeroth ∷ b ∷ [])))
    ∷ reads (multi (zeroth ∷ [])) Multipath Nothing
    ∷ []

pub pings : Holds ping_rows
pings = refl

-- ---- the fields that a host may set

abbrev whole : Option ℕ → Option ℕ → Bool → List Challenge → Bool → ℕ → Path
whole scid dcid active sent verified credit = record { pair = pair_b; datagram = 1200; scid = scid; dcid = dcid; active = active; rank = 1; received = []; sent = sent; ask = false; lost = 0; largest = 0; verified = verified; peer_verified = false; credit = credit; ping = false; listed = true }

abbrev pub field_rows : List Row
field_rows =
    makes b (SetScid (some 7)) (whole (some 7) none false [] false 0)
    ∷ makes (with_scid_of (some 7) b) (SetScid none) b
    ∷ makes b (SetDcid (some 7)) (whole none (some 7) false [] false 0)
    ∷ makes (busy b) (SetDcid none) b
    ∷ makes b (SetActive true) (whole none none true [] false 0)
    ∷ makes (with_active_of true b) (SetActive false) b
    -- credit, state and lists stay
    ∷ makes (with_credit 5 (with_sent (stand 2) b)) Verify (whole none none false (stand 2) true 5)
    ∷ makes (with_verified true b) Verify (with_verified true b)
    ∷ []

pub fields : Holds field_rows
fields = refl

-- the words of the rows change one field each
abbrev many : Path
many = with_scid_of (some 1) (with_dcid_of (some 2) (with_active_of true (with_rank 3 (with_received (4 ∷ []) (with_sent (stand 1) (with_ask true (with_lost 5 (with_largest 6 (with_verified true (with_peer_verified true (with_credit 7 (with_ping true (with_listed false b)))))))))))))

pub words : many ≡ record { pair = pair_b; datagram = 1200; scid = some 1; dcid = some 2; active = true; rank = 3; received = 4 ∷ []; sent = stand 1; ask = true; lost = 5; largest = 6; verified = true; peer_verified = true; credit = 7; ping = true; listed = false }
words = refl

-- ---- well formed: a table at each bound, and one that breaks each conjunct and no other. Limit at least 1 follows from 1 to limit paths, and has none

abbrev limited : ℕ → List Path → Table
limited n l = record { paths = l; limit = n; factor = 0; multipath = false; server = false }

abbrev from : Address → Address → Path
from a e = new (record { local = a; remote = e })

abbrev pub at_bounds : List Table
at_bounds =
    limited 1 (b ∷ []) ∷ limited 8 (b ∷ []) ∷ limited 2 (b ∷ c ∷ []) ∷ limited 8 (b ∷ replicate 7 (off b)) ∷ holds (from (v6 1) (v6 2))
    ∷ holds (with_received (replicate 8 0) b) ∷ holds (with_sent (stand 16) b) ∷ holds (with_lost 33 b) ∷ holds (with_lost 32 (with_sent (stand 1) b))
    ∷ holds (with_sent (chal 1 1200 (2 ^ 63 - 1) (2 ^ 63 - 1) ∷ []) b) ∷ serving (zeroth ∷ b ∷ off b ∷ []) ∷ serving (zeroth ∷ off b ∷ b ∷ []) ∷ serving (off zeroth ∷ off b ∷ [])
    -- nothing is asked of the rank, of a deadline against its sent moment, of sizes
    ∷ holds (with_rank 255 b) ∷ holds (with_sent (chal 1 0 9 5 ∷ []) b) ∷ holds (with_largest (2 ^ 64 - 1) b) ∷ []

abbrev pub broken : List Table
broken =
    limited 9 (b ∷ []) ∷ limited 1 [] ∷ limited 1 (b ∷ c ∷ []) ∷ holds (from (at4 ip4 0 0 5) (v4 1)) ∷ holds (from (v4 1) (at4 ip4 0 0 5))
    ∷ holds (with_received (replicate 9 0) b) ∷ holds (with_sent (stand 17) b) ∷ holds (with_lost 34 b) ∷ holds (with_lost 33 (with_sent (stand 1) b))
    ∷ holds (with_sent (chal 1 1200 (2 ^ 63) 5 ∷ []) b) ∷ holds (with_sent (chal 1 1200 5 (2 ^ 63) ∷ []) b)
    ∷ holds (with_sent (chal 1 1200 5 5 ∷ chal 1 1200 5 (2 ^ 63) ∷ []) b) ∷ serving (zeroth ∷ b ∷ b ∷ []) ∷ serving (b ∷ zeroth ∷ b ∷ []) ∷ []

pub at_bounds_well : map well at_bounds ≡ replicate 16 true
at_bounds_well = refl

pub broken_not_well : map well broken ≡ replicate 14 false
broken_not_well = refl

-- a broken table is answered 1, first of all, and comes back as it was
pub broken_refused : map (λ (t : Table). apply t (On 99 (Send 1 1200 0))) broken ≡ map (refused 1) broken
broken_refused = refl
