-- What each call leaves alone, and what it does not depend on: rows of every call from two paths that differ in every field, on a server and a client, with
-- multipath and without; and 2^64-1 for each number that has no bound. The words of the rows are those of Bounds.antt.
use Rattle.std.specs.Prelude.{ℕ, ◌+◌, ◌-◌, ◌^◌, ◌≡◌, refl, List, [], ◌∷◌, ◌++◌, map, Bool, true, false, cond, replicate}
use Rattle.std.proofs.Math.Option.{Option, none, some}
use Rattle.values.specs.declared.address.Address.{Address}
use Rattle.values.specs.declared.address.FourTuple.{FourTuple}
use Rattle.paths_rules.specs.State.{Path, Challenge}
use Rattle.paths_rules.specs.With.{with_scid_of, with_dcid_of, with_active_of, with_rank, with_received, with_sent, with_ask, with_lost, with_largest}
use Rattle.paths_rules.specs.With.{with_verified, with_peer_verified, with_credit, with_ping, with_listed}
use Rattle.paths_rules.specs.Table.{Table, Out, Answer, Nothing, Inserted, Responded, Number, Flag, Maybe, Place, Whole, Found, refused, accepted, fresh_call}
use Rattle.paths_rules.specs.Calls.{Read, Get, LocalAddr, RemoteAddr, State, Validated, Active, Initiated, NeedsFrames, NeedsPadding, Allowed, Act, Initiate}
use Rattle.paths_rules.specs.Calls.{Pop, Receive, Send, Respond, Credit, Charge, SetScid, SetDcid, SetActive, Verify, Look, Len, IdOf, GetActive, Timer, Call}
use Rattle.paths_rules.specs.Calls.{On, Insert, Timeout, Ping, Multipath, Ask, apply}
use Rattle.paths_rules.specs.Words.{v4, pair_to, pair_a, pair_b, pair_c}
use Rattle.paths_rules.specs.Bounds.{Row, row, reads, refuses, Holds, chal, bad_addresses}

-- ---- two paths that differ in every field, and the words that change one

-- a path by its fields
abbrev path : (pair : FourTuple) (datagram : ℕ) (scid dcid : Option ℕ) (active : Bool) (rank : ℕ) (received : List ℕ) (sent : List Challenge) (ask : Bool)
    (lost largest : ℕ) (verified peer_verified : Bool) (credit : ℕ) (ping listed : Bool) → Path
path a m s d f r rs cs k l g v w n p i = record { pair = a; datagram = m; scid = s; dcid = d; active = f; rank = r; received = rs; sent = cs; ask = k; lost = l; largest = g; verified = v; peer_verified = w; credit = n; ping = p; listed = i }

-- one of size 1100 and one of size 1500
abbrev sent2 : List Challenge
sent2 = chal 15 1100 16 17 ∷ chal 18 1500 19 20 ∷ []

abbrev rich : Path
rich = path pair_b 1301 (some 11) (some 12) true 3 (13 ∷ 14 ∷ []) sent2 true 5 21 true true 2222 true false

abbrev bare : Path
bare = path pair_b 63 none none false 1 [] [] false 0 0 false false 0 false true

-- the same as rich, its address not verified
abbrev Unverified : Path
Unverified = path pair_b 1301 (some 11) (some 12) true 3 (13 ∷ 14 ∷ []) sent2 true 5 21 false true 2222 true false

-- each word changes its field and no other
pub words :
    map (λ (f : Path → Path). f rich)
    (with_scid_of none ∷ with_dcid_of none ∷ with_active_of false ∷ with_rank 9 ∷ with_received [] ∷ with_sent [] ∷ with_ask false ∷ with_lost 9 ∷ with_largest 9 ∷ with_verified false
    ∷ with_peer_verified false ∷ with_credit 9 ∷ with_ping false ∷ with_listed true ∷ [])
    ≡ path pair_b 1301 none (some 12) true 3 (13 ∷ 14 ∷ []) sent2 true 5 21 true true 2222 true false
    ∷ path pair_b 1301 (some 11) none true 3 (13 ∷ 14 ∷ []) sent2 true 5 21 true true 2222 true false
    ∷ path pair_b 1301 (some 11) (some 12) false 3 (13 ∷ 14 ∷ []) sent2 true 5 21 true true 2222 true false
    ∷ path pair_b 1301 (some 11) (some 12) true 9 (13 ∷ 14 ∷ []) sent2 true 5 21 true true 2222 true false
    ∷ path pair_b 1301 (some 11) (some 12) true 3 [] sent2 true 5 21 true true 2222 true false
    ∷ path pair_b 1301 (some 11) (some 12) true 3 (13 ∷ 14 ∷ []) [] true 5 21 true true 2222 true false
    ∷ path pair_b 1301 (some 11) (some 12) true 3 (13 ∷ 14 ∷ []) sent2 false 5 21 true true 2222 true false
    ∷ path pair_b 1301 (some 11) (some 12) true 3 (13 ∷ 14 ∷ []) sent2 true 9 21 true true 2222 true false
    ∷ path pair_b 1301 (some 11) (some 12) true 3 (13 ∷ 14 ∷ []) sent2 true 5 9 true true 2222 true false
    ∷ Unverified
    ∷ path pair_b 1301 (some 11) (some 12) true 3 (13 ∷ 14 ∷ []) sent2 true 5 21 true false 2222 true false
    ∷ path pair_b 1301 (some 11) (some 12) true 3 (13 ∷ 14 ∷ []) sent2 true 5 21 true true 9 true false
    ∷ path pair_b 1301 (some 11) (some 12) true 3 (13 ∷ 14 ∷ []) sent2 true 5 21 true true 2222 false false
    ∷ path pair_b 1301 (some 11) (some 12) true 3 (13 ∷ 14 ∷ []) sent2 true 5 21 true true 2222 true true
    ∷ []
words = refl

pub bare_words :
    map (λ (f : Path → Path). f bare)
    (with_scid_of (some 9) ∷ with_dcid_of (some 9) ∷ with_active_of true ∷ with_rank 9 ∷ with_received (9 ∷ []) ∷ with_sent sent2 ∷ with_ask true ∷ with_lost 9 ∷ with_largest 9 ∷ with_verified true
    ∷ with_peer_verified true ∷ with_credit 9 ∷ with_ping true ∷ with_listed false ∷ [])
    ≡ path pair_b 63 (some 9) none false 1 [] [] false 0 0 false false 0 false true
    ∷ path pair_b 63 none (some 9) false 1 [] [] false 0 0 false false 0 false true
    ∷ path pair_b 63 none none true 1 [] [] false 0 0 false false 0 false true
    ∷ path pair_b 63 none none false 9 [] [] false 0 0 false false 0 false true
    ∷ path pair_b 63 none none false 1 (9 ∷ []) [] false 0 0 false false 0 false true
    ∷ path pair_b 63 none none false 1 [] sent2 false 0 0 false false 0 false true
    ∷ path pair_b 63 none none false 1 [] [] true 0 0 false false 0 false true
    ∷ path pair_b 63 none none false 1 [] [] false 9 0 false false 0 false true
    ∷ path pair_b 63 none none false 1 [] [] false 0 9 false false 0 false true
    ∷ path pair_b 63 none none false 1 [] [] false 0 0 true false 0 false true
    ∷ path pair_b 63 none none false 1 [] [] false 0 0 false true 0 false true
    ∷ path pair_b 63 none none false 1 [] [] false 0 0 false false 9 false true
    ∷ path pair_b 63 none none false 1 [] [] false 0 0 false false 0 true true
    ∷ path pair_b 63 none none false 1 [] [] false 0 0 false false 0 false false
    ∷ []
bare_words = refl

-- ---- tables with a path before it and one behind it, of which no field is its default; limit and factor are other than those of Bounds.antt

abbrev lead : Path
lead = path pair_a 1302 (some 31) (some 32) true 4 (33 ∷ []) (chal 34 1201 35 36 ∷ []) true 6 37 true true 38 false true

abbrev tail : Path
tail = path pair_c 1303 (some 41) (some 42) true 0 (43 ∷ []) (chal 44 1202 45 46 ∷ []) true 7 47 true true 48 false true

abbrev table : (server multipath : Bool) → List Path → Table
table s m l = record { paths = l; limit = 4; factor = 7; multipath = m; server = s }

abbrev around : Bool → Bool → Path → Table
around s m x = table s m (lead ∷ x ∷ tail ∷ [])

-- a row for each of the four
abbrev four : (Bool → Bool → Row) → List Row
four f = f true true ∷ f true false ∷ f false true ∷ f false false ∷ []

-- an act on path 1 makes x into y, and answers: the same on all four; or as server and multipath are
abbrev acts : Path → Act → Path → Answer → List Row
acts x a y r = four (λ s m. row (around s m x) (On 1 a) (accepted r (around s m y)))

abbrev acts_by : Path → Act → (Bool → Bool → Path) → List Row
acts_by x a y = four (λ s m. row (around s m x) (On 1 a) (accepted Nothing (around s m (y s m))))

abbrev looks : Path → Read → (Bool → Answer) → List Row
looks x r a = four (λ s m. reads (around s m x) (On 1 (Look r)) (a s))

-- a call that makes the paths k into l
abbrev turns : List Path → Call → List Path → Answer → List Row
turns k c l r = four (λ s m. row (table s m k) c (accepted r (table s m l)))

abbrev stays : List Path → Call → Answer → List Row
stays k c r = turns k c k r

abbrev barred : List Path → Call → ℕ → List Row
barred k c n = four (λ s m. refuses (table s m k) c n)

-- ---- calls on one path

abbrev pub act_rows : List Row
act_rows =
    acts rich Initiate rich Nothing
    ++ acts bare Initiate (with_ask true bare) Nothing
    ++ acts rich Pop (with_received (14 ∷ []) rich) (Maybe (some 13))
    ++ acts bare Pop bare (Maybe none)
    ++ acts rich (Receive 9) (with_received (13 ∷ 14 ∷ 9 ∷ []) rich) Nothing
    ++ acts bare (Receive 9) (with_peer_verified true (with_received (9 ∷ []) bare)) Nothing
    ++ acts rich (Send 9 1300 40) (with_ask false (with_sent (sent2 ++ (chal 9 1300 40 800040 ∷ [])) rich)) Nothing
    ++ acts bare (Send 9 1 40) (with_rank 2 (with_sent (chal 9 1 40 25040 ∷ []) bare)) Nothing
    -- without a match, also where one stands on the path before it or behind it; with one below 1200, with one of 1500
    ++ acts rich (Respond 9 40) rich (Responded false [])
    ++ acts bare (Respond 9 40) bare (Responded false [])
    ++ acts Unverified (Respond 34 40) Unverified (Responded false [])
    ++ acts Unverified (Respond 44 40) Unverified (Responded false [])
    ++ acts Unverified (Respond 15 40) (with_verified true (with_lost 0 (with_largest 1100 (with_sent (chal 18 1500 19 20 ∷ []) Unverified)))) (Responded false (24 ∷ []))
    ++ four (λ s m. row (around s m Unverified) (On 1 (Respond 18 40))
    (accepted (Responded true (21 ∷ [])) (around s m (with_verified true (with_lost 0 (with_largest 1500 (with_sent [] (with_rank 4 (with_active_of m Unverified)))))))))
    ++ acts (with_rank 4 Unverified) (Respond 18 40) (with_rank 4 Unverified) (Responded false [])
    -- credit and charge, on a server and an unverified path
    ++ acts_by Unverified (Credit 3) (λ s m. with_credit (cond s 2243 2222) Unverified)
    ++ acts_by bare (Credit 3) (λ s m. with_credit (cond s 21 0) bare)
    ++ acts rich (Credit 3) rich Nothing
    ++ acts_by Unverified (Charge 3) (λ s m. with_credit (cond s 2219 2222) Unverified)
    ++ acts_by (with_credit 9 bare) (Charge 3) (λ s m. with_credit (cond s 6 9) bare)
    ++ acts rich (Charge 3) rich Nothing
    -- the fields that a host may set
    ++ acts rich (SetScid (some 9)) (with_scid_of (some 9) rich) Nothing
    ++ acts rich (SetScid none) (with_scid_of none rich) Nothing
    ++ acts bare (SetScid (some 9)) (with_scid_of (some 9) bare) Nothing
    ++ acts rich (SetDcid (some 9)) (with_dcid_of (some 9) rich) Nothing
    ++ acts rich (SetDcid none) (with_dcid_of none rich) Nothing
    ++ acts bare (SetDcid (some 9)) (with_dcid_of (some 9) bare) Nothing
    ++ acts rich (SetActive false) (with_active_of false rich) Nothing
    ++ acts rich (SetActive true) rich Nothing
    ++ acts bare (SetActive true) (with_active_of true bare) Nothing
    ++ acts rich Verify rich Nothing
    ++ acts Unverified Verify rich Nothing
    ++ acts bare Verify (with_verified true bare) Nothing

pub acted : Holds act_rows
acted = refl

-- ---- the same from paths with one field turned, and in every state: no call but those that RULES.md names looks at it

abbrev turned_rich : List Path
turned_rich = with_scid_of none rich ∷ with_dcid_of none rich ∷ with_active_of false rich ∷ with_ask false rich ∷ with_largest 0 rich ∷ with_verified false rich ∷ with_peer_verified false rich
    ∷ with_credit 0 rich ∷ with_ping false rich ∷ with_listed true rich ∷ []

abbrev turned_bare : List Path
turned_bare = with_scid_of (some 11) bare ∷ with_dcid_of (some 12) bare ∷ with_active_of true bare ∷ with_ask true bare ∷ with_largest 21 bare ∷ with_verified true bare
    ∷ with_peer_verified true bare ∷ with_credit 2222 bare ∷ with_ping true bare ∷ with_listed false bare ∷ []

abbrev ranked : List Path
ranked = map (λ (r : ℕ). with_rank r rich) (0 ∷ 1 ∷ 2 ∷ 4 ∷ 5 ∷ []) ++ map (λ (r : ℕ). with_rank r bare) (0 ∷ 2 ∷ 3 ∷ 4 ∷ 5 ∷ [])

abbrev turned : List Path
turned = turned_rich ++ turned_bare ++ ranked ++ map (with_lost 33) turned_bare

-- an act makes each into what f makes of it
abbrev each : List Path → Act → (Path → Path) → Answer → List Row
each l a f r = map (λ (x : Path). row (around true false x) (On 1 a) (accepted r (around true false (f x)))) l

abbrev pub turned_rows : List Row
turned_rows =
    each turned Initiate (with_ask true) Nothing
    ++ each turned (Receive 9) (λ x. with_peer_verified true (with_received (x.received ++ (9 ∷ [])) x)) Nothing
    ++ each turned (SetScid (some 9)) (with_scid_of (some 9)) Nothing
    ++ each turned (SetDcid none) (with_dcid_of none) Nothing
    ++ each turned (SetActive true) (with_active_of true) Nothing
    ++ each turned (SetActive false) (with_active_of false) Nothing
    ++ each turned Verify (with_verified true) Nothing
    ++ each turned_rich Pop (with_received (14 ∷ [])) (Maybe (some 13))
    ++ each turned_rich (Send 9 1300 40) (λ x. with_ask false (with_sent (sent2 ++ (chal 9 1300 40 800040 ∷ [])) x)) Nothing
    ++ each turned_bare (Send 9 1 40) (λ x. with_ask false (with_rank 2 (with_sent (chal 9 1 40 25040 ∷ []) x))) Nothing
    ++ each turned_rich (Respond 18 40) (λ x. with_verified true (with_lost 0 (with_largest 1500 (with_sent [] (with_rank 4 (with_active_of false x)))))) (Responded true (21 ∷ []))
    ++ each (map (with_sent (chal 9 0 16 17 ∷ [])) turned_bare) (Respond 9 40) (λ x. with_verified true (with_rank 3 (with_ask true (with_sent [] x)))) (Responded false (24 ∷ []))
    ++ each turned (Respond 9 40) (λ x. x) (Responded false [])
    ++ each (map (with_verified false) turned) (Credit 3) (λ x. with_credit (x.credit + 21) x) Nothing
    ++ each (map (with_verified false) turned) (Charge 3) (λ x. with_credit (x.credit - 3) x) Nothing
    ++ each (map (with_verified true) turned) (Credit 3) (λ x. x) Nothing
    ++ each (map (with_verified true) turned) (Charge 3) (λ x. x) Nothing
    ++ map (λ (x : Path). reads (around true false x) (On 1 (Look (Allowed 9999))) (Number x.credit)) (map (with_verified false) turned)
    ++ map (λ (x : Path). reads (around true false x) (On 1 (Look (Allowed 9999))) (Number 9999)) (map (with_verified true) turned)
    ++ map (λ (x : Path). reads (around true false x) (On 1 (Look Get)) (Whole x)) turned
    ++ map (λ (x : Path). reads (around true false x) (On 1 (Look Initiated)) (Flag x.ask)) turned
    ++ map (λ (x : Path). reads (around true false x) (On 1 (Look NeedsFrames)) (Flag true)) (map (with_credit 64) (turned_rich ++ map (with_ask true) (turned_bare ++ ranked)))
    ++ map (λ (x : Path). reads (around true false x) (On 1 (Look NeedsFrames)) (Flag false)) (map (with_credit 63) (turned_rich ++ map (with_ask true) (turned_bare ++ ranked)))
    ++ map (λ (x : Path). reads (around true false x) (On 1 (Look NeedsPadding)) (Flag true)) (map (with_credit 1302) (turned_rich ++ turned_bare))
    ++ map (λ (x : Path). reads (around true false x) (On 1 (Look NeedsPadding)) (Flag false)) (map (with_credit 63) (turned_rich ++ turned_bare))
    ++ map (λ (x : Path). row (around true false x) (Timeout 17) (accepted Nothing (around true false (with_ask true (with_lost 6 (with_sent (chal 18 1500 19 20 ∷ []) x)))))) turned_rich

pub turned_acted : Holds turned_rows
turned_acted = refl

-- ---- reads of one path

abbrev always : Answer → Bool → Answer
always a s = a

abbrev pub look_rows : List Row
look_rows =
    looks rich Get (always (Whole rich))
    ++ looks bare Get (always (Whole bare))
    ++ looks rich LocalAddr (always (Place (v4 1)))
    ++ looks bare RemoteAddr (always (Place (v4 3)))
    ++ looks rich State (always (Number 3))
    ++ looks bare State (always (Number 1))
    ++ looks rich Validated (always (Flag false))
    ++ looks (with_rank 4 rich) Validated (always (Flag true))
    ++ looks (with_rank 4 bare) Validated (always (Flag true))
    ++ looks bare Validated (always (Flag false))
    ++ looks rich Active (always (Flag true))
    ++ looks bare Active (always (Flag false))
    ++ looks rich Initiated (always (Flag true))
    ++ looks bare Initiated (always (Flag false))
    -- a server only with credit 64 or more; the size is not looked at
    ++ looks rich NeedsFrames (always (Flag true))
    ++ looks (with_ask true bare) NeedsFrames (λ s. Flag (cond s false true))
    ++ looks (with_received (1 ∷ []) bare) NeedsFrames (λ s. Flag (cond s false true))
    ++ looks bare NeedsFrames (always (Flag false))
    -- a server only with a credit above the size 1301, or 63
    ++ looks rich NeedsPadding (always (Flag true))
    ++ looks (with_credit 1301 rich) NeedsPadding (λ s. Flag (cond s false true))
    ++ looks (with_credit 1302 rich) NeedsPadding (always (Flag true))
    ++ looks (with_credit 1302 Unverified) NeedsPadding (always (Flag true))
    ++ looks (with_credit 63 bare) NeedsPadding (λ s. Flag (cond s false true))
    ++ looks (with_credit 64 bare) NeedsPadding (always (Flag true))
    ++ looks (with_rank 4 rich) NeedsPadding (always (Flag false))
    -- the lesser of wish and credit on a server and an unverified path
    ++ looks rich (Allowed 9999) (always (Number 9999))
    ++ looks Unverified (Allowed 9999) (λ s. Number (cond s 2222 9999))
    ++ looks Unverified (Allowed 9) (always (Number 9))
    ++ looks bare (Allowed 9) (λ s. Number (cond s 0 9))

pub looked : Holds look_rows
looked = refl

-- ---- calls on the table

abbrev three : List Path
three = lead ∷ rich ∷ tail ∷ []

abbrev idle : List Path
idle = with_active_of false lead ∷ bare ∷ with_active_of false tail ∷ []

-- full, with the path 1 unused
abbrev full : List Path
full = lead ∷ bare ∷ tail ∷ rich ∷ []

abbrev fresh9 : FourTuple → Path
fresh9 a = path a 9 none none false 1 [] [] false 0 0 false false 0 false true

abbrev pub table_rows : List Row
table_rows =
    stays three (Ask Len) (Number 3)
    ++ stays idle (Ask Len) (Number 3)
    ++ stays three (Ask (IdOf pair_a)) (Maybe (some 0))
    ++ stays three (Ask (IdOf pair_b)) (Maybe none)
    ++ stays idle (Ask (IdOf pair_b)) (Maybe (some 1))
    ++ stays three (Ask GetActive) (Found 0 lead)
    ++ stays (with_active_of false lead ∷ rich ∷ tail ∷ []) (Ask GetActive) (Found 1 rich)
    ++ barred idle (Ask GetActive) 2
    ++ stays three (Ask Timer) (Maybe (some 17))
    ++ stays idle (Ask Timer) (Maybe (some 36))
    ++ stays (bare ∷ []) (Ask Timer) (Maybe none)
    -- below the limit, at the limit, and 5: every other path stays as it is, but for a listing
    ++ turns three (Insert (pair_to 5) 9) (three ++ (fresh9 (pair_to 5) ∷ [])) (Inserted 3)
    ++ turns three (Insert pair_c 9) (lead ∷ rich ∷ with_listed false tail ∷ fresh9 pair_c ∷ []) (Inserted 3)
    ++ turns full (Insert (pair_to 5) 9) (lead ∷ fresh9 (pair_to 5) ∷ tail ∷ rich ∷ []) (Inserted 1)
    ++ turns full (Insert pair_a 9) (with_listed false lead ∷ fresh9 pair_a ∷ tail ∷ rich ∷ []) (Inserted 1)
    ++ barred (lead ∷ rich ∷ tail ∷ rich ∷ []) (Insert (pair_to 5) 9) 5
    -- the challenge of deadline 17; both; both at the lost count 6. The paths in other states stay
    ++ stays three (Timeout 16) Nothing
    ++ turns three (Timeout 17) (lead ∷ with_lost 6 (with_sent (chal 18 1500 19 20 ∷ []) rich) ∷ tail ∷ []) Nothing
    ++ turns (lead ∷ with_ask false Unverified ∷ tail ∷ []) (Timeout 20) (lead ∷ with_lost 7 (with_sent [] Unverified) ∷ tail ∷ []) Nothing
    ++ turns (lead ∷ with_lost 6 rich ∷ tail ∷ []) (Timeout 20) (lead ∷ with_lost 8 (with_rank 0 (with_active_of false (with_sent [] rich))) ∷ tail ∷ []) Nothing
    ++ turns (with_rank 2 lead ∷ bare ∷ []) (Timeout 36) (with_rank 2 (with_lost 7 (with_sent [] lead)) ∷ bare ∷ []) Nothing
    -- multipath on, and nothing else
    ++ four (λ s m. row (table s m three) Multipath (accepted Nothing (table s true three)))
    ++ four (λ s m. row (table s m idle) Multipath (accepted Nothing (table s true idle)))
    -- a ping: with multipath the listed path or all in use, without it the first with the flag
    ++ four (λ s m. row (around s m bare) (Ping (some pair_b)) (accepted Nothing (table s m (cond m (lead ∷ with_ping true bare ∷ tail ∷ []) (with_ping true lead ∷ bare ∷ tail ∷ [])))))
    ++ four (λ s m. row (around s m bare) (Ping none) (accepted Nothing (table s m (with_ping true lead ∷ bare ∷ cond m (with_ping true tail) tail ∷ []))))
    ++ four (λ s m. row (table s m idle) (Ping none) (cond m (accepted Nothing (table s m idle)) (refused 2 (table s m idle))))

pub table_turned : Holds table_rows
table_turned = refl

-- the same with each path of `turned`: a lookup looks at the listing, get_active and a ping without multipath at the flag, an eviction at flag and
-- destination sequence, the path timer at what stands
abbrev over_all : List Path → (Path → List Row) → List Row
over_all [] f = []
over_all (x ∷ l) f = f x ++ over_all l f

abbrev alone : Path → List Path
alone x = with_active_of false lead ∷ x ∷ with_active_of false tail ∷ []

abbrev pub turned_table_rows : List Row
turned_table_rows =
    over_all (map (with_listed true) turned) (λ x. stays (lead ∷ x ∷ tail ∷ []) (Ask (IdOf pair_b)) (Maybe (some 1)))
    ++ over_all (map (with_listed false) turned) (λ x. stays (lead ∷ x ∷ tail ∷ []) (Ask (IdOf pair_b)) (Maybe none))
    ++ over_all (map (with_active_of true) turned) (λ x. stays (alone x) (Ask GetActive) (Found 1 x))
    ++ over_all (map (with_active_of false) turned) (λ x. barred (alone x) (Ask GetActive) 2)
    ++ over_all turned (λ x. stays (alone x) (On 1 (Look State)) (Number x.rank))
    ++ over_all (map (with_sent sent2) (turned_rich ++ turned_bare ++ ranked)) (λ x. stays (alone x) (Ask Timer) (Maybe (some 17)))
    ++ over_all (map (with_active_of true) turned) (λ x. row (table true false (alone x)) (Ping none) (accepted Nothing (table true false (alone (with_ping true x)))) ∷ [])
    ++ over_all (map (with_listed true) turned) (λ x. row (table true true (alone x)) (Ping (some pair_b)) (accepted Nothing (table true true (alone (with_ping true x)))) ∷ [])
    ++ over_all (map (λ (x : Path). with_active_of false (with_dcid_of none x)) turned) (λ x. turns (lead ∷ x ∷ tail ∷ rich ∷ []) (Insert (pair_to 5) 9) (lead ∷ fresh9 (pair_to 5) ∷ tail ∷ rich ∷ []) (Inserted 1))

pub table_turned_each : Holds turned_table_rows
table_turned_each = refl

-- ---- fresh: the whole table, with other numbers

abbrev begun : (size limit factor : ℕ) (server : Bool) → Out
begun size limit factor server = accepted Nothing (record { paths = path pair_b size (some 0) (some 0) true 4 [] [] false 0 0 false false 0 false true ∷ []; limit = limit; factor = factor; multipath = false; server = server })

pub fresh_whole : (fresh_call pair_b 9 5 7 true ≡ begun 9 5 7 true) × (fresh_call pair_b 9 5 7 false ≡ begun 9 5 7 false)
fresh_whole = (refl, refl)

-- ---- three matches: their spans in order, and the size of the last

abbrev thrice : ℕ → ℕ → ℕ → List Challenge
thrice i j k = chal 7 i 10 100 ∷ chal 7 j 20 110 ∷ chal 8 1500 25 115 ∷ chal 7 k 30 120 ∷ []

abbrev probed : List Challenge → Path
probed l = with_rank 2 (with_sent l bare)

abbrev pub three_rows : List Row
three_rows =
    acts (probed (thrice 1300 1400 1199)) (Respond 7 40) (with_verified true (with_rank 3 (with_ask true (with_largest 1199 (with_sent (chal 8 1500 25 115 ∷ []) bare))))) (Responded false (30 ∷ 20 ∷ 10 ∷ []))
    ++ acts (probed (thrice 1300 1 2)) (Respond 7 25) (with_verified true (with_rank 3 (with_ask true (with_largest 2 (with_sent (chal 8 1500 25 115 ∷ []) bare))))) (Responded false (15 ∷ 5 ∷ 0 ∷ []))
    ++ four (λ s m. row (around s m (probed (thrice 1 2 1200))) (On 1 (Respond 7 15))
    (accepted (Responded true (5 ∷ 0 ∷ 0 ∷ [])) (around s m (with_verified true (with_rank 4 (with_active_of m (with_largest 1200 bare)))))))

pub three_matches : Holds three_rows
three_matches = refl

-- ---- addresses not of their form, in lookups, pings and insertions: the local one, and the remote one

abbrev local : Address → FourTuple
local a = record { local = a; remote = v4 3 }

abbrev remote : Address → FourTuple
remote a = record { local = v4 1; remote = a }

abbrev calls : FourTuple → List Call
calls a = Ask (IdOf a) ∷ Ping (some a) ∷ Insert a 1200 ∷ []

abbrev bad_calls : List Address → List Call
bad_calls [] = []
bad_calls (a ∷ l) = calls (local a) ++ calls (remote a) ++ bad_calls l

pub bad_addresses_lem :
    (map (apply (around true true bare)) (bad_calls bad_addresses) ≡ replicate 42 (refused 1 (around true true bare)))
    × (map (apply (around true false bare)) (bad_calls bad_addresses) ≡ replicate 42 (refused 1 (around true false bare)))
bad_addresses_lem = (refl, refl)

-- ---- 2^64-1 for each number that has no bound

abbrev last : ℕ
last = 2 ^ 64 - 1

-- the id: 2, or accepted with nothing changed
abbrev pub last_ids : List Row
last_ids =
    map (λ (a : Act). refuses (around true true rich) (On last a) 2)
    (Look Get ∷ Look LocalAddr ∷ Look RemoteAddr ∷ Look State ∷ Look Validated ∷ Look Active ∷ Look Initiated ∷ Look NeedsFrames ∷ Look NeedsPadding
    ∷ Initiate ∷ Pop ∷ Send 1 1200 0 ∷ SetScid none ∷ SetDcid (some 1) ∷ SetActive true ∷ Verify ∷ [])
    ++ map (λ (a : Act). reads (around true true rich) (On last a) Nothing) (Receive 5 ∷ Credit 7 ∷ Charge 7 ∷ [])
    ++ (reads (around true true rich) (On last (Respond 15 40)) (Responded false []) ∷ reads (around true true Unverified) (On last (Look (Allowed 9999))) (Number 9999) ∷ [])

-- data, size, length, wish, sequence and max_datagram_size
abbrev pub last_rows : List Row
last_rows =
    acts rich (Receive last) (with_received (13 ∷ 14 ∷ last ∷ []) rich) Nothing
    ++ acts (with_received (last ∷ []) bare) Pop bare (Maybe (some last))
    ++ acts bare (Send last last 40) (with_rank 2 (with_sent (chal last last 40 25040 ∷ []) bare)) Nothing
    ++ four (λ s m. row (around s m (with_sent (chal last last 40 25040 ∷ []) bare)) (On 1 (Respond last 40))
    (accepted (Responded true (0 ∷ [])) (around s m (with_verified true (with_rank 4 (with_active_of m (with_largest last bare)))))))
    ++ acts_by Unverified (Credit last) (λ s m. with_credit (cond s last 2222) Unverified)
    ++ acts_by Unverified (Charge last) (λ s m. with_credit (cond s 0 2222) Unverified)
    ++ acts_by (with_credit last bare) (Charge last) (λ s m. with_credit (cond s 0 last) bare)
    ++ looks rich (Allowed last) (always (Number last))
    ++ looks Unverified (Allowed last) (λ s. Number (cond s 2222 last))
    ++ looks (with_credit last bare) (Allowed last) (always (Number last))
    ++ acts rich (SetScid (some last)) (with_scid_of (some last) rich) Nothing
    ++ acts rich (SetDcid (some last)) (with_dcid_of (some last) rich) Nothing
    ++ turns three (Insert (pair_to 5) last) (three ++ (path (pair_to 5) last none none false 1 [] [] false 0 0 false false 0 false true ∷ [])) (Inserted 3)
    -- with the largest size, no credit is above it
    ++ looks (path pair_b last none none false 1 [] [] false 0 0 false false last false true) NeedsPadding (λ s. Flag (cond s false true))

pub lasts : (Holds last_ids) × (Holds last_rows)
lasts = (refl, refl)

-- size and factor of a fresh table, and what the factor then gives
pub fresh_last : fresh_call pair_b last 8 last true ≡ begun last 8 last true
fresh_last = refl

abbrev utmost : ℕ → Table
utmost n = record { paths = with_credit n bare ∷ []; limit = 1; factor = last; multipath = false; server = true }

pub last_factor : map (λ (n : ℕ). apply (utmost 0) (On 0 (Credit n))) (0 ∷ 1 ∷ 2 ∷ last ∷ [])
    ≡ accepted Nothing (utmost 0) ∷ accepted Nothing (utmost last) ∷ accepted Nothing (utmost last) ∷ accepted Nothing (utmost last) ∷ []
last_factor = refl
