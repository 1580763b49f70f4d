-- docs/RULES.md, "Paths", "Challenges" and "Credit": one path, and what each event does to it.
use Rattle.std.specs.Prelude.{ℕ, ◌+◌, ◌-◌, ◌*◌, ◌^◌, min, max, List, [], ◌∷◌, ◌++◌, map, Bool, true, false, cond, not, ◌&&◌, ◌||◌, length, drop, eqb, leb, ltb}
use Rattle.std.proofs.Math.Option.{Option, none, some}
use Rattle.lists.specs.Defs.{maybe, present, front, empty, keep, any}
use Rattle.values.specs.declared.address.FourTuple.{FourTuple}
use Rattle.values.specs.Address.{zero_pair, same_pair}
use Rattle.values.specs.Limits.{max_path_chals_recv, max_probing_timeouts, initial_chal_timeout, min_client_initial_len, min_path_probe_size}
use Rattle.paths_rules.specs.State.{Path, Challenge}
use Rattle.paths_rules.specs.With.{with_active_of, with_ask, with_credit, with_largest, with_listed, with_lost, with_peer_verified, with_rank, with_received, with_sent, with_verified}

-- ---- the states, by rank. A rank is any number: being well formed asks nothing of it, promotion is the larger rank, and Validated is the rank 4 itself

abbrev pub rank_failed : ℕ
rank_failed = 0

abbrev pub rank_unknown : ℕ
rank_unknown = 1

abbrev pub rank_validating : ℕ
rank_validating = 2

abbrev pub rank_validating_mtu : ℕ
rank_validating_mtu = 3

abbrev pub rank_validated : ℕ
rank_validated = 4

-- ---- a new path

-- an inserted path: Unknown, inactive, no sequences, unverified, credit 0, listed
abbrev pub new_path_of : FourTuple → ℕ → Path
new_path_of a m = record { pair = a; datagram = m; scid = none; dcid = none; active = false; rank = rank_unknown; received = []; sent = []; ask = false; lost = 0; largest = 0; verified = false; peer_verified = false; credit = 0; ping = false; listed = true }

-- the path of a fresh table: Validated, active, both sequences 0, unverified, credit 0, listed
abbrev pub first_path_of : FourTuple → ℕ → Path
first_path_of a m = record { pair = a; datagram = m; scid = some 0; dcid = some 0; active = true; rank = rank_validated; received = []; sent = []; ask = false; lost = 0; largest = 0; verified = false; peer_verified = false; credit = 0; ping = false; listed = true }

abbrev pub zero_path : Path
zero_path = record { pair = zero_pair; datagram = 0; scid = none; dcid = none; active = false; rank = 0; received = []; sent = []; ask = false; lost = 0; largest = 0; verified = false; peer_verified = false; credit = 0; ping = false; listed = false }

-- ---- challenges

-- promotion only raises the rank
abbrev pub promote : ℕ → Path → Path
promote r x = with_rank (max x.rank r) x

-- a challenge is received: where eight stand the oldest goes
abbrev pub roomed : List ℕ → List ℕ
roomed l = cond (leb max_path_chals_recv (length l)) (drop 1 l) l

abbrev pub receive : ℕ → Path → Path
receive d x = with_peer_verified true (with_received (roomed x.received ++ (d ∷ [])) x)

-- the oldest received challenge is taken out
abbrev pub pop : Path → Path
pop x = with_received (drop 1 x.received) x

-- deadline = sent + (25 ms << lost count), in microseconds
abbrev pub loss_time : ℕ → ℕ → ℕ
loss_time now lost = now + initial_chal_timeout * 2 ^ lost

abbrev pub challenge : ℕ → ℕ → ℕ → ℕ → Challenge
challenge d size now lost = record { «data» = d; size = size; sent = now; deadline = loss_time now lost }

-- a challenge is sent: promote to Validating, nothing is asked for any more, it goes to the end
abbrev pub send : ℕ → ℕ → ℕ → Path → Path
send d size now x = with_sent (x.sent ++ (challenge d size now x.lost ∷ [])) (with_ask false (promote rank_validating x))

abbrev pub failed : Path → Path
failed x = with_rank rank_failed (with_active_of false (with_sent [] x))

-- the front one goes while its deadline ≤ now, each adding 1 to the lost count. Below 8 another challenge is asked for and the next front is looked
-- at; otherwise the path fails and is done
abbrev pub expire : ℕ → List Challenge → Path → Path
expire now [] x = with_sent [] x
expire now (c ∷ cs) x =
    cond (leb c.deadline now)
    (cond (ltb (x.lost + 1) max_probing_timeouts) (expire now cs (with_ask true (with_lost (x.lost + 1) x))) (failed (with_lost (x.lost + 1) x)))
    (with_sent (c ∷ cs) x)

abbrev pub probing : Path → Bool
probing x = eqb x.rank rank_validating || eqb x.rank rank_validating_mtu

-- a timeout works only in Validating and ValidatingMTU
abbrev pub timeout : ℕ → Path → Path
timeout now x = cond (probing x) (expire now x.sent x) x

-- a challenge with this data
abbrev pub carries : ℕ → Challenge → Bool
carries d c = eqb c.«data» d

-- RFC 9000, 8.2.3: the data that was sent in a previous challenge. A response is held against those that stand on the path that it names
abbrev pub matches : ℕ → Path → Bool
matches d x = any (carries d) x.sent

-- the sent challenges that a response matches, and the others, in order
abbrev pub matching : ℕ → List Challenge → List Challenge
matching d l = keep (carries d) l

abbrev pub unmatched : ℕ → List Challenge → List Challenge
unmatched d l = keep (λ (c : Challenge). not (carries d c)) l

-- the size of the last one; z where there is none
abbrev pub last_size : ℕ → List Challenge → ℕ
last_size z [] = z
last_size z (c ∷ cs) = last_size c.size cs

-- each span is now - sent, 0 where now is earlier
abbrev pub spans : ℕ → ℕ → Path → List ℕ
spans d now x = map (λ (c : Challenge). now - c.sent) (matching d x.sent)

-- the largest size is raised by the last match's size
abbrev pub largest_after : ℕ → Path → ℕ
largest_after d x = max x.largest (last_size 0 (matching d x.sent))

-- peer address verified, lost count 0, matches taken out, largest size raised, promoted to ValidatingMTU
abbrev pub reached : ℕ → Path → Path
reached d x = with_verified true (with_lost 0 (with_sent (unmatched d x.sent) (with_largest (largest_after d x) (promote rank_validating_mtu x))))

-- at 1200 or more: Validated, the flag set exactly if multipath is on, every sent challenge out; below: a challenge is asked for
abbrev pub settle : Bool → Path → Path
settle multi x = cond (leb min_client_initial_len x.largest) (with_sent [] (with_active_of multi (promote rank_validated x))) (with_ask true x)

abbrev pub validated : Path → Bool
validated x = eqb x.rank rank_validated

-- a path that is not Validated heeds a response that matches; by any other, nothing changes [2]
abbrev pub heeds : ℕ → Path → Bool
heeds d x = not (validated x) && matches d x

abbrev pub respond : ℕ → Bool → Path → Path
respond d multi x = cond (heeds d x) (settle multi (reached d x)) x

-- whether a response makes the path Validated, and the spans of its matches
abbrev pub validates : ℕ → Path → Bool
validates d x = heeds d x && leb min_client_initial_len (largest_after d x)

abbrev pub matched : ℕ → ℕ → Path → List ℕ
matched d now x = cond (heeds d x) (spans d now x) []

-- ---- credit

-- the largest credit
abbrev pub top : ℕ
top = 2 ^ 64 - 1

-- on an unverified path credit adds factor x length, which stops at 2^64-1, and a charge takes its length away, which stops at 0
abbrev pub gain : ℕ → ℕ → Path → Path
gain factor n x = cond x.verified x (with_credit (min (x.credit + factor * n) top) x)

abbrev pub spend : ℕ → Path → Path
spend n x = cond x.verified x (with_credit (x.credit - n) x)

-- on a server and an unverified path a wish is answered by the lesser of wish and credit, else by the wish
abbrev pub allowed : Bool → ℕ → Path → ℕ
allowed server wish x = cond (server && not x.verified) (min wish x.credit) wish

-- ---- tests

-- the active flag off and no destination sequence
abbrev pub unused : Path → Bool
unused x = not x.active && not (present x.dcid)

-- the active flag and a destination sequence
abbrev pub in_use : Path → Bool
in_use x = x.active && present x.dcid

-- the active flag itself
abbrev pub flagged : Path → Bool
flagged x = x.active

abbrev pub listed_as : FourTuple → Path → Bool
listed_as a x = x.listed && same_pair x.pair a

-- the listing of the pair a is removed
abbrev pub unlist : FourTuple → Path → Path
unlist a x = with_listed (x.listed && not (same_pair x.pair a)) x

-- a server asks for validation frames only with credit 64 or more, verified or not
abbrev pub needs_frames : Bool → Path → Bool
needs_frames server x = not (server && ltb x.credit min_path_probe_size) && (x.ask || not (empty x.received))

abbrev pub needs_padding : Bool → Path → Bool
needs_padding server x = not (validated x) && not (server && leb x.credit x.datagram)

-- the front deadline
abbrev pub due : Path → Option ℕ
due x = maybe (front x.sent) none (λ c. some c.deadline)
