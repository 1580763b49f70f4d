-- What the tests gather, and what a well-formed state has.
use Rattle.std.specs.Prelude.{ℕ, zero, suc, ◌+◌, ◌-◌, ◌≤◌, ◌<◌, ◌≡◌, refl, List, [], ◌∷◌, Bool, true, false, not, ◌&&◌, ◌||◌, eqb, leb, length, take, drop, get_or, replicate}
use Rattle.std.specs.List.{list_all}
use Rattle.std.proofs.Common.{not-suc-le-zero, le_of_suc-le-suc, get_or-take, sym, ap, ap₂, ◌∙◌, arith, drop_at, eq-eqb, eqb-true, le-leb, leb-false, leb-true}
use Rattle.std.proofs.Math.Bool.{and_assoc, and-false}
use Rattle.std.specs.Int.Bits.{bit_and, bit_or, or_add_and}
use Rattle.std.proofs.lemmas.Nat.{and_le_l, and_le_r, or_lt}
use Rattle.std.proofs.lemmas.Bool.{lt-leb, not-true}
use Rattle.lists.specs.Defs.{all, nought, pairwise, past}
use Rattle.lists.specs.Bools.{and_both, conj_each}
use Rattle.lists.specs.Held.{Held, get_or_in, held_count, held_length}
use Rattle.lists.specs.Tests.{nought_is, past_is}
use Rattle.values.specs.Limits.{ip_len, max_lost, max_moment, max_path_chals_recv, max_path_chals_sent, max_paths_limit}
use Rattle.values.specs.Address.{pair_formed_of, zero_address}
use Rattle.values.specs.Time.{moment_formed_of}
use Rattle.values.specs.declared.address.Address.{Address}
use Rattle.challenges.specs.Challenges.{ReceivedWell, SentWell, is_zero as no_challenge, standing, zero_challenge}
use Rattle.challenges.specs.declared.received.Received.{Received}
use Rattle.challenges.specs.declared.sent.Challenge.{Challenge}
use Rattle.challenges.specs.declared.sent.Sent.{Sent}
use Rattle.paths_state.specs.declared.state.Path.{Path}
use Rattle.paths_state.specs.declared.state.Paths.{Paths}
use Rattle.paths_state.specs.Formed.{apart, bounded, live, lost_formed, no_address, no_marks, no_numbers, no_path, path_formed_of, received_formed_of, sent_formed_of, seq_formed, table_formed, timed, well_formed, zero_path}

-- ---- tests of lists

-- as an iterator's `all` has it, and as the definitions have it
pub all_is : {A : Type 0} (p : A → Bool) (l : List A) → list_all p l ≡ all p l
all_is p [] = refl
all_is p (x ∷ xs) = ap (λ (b : Bool). p x && b) (all_is p xs)

pub all_at : {A : Type 0} (p : A → Bool) (d : A) (l : List A) (i : ℕ) → all p l ≡ true → i < length l → p (get_or l i d) ≡ true
all_at p d [] i e h = absurd (not-suc-le-zero h)
all_at p d (x ∷ l) zero e h = (and_both (p x) (all p l) e).0
all_at p d (x ∷ l) (suc i) e h = all_at p d l i (and_both (p x) (all p l) e).1 (le_of_suc-le-suc h)

-- ---- what is zero in every field is the zero value

pub challenge_is : (c : Challenge) → no_challenge c ≡ true → c ≡ zero_challenge
challenge_is c e =
    let w = conj_each (nought c.«data») (nought c.size ∷ nought c.sent.us ∷ nought c.deadline.us ∷ []) e in
    let d = nought_is c.«data» w.0 in
    let size = nought_is c.size w.1.0 in
    let sent = nought_is c.sent.us w.1.1.0 in
    let deadline = nought_is c.deadline.us w.1.1.1.0 in
    λ i. record { «data» = d i; size = size i; sent = record { us = sent i }; deadline = record { us = deadline i } }

-- what is zero has moments of their form
zero_timed : (c : Challenge) → no_challenge c ≡ true → timed c ≡ true
zero_timed c e = ap timed (challenge_is c e)

zeros_timed : (l : List Challenge) → all no_challenge l ≡ true → all timed l ≡ true
zeros_timed [] e = refl
zeros_timed (c ∷ cs) e =
    let w = and_both (no_challenge c) (all no_challenge cs) e in
    ap₂ ◌&&◌ (zero_timed c w.0) (zeros_timed cs w.1)

-- so all places may be tested for those that stand
pub all_timed : (l : List Challenge) (n : ℕ) → (all timed l && all no_challenge (drop n l)) ≡ (all timed (take n l) && all no_challenge (drop n l))
all_timed l zero = go (all no_challenge l) refl
  where
    go : (b : Bool) → all no_challenge l ≡ b → (all timed l && all no_challenge l) ≡ all no_challenge l
    go true t = ap (λ (b : Bool). b && all no_challenge l) (zeros_timed l t)
    go false t = ap (λ (b : Bool). all timed l && b) t ∙ and-false (all timed l) ∙ sym t
all_timed [] (suc n) = refl
all_timed (c ∷ cs) (suc n) =
    and_assoc (timed c) (all timed cs) (all no_challenge (drop n cs))
    ∙ ap (λ (b : Bool). timed c && b) (all_timed cs n)
    ∙ sym (and_assoc (timed c) (all timed (take n cs)) (all no_challenge (drop n cs)))

-- both moments have their form exactly if their or has
or_low : (a b : ℕ) → moment_formed_of (bit_or a b) ≡ (moment_formed_of a && moment_formed_of b)
or_low a b = go (moment_formed_of a) (moment_formed_of b) refl refl
  where
    s : bit_or a b + bit_and a b ≡ a + b
    s = or_add_and a b

    go : (x y : Bool) → moment_formed_of a ≡ x → moment_formed_of b ≡ y → moment_formed_of (bit_or a b) ≡ (moment_formed_of a && moment_formed_of b)
    go true true p q =
        let h = or_lt 63 a b (omega (arith, leb-true a max_moment p)) (omega (arith, leb-true b max_moment q)) in
        le-leb (bit_or a b) max_moment (omega (arith, h)) ∙ sym (ap₂ ◌&&◌ p q)
    go false y p q = lt-leb (bit_or a b) max_moment (omega (arith, s, and_le_r a b, leb-false a max_moment p)) ∙ sym (ap (λ (t : Bool). t && moment_formed_of b) p)
    go true false p q = lt-leb (bit_or a b) max_moment (omega (arith, s, and_le_l a b, leb-false b max_moment q)) ∙ sym (ap₂ ◌&&◌ p q)

zeros_is : (n : ℕ) (l : List ℕ) → past nought n 0 l ≡ true → l ≡ replicate n 0
zeros_is n l e = let q : n - 0 ≡ n = omega arith in past_is nought 0 nought_is n 0 l (omega arith) e ∙ ap (λ (m : ℕ). replicate m 0) q

address_is : (a : Address) → no_address a ≡ true → a ≡ zero_address
address_is a e =
    let w = conj_each (past nought ip_len 0 a.ip) (nought a.flow ∷ nought a.scope ∷ nought a.port ∷ nought a.kind ∷ []) e in
    let ip = zeros_is ip_len a.ip w.0 in
    let flow = nought_is a.flow w.1.0 in
    let scope = nought_is a.scope w.1.1.0 in
    let port = nought_is a.port w.1.1.1.0 in
    let kind = nought_is a.kind w.1.1.1.1.0 in
    λ i. record { ip = ip i; flow = flow i; scope = scope i; port = port i; kind = kind i }

challenges_is : (l : List Challenge) → past no_challenge max_path_chals_sent 0 l ≡ true → l ≡ replicate max_path_chals_sent zero_challenge
challenges_is l e = past_is no_challenge zero_challenge challenge_is max_path_chals_sent 0 l (omega arith) e

pub zero_path_is : (x : Path) → no_path x ≡ true → x ≡ zero_path
zero_path_is x e =
    let w =
    conj_each (no_address x.pair.local)
    (no_address x.pair.remote
    ∷ past nought max_path_chals_recv 0 x.recv_chals.items
    ∷ nought x.recv_chals.count
    ∷ past no_challenge max_path_chals_sent 0 x.sent_chals.items
    ∷ nought x.sent_chals.count
    ∷ no_numbers x
    ∷ no_marks x
    ∷ []) e in
    let w1 = w.1 in
    let w2 = w1.1 in
    let w3 = w2.1 in
    let w4 = w3.1 in
    let w5 = w4.1 in
    let w6 = w5.1 in
    let w7 = w6.1 in
    let n =
    conj_each (nought x.max_datagram_size)
    (nought x.scid_seq
    ∷ nought x.dcid_seq
    ∷ nought x.lost_chal
    ∷ nought x.max_challenge_size
    ∷ nought x.anti_ampl_limit
    ∷ nought x.state
    ∷ []) w6.0 in
    let m =
    conj_each (not x.has_scid)
    (not x.has_dcid
    ∷ not x.active
    ∷ not x.need_send_challenge
    ∷ not x.verified_peer_address
    ∷ not x.peer_verified_local_address
    ∷ not x.need_send_ping
    ∷ not x.listed
    ∷ []) w7.0 in
    let local = address_is x.pair.local w.0 in
    let remote = address_is x.pair.remote w1.0 in
    let received = zeros_is max_path_chals_recv x.recv_chals.items w2.0 in
    let waits = nought_is x.recv_chals.count w3.0 in
    let sent = challenges_is x.sent_chals.items w4.0 in
    let stands = nought_is x.sent_chals.count w5.0 in
    λ i. record {
      pair = record { local = local i; remote = remote i };
      recv_chals = record { items = received i; count = waits i };
      sent_chals = record { items = sent i; count = stands i };
      max_datagram_size = nought_is x.max_datagram_size n.0 i;
      scid_seq = nought_is x.scid_seq n.1.0 i;
      dcid_seq = nought_is x.dcid_seq n.1.1.0 i;
      lost_chal = nought_is x.lost_chal n.1.1.1.0 i;
      max_challenge_size = nought_is x.max_challenge_size n.1.1.1.1.0 i;
      anti_ampl_limit = nought_is x.anti_ampl_limit n.1.1.1.1.1.0 i;
      state = nought_is x.state n.1.1.1.1.1.1.0 i;
      has_scid = not-true x.has_scid m.0 i;
      has_dcid = not-true x.has_dcid m.1.0 i;
      active = not-true x.active m.1.1.0 i;
      need_send_challenge = not-true x.need_send_challenge m.1.1.1.0 i;
      verified_peer_address = not-true x.verified_peer_address m.1.1.1.1.0 i;
      peer_verified_local_address = not-true x.peer_verified_local_address m.1.1.1.1.1.0 i;
      need_send_ping = not-true x.need_send_ping m.1.1.1.1.1.1.0 i;
      listed = not-true x.listed m.1.1.1.1.1.1.1.0 i;
    }

pub zero_path_of : no_path zero_path ≡ true
zero_path_of = refl

-- ---- what a path of its form has

pub record PathFacts (x : Path) : Type 0 where
  pub pair : pair_formed_of x.pair ≡ true
  pub scid : seq_formed x.has_scid x.scid_seq ≡ true
  pub dcid : seq_formed x.has_dcid x.dcid_seq ≡ true
  pub received : ReceivedWell x.recv_chals
  pub sent : SentWell x.sent_chals
  pub moments : all timed (standing x.sent_chals) ≡ true
  pub lost_most : x.lost_chal ≤ max_lost
  pub lost_none : x.lost_chal ≡ max_lost → x.sent_chals.count ≡ 0

received_well : (q : Received) → received_formed_of q ≡ true → ReceivedWell q
received_well q e =
    let w = and_both (leb q.count max_path_chals_recv) (past nought max_path_chals_recv q.count q.items) e in
    let few = leb-true q.count max_path_chals_recv w.0 in
    record { few = few; is = past_is nought 0 nought_is max_path_chals_recv q.count q.items few w.1 }

sent_well : (s : Sent) → sent_formed_of s ≡ true → SentWell s × (all timed (standing s) ≡ true)
sent_well s e =
    let w = and_both (leb s.count max_path_chals_sent) _ e in
    let v = and_both (all timed (standing s)) (past no_challenge max_path_chals_sent s.count s.items) w.1 in
    let few = leb-true s.count max_path_chals_sent w.0 in
    (record { few = few; is = past_is no_challenge zero_challenge challenge_is max_path_chals_sent s.count s.items few v.1 }, v.0)

-- where the flag of an absence is off, the other side holds
absent : (b c : Bool) → (not b || c) ≡ true → b ≡ true → c ≡ true
absent true c e t = e
absent false c e t = let z : ◌≡◌ {A = ℕ} 0 1 = cc in absurd (omega arith)

pub path_facts : (x : Path) → path_formed_of x ≡ true → PathFacts x
path_facts x e =
    let w =
    conj_each (pair_formed_of x.pair)
    (seq_formed x.has_scid x.scid_seq
    ∷ seq_formed x.has_dcid x.dcid_seq
    ∷ received_formed_of x.recv_chals
    ∷ sent_formed_of x.sent_chals
    ∷ lost_formed x.lost_chal x.sent_chals.count
    ∷ []) e in
    let s = sent_well x.sent_chals w.1.1.1.1.0 in
    let l = and_both (leb x.lost_chal max_lost) _ w.1.1.1.1.1.0 in
    record {
      pair = w.0;
      scid = w.1.0;
      dcid = w.1.1.0;
      received = received_well x.recv_chals w.1.1.1.0;
      sent = s.0;
      moments = s.1;
      lost_most = leb-true x.lost_chal max_lost l.0;
      lost_none = λ q. nought_is x.sent_chals.count (absent (eqb x.lost_chal max_lost) (nought x.sent_chals.count) l.1 (eq-eqb x.lost_chal max_lost q));
    }

-- ---- what a well-formed state has

pub record Bounds (limit count : ℕ) : Type 0 where
  pub limit_least : 1 ≤ limit
  pub limit_most : limit ≤ max_paths_limit
  pub some : 1 ≤ count
  pub few : count ≤ limit

pub bounds_of : (limit count : ℕ) → bounded limit count ≡ true → Bounds limit count
bounds_of limit count e =
    let w = conj_each (leb 1 limit) (leb limit max_paths_limit ∷ leb 1 count ∷ leb count limit ∷ []) e in
    record {
      limit_least = leb-true 1 limit w.0;
      limit_most = leb-true limit max_paths_limit w.1.0;
      some = leb-true 1 count w.1.1.0;
      few = leb-true count limit w.1.1.1.0;
    }

abbrev pub PathsWell : Paths → Type 0
PathsWell t = Held max_paths_limit zero_path t.items t.count

pub record Facts (t : Paths) : Type 0 where
  pub bounds : Bounds t.max_paths t.count
  pub each : all path_formed_of (live t) ≡ true
  pub distinct : pairwise apart (live t) ≡ true
  pub held : PathsWell t

pub facts : (t : Paths) → well_formed t ≡ true → Facts t
facts t e =
    let w = and_both (bounded t.max_paths t.count) (table_formed t) e in
    let b = bounds_of t.max_paths t.count w.0 in
    let v = conj_each (all path_formed_of (live t)) (pairwise apart (live t) ∷ past no_path max_paths_limit t.count t.items ∷ []) w.1 in
    let few : t.count ≤ max_paths_limit = omega (arith, b.few, b.limit_most) in
    record { bounds = b; each = v.0; distinct = v.1.0; held = record { few = few; is = past_is no_path zero_path zero_path_is max_paths_limit t.count t.items few v.1.1.0 } }

-- each path of a well-formed state has its form
pub path_well : (t : Paths) → well_formed t ≡ true → (d : Path) (i : ℕ) → i < t.count → path_formed_of (get_or t.items i d) ≡ true
path_well t e d i h =
    let w = facts t e in
    ap path_formed_of (sym (get_or-take t.count t.items i d h)) ∙ all_at path_formed_of d (live t) i w.each (omega (arith, held_count w.held))

-- within the array the default does not matter
pub path_in : (t : Paths) → well_formed t ≡ true → (d e : Path) (i : ℕ) → i < t.count → get_or t.items i d ≡ get_or t.items i e
path_in t w d e i h = let f = facts t w in get_or_in t.items i d e (omega (arith, h, f.held.few, held_length f.held))

-- ---- and what has these facts is well formed

all_replicate : {A : Type 0} (p : A → Bool) (z : A) → p z ≡ true → (n : ℕ) → all p (replicate n z) ≡ true
all_replicate p z e zero = refl
all_replicate p z e (suc n) = ap₂ ◌&&◌ e (all_replicate p z e n)

pub held_past : {A : Type 0} (p : A → Bool) {n : ℕ} {z : A} {items : List A} {count : ℕ} → p z ≡ true → Held n z items count → past p n count items ≡ true
held_past {A} p {n} {z} {items} {count} e h =
    let m : ℕ = n - length (take count items) in
    ap₂ ◌&&◌
    (eq-eqb (length items) n (held_length h))
    (ap (λ (l : List A). all p (drop count l)) h.is ∙ ap (all p) (drop_at (take count items) (replicate m z) count (held_count h)) ∙ all_replicate p z e m)

lost_of : (lost stand : ℕ) → lost ≤ max_lost → (lost ≡ max_lost → stand ≡ 0) → lost_formed lost stand ≡ true
lost_of lost stand h f = ap₂ ◌&&◌ (le-leb lost max_lost h) (go (eqb lost max_lost) refl)
  where
    go : (b : Bool) → eqb lost max_lost ≡ b → (not (eqb lost max_lost) || nought stand) ≡ true
    go true t = ap₂ (λ (x y : Bool). not x || y) t (eq-eqb stand 0 (f (eqb-true lost max_lost t)))
    go false t = ap (λ (x : Bool). not x || nought stand) t

pub path_of_lem : (x : Path) → PathFacts x → path_formed_of x ≡ true
path_of_lem x f =
    ap₂ ◌&&◌
    (ap₂ ◌&&◌
    (ap₂ ◌&&◌
    (ap₂ ◌&&◌ (ap₂ ◌&&◌ f.pair f.scid) f.dcid)
    (ap₂ ◌&&◌ (le-leb x.recv_chals.count max_path_chals_recv f.received.few) (held_past nought refl f.received)))
    (ap₂ ◌&&◌ (le-leb x.sent_chals.count max_path_chals_sent f.sent.few) (ap₂ ◌&&◌ f.moments (held_past no_challenge refl f.sent))))
    (lost_of x.lost_chal x.sent_chals.count f.lost_most f.lost_none)

pub well_of : (t : Paths) → Facts t → well_formed t ≡ true
well_of t f =
    let b = f.bounds in
    ap₂ ◌&&◌
    (ap₂ ◌&&◌
    (ap₂ ◌&&◌ (ap₂ ◌&&◌ (le-leb 1 t.max_paths b.limit_least) (le-leb t.max_paths max_paths_limit b.limit_most)) (le-leb 1 t.count b.some))
    (le-leb t.count t.max_paths b.few))
    (ap₂ ◌&&◌ (ap₂ ◌&&◌ f.each f.distinct) (held_past no_path zero_path_of f.held))
