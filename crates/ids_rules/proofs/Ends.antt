-- Every way in which the three long calls can end, each with what is then known. All later proofs go by these cases.
use Rattle.std.specs.Prelude.{ℕ, ◌+◌, ◌≤◌, ◌<◌, ◌≡◌, List, [], ◌∷◌, ◌++◌, map, Bool, true, false, cond, not, ◌&&◌, length, leb, ltb}
use Rattle.std.proofs.Math.Option.{Option, none, some}
use Rattle.std.proofs.Common.{arith, leb-true, leb-false, ltb-true, ltb-false}
use Rattle.std.proofs.lemmas.Bool.{not-false}
use Rattle.lists.specs.Defs.{present, first, keep, any, has}
use Rattle.values.specs.declared.cid.ConnectionId.{ConnectionId}
use Rattle.values.specs.Limits.{max_sequence, queue_slots, capacity_of}
use Rattle.values.specs.Cid.{same_id}
use Rattle.ids_rules.specs.Values.{Item, seq_of, has_seq, from, below, clashes, repeats}
use Rattle.ids_rules.specs.View.{View, Issued, Freed, Retired, Out, refused, accepted}
use Rattle.ids_rules.specs.With.{with_scids, with_dcids, with_retire_prior_to, with_dcids_to_retire}
use Rattle.ids_rules.specs.Steps.{lowest_from, issued, issue, add_scid, sole, without, retire_scid, too_many, append, queue_late, pairs, lowered, raise, add_new, add_dcid}
use Rattle.ids_rules.specs.Laws.{decided, optioned, first_none, first_some}

-- a refusal that may leave something changed: 2, 3 or 4
pub record Partial (n : ℕ) : Type 0 where
  pub low : 2 ≤ n
  pub high : n ≤ 4

-- ---- add_scid

-- own Retire Prior To, before an ID is issued: as it was, below the limit; at or above it, the lowest sequence not below it, plus 1
pub data Raised (v : View) : ℕ → Type 0 where
  spare : length v.scids < v.scid_limit → Raised v v.retire_prior_to
  lifts : (s : ℕ) → lowest_from v.retire_prior_to v.scids ≡ some s → Raised v (s + 1)

pub data AddScidEnds (x : Item) (advertise : Bool) (v : View) : Out → Type 0 where
  refuses : (n : ℕ) → 2 ≤ n → AddScidEnds x advertise v (refused n v)
  raises : (n r : ℕ) → Partial n → Raised v r → AddScidEnds x advertise v (refused n (with_retire_prior_to r v))
  issues : (r : ℕ) → Raised v r → v.next_scid_seq < max_sequence → present x.token ≡ true → length v.scids < v.scid_capacity → (advertise && leb queue_slots (length v.scids_to_advertise)) ≡ false
      → AddScidEnds x advertise v (accepted (Issued v.next_scid_seq) (issued x advertise (with_retire_prior_to r v)))

module _ (cid : ConnectionId) (token : Option (List ℕ)) (advertise : Bool) (path : Option ℕ) (v : View) where
  abbrev pub new_item : Item
  new_item = record { cid = cid; seq = v.next_scid_seq; token = token; path = path }

  issue_ends : (r : ℕ) → Raised v r → v.next_scid_seq < max_sequence → AddScidEnds new_item advertise v (issue cid token advertise path v (with_retire_prior_to r v))
  issue_ends r k n =
      decided E (not (present token)) (λ e. raises 2 r (omega arith) k) (λ t.
      decided E (leb v.scid_capacity (length v.scids)) (λ e. raises 3 r (omega arith) k) (λ f.
      decided E (advertise && leb queue_slots (length v.scids_to_advertise)) (λ e. refuses 6 (omega arith)) (λ q.
      issues r k n (not-false (present token) t) (leb-false v.scid_capacity (length v.scids) f) q)))
    where
      E : Out → Type 0
      E = AddScidEnds new_item advertise v

  pub add_scid_ends : (retire_if_needed : Bool) → AddScidEnds new_item advertise v (add_scid cid token advertise path retire_if_needed v)
  add_scid_ends retire_if_needed =
      decided E v.zero_length_scid (λ e. refuses 2 (omega arith)) (λ e.
      decided E (leb max_sequence v.next_scid_seq) (λ e. refuses 7 (omega arith)) (λ n.
      let m = leb-false max_sequence v.next_scid_seq n in
      decided E (ltb (length v.scids) v.scid_limit) (λ e. issue_ends v.retire_prior_to (spare (ltb-true (length v.scids) v.scid_limit e)) m) (λ e.
      decided E (not retire_if_needed) (λ e. refuses 3 (omega arith)) (λ e.
      optioned E (lowest_from v.retire_prior_to v.scids) (λ e. refuses 2 (omega arith)) (λ s e. issue_ends (s + 1) (lifts s e) m)))))
    where
      E : Out → Type 0
      E = AddScidEnds new_item advertise v

-- ---- retire_scid

pub data RetireScidEnds (s : ℕ) (packet : ConnectionId) (v : View) : Out → Type 0 where
  unissued : v.next_scid_seq ≤ s → RetireScidEnds s packet v (refused 4 v)
  only : sole s v.scids ≡ true → RetireScidEnds s packet v (refused 2 v)
  absent : any (has_seq s) v.scids ≡ false → RetireScidEnds s packet v (accepted (Freed none) v)
  -- the item is out, and the call refused; or it is out, and own Retire Prior To is the lowest left that is not below it
  out : (n : ℕ) → Partial n → any (has_seq s) v.scids ≡ true → sole s v.scids ≡ false → RetireScidEnds s packet v (refused n (with_scids (without s v.scids) v))
  frees : (x : Item) (r : ℕ) → any (has_seq s) v.scids ≡ true → sole s v.scids ≡ false → lowest_from v.retire_prior_to (without s v.scids) ≡ some r
      → RetireScidEnds s packet v (accepted (Freed x.path) (with_retire_prior_to r (with_scids (without s v.scids) v)))

pub retire_scid_ends : (s : ℕ) (packet : ConnectionId) (v : View) → RetireScidEnds s packet v (retire_scid s packet v)
retire_scid_ends s packet v =
    decided E (leb v.next_scid_seq s) (λ e. unissued (leb-true v.next_scid_seq s e)) (λ e.
    decided E (sole s v.scids) (λ e. only e) (λ o.
    optioned E (first (has_seq s) v.scids) (λ e. absent (first_none (has_seq s) v.scids e)) (λ x e.
    let a = first_some (has_seq s) v.scids x e in
    decided E (same_id x.cid packet) (λ e. out 4 (omega arith) a o) (λ e.
    optioned E (lowest_from v.retire_prior_to (without s v.scids)) (λ e. out 2 (omega arith) a o) (λ r e. frees x r a o e)))))
  where
    E : Out → Type 0
    E = RetireScidEnds s packet v

-- ---- add_dcid

-- the table holds neither the ID nor the sequence, and Retire Prior To is not above the sequence
pub record New (x : Item) (b : ℕ) (v : View) : Type 0 where
  pub free : any (λ (y : Item). clashes y x) v.dcids ≡ false
  pub fits : b ≤ x.seq

-- the sequences that a Retire Prior To b adds to the queue
abbrev pub queued : ℕ → View → List ℕ
queued b v = v.dcids_to_retire ++ map seq_of (keep (below b) v.dcids)

pub data AddDcidEnds (x : Item) (b : ℕ) (v : View) : Out → Type 0 where
  rejects : (n : ℕ) → 2 ≤ n → AddDcidEnds x b v (refused n v)
  again : any (λ (y : Item). clashes y x) v.dcids ≡ true → AddDcidEnds x b v (accepted (Retired []) v)
  -- a late sequence waits in the queue already
  waits : New x b v → x.seq < v.largest_peer_retire_prior_to → has x.seq v.dcids_to_retire ≡ true → AddDcidEnds x b v (accepted (Retired []) v)
  -- it is queued: too many, or success
  late4 : New x b v → x.seq < v.largest_peer_retire_prior_to → length v.dcids_to_retire < queue_slots → AddDcidEnds x b v (refused 4 (with_dcids_to_retire (v.dcids_to_retire ++ (x.seq ∷ [])) v))
  late : New x b v → x.seq < v.largest_peer_retire_prior_to → length v.dcids_to_retire < queue_slots → too_many (with_dcids_to_retire (v.dcids_to_retire ++ (x.seq ∷ [])) v) ≡ false
      → AddDcidEnds x b v (accepted (Retired []) (with_dcids_to_retire (v.dcids_to_retire ++ (x.seq ∷ [])) v))
  -- lower sequences have moved, and the call is refused, or the ID added
  lowers : (n : ℕ) → Partial n → New x b v → v.largest_peer_retire_prior_to < b → length (queued b v) ≤ queue_slots → AddDcidEnds x b v (refused n (lowered b v))
  renews : New x b v → v.largest_peer_retire_prior_to < b → length (queued b v) ≤ queue_slots → length (keep (from b) v.dcids) < capacity_of v.dcid_limit → too_many (lowered b v) ≡ false
      → AddDcidEnds x b v (accepted (Retired (pairs (keep (below b) v.dcids))) (with_dcids (keep (from b) v.dcids ++ (x ∷ [])) (lowered b v)))
  -- the ID is added, and is not late
  adds : New x b v → b ≤ v.largest_peer_retire_prior_to → v.largest_peer_retire_prior_to ≤ x.seq → length v.dcids < capacity_of v.dcid_limit
      → AddDcidEnds x b v (accepted (Retired []) (with_dcids (v.dcids ++ (x ∷ [])) v))

module _ (x : Item) (b : ℕ) (v : View) where
  new_ends : any (λ (y : Item). clashes y x) v.dcids ≡ false → AddDcidEnds x b v (add_new x b v)
  new_ends c =
      decided E (ltb x.seq b) (λ e. rejects 4 (omega arith)) (λ r.
      let n : New x b v = record { free = c; fits = ltb-false x.seq b r } in
      decided E (ltb x.seq v.largest_peer_retire_prior_to)
      (λ e. let k = ltb-true x.seq v.largest_peer_retire_prior_to e in decided E (has x.seq v.dcids_to_retire) (λ q. waits n k q) (λ q. late_ends n k))
      (λ e. rest n (ltb-false x.seq v.largest_peer_retire_prior_to e)))
    where
      E : Out → Type 0
      E = AddDcidEnds x b v

      late_ends : New x b v → x.seq < v.largest_peer_retire_prior_to → E (queue_late x.seq v)
      late_ends n k =
          decided E (leb queue_slots (length v.dcids_to_retire)) (λ e. rejects 6 (omega arith)) (λ f.
          let m = leb-false queue_slots (length v.dcids_to_retire) f in
          decided E (too_many (with_dcids_to_retire (v.dcids_to_retire ++ (x.seq ∷ [])) v)) (λ e. late4 n k m) (λ e. late n k m e))

      rest : New x b v → v.largest_peer_retire_prior_to ≤ x.seq → E (cond (ltb v.largest_peer_retire_prior_to b) (raise x b v) (append x [] v))
      rest n h =
          decided E (ltb v.largest_peer_retire_prior_to b)
          (λ e. let k = ltb-true v.largest_peer_retire_prior_to b e in
          decided E (ltb queue_slots (length (queued b v))) (λ e. rejects 6 (omega arith)) (λ f.
          let m = ltb-false queue_slots (length (queued b v)) f in
          decided E (too_many (lowered b v)) (λ e. lowers 4 (omega arith) n k m) (λ t.
          decided E (leb (capacity_of v.dcid_limit) (length (keep (from b) v.dcids))) (λ e. lowers 3 (omega arith) n k m)
          (λ e. renews n k m (leb-false (capacity_of v.dcid_limit) (length (keep (from b) v.dcids)) e) t))))
          (λ e. decided E (leb (capacity_of v.dcid_limit) (length v.dcids)) (λ e. rejects 3 (omega arith))
          (λ f. adds n (ltb-false v.largest_peer_retire_prior_to b e) h (leb-false (capacity_of v.dcid_limit) (length v.dcids) f)))

pub add_dcid_ends : (cid : ConnectionId) (seq : ℕ) (token : List ℕ) (b : ℕ) (v : View)
    → AddDcidEnds (record { cid = cid; seq = seq; token = some token; path = none }) b v (add_dcid cid seq token b v)
add_dcid_ends cid seq token b v =
    let x : Item = record { cid = cid; seq = seq; token = some token; path = none } in
    let E : Out → Type 0 = AddDcidEnds x b v in
    decided E v.zero_length_dcid (λ e. rejects 4 (omega arith)) (λ e.
    optioned E (first (λ (y : Item). clashes y x) v.dcids) (λ e. new_ends x b v (first_none (λ (y : Item). clashes y x) v.dcids e))
    (λ y e. decided E (repeats y x) (λ t. again (first_some (λ (y : Item). clashes y x) v.dcids y e)) (λ e. rejects 4 (omega arith))))
